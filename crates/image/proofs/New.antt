-- A new image has no lists, a fresh clock, a timer that saw nothing and a new client.
use Rattle.std.proofs.Common.{None, Bool, true, false, List, [], ◌∷◌, ◌++◌, ◌≡◌, refl, sym, ap, ◌∙◌, ℕ, ◌≤◌, min, arith, take, drop, take_all}
use Rattle.std.specs.Int.{from_bool}
use Rattle.model.specs.Bytes.{bytes, number}
use Rattle.model.specs.Clock.{fresh}
use Rattle.model.specs.Lists.{empty}
use Rattle.model.specs.RoundTrip.{IsMoment}
use Rattle.model.specs.Rules.{Rules}
use Rattle.model.specs.Retries.{new_client}
use Rattle.model.proofs.Stored.{limits as in_range}
use Rattle.model.proofs.Words.{length_bytes}
use Rattle.word.specs.Place.{word_at}
use Rattle.table.specs.Layout.{generation_place, entries_from, zones_in, windows_in, store_in}
use Rattle.table.specs.Layout as T
use Rattle.image.specs.Layout.{magic, magic_place, store_place, clock_place, client_place, timer_place, table_place, table_in}
use Rattle.image.specs.Parts.{limit_of, timer_bytes, clock_bytes, client_bytes, new_bytes, new_image}
use Rattle.image.specs.Laws.{ClockFits, ClientFits, NewIsFresh, LimitsAllowed}
use Rattle.word.proofs.Frame.{length_placed}
use Rattle.image.proofs.Written.{length_new, length_table, length_clock, length_client, length_timer}
use Rattle.image.proofs.Holds.{Holds, placed_holds, holds_byte, holds_number, holds_left, holds_right}
use Rattle.image.proofs.Outside.{is_image_lem}
use Rattle.image.proofs.Back.{bit_back, clock_reads, timer_reads, client_reads}

-- ## A new table

module _ (r : Rules) where
  generation_new : word_at 4 (T.new_bytes r) generation_place ≡ 0
  unfolding word_at T.new_bytes number
  generation_new = refl

  store_new : r.zone_limit ≤ 8 → r.window_limit ≤ 16 → store_in (T.new_bytes r) ≡ record { rules = r; lists = empty; generation = 0 }
  unfolding T.new_bytes zones_in windows_in entries_from
  store_new z w =
      let e : min r.zone_limit 8 ≡ r.zone_limit = omega arith in
      let f : min r.window_limit 16 ≡ r.window_limit = omega arith in
      rw (e, f, generation_new)

-- limits that are allowed, or that stand for no list store, are in range
limits_low : (there : Bool) (zones windows : ℕ) → LimitsAllowed there zones windows → (limit_of there zones ≤ 8) × (limit_of there windows ≤ 16)
limits_low true zones windows h =
    let k = in_range (record { zone_limit = zones; window_limit = windows }) (h refl) in
    (k.zones, k.windows)
limits_low false zones windows h = (omega arith, omega arith)

-- ## Where the parts of a new image stand

abbrev mark : Bool → List ℕ
mark there = from_bool there ∷ 0 ∷ 0 ∷ 0 ∷ []

abbrev limits : Bool → ℕ → ℕ → Rules
limits there zones windows = record { zone_limit = limit_of there zones; window_limit = limit_of there windows }

record Stand (t : List ℕ) (lists : Bool) (zones windows build period : ℕ) : Type 0 where
  magical : Holds t magic_place (bytes 4 magic)
  marked : Holds t store_place (mark lists)
  clock : Holds t clock_place (clock_bytes (fresh build))
  client : Holds t client_place (client_bytes (new_client period))
  timer : Holds t timer_place (timer_bytes None)
  table : Holds t table_place (T.new_bytes (limits lists zones windows))

stand : (t : List ℕ) (there : Bool) (zones windows build period : ℕ) → Holds t magic_place (new_bytes there zones windows build period)
    → Stand t there zones windows build period
unfolding new_bytes
stand t there zones windows build period h =
    let m = bytes 4 magic in
    let c = clock_bytes (fresh build) in
    let k = client_bytes (new_client period) in
    let x = timer_bytes None in
    let table = T.new_bytes (limits there zones windows) in
    let timer = x ++ table in
    let client = k ++ timer in
    let clock = c ++ client in
    let lists = mark there ++ clock in
    let h₁ : Holds t store_place lists = holds_right m lists h (omega (arith, length_bytes 4 magic)) in
    let h₂ : Holds t clock_place clock = holds_right (mark there) clock h₁ (omega arith) in
    let h₃ : Holds t client_place client = holds_right c client h₂ (omega (arith, length_clock (fresh build))) in
    let h₄ : Holds t timer_place timer = holds_right k timer h₃ (omega (arith, length_client (new_client period))) in
    record {
      magical = holds_left m lists h;
      marked = holds_left (mark there) clock h₁;
      clock = holds_left c client h₂;
      client = holds_left k timer h₃;
      timer = holds_left x table h₄;
      table = holds_right x table h₄ (omega (arith, length_timer None));
    }

-- ## What they stand for

fresh_fits : (build : ℕ) → IsMoment build → ClockFits (fresh build)
fresh_fits build b = record { utc = b; persisted = b; anchor = omega arith; fabric = omega arith; node = omega arith; endpoint = omega arith }

client_fits : (period : ℕ) → IsMoment period → ClientFits (new_client period)
client_fits period b = record { period = b; retry = omega arith; missing = omega arith; failure = omega arith }

magic_reads : (t : List ℕ) → Holds t magic_place (bytes 4 magic) → word_at 4 t magic_place ≡ magic
magic_reads t h =
    let l = length_bytes 4 magic in
    holds_number h 4 magic magic_place 0 refl (omega arith) (take_all 4 (bytes 4 magic) (omega arith)) (omega arith)

table_reads : (t : List ℕ) (r : Rules) → Holds t table_place (T.new_bytes r) → table_in t ≡ T.new_bytes r
table_reads t r h = ap (λ n. take n (drop table_place t)) (sym (length_table r)) ∙ h.is

pub new_is_fresh : NewIsFresh
unfolding new_image
new_is_fresh s there zones windows build period r a b p =
    let bs = new_bytes there zones windows build period in
    let l = length_new there zones windows build period in
    let t = new_image s there zones windows build period in
    let o = stand t there zones windows build period (placed_holds s magic_place bs (omega arith)) in
    let q = limits_low there zones windows a in
    record {
      image = is_image_lem t (record { size = omega (arith, length_placed s magic_place bs); marked = magic_reads t o.magical });
      there = rw (holds_byte o.marked store_place 0 refl (omega arith)) (bit_back there);
      store = ap store_in (table_reads t (limits there zones windows) o.table) ∙ store_new (limits there zones windows) q.0 q.1;
      clock = clock_reads (fresh build) o.clock (fresh_fits build b);
      timer = timer_reads None o.timer tt;
      client = client_reads (new_client period) o.client (client_fits period p);
    }
