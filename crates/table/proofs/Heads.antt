-- What stays of the limits and the generation where lists are written, and what a counted change leaves.
use Rattle.std.proofs.Common.{◌≡◌, ℕ, ◌^◌, ◌<◌, ◌≤◌, min, List, length, ap, ◌∙◌, arith, take_all}
use Rattle.model.specs.Lists.{Zone, Window, Lists}
use Rattle.model.specs.Bytes.{bytes, number}
use Rattle.model.specs.Rules.{Rules}
use Rattle.model.specs.Store.{Store, next_generation}
use Rattle.model.proofs.Words.{length_bytes, number_bytes}
use Rattle.table.specs.Layout.{table_size, zone_limit_place, window_limit_place, zone_count_place, window_count_place, generation_place, lists_in, rules_in, generation_in, store_in, with_zones, with_windows, with_lists, counted}
use Rattle.word.proofs.Frame.{length_placed, word_in}
use Rattle.table.proofs.Alike.{Alike, same_byte, same_word, alike_before, alike_after}
use Rattle.table.proofs.Written.{same_zones, same_windows, zones_front, zones_between, windows_front, windows_between}

-- ## Parts

pub rules_parts : {z z' w w' : ℕ} → z ≡ z' → w ≡ w' → ◌≡◌ {A = Rules} (record { zone_limit = z; window_limit = w }) (record { zone_limit = z'; window_limit = w' })
rules_parts p q = cc

pub lists_parts : {zs zs' : List Zone} {ws ws' : List Window} → zs ≡ zs' → ws ≡ ws' → ◌≡◌ {A = Lists} (record { zones = zs; windows = ws }) (record { zones = zs'; windows = ws' })
lists_parts p q = cc

pub store_parts : {r r' : Rules} {l l' : Lists} {g g' : ℕ} → r ≡ r' → l ≡ l' → g ≡ g' → ◌≡◌ {A = Store} (record { rules = r; lists = l; generation = g }) (record { rules = r'; lists = l'; generation = g' })
store_parts p q r = cc

-- ## Lists written

-- the same limits and the same generation
pub record Head (s t : List ℕ) : Type 0 where
  pub rules : rules_in t ≡ rules_in s
  pub generation : generation_in t ≡ generation_in s
  pub long : length t ≡ length s

module _ (s : List ℕ) where
  head_of : (t : List ℕ) → Alike zone_limit_place zone_count_place s t → Alike generation_place 8 s t → Head s t
  head_of t a b =
      record {
        rules =
            rules_parts (ap (λ (n : ℕ). min n 8) (same_byte a zone_limit_place (omega arith) (omega arith)))
            (ap (λ (n : ℕ). min n 16) (same_byte a window_limit_place (omega arith) (omega arith)));
        generation = same_word b 4 generation_place (omega arith) (omega arith);
        long = a.long;
      }

  pub zones_head : (zs : List Zone) → Head s (with_zones s zs)
  zones_head zs =
      head_of (with_zones s zs) (zones_front s zs zone_limit_place zone_count_place (omega arith)) (zones_between s zs generation_place 8 (omega arith) (omega arith))

  pub windows_head : (ws : List Window) → Head s (with_windows s ws)
  windows_head ws =
      head_of (with_windows s ws) (windows_front s ws zone_limit_place zone_count_place (omega arith)) (windows_between s ws generation_place 8 (omega arith) (omega arith))

pub lists_head : (s : List ℕ) (l : Lists) → Head s (with_lists s l)
lists_head s l =
    let p = zones_head s l.zones in
    let q = windows_head (with_zones s l.zones) l.windows in
    record { rules = q.rules ∙ p.rules; generation = q.generation ∙ p.generation; long = q.long ∙ p.long }

-- ## A change counted

pub length_counted : (s : List ℕ) → length (counted s) ≡ length s
unfolding counted
length_counted s = length_placed s generation_place (bytes 4 (next_generation (generation_in s)))

module _ (s : List ℕ) (h : table_size ≤ length s) where
  abbrev next : ℕ
  next = next_generation (generation_in s)

  before : (p q : ℕ) → q ≤ generation_place → Alike p q s (counted s)
  unfolding counted
  before p q k = alike_before p q s generation_place (bytes 4 next) k

  behind : (p q : ℕ) → 8 ≤ p → Alike p q s (counted s)
  unfolding counted
  behind p q k = alike_after p q s generation_place (bytes 4 next) (omega (arith, length_bytes 4 next))

  next_below : next < 256 ^ 4
  next_below = omega arith

  counted_next : generation_in (counted s) ≡ next
  unfolding counted
  counted_next =
      let l = length_bytes 4 next in
      word_in s generation_place (bytes 4 next) (omega arith) 4 generation_place 0 (omega arith) (omega arith) ∙ ap number (take_all 4 (bytes 4 next) (omega arith)) ∙ number_bytes 4 next next_below

  pub counted_is : store_in (counted s) ≡ record { rules = rules_in s; lists = lists_in s; generation = next }
  counted_is =
      let a = before zone_limit_place generation_place (omega arith) in
      store_parts
      (rules_parts (ap (λ (n : ℕ). min n 8) (same_byte a zone_limit_place (omega arith) (omega arith))) (ap (λ (n : ℕ). min n 16) (same_byte a window_limit_place (omega arith) (omega arith))))
      (lists_parts (same_zones s (counted s) (before zone_count_place window_count_place (omega arith)) (behind 16 656 (omega arith))) (same_windows s (counted s) (before window_count_place generation_place (omega arith)) (behind 656 table_size (omega arith))))
      counted_next

-- the store that other lists and a counted change leave
pub changed : (s t : List ℕ) (l : Lists) → table_size ≤ length s → Head s t → lists_in t ≡ l → store_in (counted t) ≡ record { rules = rules_in s; lists = l; generation = next_generation (generation_in s) }
changed s t l h k e = counted_is t (omega (arith, k.long)) ∙ store_parts k.rules e (ap next_generation k.generation)
