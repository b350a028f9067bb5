-- Demand 3 at the entry points, from demand 3 over the definitions and the laws of images and of tables.
use mathlib.Core.Bool.{Bool, true, not, cond}
use mathlib.Core.List.{List, [], ◌∷◌, ◌++◌}
use mathlib.Core.Path.{◌≡◌, refl, ap, ◌∙◌}
use Prim.Native.Nat.{ℕ, ◌≤◌}
use borrow.Author.Tests.{le-leb, ne_eqb}
use lib.ListN.{length}
use Rattle.model.specs.Basics.{All, run}
use Rattle.model.specs.Lists.{Lists, empty}
use Rattle.model.specs.declared.Refusal.TheVariants.{BadLimits}
use Rattle.model.specs.Numbers.{refusal_number}
use Rattle.model.specs.Answers.{answers, done, number_of}
use Rattle.model.specs.Rules.{Rules, allowed}
use Rattle.model.specs.Lookups as L
use Rattle.model.specs.Walk as W
use Rattle.model.specs.Store.{Store, new}
use Rattle.model.specs.Handler as H
use Rattle.model.specs.Handler.{entry_of}
use Rattle.model.specs.Output.{after_sized, lists_after_sized, roomy}
use Rattle.model.specs.Demand3.{Demand3}
use Rattle.model.specs.RoundTrip.{IsMoment}
use Rattle.model.proofs.Demand3.{demand3_sized}
use Rattle.table.specs.Layout.{rules_in, lists_in}
use Rattle.image.specs.Layout.{image_size, is_image, table_in}
use Rattle.image.specs.Parts.{has_lists, new_image}
use Rattle.image.proofs.New.{new_is_fresh}
use Rattle.readings.specs.Readings as R
use Rattle.commands.specs.Calls as C
use Rattle.claim.specs.Histories.{Entry, image_next, image_through, list_call, list_calls, EntryBytes}
use Rattle.claim.specs.Claim.{Demand3AtEntry, new_of, Demand3AtEntryStands}
use Rattle.claim.proofs.Left.{next_left}

-- ## One history after another

run_append : {S C : Type 0} (step : S → C → S) (s : S) (bs cs : List C) → run step s (bs ++ cs) ≡ run step (run step s bs) cs
unfolding run
run_append step s [] cs = refl
run_append step s (b ∷ bs) cs = run_append step (step s b) bs cs

-- ## Any calls on an image with a list store

-- an image with a list store of the limits `r` and the lists `l`
record Stands (r : Rules) (l : Lists) (t : List ℕ) : Type 0 where
  image : is_image t ≡ true
  there : has_lists t ≡ true
  rules : rules_in (table_in t) ≡ r
  lists : lists_in (table_in t) ≡ l

step : (r : Rules) (l : Lists) (t : List ℕ) (e : Entry) → EntryBytes e → Stands r l t → Stands r (run (after_sized r) l (list_call e)) (image_next t e)
step r l t e b h =
    let w = next_left t h.image h.there e b in
    record {
      image = w.image;
      there = w.there ∙ h.there;
      rules = w.rules ∙ h.rules;
      lists =
          w.lists ∙ ap (λ (x : Rules). run (after_sized x) (lists_in (table_in t)) (list_call e)) h.rules
          ∙ ap (λ (x : Lists). run (after_sized r) x (list_call e)) h.lists;
    }

through : (r : Rules) (calls : List Entry) (l : Lists) (t : List ℕ) → All EntryBytes calls → Stands r l t
    → Stands r (run (after_sized r) l (list_calls calls)) (image_through t calls)
unfolding run list_calls
through r [] l t b h = h
through r (e ∷ es) l t b h =
    rw (run_append (after_sized r) l (list_call e) (list_calls es))
    (through r es (run (after_sized r) l (list_call e)) (image_next t e) b.1 (step r l t e b.0 h))

-- ## A new image

-- a mark that is not 0, limits that are allowed and bytes that are long enough make an image with a list store
made : (s : List ℕ) (mark : ℕ) (r : Rules) (build period : ℕ) → image_size ≤ length s → (mark ≡ 0 → ⊥) → allowed r ≡ true
    → new_of s mark r build period ≡ new_image s true r.zone_limit r.window_limit build period
unfolding C.new
made s mark r build period n m a =
    ap (λ (b : Bool). (new_by b).image) (ne_eqb mark 0 m) ∙ rw (a, le-leb image_size (length s) n)
  where
    new_by : Bool → C.Called
    new_by b =
        cond (C.makes s (not b) r.zone_limit r.window_limit)
        (record { returned = number_of done; image = new_image s (not b) r.zone_limit r.window_limit build period })
        (record { returned = refusal_number BadLimits; image = s })

new_stands : (s : List ℕ) (mark : ℕ) (r : Rules) (build period : ℕ) → image_size ≤ length s → (mark ≡ 0 → ⊥) → allowed r ≡ true → IsMoment build → IsMoment period
    → Stands r empty (new_of s mark r build period)
new_stands s mark r build period n m a b p =
    let w = new_is_fresh s true r.zone_limit r.window_limit build period n (λ q. a) b p in
    rw (made s mark r build period n m a)
    (record { image = w.image; there = w.there; rules = ap (λ (x : Store). x.rules) w.store; lists = ap (λ (x : Store). x.lists) w.store })

-- ## What is read

reads : (r : Rules) (l : Lists) (t : List ℕ) (start : ℕ) (u : Store) → Stands r l t → Demand3 r u l start → Demand3AtEntry r t l start
unfolding H.active_zone H.active_offset H.usable H.table_empty H.next_transition H.zone_at H.window_at H.walk_read
reads r l t start u h d =
    let i = h.image in
    let m = h.there in
    let e = h.lists in
    record {
      image = i;
      lists = e;
      zone = λ now room. rw (i, m) (ap (λ (x : Lists). roomy room R.now_name (answers (L.active_zone x now))) e);
      window = λ now. rw (i, m) (ap (λ (x : Lists). answers (L.active_offset x now)) e);
      usable = λ now. rw (i, m) (ap (λ (x : Lists). answers (L.usable x now)) e);
      table_empty = rw (i, m) (ap (λ (x : Lists). answers (L.table_empty x)) e);
      next = λ now. rw (i, m) (ap (λ (x : Lists). answers (L.next_transition x now)) e);
      zone_listed = λ j room. rw (i, m) (ap (λ (x : Lists). roomy room R.zone_name (entry_of (L.zone_at x j))) e);
      window_listed = λ j. rw (i, m) (ap (λ (x : Lists). entry_of (L.window_at x j)) e);
      walked = λ room. rw (i, m) (ap (λ (x : Lists). roomy room R.walk_bytes (answers (W.walk x start))) e);
      steps = d.whole.steps;
      bound = d.whole.few;
      taken = d.taken;
      one = d.one;
      whole = d.whole;
    }

-- ## Any calls on a new image

-- the store that the limits make
abbrev new_store : Rules → Store
new_store r = record { rules = r; lists = empty; generation = 0 }

is_new : (r : Rules) → allowed r ≡ true → new r ≡ answers (new_store r)
unfolding new
is_new r a = rw a

pub demand3_at_entry : Demand3AtEntryStands
demand3_at_entry s mark r build period n m a b p calls h start =
    let t = new_of s mark r build period in
    reads r (lists_after_sized r (list_calls calls)) (image_through t calls) start _
    (through r calls empty t h (new_stands s mark r build period n m a b p))
    (demand3_sized r (new_store r) (is_new r a) (list_calls calls) start)
