-- What acceptance gives: a list no longer than its limit, and of each entry what its rule demands. The lists after any calls have it.
use Rattle.std.proofs.Common.{Option, None, Some, Bool, true, false, List, [], ◌∷◌, ◌++◌, ◌≡◌, refl, ap, ℕ, suc, ◌+◌, ◌*◌, ◌-◌, ◌≤◌, arith, eqb-true, le-ltb, ltb, eqb, length, length-append}
use Rattle.std.proofs.lemmas.Bool.{eqb-false, not-true}
use Rattle.std.proofs.Math.Bool.{beq}
use Rattle.model.specs.declared.Refusal.{Refusal}
use Rattle.model.specs.Basics.{keep, different}
use Rattle.model.specs.Lists.{Zone, Window, Lists, empty}
use Rattle.model.specs.Rules.{Rules, Verdict, accepted, turned_down, demand, and_then, test_from, zero_exactly_at_first, above_the_one_before, offset_in_range, name_fits, zone_rule, not_after_open, above_the_start_before, not_below_the_end_before, below_its_own_end, window_rule, test_zones, test_windows}
use Rattle.model.specs.Bytes.{read_zones, read_windows, read_record}
use Rattle.model.specs.Lookups.{zone_starts, window_bounds, end_then, later}
use Rattle.model.specs.Walk.{different_later}
use Rattle.model.specs.History.{Call, SetTimeZone, SetDSTOffset, Load, FactoryReset, if_accepted, as_bad_record, record_verdict, zones_set, windows_set, record_loaded, loaded, after}
use Rattle.model.specs.Demand3.{Accepted}
use Rattle.model.proofs.Facts.{length_keep, length_different}

demanded : (t : Bool) (cause : Refusal) (rest : Verdict) → demand t cause rest ≡ accepted → (t ≡ true) × (rest ≡ accepted)
unfolding demand
demanded true cause rest h = (refl, h)
demanded false cause rest h = (cc, cc)

pub both_accept : (v rest : Verdict) → and_then v rest ≡ accepted → (v ≡ accepted) × (rest ≡ accepted)
unfolding and_then
both_accept accepted rest h = (refl, h)
both_accept (turned_down cause) rest h = (cc, cc)

module _ {A : Type 0} (limit : ℕ) (rule : ℕ → Option A → A → Verdict) where
  -- what an accepted list says of its first entry
  pub record Entry (index : ℕ) (before : Option A) (x : A) (xs : List A) : Type 0 where
    pub room : index ≡ limit → ⊥
    pub meets : rule index before x ≡ accepted
    pub rest : test_from limit rule (suc index) (Some x) xs ≡ accepted

  pub entry : (index : ℕ) (before : Option A) (x : A) (xs : List A) → test_from limit rule index before (x ∷ xs) ≡ accepted → Entry index before x xs
  unfolding test_from
  entry index before x xs h =
      let d = demanded _ _ _ h in
      let e = both_accept _ _ d.1 in
      record { room = eqb-false index limit (not-true _ d.0); meets = e.0; rest = e.1 }

  pub accepted_fits : (index : ℕ) (before : Option A) (xs : List A) → index ≤ limit → test_from limit rule index before xs ≡ accepted → index + length xs ≤ limit
  accepted_fits index before [] i h = omega arith
  accepted_fits index before (x ∷ xs) i h =
      let d = entry index before x xs h in
      let r = d.room in
      let ih = accepted_fits (suc index) (Some x) xs (omega arith) d.rest in
      omega arith

-- ## What the rules demand of an entry

pub record ZoneMeets (index : ℕ) (before : Option Zone) (z : Zone) : Type 0 where
  pub zero_first : zero_exactly_at_first index z ≡ true
  pub above : above_the_one_before before z ≡ true
  pub in_range : offset_in_range z.offset ≡ true
  pub name_fits_lem : name_fits z.name ≡ true

pub zone_meets : (index : ℕ) (before : Option Zone) (z : Zone) → zone_rule index before z ≡ accepted → ZoneMeets index before z
unfolding zone_rule
zone_meets index before z h =
    let a = demanded _ _ _ h in
    let b = demanded _ _ _ a.1 in
    let c = demanded _ _ _ b.1 in
    let d = demanded _ _ _ c.1 in
    record { zero_first = a.0; above = b.0; in_range = c.0; name_fits_lem = d.0 }

pub record WindowMeets (before : Option Window) (w : Window) : Type 0 where
  pub not_after_open_lem : not_after_open before ≡ true
  pub above : above_the_start_before before w ≡ true
  pub not_below : not_below_the_end_before before w ≡ true
  pub proper : below_its_own_end w ≡ true

pub window_meets : (index : ℕ) (before : Option Window) (w : Window) → window_rule index before w ≡ accepted → WindowMeets before w
unfolding window_rule
window_meets index before w h =
    let a = demanded _ _ _ h in
    let b = demanded _ _ _ a.1 in
    let c = demanded _ _ _ b.1 in
    let d = demanded _ _ _ c.1 in
    record { not_after_open_lem = a.0; above = b.0; not_below = c.0; proper = d.0 }

-- ## What the calls keep: both lists are accepted

-- what holds of both outcomes holds of what a verdict chooses
pub either : {A : Type 0} (P : A → Type 0) (v : Verdict) (new old : A) → (v ≡ accepted → P new) → P old → P (if_accepted v new old)
either P accepted new old n o = n refl
either P (turned_down cause) new old n o = o

-- a record is taken exactly for lists that both commands accept
not_bad : (v : Verdict) → as_bad_record v ≡ accepted → v ≡ accepted
not_bad accepted h = refl
not_bad (turned_down cause) h = cc

pub record_accepted : (r : Rules) (l : Lists) → record_verdict r (Some l) ≡ accepted → Accepted r l
record_accepted r l h =
    let b = both_accept (test_zones r l.zones) (test_windows r l.windows) (not_bad _ h) in
    record { zones = b.0; windows = b.1 }

pub accepted_record : (r : Rules) (l : Lists) → Accepted r l → record_verdict r (Some l) ≡ accepted
unfolding and_then
accepted_record r l k = rw (k.zones, k.windows)

module _ (r : Rules) where
  pub no_zones : test_zones r [] ≡ accepted
  unfolding test_zones test_from
  no_zones = refl

  pub no_windows : test_windows r [] ≡ accepted
  unfolding test_windows test_from
  no_windows = refl

  pub kept_empty : Accepted r empty
  kept_empty = record { zones = no_zones; windows = no_windows }

  kept_zones : (l : Lists) (o : Option (List Zone)) → Accepted r l → Accepted r (zones_set r l o)
  kept_zones l None k = k
  kept_zones l (Some zs) k = either (Accepted r) (test_zones r zs) _ l (λ h. record { zones = h; windows = no_windows }) k

  kept_windows : (l : Lists) (o : Option (List Window)) → Accepted r l → Accepted r (windows_set r l o)
  kept_windows l None k = k
  kept_windows l (Some ws) k =
      record { zones = k.zones; windows = either (λ x. test_windows r x ≡ accepted) (test_windows r ws) ws [] (λ h. h) no_windows }

  kept_record : (l : Lists) (o : Option Lists) → Accepted r l → Accepted r (record_loaded r l o)
  kept_record l None k = k
  kept_record l (Some new) k = either (Accepted r) (record_verdict r (Some new)) new l (record_accepted r new) k

  kept_loaded : (l : Lists) (o : Option (List ℕ)) → Accepted r l → Accepted r (loaded r l o)
  kept_loaded l None k = k
  kept_loaded l (Some bytes) k = kept_record l (read_record bytes) k

  pub kept_after : (l : Lists) (c : Call) → Accepted r l → Accepted r (after r l c)
  unfolding after
  kept_after l (SetTimeZone bytes) k = kept_zones l (read_zones bytes) k
  kept_after l (SetDSTOffset bytes) k = kept_windows l (read_windows bytes) k
  kept_after l (Load stored) k = kept_loaded l stored k
  kept_after l FactoryReset k = kept_empty

-- ## What acceptance says of the lengths and of the first zone

abbrev pub FirstAtZero : List Zone → Type 0
FirstAtZero [] = Unit {0}
FirstAtZero (z ∷ zs) = z.start ≡ 0

beq_true : (b : Bool) → beq true b ≡ true → b ≡ true
beq_true true h = refl
beq_true false h = h

first_at_zero : (z : Zone) → zone_rule 0 None z ≡ accepted → z.start ≡ 0
first_at_zero z h = eqb-true z.start 0 (beq_true (eqb z.start 0) (zone_meets 0 None z h).zero_first)

zones_first : (r : Rules) (zs : List Zone) → test_zones r zs ≡ accepted → FirstAtZero zs
unfolding test_zones
zones_first r [] h = tt
zones_first r (z ∷ zs) h = first_at_zero z (entry r.zone_limit zone_rule 0 None z zs h).meets

pub zones_fit : (r : Rules) (zs : List Zone) → test_zones r zs ≡ accepted → length zs ≤ r.zone_limit
unfolding test_zones
zones_fit r zs h = let k = accepted_fits r.zone_limit zone_rule 0 None zs (omega arith) h in omega arith

pub windows_fit : (r : Rules) (ws : List Window) → test_windows r ws ≡ accepted → length ws ≤ r.window_limit
unfolding test_windows
windows_fit r ws h = let k = accepted_fits r.window_limit window_rule 0 None ws (omega arith) h in omega arith

-- ## How many boundaries that leaves

pub length-zone_starts : (zs : List Zone) → length (zone_starts zs) ≡ length zs
unfolding zone_starts
length-zone_starts [] = refl
length-zone_starts (z ∷ zs) = ap suc (length-zone_starts zs)

with_end : (u : Option ℕ) (bs : List ℕ) (n : ℕ) → length bs ≤ 2 * n → suc (length (end_then u bs)) ≤ 2 * suc n
with_end None bs n h = omega arith
with_end (Some e) bs n h = omega arith

pub length-window_bounds : (ws : List Window) → length (window_bounds ws) ≤ 2 * length ws
unfolding window_bounds
length-window_bounds [] = omega arith
length-window_bounds (w ∷ ws) = with_end w.until (window_bounds ws) (length ws) (length-window_bounds ws)

pub count_le : (s : ℕ) (bs : List ℕ) → length (different (later s bs)) ≤ length bs
count_le s bs =
    let a = length_different (later s bs) in
    let b = length_keep (λ b. ltb s b) bs in
    omega arith

-- the first zone's start is no later boundary
few : (zl wl s : ℕ) (zs : List Zone) (ws : List Window) → 1 ≤ zl → length zs ≤ zl → length ws ≤ wl → FirstAtZero zs
    → length (different (later s (zone_starts zs ++ window_bounds ws))) ≤ zl + 2 * wl - 1
unfolding keep zone_starts window_bounds
few zl wl s [] ws z a b h =
    let c = count_le s (window_bounds ws) in
    let d = length-window_bounds ws in
    omega arith
few zl wl s (z₀ ∷ zs) ws z a b h =
    let c = count_le s (zone_starts zs ++ window_bounds ws) in
    let d = length-window_bounds ws in
    rw (le-ltb s z₀.start (omega arith)) (omega (arith, length-append (zone_starts zs) (window_bounds ws), length-zone_starts zs))

pub few_later : (r : Rules) (l : Lists) (s : ℕ) → 1 ≤ r.zone_limit → Accepted r l → different_later l s ≤ r.zone_limit + 2 * r.window_limit - 1
unfolding different_later
few_later r l s z k =
    few r.zone_limit r.window_limit s l.zones l.windows z
    (zones_fit r l.zones k.zones) (windows_fit r l.windows k.windows) (zones_first r l.zones k.zones)
