-- A reader leaves what stands from some place on.
use Rattle.std.proofs.Common.{None, Some, Bool, true, false, List, [], ◌∷◌, ◌≡◌, refl, sym, ap, ◌∙◌, ℕ, zero, suc, ◌+◌, ◌-◌, ◌≤◌, arith, leb-true, leb, ℤ, length, take, drop, length-drop, drop-drop}
use Rattle.model.specs.Lists.{Name}
use Rattle.model.specs.Bytes.{Front, then, take_bytes, byte, named, read_name, read_until, read_entry, make_zone, make_window, read_zone, read_window, number, well_formed}
use Rattle.model.proofs.Facts.{by_test}
use Rattle.record.specs.Fronts.{place_of}

-- `t` is what is left of `s` from some place on
pub record Left (s t : List ℕ) : Type 0 where
  pub at : ℕ
  pub within : at ≤ length s
  pub is : t ≡ drop at s

pub left_on : {s t u : List ℕ} → Left s t → Left t u → Left s u
left_on {s} {t} {u} a b =
    let w : b.at ≤ length s - a.at = omega (arith, b.within, ap length a.is, length-drop a.at s) in
    record { at = a.at + b.at; within = omega (arith, a.within, w); is = b.is ∙ ap (drop b.at) a.is ∙ drop-drop b.at a.at s }

snd_of : {A : Type 0} (a b : A) (s t : List ℕ) → ◌≡◌ {A = Front A} (Some (a, s)) (Some (b, t)) → s ≡ t
snd_of {A} a b s t h = let q : ◌≡◌ {A = A × List ℕ} (a, s) (b, t) = cc in ap (λ p. p.1) q

-- a reader that leaves what stands from some place on
abbrev pub Leaves : {A : Type 0} → (List ℕ → Front A) → Type 0
Leaves {A} reader = (s : List ℕ) (a : A) (t : List ℕ) → reader s ≡ Some (a, t) → Left s t

take_leaves : (n : ℕ) → Leaves (take_bytes n)
unfolding take_bytes
take_leaves n s a t h =
    by_test (leb n (length s))
    (λ e. let k : ◌≡◌ {A = Front (List ℕ)} (Some (take n s, drop n s)) (Some (a, t)) = rw e at h in
    record { at = n; within = leb-true n (length s) e; is = sym (snd_of (take n s) a (drop n s) t k) })
    (λ e. let k : ◌≡◌ {A = Front (List ℕ)} None (Some (a, t)) = rw e at h in cc)

byte_leaves : Leaves byte
byte_leaves [] a t h = cc
byte_leaves (x ∷ s) a t h = record { at = 1; within = omega arith; is = sym (snd_of x a s t h) }

-- one reader after another
pub then_leaves : {A B : Type 0} (first : List ℕ → Front A) (next : A → List ℕ → Front B) → Leaves first → ((a : A) → Leaves (next a))
    → Leaves (λ s. then (first s) next)
then_leaves {A} {B} first next f g s b t h = go (first s) refl h
  where
    go : (x : Front A) → first s ≡ x → then x next ≡ Some (b, t) → Left s t
    go None e k = cc
    go (Some p) e k = left_on (f s p.0 p.1 e) (g p.0 p.1 b t k)

module _ {A B : Type 0} (tail : ℕ → List ℕ → Front A) (make : ℤ → ℕ → A → B) (leaves : (m : ℕ) → Leaves (tail m)) where
  pub entry_leaves : Leaves (read_entry tail make)
  unfolding read_entry
  entry_leaves =
      then_leaves (take_bytes 4) _ (take_leaves 4)
      (λ o. then_leaves (take_bytes 8) _ (take_leaves 8)
      (λ t. then_leaves byte _ byte_leaves
      (λ m. then_leaves (tail m) _ (leaves m)
      (λ a s b t h. let e = snd_of _ b s t h in record { at = 0; within = omega arith; is = sym e }))))

named_leaves : (w : Bool) (n : Name) → Leaves (named w n)
unfolding named
named_leaves true n s a t h = let e = snd_of (Some n) a s t h in record { at = 0; within = omega arith; is = sym e }
named_leaves false n s a t h = cc

name_leaves : (m : ℕ) → Leaves (read_name m)
unfolding read_name
name_leaves zero s a t h = let e = snd_of None a s t h in record { at = 0; within = omega arith; is = sym e }
name_leaves (suc zero) s a t h =
    then_leaves byte _ byte_leaves (λ n. then_leaves (take_bytes n) _ (take_leaves n) (λ name. named_leaves (well_formed name) name)) s a t h
name_leaves (suc (suc m)) s a t h = cc

until_leaves : (m : ℕ) → Leaves (read_until m)
unfolding read_until
until_leaves zero s a t h = let e = snd_of None a s t h in record { at = 0; within = omega arith; is = sym e }
until_leaves (suc zero) s a t h =
    then_leaves (take_bytes 8) _ (take_leaves 8) (λ e s b t h. let q = snd_of (Some (number e)) b s t h in record { at = 0; within = omega arith; is = sym q }) s a t h
until_leaves (suc (suc m)) s a t h = cc

pub zone_leaves : Leaves read_zone
zone_leaves = entry_leaves read_name make_zone name_leaves

pub window_leaves : Leaves read_window
window_leaves = entry_leaves read_until make_window until_leaves

-- ## Places

-- what is left from a place on is left from where `place_of` says
pub left_place : (s : List ℕ) (at : ℕ) (t : List ℕ) → at ≤ length s → Left (drop at s) t → (t ≡ drop (place_of s t) s) × (place_of s t ≤ length s)
left_place s at t h l =
    let k = left_on (record { at = at; within = h; is = refl }) l in
    let n : length t ≡ length s - k.at = ap length k.is ∙ length-drop k.at s in
    let e : k.at ≡ place_of s t = omega (arith, k.within) in
    (k.is ∙ ap (λ (i : ℕ). drop i s) e, omega arith)
