-- What an answer of `u64_at` or `i32_at` says of the bytes.
use Rattle.std.proofs.Common.{Bool, true, false, cond, List, ◌≡◌, refl, sym, ap, ◌∙◌, ℕ, ◌+◌, ◌<◌, ◌≤◌, ℤ, length, take, drop, Option, None, Some, option_map, leb-true, leb-false}
use Rattle.std.proofs.lemmas.Option.{cond_some}
use Rattle.model.specs.Bytes.{number, signed}
use Rattle.word.specs.Place.{fits_at, number_at, signed_at}

-- the bytes are there, and spell `v`
pub record Present (w : ℕ) (s : List ℕ) (at v : ℕ) : Type 0 where
  pub there : at + w ≤ length s
  pub is : v ≡ number (take w (drop at s))

not_chosen : (b : Bool) (n : ℕ) → cond b (Some n) None ≡ None → b ≡ false
not_chosen true n h = cc
not_chosen false n h = refl

module _ (w : ℕ) (s : List ℕ) (at : ℕ) where
  number_present : (v : ℕ) → number_at w s at ≡ Some v → Present w s at v
  unfolding number_at
  number_present v h =
      let c = cond_some (fits_at s at w) (number (take w (drop at s))) v h in
      record { there = leb-true (at + w) (length s) c.0; is = sym c.1 }

  number_missing : number_at w s at ≡ None → length s < at + w
  unfolding number_at
  number_missing h = leb-false (at + w) (length s) (not_chosen (fits_at s at w) (number (take w (drop at s))) h)

module _ (s : List ℕ) (at : ℕ) where
  pub u64_present : (v : ℕ) → Some v ≡ number_at 8 s at → Present 8 s at v
  u64_present v h = number_present 8 s at v (sym h)

  pub u64_missing : None ≡ number_at 8 s at → length s < at + 8
  u64_missing h = number_missing 8 s at (sym h)

  pub record Offset (z : ℤ) : Type 0 where
    pub there : at + 4 ≤ length s
    pub is : z ≡ signed (number (take 4 (drop at s)))

  offset_some : (o : Option ℕ) (z : ℤ) → number_at 4 s at ≡ o → Some z ≡ option_map signed o → Offset z
  offset_some None z e h = cc
  offset_some (Some n) z e h =
      let p = number_present 4 s at n e in
      let q : z ≡ signed n = cc in
      record { there = p.there; is = q ∙ ap signed p.is }

  offset_none : (o : Option ℕ) → number_at 4 s at ≡ o → None ≡ option_map signed o → length s < at + 4
  offset_none None e h = number_missing 4 s at e
  offset_none (Some n) e h = cc

  pub i32_present : (z : ℤ) → Some z ≡ signed_at s at → Offset z
  i32_present z h = offset_some (number_at 4 s at) z refl h

  pub i32_missing : None ≡ signed_at s at → length s < at + 4
  i32_missing h = offset_none (number_at 4 s at) refl h
