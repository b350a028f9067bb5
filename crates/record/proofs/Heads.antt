-- What an answer of `head_at` says of the bytes.
use Rattle.std.proofs.Common.{Bool, true, false, cond, List, ◌≡◌, refl, sym, ap, ◌∙◌, ℕ, ◌+◌, ◌≤◌, ◌<◌, ℤ, length, take, drop, get_or, slice_get, slice_index, Some, None, w32, arith, leb-true, leb-false, le-leb, length-drop, length-take-le, drop-drop}
use Rattle.std.proofs.lemmas.Bool.{lt-leb}
use Rattle.std.proofs.lemmas.List.{get_or-drop}
use Rattle.std.proofs.lemmas.Option.{slice_get_within, get_or_from_slice_get}
use Rattle.std.specs.Int.{byte_worth, sum_through, cast_signed}
use Rattle.model.specs.Bytes.{number, signed}
use Rattle.word.specs.Place.{fits_at}
use Rattle.word.proofs.Endian.{from_le, to_signed}
use Rattle.record.specs.declared.entry.Head.{Head}
use Rattle.record.specs.Fronts.{head_at}
use Rattle.record.proofs.Front.{offset_at, start_at}

module _ (s : List ℕ) (at : ℕ) where
  abbrev pub head : Head
  head = record { offset = offset_at s at; start = start_at s at; mark = get_or s (at + 12) 0 }

  pub head_there : at + 13 ≤ length s → head_at s at ≡ Some head
  unfolding head_at
  head_there h = rw (le-leb (at + 13) (length s) h)

  pub head_short : length s < at + 13 → head_at s at ≡ None
  unfolding head_at
  head_short h = rw (lt-leb (at + 13) (length s) h)

  -- `a` and what is left behind it, `r`, are cut off `l`
  abbrev pub Cut : ℕ → List ℕ → List ℕ → List ℕ → Type 0
  Cut n l a r = (a ≡ take n l) × (r ≡ drop n l) × (length r + n ≡ length l)

  -- the number of so many bytes and one
  abbrev pub spelled : ℕ → List ℕ → ℕ
  spelled k bs = sum_through (λ i. byte_worth i (slice_index bs i)) k

  -- a part that was cut off what stands from a place on spells the number there
  part : (n at : ℕ) (l a r : List ℕ) → l ≡ drop at s → Cut (n + 1) l a r → spelled n a ≡ number (take (n + 1) (drop at s))
  part n at l a r e p = from_le n a (omega (arith, ap length p.0, length-take-le (n + 1) l (omega (arith, p.2)))) ∙ ap number p.0 ∙ ap (λ (x : List ℕ). number (take (n + 1) x)) e

  -- the head, cut off what stands from `at` on, part after part
  pub head_cut : {l a r b t : List ℕ} {o : ℤ} {v m : ℕ} → at ≤ length s → l ≡ drop at s → Cut 4 l a r → Cut 8 r b t → Some m ≡ slice_get t 0
      → o ≡ cast_signed w32 (spelled 3 a) → v ≡ spelled 7 b → Some (record { offset = o; start = v; mark = m }) ≡ head_at s at
  head_cut {l} {a} {r} {b} {t} {o} {v} {m} h e p q i f g =
      let r_is : r ≡ drop (at + 4) s = p.1 ∙ ap (drop 4) e ∙ drop-drop 4 at s in
      let t_is : t ≡ drop (at + 4 + 8) s = q.1 ∙ ap (drop 8) r_is ∙ drop-drop 8 (at + 4) s in
      let k : at + 4 + 8 + 0 ≡ at + 12 = omega arith in
      let mark = sym (get_or_from_slice_get t 0 m 0 (sym i)) ∙ ap (λ (x : List ℕ). get_or x 0 0) t_is ∙ get_or-drop (at + 4 + 8) s 0 0 ∙ ap (λ (j : ℕ). get_or s j 0) k in
      let long = slice_get_within t 0 m (sym i) in
      rw (f ∙ to_signed _ ∙ ap signed (part 3 at l a r e p), g ∙ part 7 (at + 4) r b t r_is q, mark) (sym (head_there (omega (arith, ap length e, length-drop at s))))

  pub record There (h : Head) : Type 0 where
    pub there : at + 13 ≤ length s
    pub is : h ≡ head

  pub head_found : (h : Head) → head_at s at ≡ Some h → There h
  unfolding head_at
  head_found h e = found (fits_at s at 13) refl e
    where
      found : (b : Bool) → fits_at s at 13 ≡ b → cond b (Some head) None ≡ Some h → There h
      found true f k = record { there = leb-true (at + 13) (length s) f; is = cc }
      found false f k = record { there = cc; is = cc }

  pub head_missing : head_at s at ≡ None → length s < at + 13
  unfolding head_at
  head_missing e = missing (fits_at s at 13) refl e
    where
      missing : (b : Bool) → fits_at s at 13 ≡ b → cond b (Some head) None ≡ None → length s < at + 13
      missing true f k = cc
      missing false f k = leb-false (at + 13) (length s) f
