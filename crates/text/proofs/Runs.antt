-- Words one after another: what a writer leaves, the place after them, and how far it can be.
use Rattle.std.proofs.Common.{◌≡◌, ℕ, ◌+◌, ◌≤◌, List, [], ◌++◌, length, take, drop, refl, sym, ap, subst, ◌∙◌, arith, append-nil, length-append, add-zero, le-leb, take-append-drop, take_at}
use Rattle.word.specs.Place.{put}
use Rattle.word.proofs.Laws.{length_put, put_put}
use Rattle.word.proofs.Places.{placed_there}
use Rattle.text.specs.declared.Writer.{Writer}
use Rattle.text.specs.Written.{after, Wrote}

-- the place after bytes that fit
pub after_there : (s : List ℕ) (at : ℕ) (bs : List ℕ) → at + length bs ≤ length s → after s at bs ≡ at + length bs
unfolding after
after_there s at bs h = rw (le-leb (at + length bs) (length s) h)

-- the same bytes
pub wrote_as : {w v : Writer} {bs cs : List ℕ} → bs ≡ cs → Wrote w v bs → Wrote w v cs
wrote_as {w} {v} e p = subst (λ (l : List ℕ). Wrote w v l) e p

-- v is w after it wrote the bytes xs, of which there are at most `most`, and for which there is room
pub record Run (w v : Writer) (xs : List ℕ) (most : ℕ) : Type 0 where
  pub same_reference : v.out.ghost_name ≡ w.out.ghost_name
  pub room : w.at + length xs ≤ length w.out.now
  pub bytes : v.out.now ≡ put w.out.now w.at xs
  pub place : v.at ≡ w.at + length xs
  pub within : length xs ≤ most

module _ {w : Writer} where
  pub no_word : w.at ≤ length w.out.now → Run w w [] 0
  no_word h =
      let s = w.out.now in
      let at = w.at in
      record {
        same_reference = refl;
        room = omega arith;
        bytes = sym (ap (λ (k : ℕ). take at s ++ [] ++ drop k s) (add-zero at) ∙ ap (λ (l : List ℕ). l ++ drop at s) (append-nil (take at s)) ∙ take-append-drop at s);
        place = omega arith;
        within = omega arith;
      }

  module _ {v : Writer} {xs : List ℕ} {most : ℕ} (c : Run w v xs most) where
    -- the same bytes
    pub run_as : {ys : List ℕ} → xs ≡ ys → Run w v ys most
    run_as e = subst (λ (l : List ℕ). Run w v l most) e c

    pub same_length : length v.out.now ≡ length w.out.now
    same_length = ap length c.bytes ∙ length_put w.out.now w.at xs c.room

    -- one word more
    pub more : {x : Writer} {ys : List ℕ} (m : ℕ) → Wrote v x ys → length ys ≤ m → w.at + length xs + length ys ≤ length w.out.now → Run w x (xs ++ ys) (most + m)
    more {x} {ys} m p l r =
        let s = w.out.now in
        let h : v.at + length ys ≤ length v.out.now = omega (arith, same_length, c.place) in
        record {
          same_reference = p.same_reference ∙ c.same_reference;
          room = omega (arith, length-append xs ys);
          bytes = p.bytes ∙ placed_there v.out.now v.at ys h ∙ ap (λ (o : List ℕ). put o v.at ys) c.bytes ∙ put_put s w.at xs ys c.place (omega (arith, c.room));
          place = omega (arith, p.place ∙ after_there v.out.now v.at ys h, c.place, length-append xs ys);
          within = omega (arith, c.within, length-append xs ys);
        }

    -- a run is a word
    pub wrote : Wrote w v xs
    wrote =
        record {
          same_reference = c.same_reference;
          bytes = c.bytes ∙ sym (placed_there w.out.now w.at xs c.room);
          place = c.place ∙ sym (after_there w.out.now w.at xs c.room);
        }

    -- a run from the front on is what stands before the place
    pub front_fits : v.at ≤ length v.out.now
    front_fits = omega (arith, same_length, c.room, c.place)

    pub front_is : w.at ≡ 0 → take v.at v.out.now ≡ xs
    front_is z =
        let s = w.out.now in
        ap (take v.at) (c.bytes ∙ ap (λ (k : ℕ). put s k xs) z) ∙ take_at xs (drop (0 + length xs) s) v.at (omega (arith, c.place))
