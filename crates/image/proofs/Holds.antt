-- Bytes that stand at a place, and what is read of them.
use Rattle.std.proofs.Common.{List, ◌++◌, ◌≡◌, sym, ap, ◌∙◌, ℕ, ◌+◌, ◌^◌, ◌≤◌, ◌<◌, arith, le-leb, length, take, drop, get_or, length-append, take-take, drop-drop, get_or-take, get_or-drop}
use Rattle.std.proofs.Math.Seq.{take-length, take-append_seam, drop-append_seam}
use Rattle.model.specs.Bytes.{bytes, number}
use Rattle.model.proofs.Words.{number_bytes}
use Rattle.word.specs.Place.{placed, byte_at, word_at}
use Rattle.word.proofs.Frame.{part_front, part_in, length_placed}

-- the bytes `bs` stand at `at`
pub record Holds (t : List ℕ) (at : ℕ) (bs : List ℕ) : Type 0 where
  pub room : at + length bs ≤ length t
  pub is : take (length bs) (drop at t) ≡ bs

pub placed_holds : (s : List ℕ) (at : ℕ) (bs : List ℕ) → at + length bs ≤ length s → Holds (placed s at bs) at bs
placed_holds s at bs h =
    record {
      room = omega (arith, length_placed s at bs);
      is = part_in s at bs h (length bs) at 0 (omega arith) (omega arith) ∙ take-length bs;
    }

module _ {t : List ℕ} {at : ℕ} {bs : List ℕ} (h : Holds t at bs) where
  pub holds_byte : (i k : ℕ) → i ≡ at + k → k < length bs → byte_at t i ≡ get_or bs k 0
  holds_byte i k e q =
      ap (byte_at t) e ∙ sym (get_or-drop at t k 0) ∙ sym (get_or-take (length bs) (drop at t) k 0 q) ∙ ap (λ l. get_or l k 0) h.is

  -- the first of them
  front : (m : ℕ) → m ≤ length bs → take m (drop at t) ≡ take m bs
  front m q = sym (take-take m (length bs) (drop at t) q) ∙ ap (take m) h.is

  pub holds_word : (w i k : ℕ) → i ≡ at + k → k + w ≤ length bs → word_at w t i ≡ number (take w (drop k bs))
  unfolding word_at
  holds_word w i k e q =
      let d : drop i t ≡ drop k (drop at t) = ap (λ j. drop j t) e ∙ sym (drop-drop k at t) in
      rw (le-leb (i + w) (length t) (omega (arith, h.room)))
      (ap number (ap (take w) d ∙ part_front w k (drop at t) ∙ ap (drop k) (front (k + w) q) ∙ sym (part_front w k bs)))

  -- a number that is written among them
  pub holds_number : (w v i k : ℕ) → i ≡ at + k → k + w ≤ length bs → take w (drop k bs) ≡ bytes w v → v < 256 ^ w → word_at w t i ≡ v
  holds_number w v i k e q b f = holds_word w i k e q ∙ ap number b ∙ number_bytes w v f

module _ {t : List ℕ} {at : ℕ} (xs ys : List ℕ) (h : Holds t at (xs ++ ys)) where
  pub holds_left : Holds t at xs
  holds_left =
      let l = length-append xs ys in
      record { room = omega (arith, h.room); is = front h (length xs) (omega arith) ∙ take-append_seam xs ys }

  pub holds_right : {k : ℕ} → k ≡ at + length xs → Holds t k ys
  holds_right {k} e =
      let l = length-append xs ys in
      let d : drop k t ≡ drop (length xs) (drop at t) = ap (λ j. drop j t) e ∙ sym (drop-drop (length xs) at t) in
      record {
        room = omega (arith, h.room);
        is =
            ap (take (length ys)) d ∙ part_front (length ys) (length xs) (drop at t)
            ∙ ap (λ m. drop (length xs) (take m (drop at t))) (sym l) ∙ ap (drop (length xs)) h.is ∙ drop-append_seam xs ys;
      }
