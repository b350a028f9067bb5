-- The bytes of a place are the bytes that its entry is written as.
use Rattle.std.proofs.Common.{◌≡◌, ℕ, ◌+◌, ◌^◌, ◌<◌, ◌≤◌, min, true, false, List, [], ◌∷◌, ◌++◌, length, get_or, take, drop, sym, ap, subst, ◌∙◌, append_assoc, arith, length-append, length-drop, length-take-le, take-add, take-append-drop}
use Rattle.model.specs.Bytes.{bytes, bits_of, signed, zone_bytes, window_bytes}
use Rattle.model.specs.RoundTrip.{AreBytes}
use Rattle.model.proofs.Facts.{All-left, All-right}
use Rattle.model.proofs.Words.{number_below, bits_signed}
use Rattle.word.specs.Place.{byte_at, word_at}
use Rattle.word.proofs.Spelling.{word_there, written_back}
use Rattle.table.specs.Layout.{mark_at, zone_at, window_at}
use Rattle.table.specs.Held.{head_bytes}
use Rattle.table.proofs.Requests.{are_bytes}

module _ (p : List ℕ) (b : (i : ℕ) → get_or p i 0 < 256) where
  part_bytes : (w i : ℕ) → AreBytes (take w (drop i p))
  part_bytes w i =
      let behind : AreBytes (drop i p) = All-right (λ x. x < 256) (take i p) (drop i p) (subst AreBytes (sym (take-append-drop i p)) (are_bytes p b)) in
      All-left (λ x. x < 256) (take w (drop i p)) (drop w (drop i p)) (subst AreBytes (sym (take-append-drop w (drop i p))) behind)

  module _ (w i : ℕ) (h : i + w ≤ length p) where
    part_long : length (take w (drop i p)) ≡ w
    part_long = length-take-le w (drop i p) (omega (arith, length-drop i p))

    -- a number in its place
    word_raw : bytes w (word_at w p i) ≡ take w (drop i p)
    word_raw = ap (bytes w) (word_there p i w h) ∙ written_back p i w h b

    word_below : word_at w p i < 256 ^ w
    word_below = rw (word_there p i w h) (number_below w (take w (drop i p)) (omega (arith, part_long)) (part_bytes w i))

  -- offset and start, and what stands behind them
  spelt : (more : List ℕ) → 12 ≤ length p → bytes 4 (bits_of (signed (word_at 4 p 0))) ++ (bytes 8 (word_at 8 p 4) ++ more) ≡ take 12 p ++ more
  spelt more h =
      rw (bits_signed (word_at 4 p 0) (word_below 4 0 (omega arith)), word_raw 4 0 (omega arith), word_raw 8 4 h, take-add 4 8 p)
      (sym (append_assoc (take 4 p) (take 8 (drop 4 p)) more))

  -- by the mark
  pub head_long : 13 ≤ length p → length (head_bytes p) ≡ 13
  unfolding head_bytes
  head_long h = let l = length-take-le 12 p (omega arith) in simp length-append (omega arith)

  pub zone_clear : 13 ≤ length p → mark_at p 12 ≡ false → zone_bytes (zone_at p 0) ≡ head_bytes p
  unfolding head_bytes
  zone_clear h z = rw z (spelt (0 ∷ []) (omega arith))

  pub zone_set : (n : ℕ) → 78 ≤ length p → mark_at p 12 ≡ true → n ≡ min (byte_at p 13) 64 → zone_bytes (zone_at p 0) ≡ head_bytes p ++ (n ∷ []) ++ take n (drop 14 p)
  unfolding head_bytes
  zone_set n h z e =
      let name = take n (drop 14 p) in
      let l : length name ≡ n = length-take-le n (drop 14 p) (omega (arith, length-drop 14 p)) in
      rw (z, ← e)
      (spelt (1 ∷ length name ∷ name) (omega arith) ∙ ap (λ (k : ℕ). take 12 p ++ (1 ∷ k ∷ name)) l
      ∙ sym (append_assoc (take 12 p ++ (1 ∷ [])) (n ∷ []) name ∙ append_assoc (take 12 p) (1 ∷ []) (n ∷ name)))

  pub window_clear : 13 ≤ length p → mark_at p 12 ≡ false → window_bytes (window_at p 0) ≡ head_bytes p
  unfolding head_bytes
  window_clear h z = rw z (spelt (0 ∷ []) (omega arith))

  pub window_set : 21 ≤ length p → mark_at p 12 ≡ true → window_bytes (window_at p 0) ≡ head_bytes p ++ take 8 (drop 13 p)
  unfolding head_bytes
  window_set h z =
      rw z
      (spelt (1 ∷ bytes 8 (word_at 8 p 13)) (omega arith) ∙ ap (λ (x : List ℕ). take 12 p ++ (1 ∷ x)) (word_raw 8 13 (omega arith))
      ∙ sym (append_assoc (take 12 p) (1 ∷ []) (take 8 (drop 13 p))))
