-- An entry written from its place: offset, start and mark, and what stands behind a mark that is set.
use Rattle.std.proofs.Common.{◌≡◌, ℕ, ◌+◌, ◌-◌, ◌<◌, ◌≤◌, min, Bool, true, false, cond, List, [], ◌∷◌, ◌++◌, length, get_or, take, drop, set, sym, refl, ap, ◌∙◌, arith, length-append, length-drop, length-take-le}
use borrow.Rule.Slice.PartMut.{put_mid}
use mir.Val.{bool_byte}
use Rattle.model.specs.Bytes.{zone_bytes, window_bytes}
use Rattle.word.specs.Place.{byte_at, put, placed}
use Rattle.word.proofs.Frame.{placed_part}
use Rattle.word.proofs.Writes.{Wrote, wrote_none, wrote_put, wrote_placed, wrote_byte, same_length}
use Rattle.table.specs.Layout.{mark_at, zone_at, window_at}
use Rattle.table.specs.Held.{head_bytes}
use Rattle.table.proofs.Raw.{head_long, zone_clear, zone_set, window_clear, window_set}

byte_of : (b : Bool) → bool_byte b ≡ cond b 1 0
byte_of true = refl
byte_of false = refl

-- a part that is written over as many bytes
over : (s part bs : List ℕ) (at n : ℕ) → part ≡ bs → length bs ≡ n → at + n ≤ length s → put_mid at (at + n - at) s part ≡ placed s at bs
over s part bs at n e l h =
    let k : at + n - at ≡ n = omega arith in
    ap (λ (i : ℕ). put_mid at i s part) k ∙ placed_part s at n part (ap length e ∙ l) h ∙ ap (placed s at) e

-- offset and start are written, and then the mark
pub head_written : (p out part : List ℕ) (at m : ℕ) → 13 ≤ length p → at + 13 ≤ length out → part ≡ take 12 p → m ≡ bool_byte (mark_at p 12)
    → set (put_mid at (at + 12 - at) out part) (at + 12) m ≡ put out at (head_bytes p)
unfolding head_bytes
head_written p out part at m l r q e =
    let k : length (take 12 p) ≡ 12 = length-take-le 12 p (omega arith) in
    let mid = put_mid at (at + 12 - at) out part in
    let first : Wrote out at (take 12 p) mid = wrote_placed (wrote_none (omega arith)) (take 12 p) at mid (omega arith) (omega arith) (over out part (take 12 p) at 12 q k (omega arith)) in
    (wrote_byte first m (at + 12) (set mid (at + 12) m) (omega arith) (omega arith) refl).is ∙ ap (λ (x : ℕ). put out at (take 12 p ++ (x ∷ []))) (e ∙ byte_of (mark_at p 12))

module _ (p : List ℕ) (b : (i : ℕ) → get_or p i 0 < 256) (out : List ℕ) (at : ℕ) {head : List ℕ} (w : head ≡ put out at (head_bytes p)) where
  head_wrote : 13 ≤ length p → at + 13 ≤ length out → Wrote out at (head_bytes p) head
  head_wrote l r = wrote_put (wrote_none (omega arith)) (head_bytes p) at head (omega arith) (omega (arith, head_long p b l)) w

  module _ (l : length p ≡ 80) (r : at + length (zone_bytes (zone_at p 0)) ≤ length out) where
    pub unnamed : mark_at p 12 ≡ false → (head ≡ put out at (zone_bytes (zone_at p 0))) × (at + 13 ≡ at + length (zone_bytes (zone_at p 0)))
    unnamed m = let is = zone_clear p b (omega arith) m in (w ∙ ap (put out at) (sym is), omega (arith, ap length is, head_long p b (omega arith)))

    -- where the mark is set, the length of the name and the name stand behind it
    pub record Named (n : ℕ) : Type 0 where
      pub long : length (zone_bytes (zone_at p 0)) ≡ 14 + n
      pub kept : length head ≡ length out
      pub all : (out' : List ℕ) → out' ≡ placed (set head (at + 13) n) (at + 14) (take (14 + n - 14) (drop 14 p)) → out' ≡ put out at (zone_bytes (zone_at p 0))

    pub named : (n : ℕ) → n ≡ min (byte_at p 13) 64 → mark_at p 12 ≡ true → Named n
    named n k m =
        let name = take n (drop 14 p) in
        let is : zone_bytes (zone_at p 0) ≡ head_bytes p ++ (n ∷ []) ++ name = zone_set p b n (omega arith) m k in
        let h : length (head_bytes p) ≡ 13 = head_long p b (omega arith) in
        let c : length name ≡ n = length-take-le n (drop 14 p) (omega (arith, length-drop 14 p)) in
        let j : length (head_bytes p ++ (n ∷ [])) ≡ 14 = omega (arith, h, length-append (head_bytes p) (n ∷ [])) in
        let long : length (zone_bytes (zone_at p 0)) ≡ 14 + n = omega (arith, ap length is, j, c, length-append (head_bytes p ++ (n ∷ [])) name) in
        let first = head_wrote (omega arith) (omega arith) in
        let next = wrote_byte first n (at + 13) (set head (at + 13) n) (omega (arith, h)) (omega arith) refl in
        let q : 14 + n - 14 ≡ n = omega arith in
        record {
          long = long;
          kept = same_length first;
          all = λ out' f.
              (wrote_placed next name (at + 14) out' (omega (arith, j)) (omega (arith, c)) (f ∙ ap (λ (i : ℕ). placed (set head (at + 13) n) (at + 14) (take i (drop 14 p))) q)).is
              ∙ ap (put out at) (sym is);
        }

  module _ (l : length p ≡ 24) (r : at + length (window_bytes (window_at p 0)) ≤ length out) where
    pub open_end : mark_at p 12 ≡ false → (head ≡ put out at (window_bytes (window_at p 0))) × (at + 13 ≡ at + length (window_bytes (window_at p 0)))
    open_end m = let is = window_clear p b (omega arith) m in (w ∙ ap (put out at) (sym is), omega (arith, ap length is, head_long p b (omega arith)))

    -- where it is set, the end
    pub record Ended : Type 0 where
      pub long : length (window_bytes (window_at p 0)) ≡ 21
      pub kept : length head ≡ length out
      pub all : (part : List ℕ) → part ≡ take 8 (drop 13 p) → put_mid (at + 13) (at + 21 - (at + 13)) head part ≡ put out at (window_bytes (window_at p 0))

    pub ended : mark_at p 12 ≡ true → Ended
    ended m =
        let end = take 8 (drop 13 p) in
        let is : window_bytes (window_at p 0) ≡ head_bytes p ++ end = window_set p b (omega arith) m in
        let h : length (head_bytes p) ≡ 13 = head_long p b (omega arith) in
        let c : length end ≡ 8 = length-take-le 8 (drop 13 p) (omega (arith, length-drop 13 p)) in
        let long : length (window_bytes (window_at p 0)) ≡ 21 = omega (arith, ap length is, h, c, length-append (head_bytes p) end) in
        let first = head_wrote (omega arith) (omega arith) in
        let q : at + 21 ≡ at + 13 + 8 = omega arith in
        record {
          long = long;
          kept = same_length first;
          all = λ part f.
              ap (λ (k : ℕ). put_mid (at + 13) (k - (at + 13)) head part) q
              ∙ (wrote_placed first end (at + 13) _ (omega (arith, h)) (omega (arith, c)) (over head part end (at + 13) 8 f c (omega (arith, same_length first)))).is ∙ ap (put out at) (sym is);
        }
