-- An entry that is written in its place reads back, and what is read of it depends on its place alone.
use Rattle.std.specs.Prelude.{Option, None, Some}
use Rattle.std.proofs.Common.{◌≡◌, ℕ, ◌+◌, ◌^◌, ◌<◌, ◌≤◌, min, Bool, cond, not, eqb, List, [], ◌∷◌, ◌++◌, length, get_or, take, drop, sym, refl, ap, ◌∙◌, arith, get_or-drop, take_all, drop-drop}
use Rattle.model.specs.Lists.{Name, Zone, Window}
use Rattle.model.specs.Bytes.{bytes, number, bits_of, signed, name_bytes, zone_bytes, until_bytes, window_bytes}
use Rattle.model.specs.RoundTrip.{ZoneFits, WindowFits, IsUntil}
use Rattle.model.proofs.Words.{length_bytes, number_bytes, signed_bits, bits_below}
use Rattle.word.specs.Place.{byte_at, word_at, placed}
use Rattle.table.specs.Layout.{mark_at, maybe_at, name_at, zone_at, window_at}
use Rattle.word.proofs.Frame.{byte_in, part_in, word_in, number_in}
use Rattle.table.specs.Laws.{NameRoom}
use Rattle.table.proofs.Parts.{zone_parts, window_parts, entry_long, mark_clear, mark_set}
use Rattle.table.proofs.Alike.{Alike, same_byte, same_part, same_word}

-- ## The same bytes in a place read as the same entry

module _ (s t : List ℕ) (p : ℕ) where
  pub zone_local : Alike p (p + 78) s t → zone_at t p ≡ zone_at s p
  zone_local a =
      let n : min (byte_at s (p + 13)) 64 ≤ 64 = omega arith in
      let e : name_at t p ≡ name_at s p
      = ap (λ (k : ℕ). take (min k 64) (drop (p + 14) t)) (same_byte a (p + 13) (omega arith) (omega arith)) ∙ same_part a (min (byte_at s (p + 13)) 64) (p + 14) (omega arith) (omega arith) in
      zone_parts (ap signed (same_word a 4 p (omega arith) (omega arith))) (same_word a 8 (p + 4) (omega arith) (omega arith))
      (ap (λ (b : ℕ). cond (not (eqb b 0)) (Some (name_at t p)) None) (same_byte a (p + 12) (omega arith) (omega arith))
      ∙ ap (λ (m : Name). cond (mark_at s (p + 12)) (Some m) None) e)

  pub window_local : Alike p (p + 21) s t → window_at t p ≡ window_at s p
  window_local a =
      window_parts (ap signed (same_word a 4 p (omega arith) (omega arith))) (same_word a 8 (p + 4) (omega arith) (omega arith))
      (ap (λ (b : ℕ). cond (not (eqb b 0)) (Some (word_at 8 t (p + 13))) None) (same_byte a (p + 12) (omega arith) (omega arith))
      ∙ ap (λ (e : ℕ). cond (mark_at s (p + 12)) (Some e) None) (same_word a 8 (p + 13) (omega arith) (omega arith)))

-- ## How long the entries are

-- a zone that has room in its place
pub record ZoneGood (z : Zone) : Type 0 where
  pub fits : ZoneFits z
  pub room : NameRoom z.name

pub zone_short : (z : Zone) → ZoneGood z → length (zone_bytes z) ≤ 78
zone_short z g = omega (arith, entry_long (bits_of z.offset) z.start (name_bytes z.name), go z.name g.room)
  where
    go : (n : Option Name) → NameRoom n → length (name_bytes n) ≤ 66
    go None h = omega arith
    go (Some n) h = omega (arith, h)

pub window_short : (w : Window) → WindowFits w → length (window_bytes w) ≤ 21
window_short w g = omega (arith, entry_long (bits_of w.offset) w.start (until_bytes w.until), go w.until)
  where
    go : (u : Option ℕ) → length (until_bytes u) ≤ 9
    go None = omega arith
    go (Some e) = omega (arith, length_bytes 8 e)

-- ## An entry read back

module _ (s : List ℕ) (p o t : ℕ) (more : List ℕ) (h : p + length (bytes 4 o ++ (bytes 8 t ++ more)) ≤ length s) where
  abbrev whole : List ℕ
  whole = bytes 4 o ++ (bytes 8 t ++ more)

  abbrev written : List ℕ
  written = placed s p whole

  offset_back : o < 256 ^ 4 → word_at 4 written p ≡ o
  offset_back b = number_in 4 o [] (bytes 8 t ++ more) s p p b h (omega arith)

  start_back : t < 256 ^ 8 → word_at 8 written (p + 4) ≡ t
  start_back b = number_in 8 t (bytes 4 o) more s p (p + 4) b h (omega (arith, length_bytes 4 o))

  -- what stands behind the start
  behind : drop 12 whole ≡ more
  unfolding bytes
  behind = refl

  byte_behind : (i k : ℕ) → i ≡ p + (12 + k) → k < length more → byte_at written i ≡ get_or more k 0
  byte_behind i k e b =
      byte_in s p whole h i (12 + k) e (omega (arith, entry_long o t more)) ∙ sym (get_or-drop 12 whole k 0) ∙ ap (λ (l : List ℕ). get_or l k 0) behind

  from_behind : (k : ℕ) → drop (12 + k) whole ≡ drop k more
  from_behind k = sym (drop-drop k 12 whole) ∙ ap (drop k) behind

  part_behind : (n i k : ℕ) → i ≡ p + (12 + k) → k + n ≤ length more → take n (drop i written) ≡ take n (drop k more)
  part_behind n i k e b = part_in s p whole h n i (12 + k) e (omega (arith, entry_long o t more)) ∙ ap (take n) (from_behind k)

  word_behind : (w i k : ℕ) → i ≡ p + (12 + k) → k + w ≤ length more → word_at w written i ≡ number (take w (drop k more))
  word_behind w i k e b = word_in s p whole h w i (12 + k) e (omega (arith, entry_long o t more)) ∙ ap (λ (l : List ℕ). number (take w l)) (from_behind k)

name_back : (s : List ℕ) (p o t : ℕ) (name : Option Name) → NameRoom name → (h : p + length (bytes 4 o ++ (bytes 8 t ++ name_bytes name)) ≤ length s)
    → let u = placed s p (bytes 4 o ++ (bytes 8 t ++ name_bytes name)) in
    cond (mark_at u (p + 12)) (Some (name_at u p)) None ≡ name
name_back s p o t None r h =
    let u = written s p o t (0 ∷ []) h in
    ap (λ (b : Bool). cond b (Some (name_at u p)) None) (mark_clear u (p + 12) 0 (sym (byte_behind s p o t (0 ∷ []) h (p + 12) 0 (omega arith) (omega arith))) refl)
name_back s p o t (Some n) r h =
    let more : List ℕ = 1 ∷ length n ∷ n in
    let u = written s p o t more h in
    let l : byte_at u (p + 13) ≡ length n = byte_behind s p o t more h (p + 13) 1 (omega arith) (omega arith) in
    let m : min (byte_at u (p + 13)) 64 ≡ length n = omega (arith, r) in
    ap (λ (b : Bool). cond b (Some (name_at u p)) None) (mark_set u (p + 12) 1 (sym (byte_behind s p o t more h (p + 12) 0 (omega arith) (omega arith))) (λ q. omega arith))
    ∙ ap (λ (k : ℕ). Some (take k (drop (p + 14) u))) m
    ∙ ap (λ (x : Name). Some x) (part_behind s p o t more h (length n) (p + 14) 2 (omega arith) (omega arith) ∙ take_all (length n) n (omega arith))

until_back : (s : List ℕ) (p o t : ℕ) (until : Option ℕ) → IsUntil until → (h : p + length (bytes 4 o ++ (bytes 8 t ++ until_bytes until)) ≤ length s)
    → maybe_at (placed s p (bytes 4 o ++ (bytes 8 t ++ until_bytes until))) (p + 12) (p + 13) ≡ until
until_back s p o t None r h =
    let u = written s p o t (0 ∷ []) h in
    ap (λ (b : Bool). cond b (Some (word_at 8 u (p + 13))) None) (mark_clear u (p + 12) 0 (sym (byte_behind s p o t (0 ∷ []) h (p + 12) 0 (omega arith) (omega arith))) refl)
until_back s p o t (Some e) r h =
    let more : List ℕ = 1 ∷ bytes 8 e in
    let u = written s p o t more h in
    let l = length_bytes 8 e in
    ap (λ (b : Bool). cond b (Some (word_at 8 u (p + 13))) None) (mark_set u (p + 12) 1 (sym (byte_behind s p o t more h (p + 12) 0 (omega arith) (omega arith))) (λ q. omega arith))
    ∙ ap (λ (k : ℕ). Some k) (word_behind s p o t more h 8 (p + 13) 1 (omega arith) (omega arith) ∙ ap number (take_all 8 (bytes 8 e) (omega arith)) ∙ number_bytes 8 e r)

pub zone_back : (s : List ℕ) (p : ℕ) (z : Zone) → ZoneGood z → p + length (zone_bytes z) ≤ length s → zone_at (placed s p (zone_bytes z)) p ≡ z
zone_back s p z g h =
    let o = bits_of z.offset in
    let more = name_bytes z.name in
    let f = g.fits in
    zone_parts (ap signed (offset_back s p o z.start more h (bits_below z.offset f.offset)) ∙ signed_bits z.offset f.offset)
    (start_back s p o z.start more h f.start) (name_back s p o z.start z.name g.room h)

pub window_back : (s : List ℕ) (p : ℕ) (w : Window) → WindowFits w → p + length (window_bytes w) ≤ length s → window_at (placed s p (window_bytes w)) p ≡ w
window_back s p w f h =
    let o = bits_of w.offset in
    let more = until_bytes w.until in
    window_parts (ap signed (offset_back s p o w.start more h (bits_below w.offset f.offset)) ∙ signed_bits w.offset f.offset)
    (start_back s p o w.start more h f.start) (until_back s p o w.start w.until f.until h)
