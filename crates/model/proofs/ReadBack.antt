-- Bytes that are readable are the writing of what they read as, whose numbers fit their types.
use Rattle.std.proofs.Common.{Option, None, Some, Bool, true, false, List, [], ◌∷◌, ◌++◌, append_assoc, append-nil, ◌≡◌, refl, sym, ap, subst, ◌∙◌, ℕ, zero, suc, ◌^◌, ◌<◌, arith, leb-true, leb, ℤ, length, take, drop, take-append-drop, length-take-le}
use Rattle.model.specs.Basics.{All}
use Rattle.model.specs.Lists.{Name, Zone, Window, Lists}
use Rattle.model.specs.Bytes.{bytes, number, bits_of, signed, well_formed, name_bytes, zone_bytes, until_bytes, window_bytes, all_bytes, section_bytes, zones_bytes, windows_bytes, record_bytes, Front, then, take_bytes, byte, named, read_name, read_until, read_entry, make_zone, make_window, read_zone, read_window, read_all, read_section, whole, nothing_left, read_sections, read_zones, read_windows, read_record}
use Rattle.model.specs.RoundTrip.{AreBytes, IsOffset, IsMoment, IsName, IsUntil, ZoneFits, WindowFits, ListsFit, ZonesWritten, WindowsWritten, RecordWritten}
use Rattle.model.proofs.Facts.{by_test, All-left, All-right}
use Rattle.model.proofs.Words.{number_below, bytes_number, bits_signed, signed_fits}

-- ## One reader after another

record Taken {A B : Type 0} (f : Front A) (go : A → List ℕ → Front B) (x : B × List ℕ) : Type 0 where
  took : A
  left : List ℕ
  is : f ≡ Some (took, left)
  on : go took left ≡ Some x

taken : {A B : Type 0} (f : Front A) (go : A → List ℕ → Front B) (x : B × List ℕ) → then f go ≡ Some x → Taken f go x
taken None go x h = cc
taken (Some p) go x h = record { took = p.0; left = p.1; is = refl; on = h }

pair_left : {A B : Type 0} (a a' : A) (b b' : B) → ◌≡◌ {A = Option (A × B)} (Some (a, b)) (Some (a', b')) → a ≡ a'
pair_left {A} {B} a a' b b' h = let q : ◌≡◌ {A = A × B} (a, b) (a', b') = cc in ap (λ p. p.0) q

pair_right : {A B : Type 0} (a a' : A) (b b' : B) → ◌≡◌ {A = Option (A × B)} (Some (a, b)) (Some (a', b')) → b ≡ b'
pair_right {A} {B} a a' b b' h = let q : ◌≡◌ {A = A × B} (a, b) (a', b') = cc in ap (λ p. p.1) q

-- bytes `x` were taken off `s`, and `t` is left
record Off (s x t : List ℕ) : Type 0 where
  is : s ≡ x ++ t
  taken_bytes : AreBytes x
  left_bytes : AreBytes t

off : (s x t : List ℕ) → AreBytes s → s ≡ x ++ t → Off s x t
off s x t b e =
    let c : AreBytes (x ++ t) = subst AreBytes e b in
    record { is = e; taken_bytes = All-left (λ n. n < 256) x t c; left_bytes = All-right (λ n. n < 256) x t c }

bytes_off : (n : ℕ) (s x t : List ℕ) → AreBytes s → take_bytes n s ≡ Some (x, t) → Off s x t × (length x ≡ n)
unfolding take_bytes
bytes_off n s x t b h =
    by_test (leb n (length s))
    (λ e. let k : ◌≡◌ {A = Front (List ℕ)} (Some (take n s, drop n s)) (Some (x, t)) = rw e at h in
    let p = pair_left (take n s) x (drop n s) t k in
    let q = pair_right (take n s) x (drop n s) t k in (
      off s x t b (sym (take-append-drop n s) ∙ ap (λ (l : List ℕ). l ++ drop n s) p ∙ ap (λ (l : List ℕ). x ++ l) q),
      ap length (sym p) ∙ length-take-le n s (leb-true n (length s) e),
    ))
    (λ e. let k : ◌≡◌ {A = Front (List ℕ)} None (Some (x, t)) = rw e at h in cc)

byte_off : (s : List ℕ) (m : ℕ) (t : List ℕ) → AreBytes s → byte s ≡ Some (m, t) → Off s (m ∷ []) t
byte_off [] m t b h = cc
byte_off (x ∷ s) m t b h =
    off (x ∷ s) (m ∷ []) t b
    (ap (λ (y : ℕ). y ∷ s) (pair_left x m s t h) ∙ ap (λ (l : List ℕ). m ∷ l) (pair_right x m s t h))

-- ## An entry

-- bytes taken off spell the number that they are read as
spelt : (w : ℕ) (xs : List ℕ) → length xs ≡ w → AreBytes xs → bytes w (number xs) ≡ xs
spelt w xs e b = rw (← e) (bytes_number xs b)

spelt_offset : (xs : List ℕ) → length xs ≡ 4 → AreBytes xs → bytes 4 (bits_of (signed (number xs))) ≡ xs
spelt_offset xs e b = rw (bits_signed (number xs) (number_below 4 xs (omega arith) b)) (spelt 4 xs e b)

-- three parts taken off one after another, the first two as `x` and `y` spell them
three : (s a s₁ b s₂ c s₃ t x y : List ℕ) → s ≡ a ++ s₁ → s₁ ≡ b ++ s₂ → s₂ ≡ c ++ s₃ → s₃ ≡ t → x ≡ a → y ≡ b → s ≡ (x ++ (y ++ c)) ++ t
three s a s₁ b s₂ c s₃ t x y p q r e f g = rw (p, q, r, e, f, g) (simp append_assoc)

module _ {A B : Type 0} (tail : ℕ → List ℕ → Front A) (make : ℤ → ℕ → A → B) (tail_bytes : A → List ℕ) (TailFits : A → Type 0)
    (tail_off : (m : ℕ) (s : List ℕ) (a : A) (t : List ℕ) → AreBytes s → m < 256 → tail m s ≡ Some (a, t)
    → (m ∷ s ≡ tail_bytes a ++ t) × (TailFits a × AreBytes t)) where
  record Entry (s : List ℕ) (x : B) (t : List ℕ) : Type 0 where
    offset : ℤ
    start : ℕ
    rest : A
    is : x ≡ make offset start rest
    written : s ≡ (bytes 4 (bits_of offset) ++ (bytes 8 start ++ tail_bytes rest)) ++ t
    offset_fits : IsOffset offset
    start_fits : IsMoment start
    rest_fits : TailFits rest
    left_bytes : AreBytes t

  entry_off : (s : List ℕ) (x : B) (t : List ℕ) → AreBytes s → read_entry tail make s ≡ Some (x, t) → Entry s x t
  unfolding read_entry
  entry_off s x t b h =
      let a = taken (take_bytes 4 s) _ (x, t) h in
      let oa = bytes_off 4 s a.took a.left b a.is in
      let c = taken (take_bytes 8 a.left) _ (x, t) a.on in
      let oc = bytes_off 8 a.left c.took c.left oa.0.left_bytes c.is in
      let m = taken (byte c.left) _ (x, t) c.on in
      let om = byte_off c.left m.took m.left oc.0.left_bytes m.is in
      let d = taken (tail m.took m.left) _ (x, t) m.on in
      let od = tail_off m.took m.left d.took d.left om.left_bytes om.taken_bytes.0 d.is in
      let n4 : number a.took < 256 ^ 4 = number_below 4 a.took (omega (arith, oa.1)) oa.0.taken_bytes in
      let n8 : number c.took < 256 ^ 8 = number_below 8 c.took (omega (arith, oc.1)) oc.0.taken_bytes in
      let lt : d.left ≡ t = pair_right _ x d.left t d.on in
      record {
        offset = signed (number a.took);
        start = number c.took;
        rest = d.took;
        is = sym (pair_left (make (signed (number a.took)) (number c.took) d.took) x d.left t d.on);
        written =
            three s a.took a.left c.took c.left (tail_bytes d.took) d.left t _ _ oa.0.is oc.0.is (om.is ∙ od.0) lt
            (spelt_offset a.took oa.1 oa.0.taken_bytes) (spelt 8 c.took oc.1 oc.0.taken_bytes);
        offset_fits = signed_fits (number a.took) n4;
        start_fits = n8;
        rest_fits = od.1.0;
        left_bytes = subst AreBytes lt od.1.1;
      }

-- ## Names and ends

named_off : (w : Bool) (n : Name) (s : List ℕ) (a : Option Name) (t : List ℕ) → well_formed n ≡ w → named w n s ≡ Some (a, t)
    → (a ≡ Some n) × ((s ≡ t) × (well_formed n ≡ true))
unfolding named
named_off true n s a t e h = (sym (pair_left (Some n) a s t h), (pair_right (Some n) a s t h, e))
named_off false n s a t e h = cc

name_off : (m : ℕ) (s : List ℕ) (a : Option Name) (t : List ℕ) → AreBytes s → m < 256 → read_name m s ≡ Some (a, t)
    → (m ∷ s ≡ name_bytes a ++ t) × (IsName a × AreBytes t)
unfolding read_name
name_off zero s a t b l h =
    let p = pair_left None a s t h in
    let q = pair_right None a s t h in
    (ap (λ (x : List ℕ). 0 ∷ x) q ∙ ap (λ (x : Option Name). name_bytes x ++ t) p, (subst IsName p tt, subst AreBytes q b))
name_off (suc zero) s a t b l h =
    let c = taken (byte s) _ (a, t) h in
    let oc = byte_off s c.took c.left b c.is in
    let d = taken (take_bytes c.took c.left) _ (a, t) c.on in
    let od = bytes_off c.took c.left d.took d.left oc.left_bytes d.is in
    let e = named_off (well_formed d.took) d.took d.left a t refl d.on in
    let lb = oc.taken_bytes.0 in
    let few : length d.took < 256 = omega (arith, od.1, lb) in (
      ap (λ (x : List ℕ). 1 ∷ x)
          (oc.is ∙ ap (λ (x : List ℕ). c.took ∷ x) (od.0.is ∙ ap (λ (x : List ℕ). d.took ++ x) e.1.0)
          ∙ ap (λ (k : ℕ). k ∷ (d.took ++ t)) (sym od.1))
          ∙ ap (λ (x : Option Name). name_bytes x ++ t) (sym e.0),
      (subst IsName (sym e.0) (e.1.1, few, od.0.taken_bytes), subst AreBytes e.1.0 od.0.left_bytes),
    )
name_off (suc (suc m)) s a t b l h = cc

until_off : (m : ℕ) (s : List ℕ) (a : Option ℕ) (t : List ℕ) → AreBytes s → m < 256 → read_until m s ≡ Some (a, t)
    → (m ∷ s ≡ until_bytes a ++ t) × (IsUntil a × AreBytes t)
unfolding read_until
until_off zero s a t b l h =
    let p = pair_left None a s t h in
    let q = pair_right None a s t h in
    (ap (λ (x : List ℕ). 0 ∷ x) q ∙ ap (λ (x : Option ℕ). until_bytes x ++ t) p, (subst IsUntil p tt, subst AreBytes q b))
until_off (suc zero) s a t b l h =
    let c = taken (take_bytes 8 s) _ (a, t) h in
    let oc = bytes_off 8 s c.took c.left b c.is in
    let p = pair_left (Some (number c.took)) a c.left t c.on in
    let q = pair_right (Some (number c.took)) a c.left t c.on in
    let n8 : number c.took < 256 ^ 8 = number_below 8 c.took (omega (arith, oc.1)) oc.0.taken_bytes in
    let b8 = spelt 8 c.took oc.1 oc.0.taken_bytes in (
      ap (λ (x : List ℕ). 1 ∷ x)
          (oc.0.is ∙ ap (λ (x : List ℕ). c.took ++ x) q ∙ ap (λ (x : List ℕ). x ++ t) (sym b8))
          ∙ ap (λ (x : Option ℕ). until_bytes x ++ t) p,
      (subst IsUntil p n8, subst AreBytes q oc.0.left_bytes),
    )
until_off (suc (suc m)) s a t b l h = cc

-- ## A zone and a window

-- an entry was taken off: its bytes, and that it fits
record One {A : Type 0} (entry_bytes : A → List ℕ) (Fits : A → Type 0) (s : List ℕ) (x : A) (t : List ℕ) : Type 0 where
  written : s ≡ entry_bytes x ++ t
  fits : Fits x
  left_bytes : AreBytes t

zone_off : (s : List ℕ) (z : Zone) (t : List ℕ) → AreBytes s → read_zone s ≡ Some (z, t) → One zone_bytes ZoneFits s z t
zone_off s z t b h =
    let e = entry_off read_name make_zone name_bytes IsName name_off s z t b h in
    record {
      written = e.written ∙ ap (λ (y : Zone). zone_bytes y ++ t) (sym e.is);
      fits = subst ZoneFits (sym e.is) (record { offset = e.offset_fits; start = e.start_fits; name = e.rest_fits });
      left_bytes = e.left_bytes;
    }

window_off : (s : List ℕ) (w : Window) (t : List ℕ) → AreBytes s → read_window s ≡ Some (w, t) → One window_bytes WindowFits s w t
window_off s w t b h =
    let e = entry_off read_until make_window until_bytes IsUntil until_off s w t b h in
    record {
      written = e.written ∙ ap (λ (y : Window). window_bytes y ++ t) (sym e.is);
      fits = subst WindowFits (sym e.is) (record { offset = e.offset_fits; start = e.start_fits; until = e.rest_fits });
      left_bytes = e.left_bytes;
    }

-- ## Sections, over any entries

module _ {A : Type 0} (entry_bytes : A → List ℕ) (read_one : List ℕ → Front A) (Fits : A → Type 0)
    (one_off : (s : List ℕ) (x : A) (t : List ℕ) → AreBytes s → read_one s ≡ Some (x, t) → One entry_bytes Fits s x t) where
  record Many (s : List ℕ) (n : ℕ) (xs : List A) (t : List ℕ) : Type 0 where
    written : s ≡ all_bytes entry_bytes xs ++ t
    counted : length xs ≡ n
    fits : All Fits xs
    left_bytes : AreBytes t

  all_off : (n : ℕ) (s : List ℕ) (xs : List A) (t : List ℕ) → AreBytes s → read_all read_one n s ≡ Some (xs, t) → Many s n xs t
  unfolding all_bytes read_all
  all_off zero s xs t b h =
      let p = pair_left [] xs s t h in
      let q = pair_right [] xs s t h in
      record {
        written = q ∙ ap (λ (l : List A). all_bytes entry_bytes l ++ t) p;
        counted = ap length (sym p);
        fits = subst (All Fits) p tt;
        left_bytes = subst AreBytes q b;
      }
  all_off (suc n) s xs t b h =
      let a = taken (read_one s) _ (xs, t) h in
      let o = one_off s a.took a.left b a.is in
      let c = taken (read_all read_one n a.left) _ (xs, t) a.on in
      let m = all_off n a.left c.took c.left o.left_bytes c.is in
      let p = pair_left (a.took ∷ c.took) xs c.left t c.on in
      let q = pair_right (a.took ∷ c.took) xs c.left t c.on in
      record {
        written =
            o.written ∙ ap (λ (l : List ℕ). entry_bytes a.took ++ l) m.written
            ∙ sym (append_assoc (entry_bytes a.took) (all_bytes entry_bytes c.took) c.left)
            ∙ ap (λ (l : List ℕ). all_bytes entry_bytes (a.took ∷ c.took) ++ l) q
            ∙ ap (λ (l : List A). all_bytes entry_bytes l ++ t) p;
        counted = ap length (sym p) ∙ ap suc m.counted;
        fits = subst (All Fits) p (o.fits, m.fits);
        left_bytes = subst AreBytes q m.left_bytes;
      }

  record Section (s : List ℕ) (xs : List A) (t : List ℕ) : Type 0 where
    written : s ≡ section_bytes entry_bytes xs ++ t
    fits : All Fits xs
    few : length xs < 256
    left_bytes : AreBytes t

  section_off : (s : List ℕ) (xs : List A) (t : List ℕ) → AreBytes s → read_section read_one s ≡ Some (xs, t) → Section s xs t
  section_off s xs t b h =
      let a = taken (byte s) _ (xs, t) h in
      let o = byte_off s a.took a.left b a.is in
      let m = all_off a.took a.left xs t o.left_bytes a.on in
      let lb = o.taken_bytes.0 in
      record {
        written = o.is ∙ ap (λ (l : List ℕ). a.took ∷ l) m.written ∙ ap (λ (k : ℕ). k ∷ (all_bytes entry_bytes xs ++ t)) (sym m.counted);
        fits = m.fits;
        few = omega (arith, m.counted, lb);
        left_bytes = m.left_bytes;
      }

-- ## Nothing is left over

whole_left : {A : Type 0} (a x : A) (s : List ℕ) → nothing_left a s ≡ Some x → ◌≡◌ {A = Front A} (Some (a, s)) (Some (x, []))
whole_left a x [] h = let q : a ≡ x = cc in ap (λ y. Some (y, [])) q
whole_left a x (b ∷ s) h = cc

pub whole_is : {A : Type 0} (f : Front A) (x : A) → whole f ≡ Some x → f ≡ Some (x, [])
whole_is None x h = cc
whole_is (Some p) x h = whole_left p.0 x p.1 h

zone_section : (s : List ℕ) (zs : List Zone) (t : List ℕ) → AreBytes s → read_section read_zone s ≡ Some (zs, t) → Section zone_bytes read_zone ZoneFits zone_off s zs t
zone_section s zs t b h = section_off zone_bytes read_zone ZoneFits zone_off s zs t b h

window_section : (s : List ℕ) (ws : List Window) (t : List ℕ) → AreBytes s → read_section read_window s ≡ Some (ws, t) → Section window_bytes read_window WindowFits window_off s ws t
window_section s ws t b h = section_off window_bytes read_window WindowFits window_off s ws t b h

pub zones_written : ZonesWritten
unfolding read_zones zones_bytes
zones_written s zs b h =
    let c = zone_section s zs [] b (whole_is (read_section read_zone s) zs h) in
    (c.written ∙ append-nil (section_bytes zone_bytes zs), record { each = c.fits; few = c.few })

pub windows_written : WindowsWritten
unfolding read_windows windows_bytes
windows_written s ws b h =
    let c = window_section s ws [] b (whole_is (read_section read_window s) ws h) in
    (c.written ∙ append-nil (section_bytes window_bytes ws), record { each = c.fits; few = c.few })

abbrev second : List Zone → List ℕ → Front Lists
second zs s = then (read_section read_window s) (λ ws s₂. Some (record { zones = zs; windows = ws }, s₂))

pub record_written : RecordWritten
unfolding read_record record_bytes zones_bytes windows_bytes
record_written s l b h =
    let a = taken (read_section read_zone s) second (l, []) (whole_is (read_sections s) l h) in
    let z = zone_section s a.took a.left b a.is in
    let c = taken (read_section read_window a.left) (λ ws s₂. Some (record { zones = a.took; windows = ws }, s₂)) (l, []) a.on in
    let w = window_section a.left c.took c.left z.left_bytes c.is in
    let made : Lists = record { zones = a.took; windows = c.took } in
    let p : made ≡ l = pair_left made l c.left [] c.on in
    let q : c.left ≡ [] = pair_right made l c.left [] c.on in (
      z.written
          ∙ ap (λ (x : List ℕ). section_bytes zone_bytes a.took ++ x)
          (w.written ∙ ap (λ (x : List ℕ). section_bytes window_bytes c.took ++ x) q ∙ append-nil (section_bytes window_bytes c.took))
          ∙ ap (λ (x : Lists). section_bytes zone_bytes x.zones ++ section_bytes window_bytes x.windows) p,
      subst ListsFit p (record { zones = record { each = z.fits; few = z.few }; windows = record { each = w.fits; few = w.few } }),
    )
