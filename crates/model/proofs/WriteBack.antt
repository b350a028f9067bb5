-- What is written reads back.
use Rattle.std.proofs.Common.{Option, None, Some, List, [], ◌∷◌, ◌++◌, append_assoc, append-nil, ◌≡◌, refl, sym, ap, ◌∙◌, ℕ, ◌≤◌, arith, le-leb, ℤ, length, length-append, take_at, drop_at}
use Rattle.model.specs.Basics.{All}
use Rattle.model.specs.Lists.{Name, Zone, Window, Lists}
use Rattle.model.specs.Bytes.{bytes, bits_of, name_bytes, zone_bytes, until_bytes, window_bytes, all_bytes, section_bytes, zones_bytes, windows_bytes, record_bytes, Front, then, take_bytes, named, read_name, read_until, read_entry, make_zone, make_window, read_zone, read_window, read_all, read_section, whole, read_zones, read_windows, read_record}
use Rattle.model.specs.RoundTrip.{IsOffset, IsMoment, IsName, IsUntil, ZoneFits, WindowFits, ZonesBack, WindowsBack, RecordBack}
use Rattle.model.proofs.Words.{length_bytes, number_bytes, signed_bits, bits_below}

-- so many bytes off the front
front : (n : ℕ) (xs ys : List ℕ) → length xs ≡ n → take_bytes n (xs ++ ys) ≡ Some (xs, ys)
unfolding take_bytes
front n xs ys e =
    let l : n ≤ length (xs ++ ys) = omega (arith, length-append xs ys) in
    rw (le-leb n (length (xs ++ ys)) l, take_at xs ys n e, drop_at xs ys n e)

module _ {A B : Type 0} (tail : ℕ → List ℕ → Front A) (make : ℤ → ℕ → A → B) where
  entry_back : (o : ℤ) (t mark : ℕ) (more rest : List ℕ) (a : A) → IsOffset o → IsMoment t → tail mark (more ++ rest) ≡ Some (a, rest)
      → read_entry tail make ((bytes 4 (bits_of o) ++ (bytes 8 t ++ (mark ∷ more))) ++ rest) ≡ Some (make o t a, rest)
  unfolding read_entry
  entry_back o t mark more rest a ho ht h =
      rw (
        append_assoc (bytes 4 (bits_of o)) (bytes 8 t ++ (mark ∷ more)) rest,
        append_assoc (bytes 8 t) (mark ∷ more) rest,
        front 4 (bytes 4 (bits_of o)) (bytes 8 t ++ (mark ∷ (more ++ rest))) (length_bytes 4 (bits_of o)),
        front 8 (bytes 8 t) (mark ∷ (more ++ rest)) (length_bytes 8 t),
        h,
        number_bytes 4 (bits_of o) (bits_below o ho),
        number_bytes 8 t ht,
        signed_bits o ho,
      )

name_back : (o : ℤ) (t : ℕ) (n : Option Name) (rest : List ℕ) → IsOffset o → IsMoment t → IsName n
    → read_zone ((bytes 4 (bits_of o) ++ (bytes 8 t ++ name_bytes n)) ++ rest) ≡ Some (make_zone o t n, rest)
unfolding read_name named
name_back o t None rest ho ht hn = entry_back read_name make_zone o t 0 [] rest None ho ht refl
name_back o t (Some n) rest ho ht hn =
    entry_back read_name make_zone o t 1 (length n ∷ n) rest (Some n) ho ht
    (rw (front (length n) n rest refl, hn.0))

until_back : (o : ℤ) (t : ℕ) (u : Option ℕ) (rest : List ℕ) → IsOffset o → IsMoment t → IsUntil u
    → read_window ((bytes 4 (bits_of o) ++ (bytes 8 t ++ until_bytes u)) ++ rest) ≡ Some (make_window o t u, rest)
unfolding read_until
until_back o t None rest ho ht hu = entry_back read_until make_window o t 0 [] rest None ho ht refl
until_back o t (Some e) rest ho ht hu =
    entry_back read_until make_window o t 1 (bytes 8 e) rest (Some e) ho ht
    (rw (front 8 (bytes 8 e) rest (length_bytes 8 e), number_bytes 8 e hu))

zone_back : (z : Zone) (rest : List ℕ) → ZoneFits z → read_zone (zone_bytes z ++ rest) ≡ Some (z, rest)
zone_back z rest f = name_back z.offset z.start z.name rest f.offset f.start f.name

window_back : (w : Window) (rest : List ℕ) → WindowFits w → read_window (window_bytes w ++ rest) ≡ Some (w, rest)
window_back w rest f = until_back w.offset w.start w.until rest f.offset f.start f.until

-- ## Sections, over any entries

module _ {A : Type 0} (entry_bytes : A → List ℕ) (read_one : List ℕ → Front A) (Fits : A → Type 0)
    (one_back : (x : A) (rest : List ℕ) → Fits x → read_one (entry_bytes x ++ rest) ≡ Some (x, rest)) where
  all_back : (xs : List A) (rest : List ℕ) → All Fits xs → read_all read_one (length xs) (all_bytes entry_bytes xs ++ rest) ≡ Some (xs, rest)
  unfolding all_bytes read_all
  all_back [] rest f = refl
  all_back (x ∷ xs) rest f =
      rw (append_assoc (entry_bytes x) (all_bytes entry_bytes xs) rest, one_back x (all_bytes entry_bytes xs ++ rest) f.0, all_back xs rest f.1)

  section_back : (xs : List A) (rest : List ℕ) → All Fits xs → read_section read_one (section_bytes entry_bytes xs ++ rest) ≡ Some (xs, rest)
  section_back xs rest f = all_back xs rest f

zone_section : (zs : List Zone) (rest : List ℕ) → All ZoneFits zs → read_section read_zone (section_bytes zone_bytes zs ++ rest) ≡ Some (zs, rest)
zone_section zs rest f = section_back zone_bytes read_zone ZoneFits zone_back zs rest f

window_section : (ws : List Window) (rest : List ℕ) → All WindowFits ws → read_section read_window (section_bytes window_bytes ws ++ rest) ≡ Some (ws, rest)
window_section ws rest f = section_back window_bytes read_window WindowFits window_back ws rest f

pub zones_back : ZonesBack
unfolding read_zones zones_bytes
zones_back zs f =
    ap (λ (s : List ℕ). whole (read_section read_zone s)) (sym (append-nil (section_bytes zone_bytes zs))) ∙ ap whole (zone_section zs [] f.each)

pub windows_back : WindowsBack
unfolding read_windows windows_bytes
windows_back ws f =
    ap (λ (s : List ℕ). whole (read_section read_window s)) (sym (append-nil (section_bytes window_bytes ws))) ∙ ap whole (window_section ws [] f.each)

-- the record, from what the first and the second section read as
abbrev both : List Zone → List Window → List ℕ → Front Lists
both zs ws s = Some (record { zones = zs; windows = ws }, s)

abbrev second : List Zone → Front (List Window) → Option Lists
second zs o = whole (then o (λ ws s. both zs ws s))

abbrev first : Front (List Zone) → Option Lists
first o = whole (then o (λ zs s₁. then (read_section read_window s₁) (λ ws s. both zs ws s)))

pub record_back : RecordBack
unfolding read_record record_bytes zones_bytes windows_bytes
record_back l f =
    let ws = section_bytes window_bytes l.windows in
    ap first (zone_section l.zones ws f.zones.each)
    ∙ ap (λ (s : List ℕ). second l.zones (read_section read_window s)) (sym (append-nil ws))
    ∙ ap (second l.zones) (window_section l.windows [] f.windows.each)
