-- The record of accepted lists reads back, is taken and is short enough; and so is the record that a store holds after any calls.
use Rattle.std.proofs.Common.{Option, None, Some, true, List, [], ◌∷◌, ◌++◌, ◌≡◌, refl, ap, ◌∙◌, ℕ, suc, ◌*◌, ◌≤◌, arith, leb-true, leb, lit<, lit≤, length, length-append}
use Rattle.std.proofs.lemmas.Bool.{and_parts}
use Rattle.model.specs.Basics.{All, run}
use Rattle.model.specs.Lists.{Name, Zone, Window, Lists, empty}
use Rattle.model.specs.Rules.{Rules, allowed, Verdict, accepted, test_from, name_fits, zone_rule, test_zones, test_windows}
use Rattle.model.specs.Bytes.{bytes, bits_of, name_bytes, zone_bytes, until_bytes, window_bytes, all_bytes, zones_bytes, windows_bytes, record_bytes, record_most, read_zones, read_windows, read_record}
use Rattle.model.specs.History.{Call, SetTimeZone, SetDSTOffset, Load, FactoryReset, record_verdict, verdict, if_accepted, zones_set, windows_set, record_loaded, after}
use Rattle.model.specs.Output.{SizedCall, no_space, after_sized}
use Rattle.model.specs.Demand3.{Accepted}
use Rattle.model.specs.RoundTrip.{AreBytes, ZonesFit, WindowsFit, ListsFit, ReadsBack, AcceptedReadsBack, CallBytes, StoredReadsBack, StoredReadsBackSized}
use Rattle.model.proofs.Accepted.{entry, zone_meets, accepted_record, kept_empty, kept_after, either, zones_fit, windows_fit}
use Rattle.model.proofs.Facts.{by_test, run_keeps}
use Rattle.model.proofs.Words.{length_bytes}
use Rattle.model.proofs.ReadBack.{zones_written, windows_written, record_written}
use Rattle.model.proofs.WriteBack.{record_back}

-- ## The length

name_short : (n : Option Name) → name_fits n ≡ true → length (name_bytes n) ≤ 66
name_short None h = lit< tt
name_short (Some n) h = let k = leb-true (length n) 64 h in omega arith

until_short : (u : Option ℕ) → length (until_bytes u) ≤ 9
until_short None = lit< tt
until_short (Some e) = omega (arith, length_bytes 8 e)

zone_short : (z : Zone) → name_fits z.name ≡ true → length (zone_bytes z) ≤ 78
zone_short z h =
    omega (
      arith,
      length-append (bytes 4 (bits_of z.offset)) (bytes 8 z.start ++ name_bytes z.name),
      length-append (bytes 8 z.start) (name_bytes z.name),
      length_bytes 4 (bits_of z.offset),
      length_bytes 8 z.start,
      name_short z.name h,
    )

window_short : (w : Window) → length (window_bytes w) ≤ 21
window_short w =
    omega (
      arith,
      length-append (bytes 4 (bits_of w.offset)) (bytes 8 w.start ++ until_bytes w.until),
      length-append (bytes 8 w.start) (until_bytes w.until),
      length_bytes 4 (bits_of w.offset),
      length_bytes 8 w.start,
      until_short w.until,
    )

zones_short_lem : (limit index : ℕ) (before : Option Zone) (zs : List Zone) → test_from limit zone_rule index before zs ≡ accepted
    → length (all_bytes zone_bytes zs) ≤ 78 * length zs
unfolding all_bytes
zones_short_lem limit index before [] h = lit≤ tt
zones_short_lem limit index before (z ∷ zs) h =
    let e = entry limit zone_rule index before z zs h in
    omega (arith, length-append (zone_bytes z) (all_bytes zone_bytes zs), zone_short z (zone_meets index before z e.meets).name_fits_lem, zones_short_lem limit (suc index) (Some z) zs e.rest)

windows_short_lem : (ws : List Window) → length (all_bytes window_bytes ws) ≤ 21 * length ws
unfolding all_bytes
windows_short_lem [] = lit≤ tt
windows_short_lem (w ∷ ws) = omega (arith, length-append (window_bytes w) (all_bytes window_bytes ws), window_short w, windows_short_lem ws)

short : (r : Rules) (l : Lists) → r.zone_limit ≤ 8 → r.window_limit ≤ 16 → Accepted r l → length (record_bytes l) ≤ record_most
unfolding record_bytes zones_bytes windows_bytes test_zones
short r l z w k =
    omega (
      arith,
      length-append (length l.zones ∷ all_bytes zone_bytes l.zones) (length l.windows ∷ all_bytes window_bytes l.windows),
      zones_short_lem r.zone_limit 0 None l.zones k.zones,
      windows_short_lem l.windows,
      zones_fit r l.zones k.zones,
      windows_fit r l.windows k.windows,
    )

-- ## The record is taken

module _ (r : Rules) (l : Lists) (k : Accepted r l) (e : read_record (record_bytes l) ≡ Some l) where
  taken : verdict r (Load (Some (record_bytes l))) ≡ accepted
  unfolding verdict
  taken = ap (record_verdict r) e ∙ accepted_record r l k

  again : (old : Lists) → after r old (Load (Some (record_bytes l))) ≡ l
  unfolding after
  again old = ap (record_loaded r old) e ∙ ap (λ (v : Verdict). if_accepted v l old) (accepted_record r l k)

-- limits that are allowed are in range
pub record Limits (r : Rules) : Type 0 where
  pub zones : r.zone_limit ≤ 8
  pub windows : r.window_limit ≤ 16

pub limits : (r : Rules) → allowed r ≡ true → Limits r
unfolding allowed
limits r h =
    let a = and_parts (leb 1 r.zone_limit) _ h in
    let b = and_parts (leb r.zone_limit 8) _ a.1 in
    let c = and_parts (leb 1 r.window_limit) _ b.1 in
    record { zones = leb-true r.zone_limit 8 b.0; windows = leb-true r.window_limit 16 c.1 }

pub accepted_reads_back : AcceptedReadsBack
accepted_reads_back r a l k f =
    let e = record_back l f in
    let m = limits r a in
    record { reads = e; taken = taken r l k e; again = again r l k e; short = short r l m.zones m.windows k }

-- ## After any calls the lists fit their types

no_zones_fit : ZonesFit []
no_zones_fit = record { each = tt; few = lit< tt }

no_windows_fit : WindowsFit []
no_windows_fit = record { each = tt; few = lit< tt }

fit_empty : ListsFit empty
fit_empty = record { zones = no_zones_fit; windows = no_windows_fit }

module _ (r : Rules) where
  fit_zones : (l : Lists) (b : List ℕ) (o : Option (List Zone)) → read_zones b ≡ o → AreBytes b → ListsFit l → ListsFit (zones_set r l o)
  fit_zones l b None e h f = f
  fit_zones l b (Some zs) e h f =
      either ListsFit (test_zones r zs) (record { zones = zs; windows = [] }) l
      (λ v. record { zones = (zones_written b zs h e).1; windows = no_windows_fit }) f

  fit_windows : (l : Lists) (b : List ℕ) (o : Option (List Window)) → read_windows b ≡ o → AreBytes b → ListsFit l → ListsFit (windows_set r l o)
  fit_windows l b None e h f = f
  fit_windows l b (Some ws) e h f =
      record { zones = f.zones; windows = either WindowsFit (test_windows r ws) ws [] (λ v. (windows_written b ws h e).1) no_windows_fit }

  fit_record : (l : Lists) (b : List ℕ) (o : Option Lists) → read_record b ≡ o → AreBytes b → ListsFit l → ListsFit (record_loaded r l o)
  fit_record l b None e h f = f
  fit_record l b (Some new) e h f = either ListsFit (record_verdict r (Some new)) new l (λ v. (record_written b new h e).1) f

  fit_after : (l : Lists) (c : Call) → CallBytes c → ListsFit l → ListsFit (after r l c)
  unfolding after
  fit_after l (SetTimeZone b) h f = fit_zones l b (read_zones b) refl h f
  fit_after l (SetDSTOffset b) h f = fit_windows l b (read_windows b) refl h f
  fit_after l (Load None) h f = f
  fit_after l (Load (Some b)) h f = fit_record l b (read_record b) refl h f
  fit_after l FactoryReset h f = fit_empty

-- accepted lists that fit
record Sound (r : Rules) (l : Lists) : Type 0 where
  taken : Accepted r l
  fits : ListsFit l

module _ (r : Rules) (a : allowed r ≡ true) {C : Type 0} (step : Lists → C → Lists) (Bytes : C → Type 0)
    (sound : (l : Lists) (c : C) → Bytes c → Sound r l → Sound r (step l c)) where
  after_any : (calls : List C) → All Bytes calls → ListsFit (run step empty calls) × ReadsBack r (run step empty calls)
  after_any calls h =
      let s = run_keeps step (Sound r) Bytes sound empty calls h (record { taken = kept_empty r; fits = fit_empty }) in
      (s.fits, accepted_reads_back r a (run step empty calls) s.taken s.fits)

sound_after : (r : Rules) (l : Lists) (c : Call) → CallBytes c → Sound r l → Sound r (after r l c)
sound_after r l c h s = record { taken = kept_after r l c s.taken; fits = fit_after r l c h s.fits }

pub stored_reads_back : StoredReadsBack
stored_reads_back r a calls h = after_any r a (after r) CallBytes (sound_after r) calls h

sound_sized : (r : Rules) (l : Lists) (c : SizedCall) → CallBytes c.call → Sound r l → Sound r (after_sized r l c)
unfolding after_sized
sound_sized r l c h s = by_test (no_space r l c) (λ e. rw e s) (λ e. rw e (sound_after r l c.call h s))

pub stored_reads_back_sized : StoredReadsBackSized
stored_reads_back_sized r a calls h = after_any r a (after_sized r) (λ c. CallBytes c.call) (sound_sized r) calls h
