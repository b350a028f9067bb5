-- What is written reads back, and nothing but what is written is readable.
use Rattle.std.specs.Prelude.{true, List, ◌≡◌, ℕ, ◌^◌, ◌≤◌, ◌<◌, ℤ, pos, negsuc, length, Option, None, Some}
use Rattle.model.specs.Basics.{All}
use Rattle.model.specs.Lists.{Name, Zone, Window, Lists}
use Rattle.model.specs.Rules.{Rules, allowed, accepted}
use Rattle.model.specs.Bytes.{well_formed, zones_bytes, windows_bytes, record_bytes, record_most, read_zones, read_windows, read_record}
use Rattle.model.specs.History.{Call, SetTimeZone, SetDSTOffset, Load, FactoryReset, verdict, after, lists_after}
use Rattle.model.specs.Output.{SizedCall, lists_after_sized}
use Rattle.model.specs.Demand3.{Accepted}

-- ## Numbers that fit their types

-- bytes are numbers below 256
abbrev pub AreBytes : List ℕ → Type 0
AreBytes s = All (λ b. b < 256) s

-- an offset has 32 bits and a sign; `negsuc n` is −(n + 1)
abbrev pub IsOffset : ℤ → Type 0
IsOffset (pos n) = n < 2 ^ 31
IsOffset (negsuc n) = n < 2 ^ 31

-- a moment has 64 bits
abbrev pub IsMoment : ℕ → Type 0
IsMoment m = m < 2 ^ 64

-- a name is well-formed UTF-8 whose length fits a byte
abbrev pub IsName : Option Name → Type 0
IsName None = Unit {0}
IsName (Some n) = (well_formed n ≡ true) × (length n < 256) × AreBytes n

abbrev pub IsUntil : Option ℕ → Type 0
IsUntil None = Unit {0}
IsUntil (Some e) = IsMoment e

pub record ZoneFits (z : Zone) : Type 0 where
  pub offset : IsOffset z.offset
  pub start : IsMoment z.start
  pub name : IsName z.name

pub record WindowFits (w : Window) : Type 0 where
  pub offset : IsOffset w.offset
  pub start : IsMoment w.start
  pub until : IsUntil w.until

-- a section's entries fit, and so does its count
pub record ZonesFit (zs : List Zone) : Type 0 where
  pub each : All ZoneFits zs
  pub few : length zs < 256

pub record WindowsFit (ws : List Window) : Type 0 where
  pub each : All WindowFits ws
  pub few : length ws < 256

pub record ListsFit (l : Lists) : Type 0 where
  pub zones : ZonesFit l.zones
  pub windows : WindowsFit l.windows

-- ## A readable section is the writing of what it reads as: `zones_written`, `windows_written`, `record_written` in proofs/ReadBack.antt

abbrev pub ZonesWritten : Type 0
ZonesWritten = (s : List ℕ) (zs : List Zone) → AreBytes s → read_zones s ≡ Some zs → (s ≡ zones_bytes zs) × ZonesFit zs

abbrev pub WindowsWritten : Type 0
WindowsWritten = (s : List ℕ) (ws : List Window) → AreBytes s → read_windows s ≡ Some ws → (s ≡ windows_bytes ws) × WindowsFit ws

abbrev pub RecordWritten : Type 0
RecordWritten = (s : List ℕ) (l : Lists) → AreBytes s → read_record s ≡ Some l → (s ≡ record_bytes l) × ListsFit l

-- ## What is written reads back: `zones_back`, `windows_back`, `record_back` in proofs/WriteBack.antt

abbrev pub ZonesBack : Type 0
ZonesBack = (zs : List Zone) → ZonesFit zs → read_zones (zones_bytes zs) ≡ Some zs

abbrev pub WindowsBack : Type 0
WindowsBack = (ws : List Window) → WindowsFit ws → read_windows (windows_bytes ws) ≡ Some ws

abbrev pub RecordBack : Type 0
RecordBack = (l : Lists) → ListsFit l → read_record (record_bytes l) ≡ Some l

-- ## The record of accepted lists reads back, is taken, gives the lists again, and fits its buffer

pub record ReadsBack (r : Rules) (l : Lists) : Type 0 where
  pub reads : read_record (record_bytes l) ≡ Some l
  pub taken : verdict r (Load (Some (record_bytes l))) ≡ accepted
  pub again : (old : Lists) → after r old (Load (Some (record_bytes l))) ≡ l
  pub short : length (record_bytes l) ≤ record_most

-- `accepted_reads_back` in proofs/Stored.antt
abbrev pub AcceptedReadsBack : Type 0
AcceptedReadsBack = (r : Rules) → allowed r ≡ true → (l : Lists) → Accepted r l → ListsFit l → ReadsBack r l

-- ## So does the record that a store holds after any calls

-- a call's argument is bytes
abbrev pub CallBytes : Call → Type 0
CallBytes (SetTimeZone b) = AreBytes b
CallBytes (SetDSTOffset b) = AreBytes b
CallBytes (Load None) = Unit {0}
CallBytes (Load (Some b)) = AreBytes b
CallBytes FactoryReset = Unit {0}

-- `stored_reads_back` in proofs/Stored.antt
abbrev pub StoredReadsBack : Type 0
StoredReadsBack =
    (r : Rules) → allowed r ≡ true → (calls : List Call) → All CallBytes calls → ListsFit (lists_after r calls) × ReadsBack r (lists_after r calls)

-- with output slices: `stored_reads_back_sized` in proofs/Stored.antt
abbrev pub StoredReadsBackSized : Type 0
StoredReadsBackSized =
    (r : Rules) → allowed r ≡ true → (calls : List SizedCall) → All (λ a. CallBytes a.call) calls
    → ListsFit (lists_after_sized r calls) × ReadsBack r (lists_after_sized r calls)
