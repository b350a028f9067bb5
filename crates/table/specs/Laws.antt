-- What holds of tables; the proofs stand in proofs/.
use Rattle.std.specs.Prelude.{◌≡◌, ℕ, ◌<◌, ◌≤◌, true, List, length, map, take, drop, slice_index_or, Option, None, Some}
use Rattle.model.specs.Basics.{All}
use Rattle.model.specs.Lists.{Name, Zone, Window, empty}
use Rattle.model.specs.Rules.{Rules, allowed}
use Rattle.model.specs.RoundTrip.{AreBytes, ZonesFit, WindowsFit}
use Rattle.model.specs.History.{SetTimeZone, SetDSTOffset, Load, FactoryReset}
use Rattle.model.specs.Store.{store_after}
use Rattle.model.specs.Output.{store_after_sized}
use Rattle.table.specs.Layout.{table_size, zone_place, window_place, zone_at, window_at, zone_count, window_count, zone_places, window_places, zones_in, windows_in, lists_in, store_in, with_zones, with_windows, new_table}
use Rattle.table.specs.Left.{time_zone_left, dst_offset_left, load_left, reset_left}

-- ## The places in use

-- one for each entry, each the bytes of the entry's place
pub record PlacesAre (s : List ℕ) (places : List (List ℕ)) (count size : ℕ) (place : ℕ → ℕ) : Type 0 where
  pub number : length places ≡ count
  pub each : (i : ℕ) (d : List ℕ) → i < count → slice_index_or places i d ≡ take size (drop (place i) s)

-- `zone_places_are` in proofs/Places.antt; so are the next two
abbrev pub ZonePlacesAre : Type 0
ZonePlacesAre = (s : List ℕ) → PlacesAre s (zone_places s) (zone_count s) 80 zone_place

-- `window_places_are`
abbrev pub WindowPlacesAre : Type 0
WindowPlacesAre = (s : List ℕ) → PlacesAre s (window_places s) (window_count s) 24 window_place

-- each entry is read in the bytes of its place alone
pub record ByPlaces (s : List ℕ) : Type 0 where
  pub zones : zones_in s ≡ map (λ p. zone_at p 0) (zone_places s)
  pub windows : windows_in s ≡ map (λ p. window_at p 0) (window_places s)

-- `lists_by_places`
abbrev pub ListsByPlaces : Type 0
ListsByPlaces = (s : List ℕ) → ByPlaces s

-- fewer bytes than a table has hold no entry: `no_lists` in proofs/Recorded.antt
abbrev pub NoLists : Type 0
NoLists = (s : List ℕ) → length s < table_size → lists_in s ≡ empty

-- ## Lists that are written read back

-- a name has room in its place
abbrev pub NameRoom : Option Name → Type 0
NameRoom None = Unit {0}
NameRoom (Some n) = length n ≤ 64

abbrev pub NamesRoom : List Zone → Type 0
NamesRoom zs = All (λ z. NameRoom z.name) zs

-- zones written read back, and the windows stay
pub record ZonesLeft (s t : List ℕ) (zs : List Zone) : Type 0 where
  pub zones : zones_in t ≡ zs
  pub windows : windows_in t ≡ windows_in s
  pub long : length t ≡ length s

abbrev pub ZonesWritten : Type 0
ZonesWritten = (s : List ℕ) (zs : List Zone) → table_size ≤ length s → length zs ≤ 8 → ZonesFit zs → NamesRoom zs → ZonesLeft s (with_zones s zs) zs

-- windows written read back, and the zones stay
pub record WindowsLeft (s t : List ℕ) (ws : List Window) : Type 0 where
  pub windows : windows_in t ≡ ws
  pub zones : zones_in t ≡ zones_in s
  pub long : length t ≡ length s

abbrev pub WindowsWritten : Type 0
WindowsWritten = (s : List ℕ) (ws : List Window) → table_size ≤ length s → length ws ≤ 16 → WindowsFit ws → WindowsLeft s (with_windows s ws) ws

-- ## A table follows the model: each call leaves the list store that the model's call leaves, limits and generation included

pub record NewFollows (s : List ℕ) (r : Rules) : Type 0 where
  pub store : store_in (new_table s r) ≡ record { rules = r; lists = empty; generation = 0 }
  pub long : length (new_table s r) ≡ length s

-- `new_follows` in proofs/Follows.antt; so are the others
abbrev pub NewIsNew : Type 0
NewIsNew = (s : List ℕ) (r : Rules) → table_size ≤ length s → allowed r ≡ true → NewFollows s r

-- `time_zone_follows`
abbrev pub TimeZoneFollows : Type 0
TimeZoneFollows =
    (s b : List ℕ) (room : ℕ) → table_size ≤ length s → AreBytes b
    → store_in (time_zone_left s b room) ≡ store_after_sized (store_in s) (record { call = SetTimeZone b; room = room })

-- `dst_offset_follows`
abbrev pub DSTOffsetFollows : Type 0
DSTOffsetFollows =
    (s b : List ℕ) (room : ℕ) → table_size ≤ length s → AreBytes b
    → store_in (dst_offset_left s b room) ≡ store_after_sized (store_in s) (record { call = SetDSTOffset b; room = room })

-- `load_follows`
abbrev pub LoadFollows : Type 0
LoadFollows = (s b : List ℕ) → table_size ≤ length s → AreBytes b → store_in (load_left s b) ≡ store_after (store_in s) (Load (Some b))

-- `reset_follows`
abbrev pub ResetFollows : Type 0
ResetFollows = (s : List ℕ) → table_size ≤ length s → store_in (reset_left s) ≡ store_after (store_in s) FactoryReset

-- a table stays as long as it is: `lengths_stay`
pub record LengthsStay (s b : List ℕ) (room : ℕ) : Type 0 where
  pub time_zone : length (time_zone_left s b room) ≡ length s
  pub dst_offset : length (dst_offset_left s b room) ≡ length s
  pub load : length (load_left s b) ≡ length s
  pub reset : length (reset_left s) ≡ length s
