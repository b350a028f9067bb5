-- The handler, `TimeSyncHandler`: commands and readings of a device that has a clock and maybe a list store.
use Rattle.std.specs.Prelude.{Bool, true, false, List, [], ◌∷◌, ◌++◌, ℕ, zero, suc, ℤ, length, Option, None, Some, is_some}
use Rattle.model.specs.declared.TimeGranularity.{TimeGranularity}
use Rattle.model.specs.declared.TimeSource.{TimeSource}
use Rattle.model.specs.declared.TimeSource.TheVariants.{Admin}
use Rattle.model.specs.declared.Refusal.TheVariants.{Unreadable, ConstraintError, InvalidCommand, CommandNotFound, AttributeNotFound}
use Rattle.model.specs.Numbers.{granularity_of, source_of}
use Rattle.model.specs.Basics.{when}
use Rattle.model.specs.Lists.{Zone, Window, Lists}
use Rattle.model.specs.Answers.{Answer, refused, answers, done, TrustedSource, wake_timer, wake_client, Result, unchanged}
use Rattle.model.specs.Lookups as L
use Rattle.model.specs.Walk.{Walk, walk}
use Rattle.model.specs.Clock as C
use Rattle.model.specs.Clock.{Clock}
use Rattle.model.specs.Store as T
use Rattle.model.specs.Store.{Store}
use Rattle.model.specs.LocalTime.{local_time}

pub record Device : Type 0 where
  pub clock : Clock
  -- none: no list store
  pub store : Option Store

module _ {A : Type 0} where
  -- the device with what a call makes of its clock, or of its store
  abbrev pub of_clock : Device → Result Clock A → Result Device A
  of_clock d r = record { state = record { clock = r.state; store = d.store }; answer = r.answer; effects = r.effects }

  abbrev pub of_store : Device → Result Store A → Result Device A
  of_store d r = record { state = record { clock = d.clock; store = Some r.state }; answer = r.answer; effects = r.effects }

abbrev pub stored_record : Option Store → List ℕ
stored_record None = []
stored_record (Some s) = T.record_of s

-- the record of the lists as they now are; without a list store there is none
abbrev pub record_of : Device → List ℕ
record_of d = stored_record d.store

-- ## SetUTCTime

-- the request may leave the time source out; a number above 16 is unreadable, any other is ignored
abbrev pub source_readable : Option ℕ → Bool
source_readable None = true
source_readable (Some n) = is_some (source_of n)

-- `set_utc_time` with source Admin, which stores nothing; then the timer is woken where there is a list store, changed or not
abbrev pub utc_time_set : Device → ℕ → TimeGranularity → ℕ → Result Device (Unit {0})
utc_time_set d utc g tick =
    record {
      state = record { clock = (C.set_utc_time d.clock utc g Admin tick).state; store = d.store };
      answer = done;
      effects = (C.set_utc_time d.clock utc g Admin tick).effects ++ when (is_some d.store) wake_timer;
    }

abbrev pub utc_time_asked : Device → ℕ → Option TimeGranularity → Bool → ℕ → Result Device (Unit {0})
utc_time_asked d utc None source_reads tick = unchanged d Unreadable
utc_time_asked d utc (Some g) false tick = unchanged d Unreadable
utc_time_asked d utc (Some g) true tick = utc_time_set d utc g tick

-- a moment, the number of a granularity, maybe the number of a time source, and the tick
unfoldable pub set_utc_time_command : Device → ℕ → ℕ → Option ℕ → ℕ → Result Device (Unit {0})
set_utc_time_command d utc granularity source tick = utc_time_asked d utc (granularity_of granularity) (source_readable source) tick

-- ## SetTrustedTimeSource

-- the node and endpoint that a request names
pub record Named : Type 0 where
  pub node : ℕ
  pub endpoint : ℕ

-- a source belongs to the fabric that sends the command
abbrev pub source_of_fabric : ℕ → Option Named → Option TrustedSource
source_of_fabric fabric None = None
source_of_fabric fabric (Some n) = Some (record { fabric = fabric; node = n.node; endpoint = n.endpoint })

-- fabric index 0 is an invalid command, null or not; else the client is woken last, even where the source is equal
unfoldable pub set_trusted_time_source : Device → ℕ → Option Named → Result Device (Unit {0})
set_trusted_time_source d zero named = unchanged d InvalidCommand
set_trusted_time_source d (suc f) named =
    record {
      state = record { clock = (C.set_trusted_time_source_persist d.clock (source_of_fabric (suc f) named)).state; store = d.store };
      answer = done;
      effects = (C.set_trusted_time_source_persist d.clock (source_of_fabric (suc f) named)).effects ++ (wake_client ∷ []);
    }

-- ## The list commands: with no list store CommandNotFound, before the request is read

module _ {A : Type 0} where
  abbrev pub command : Device → Option Store → (Store → Result Store A) → Result Device A
  command d None call = unchanged d CommandNotFound
  command d (Some s) call = of_store d (call s)

unfoldable pub set_time_zone : Device → List ℕ → Result Device Bool
set_time_zone d bytes = command d d.store (λ s. T.set_time_zone s bytes)

unfoldable pub set_dst_offset : Device → List ℕ → Result Device (Unit {0})
set_dst_offset d bytes = command d d.store (λ s. T.set_dst_offset s bytes)

-- ## Startup load and factory reset (`lifecycle`): with no list store there is nothing to do, and no record is read

abbrev pub lifecycle : Device → Option Store → (Store → Result Store (Unit {0})) → Result Device (Unit {0})
lifecycle d None call = record { state = d; answer = done; effects = [] }
lifecycle d (Some s) call = of_store d (call s)

unfoldable pub load_lists : Device → Option (List ℕ) → Result Device (Unit {0})
load_lists d stored = lifecycle d d.store (λ s. T.load s stored)

unfoldable pub reset_lists : Device → Result Device (Unit {0})
reset_lists d = lifecycle d d.store (λ s. T.factory_reset s)

-- the clock's own load and reset, with the build moment
unfoldable pub load_clock : ℕ → Device → Option ℕ → Option TrustedSource → Result Device (Unit {0})
load_clock build d moment source = of_clock d (C.load build d.clock moment source)

unfoldable pub reset_clock : ℕ → Device → Result Device (Unit {0})
reset_clock build d = of_clock d (C.reset_persist build)

-- ## Readings of the clock: no list store is needed

-- UTCTime: null on an unreliable clock
abbrev pub read_utc_time : Device → ℕ → Option ℕ
read_utc_time d tick = C.reliable_moment (C.reading d.clock tick)

abbrev pub read_granularity : Device → TimeGranularity
read_granularity d = C.granularity_read d.clock

abbrev pub read_time_source : Device → TimeSource
read_time_source d = C.source_read d.clock

abbrev pub read_trusted_time_source : Device → Option TrustedSource
read_trusted_time_source d = d.clock.trusted

abbrev pub lists_of : Option Store → Option Lists
lists_of None = None
lists_of (Some s) = Some s.lists

abbrev pub read_local_time : Device → ℕ → Answer (Option ℕ)
read_local_time d tick = local_time (C.reading d.clock tick) (lists_of d.store)

-- ## Readings of the lists: with no list store AttributeNotFound

module _ {A : Type 0} where
  abbrev pub of_lists : Option Store → (Store → Answer A) → Answer A
  of_lists None read = refused AttributeNotFound
  of_lists (Some s) read = read s

  -- an index at or past the listed length is a constraint error
  abbrev pub entry_of : Option A → Answer A
  entry_of None = refused ConstraintError
  entry_of (Some a) = answers a

-- TimeZone: how many zones are listed, and one by its index
unfoldable pub zones_listed : Device → Answer ℕ
zones_listed d = of_lists d.store (λ s. answers (length (L.listed s.lists.zones)))

unfoldable pub zone_at : Device → ℕ → Answer Zone
zone_at d index = of_lists d.store (λ s. entry_of (L.zone_at s.lists index))

-- DSTOffset: how many windows are listed, and one by its index
unfoldable pub windows_listed : Device → Answer ℕ
windows_listed d = of_lists d.store (λ s. answers (length s.lists.windows))

unfoldable pub window_at : Device → ℕ → Answer Window
window_at d index = of_lists d.store (λ s. entry_of (L.window_at s.lists index))

-- TimeZoneListMaxSize and DSTOffsetListMaxSize: the limits
unfoldable pub zone_limit_read : Device → Answer ℕ
zone_limit_read d = of_lists d.store (λ s. answers s.rules.zone_limit)

unfoldable pub window_limit_read : Device → Answer ℕ
window_limit_read d = of_lists d.store (λ s. answers s.rules.window_limit)

-- TimeZoneDatabase: None, Matter's number 2
unfoldable pub database_read : Device → Answer ℕ
database_read d = of_lists d.store (λ s. answers 2)

-- ## Lookups and the walk, at a moment

unfoldable pub active_zone : Device → ℕ → Answer L.ZoneNow
active_zone d now = of_lists d.store (λ s. answers (L.active_zone s.lists now))

unfoldable pub active_offset : Device → ℕ → Answer (Option ℤ)
active_offset d now = of_lists d.store (λ s. answers (L.active_offset s.lists now))

unfoldable pub usable : Device → ℕ → Answer Bool
usable d now = of_lists d.store (λ s. answers (L.usable s.lists now))

unfoldable pub table_empty : Device → Answer Bool
table_empty d = of_lists d.store (λ s. answers (L.table_empty s.lists))

unfoldable pub next_transition : Device → ℕ → Answer (Option ℕ)
next_transition d now = of_lists d.store (λ s. answers (L.next_transition s.lists now))

unfoldable pub walk_read : Device → ℕ → Answer Walk
walk_read d start = of_lists d.store (λ s. answers (walk s.lists start))

unfoldable pub generation_read : Device → Answer ℕ
generation_read d = of_lists d.store (λ s. answers s.generation)

-- the record to store, by its bytes
unfoldable pub record_read : Device → Answer (List ℕ)
record_read d = of_lists d.store (λ s. answers (T.record_of s))
