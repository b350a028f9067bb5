-- The handler's refusals, in their order, and what its commands ask for.
use Rattle.std.specs.Prelude.{true, false, [], ◌∷◌, ◌++◌, ◌≡◌, refl, pos, Option, None, Some}
use Rattle.model.specs.declared.TimeGranularity.TheVariants.{NoTime, Milliseconds}
use Rattle.model.specs.declared.TimeSource.TheVariants.{None, Admin}
use Rattle.model.specs.declared.Refusal.TheVariants.{Unreadable, ConstraintError, InvalidCommand, AttributeNotFound}
use Rattle.model.specs.Numbers.{granularity_of, source_of}
use Rattle.model.specs.Basics.{keep, any, first, last, least_of, smallest}
use Rattle.model.specs.Lists.{empty}
use Rattle.model.specs.Answers.{refused, answers, done, number_of, report, emit, wake_timer, wake_client, store_source, remove_source, TrustedTimeSource, MissingTrustedTimeSource}
use Rattle.model.specs.Rules.{device}
use Rattle.model.specs.Bytes.{all_bytes, zones_bytes, windows_bytes, record_bytes}
use Rattle.model.specs.Lookups as L
use Rattle.model.specs.Walk.{walk_from, walk}
use Rattle.model.specs.Clock as C
use Rattle.model.specs.Clock.{fresh, utc_reports}
use Rattle.model.specs.Store as T
use Rattle.model.specs.LocalTime.{combined_offset, shown, local_time}
use Rattle.model.specs.Handler.{Device, Named, set_utc_time_command, set_trusted_time_source, set_time_zone, load_lists, reset_lists, zones_listed, zone_at, windows_listed, window_at, zone_limit_read, window_limit_read, database_read, active_zone, active_offset, usable, table_empty, next_transition, walk_read, generation_read, record_read, read_utc_time, read_granularity, read_time_source, read_trusted_time_source, read_local_time}
use Rattle.model.specs.Table.{zone}
use Rattle.model.specs.Examples.Lookups.{named}
use Rattle.model.specs.Examples.Cases.{Gives, ◌gives◌}

-- a device with no list store, and one with empty lists
abbrev bare : Device
bare = record { clock = fresh 1000; store = None }

abbrev listing : Device
listing = record { clock = fresh 1000; store = Some (record { rules = device; lists = empty; generation = 0 }) }

-- ## No list store: commands before their bytes are read, readings, and nothing to load or reset

commands : Gives (λ bytes. number_of (set_time_zone bare bytes).answer) ((0 ∷ []) gives 5 ∷ (9 ∷ []) gives 5 ∷ [] gives 5 ∷ [])
unfolding set_time_zone
commands = refl

readings : Gives (λ index. number_of (zone_at bare index)) (0 gives 6 ∷ 1 gives 6 ∷ [])
unfolding zone_at
readings = refl

load_ignored : load_lists bare (Some (9 ∷ [])) ≡ record { state = bare; answer = done; effects = [] }
unfolding load_lists
load_ignored = refl

reset_ignored : reset_lists bare ≡ record { state = bare; answer = done; effects = [] }
unfolding reset_lists
reset_ignored = refl

-- ## Listing

zones : Gives (zone_at listing) (0 gives answers (zone (pos 0) 0) ∷ 1 gives refused ConstraintError ∷ 65536 gives refused ConstraintError ∷ [])
unfolding zone_at L.zone_at
zones = refl

windows : Gives (window_at listing) (0 gives refused ConstraintError ∷ [])
unfolding window_at L.window_at
windows = refl

-- the sizes at limits that differ: each is its own list's limit
abbrev uneven : Device
uneven = record { clock = fresh 1000; store = Some (record { rules = record { zone_limit = 3; window_limit = 7 }; lists = named; generation = 5 }) }

zone_limits : Gives zone_limit_read (bare gives refused AttributeNotFound ∷ listing gives answers 2 ∷ uneven gives answers 3 ∷ [])
unfolding zone_limit_read
zone_limits = refl

window_limits : Gives window_limit_read (bare gives refused AttributeNotFound ∷ listing gives answers 2 ∷ uneven gives answers 7 ∷ [])
unfolding window_limit_read
window_limits = refl

-- how many are listed: an empty list of zones shows one zone, and an empty list of windows none
zone_counts : Gives zones_listed (bare gives refused AttributeNotFound ∷ listing gives answers 1 ∷ uneven gives answers 3 ∷ [])
unfolding zones_listed
zone_counts = refl

window_counts : Gives windows_listed (bare gives refused AttributeNotFound ∷ listing gives answers 0 ∷ uneven gives answers 1 ∷ [])
unfolding windows_listed
window_counts = refl

-- the active zone with its name
active_zone_lem : Gives (active_zone uneven) (0 gives answers (record { offset = pos 60; name = None }) ∷ 20 gives answers (record { offset = pos 180; name = Some (67 ∷ 69 ∷ 84 ∷ []) }) ∷ [])
unfolding active_zone L.active_zone keep last
active_zone_lem = refl

database : Gives database_read (bare gives refused AttributeNotFound ∷ listing gives answers 2 ∷ [])
unfolding database_read
database = refl

-- ## Lookups on the device's own lists: active, usable, empty, next transition, walk, generation, record

active_offset_lem : Gives (active_offset uneven) (999 gives answers None ∷ 1000 gives answers (Some (pos 3600)) ∷ 2000 gives answers None ∷ [])
unfolding active_offset L.active_offset L.active_window keep first
active_offset_lem = refl

usable_read : Gives (usable uneven) (999 gives answers true ∷ 1999 gives answers true ∷ 2000 gives answers false ∷ [])
unfolding usable L.usable any
usable_read = refl

empty_read : Gives table_empty (bare gives refused AttributeNotFound ∷ listing gives answers true ∷ uneven gives answers false ∷ [])
unfolding table_empty L.table_empty
empty_read = refl

next_read : Gives (next_transition uneven) (0 gives answers (Some 10) ∷ 20 gives answers (Some 1000) ∷ 2000 gives answers None ∷ [])
unfolding next_transition L.next_transition L.zone_starts L.window_bounds keep least_of smallest
next_read = refl

walk_read_lem : walk_read uneven 20 ≡ answers (record { moments = 20 ∷ 1000 ∷ 2000 ∷ []; steps = 2 })
unfolding walk_read walk walk_from L.next_transition L.zone_starts L.window_bounds keep least_of smallest
walk_read_lem = refl

generations : Gives generation_read (bare gives refused AttributeNotFound ∷ listing gives answers 0 ∷ uneven gives answers 5 ∷ [])
unfolding generation_read
generations = refl

record_read_lem : Gives record_read (bare gives refused AttributeNotFound ∷ listing gives answers (0 ∷ 0 ∷ []) ∷ [])
unfolding record_read T.record_of record_bytes zones_bytes windows_bytes all_bytes
record_read_lem = refl

-- ## Readings of the clock, set and not

abbrev running : Device
running = (set_utc_time_command uneven 900 4 None 1).state

utc_read : Gives (λ d. read_utc_time d 51) (bare gives None ∷ running gives Some 950 ∷ [])
unfolding set_utc_time_command granularity_of C.set_utc_time C.changes C.reading
utc_read = refl

granularity_read_lem : Gives read_granularity (bare gives NoTime ∷ running gives Milliseconds ∷ [])
unfolding set_utc_time_command granularity_of C.set_utc_time C.changes C.granularity_read
granularity_read_lem = refl

source_read_lem : Gives read_time_source (bare gives None ∷ running gives Admin ∷ [])
unfolding set_utc_time_command granularity_of C.set_utc_time C.changes C.source_read
source_read_lem = refl

-- LocalTime: null on a clock that is not set, list store or none; before a window, inside it, and run out
local_unset : Gives (λ d. read_local_time d 51) (bare gives answers None ∷ uneven gives answers None ∷ [])
unfolding local_time C.reading
local_unset = refl

local_read : Gives (read_local_time running) (51 gives answers (Some 180000950) ∷ 101 gives answers (Some 3780001000) ∷ 1101 gives answers None ∷ [])
unfolding set_utc_time_command granularity_of C.set_utc_time C.changes C.reading local_time shown combined_offset L.active_zone L.last_active_window L.usable keep last any
local_read = refl

-- ## SetUTCTime

-- granularities 0 to 4 and time sources 0 to 16, or none, are readable
granularities : Gives (λ g. number_of (set_utc_time_command bare 7 g None 1).answer) (0 gives 0 ∷ 4 gives 0 ∷ 5 gives 1 ∷ 255 gives 1 ∷ [])
unfolding set_utc_time_command granularity_of
granularities = refl

sources : Gives (λ s. number_of (set_utc_time_command bare 7 2 s 1).answer) (None gives 0 ∷ Some 0 gives 0 ∷ Some 16 gives 0 ∷ Some 17 gives 1 ∷ Some 255 gives 1 ∷ [])
unfolding set_utc_time_command granularity_of source_of
sources = refl

unreadable : set_utc_time_command listing 7 5 None 1 ≡ record { state = listing; answer = refused Unreadable; effects = [] }
unfolding set_utc_time_command granularity_of
unreadable = refl

-- whatever source was sent, the clock's is Admin
source_is_admin : (set_utc_time_command bare 7 2 (Some 16) 1).state.clock.source ≡ Admin
unfolding set_utc_time_command granularity_of source_of C.set_utc_time C.changes
source_is_admin = refl

-- the timer is woken only where there is a list store; an equal setting reports and wakes as well, and is anchored at its tick
wakes : Gives (λ d. (set_utc_time_command d 7 2 None 1).effects) (bare gives utc_reports ∷ listing gives (utc_reports ++ (wake_timer ∷ [])) ∷ [])
unfolding set_utc_time_command granularity_of C.set_utc_time C.changes
wakes = refl

wakes_again : (set_utc_time_command (set_utc_time_command listing 7 2 None 1).state 7 2 None 9).effects ≡ utc_reports ++ (wake_timer ∷ [])
unfolding set_utc_time_command granularity_of C.set_utc_time C.changes
wakes_again = refl

anchored_again : Gives (λ g. (set_utc_time_command (set_utc_time_command listing 7 2 None 1).state 7 g None 9).state.clock.anchor) (2 gives Some 9 ∷ 0 gives Some 9 ∷ 5 gives Some 1 ∷ [])
unfolding set_utc_time_command granularity_of C.set_utc_time
anchored_again = refl

-- ## SetTrustedTimeSource

abbrev node5 : Option Named
node5 = Some (record { node = 5; endpoint = 0 })

-- fabric 0 is turned down before anything else, also where the source would be cleared
fabric_0 : Gives (set_trusted_time_source bare 0)
    (None gives record { state = bare; answer = refused InvalidCommand; effects = [] } ∷ node5 gives record { state = bare; answer = refused InvalidCommand; effects = [] } ∷ [])
unfolding set_trusted_time_source
fabric_0 = refl

-- a new source is reported and stored; an equal one only wakes the client; clearing one emits an event between report and removal
abbrev sourced : Device
sourced = (set_trusted_time_source bare 1 node5).state

source_set_lem : Gives (λ d. (set_trusted_time_source d 1 node5).effects)
    (bare gives (report TrustedTimeSource ∷ store_source (record { fabric = 1; node = 5; endpoint = 0 }) ∷ wake_client ∷ []) ∷ sourced gives (wake_client ∷ []) ∷ [])
unfolding set_trusted_time_source C.set_trusted_time_source_persist C.set_trusted_time_source
source_set_lem = refl

source_told : Gives read_trusted_time_source (bare gives None ∷ sourced gives Some (record { fabric = 1; node = 5; endpoint = 0 }) ∷ [])
unfolding set_trusted_time_source C.set_trusted_time_source_persist C.set_trusted_time_source
source_told = refl

source_cleared : Gives (λ d. (set_trusted_time_source d 2 None).effects)
    (bare gives (wake_client ∷ []) ∷ sourced gives (report TrustedTimeSource ∷ emit MissingTrustedTimeSource ∷ remove_source ∷ wake_client ∷ []) ∷ [])
unfolding set_trusted_time_source C.set_trusted_time_source_persist C.set_trusted_time_source
source_cleared = refl
