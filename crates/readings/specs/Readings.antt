-- What is read of the device that an image stands for; a buffer that is not an image is refused with BadLimits.
use Rattle.std.specs.Prelude.{Bool, List, ℕ, ℤ, Option}
use Rattle.model.specs.Numbers.{granularity_number, source_number}
use Rattle.model.specs.Lists.{Name, Zone, Window}
use Rattle.model.specs.Answers.{Answer, answers, TrustedSource}
use Rattle.model.specs.Lookups.{ZoneNow}
use Rattle.model.specs.Walk.{Walk}
use Rattle.model.specs.Clock as C
use Rattle.model.specs.Clock.{Reading, reliable, last_known}
use Rattle.model.specs.Output.{moments_bytes, roomy, name_or}
use Rattle.model.specs.Handler as H
use Rattle.image.specs.Parts.{device_in}
use Rattle.image.specs.Asked.{asked}

-- ## The clock

-- the current UTC time, or the last known one
abbrev pub utc_time : List ℕ → ℕ → Answer Reading
utc_time s tick = asked s (answers (C.reading (device_in s).clock tick))

abbrev pub reliable_mark : Reading → ℕ
reliable_mark (reliable moment) = 1
reliable_mark (last_known moment) = 0

abbrev pub moment_of : Reading → ℕ
moment_of (reliable moment) = moment
moment_of (last_known moment) = moment

abbrev pub granularity : List ℕ → Answer ℕ
granularity s = asked s (answers (granularity_number (H.read_granularity (device_in s))))

abbrev pub time_source : List ℕ → Answer ℕ
time_source s = asked s (answers (source_number (H.read_time_source (device_in s))))

abbrev pub trusted_time_source : List ℕ → Answer (Option TrustedSource)
trusted_time_source s = asked s (answers (H.read_trusted_time_source (device_in s)))

-- null, or a moment
abbrev pub local_time : List ℕ → ℕ → Answer (Option ℕ)
local_time s tick = asked s (H.read_local_time (device_in s) tick)

-- ## Numbers of the list store

abbrev pub zones_listed : List ℕ → Answer ℕ
zones_listed s = asked s (H.zones_listed (device_in s))

abbrev pub windows_listed : List ℕ → Answer ℕ
windows_listed s = asked s (H.windows_listed (device_in s))

abbrev pub zone_limit : List ℕ → Answer ℕ
zone_limit s = asked s (H.zone_limit_read (device_in s))

abbrev pub window_limit : List ℕ → Answer ℕ
window_limit s = asked s (H.window_limit_read (device_in s))

abbrev pub database : List ℕ → Answer ℕ
database s = asked s (H.database_read (device_in s))

abbrev pub generation : List ℕ → Answer ℕ
generation s = asked s (H.generation_read (device_in s))

-- ## Entries

-- a zone, whose name is copied
abbrev pub zone_name : Zone → Name
zone_name z = name_or z.name

abbrev pub zone_entry : List ℕ → ℕ → ℕ → Answer Zone
zone_entry s index room = roomy room zone_name (asked s (H.zone_at (device_in s) index))

abbrev pub window_entry : List ℕ → ℕ → Answer Window
window_entry s index = asked s (H.window_at (device_in s) index)

-- ## Lookups, the walk and the record

abbrev pub now_name : ZoneNow → Name
now_name z = name_or z.name

abbrev pub active_zone : List ℕ → ℕ → ℕ → Answer ZoneNow
active_zone s now room = roomy room now_name (asked s (H.active_zone (device_in s) now))

abbrev pub active_offset : List ℕ → ℕ → Answer (Option ℤ)
active_offset s now = asked s (H.active_offset (device_in s) now)

abbrev pub usable : List ℕ → ℕ → Answer Bool
usable s now = asked s (H.usable (device_in s) now)

abbrev pub table_empty : List ℕ → Answer Bool
table_empty s = asked s (H.table_empty (device_in s))

abbrev pub next_transition : List ℕ → ℕ → Answer (Option ℕ)
next_transition s now = asked s (H.next_transition (device_in s) now)

-- the walked moments, 8 bytes each, the starting moment first
abbrev pub walk_bytes : Walk → List ℕ
walk_bytes w = moments_bytes w.moments

abbrev pub walked : List ℕ → ℕ → ℕ → Answer Walk
walked s start room = roomy room walk_bytes (asked s (H.walk_read (device_in s) start))

-- the record to store, by its bytes
abbrev pub record_bytes : List ℕ → List ℕ
record_bytes bytes = bytes

abbrev pub record_read : List ℕ → ℕ → Answer (List ℕ)
record_read s room = roomy room record_bytes (asked s (H.record_read (device_in s)))
