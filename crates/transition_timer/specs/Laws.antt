-- What holds of a look over a table; the proofs stand in proofs/Same.antt.
use Rattle.std.specs.Prelude.{List, ◌≡◌, ℕ, Option, unwrap_or, option_map, IfSome}
use Rattle.transition_timer.specs.declared.Seen.{Seen}
use Rattle.model.specs.Timer as T
use Rattle.rtc.specs.declared.UtcTime.{UtcTime}
use Rattle.rtc.specs.Meaning.{reading_of}
use Rattle.table.specs.Layout.{lists_in}
use Rattle.lookups.specs.Laws.{EndsInside}
use Rattle.transition_timer.specs.Meaning.{timer_of, look_of, look_by}

-- `same_look`: a look over a table is the timer's look at its lists; with no table names may be read in any, none is told
abbrev pub SameLook : Type 0
SameLook =
    (last : Option Seen) (table : Option (List ℕ)) (t : List ℕ) (reading : UtcTime)
    → look_of (unwrap_or table t) (look_by last table reading) ≡ T.look (timer_of last) (option_map lists_in table) (reading_of reading)

-- `name_told_in_place`: the name that a look tells stands inside the table
abbrev pub NameToldInPlace : Type 0
NameToldInPlace = (last : Option Seen) (table : Option (List ℕ)) (reading : UtcTime) → IfSome (look_by last table reading).zone_status EndsInside
