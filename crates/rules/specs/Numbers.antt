-- The rules on the numbers of an entry and of the one before it.
use Rattle.std.specs.Prelude.{Bool, true, false, ◌&&◌, ℕ, leb, ltb, eqb, Option, None, Some}
use Rattle.std.specs.Bool.{beq}
use Rattle.model.specs.Rules.{offset_in_range}
use Rattle.record.specs.declared.NamePlace.{NamePlace}
use Rattle.record.specs.declared.TimeZoneRead.{TimeZoneRead}
use Rattle.record.specs.declared.DSTOffsetRead.{DSTOffsetRead}

-- ## Zones

-- a start is 0 exactly at the first index
abbrev pub zero_at_first : ℕ → ℕ → Bool
zero_at_first index start = beq (eqb index 0) (eqb start 0)

-- a start is above that of the zone before it
abbrev pub above : Option TimeZoneRead → ℕ → Bool
above None start = true
above (Some before) start = ltb before.valid_at start

-- a name is at most 64 bytes long
abbrev pub length_fits : Option NamePlace → Bool
length_fits None = true
length_fits (Some place) = leb place.len 64

-- a zone keeps the rule: by its index and the zone before it
abbrev pub zone_passes : ℕ → Option TimeZoneRead → TimeZoneRead → Bool
zone_passes index before z = zero_at_first index z.valid_at && (above before z.valid_at && (offset_in_range z.offset && length_fits z.name))

-- ## Windows

-- a start may follow a window from `before` to `until`
abbrev pub after_window : ℕ → Option ℕ → ℕ → Bool
after_window before None start = false
after_window before (Some end) start = ltb before start && leb end start

-- a start may follow the window before it
abbrev pub follows : Option DSTOffsetRead → ℕ → Bool
follows None start = true
follows (Some before) start = after_window before.valid_starting before.valid_until start

-- a start is below its own end
abbrev pub below_end : ℕ → Option ℕ → Bool
below_end start None = true
below_end start (Some end) = ltb start end

-- a window keeps the rule: by the window before it
abbrev pub window_passes : Option DSTOffsetRead → DSTOffsetRead → Bool
window_passes before w = follows before w.valid_starting && below_end w.valid_starting w.valid_until
