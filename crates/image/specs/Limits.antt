-- The limits of a list store that an image may have.
use Rattle.std.specs.Prelude.{ℕ, Option, None, Some}
use Rattle.table.specs.declared.Limits.{Limits}

-- the limits that are asked for, zeros where there is to be no list store
abbrev pub zones_of : Option Limits → ℕ
zones_of None = 0
zones_of (Some l) = l.zones

abbrev pub windows_of : Option Limits → ℕ
windows_of None = 0
windows_of (Some l) = l.windows
