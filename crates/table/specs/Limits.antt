-- The limits of a list store as the code holds them.
use Rattle.std.specs.Prelude.{cond, Option, None, Some}
use Rattle.model.specs.Rules.{Rules, allowed}
use Rattle.table.specs.declared.Limits.{Limits}

-- field by field
abbrev pub rules_of : Limits → Rules
rules_of l = record { zone_limit = l.zones; window_limit = l.windows }

-- where a store can have them
abbrev pub limits_of : Rules → Option Limits
limits_of r = cond (allowed r) (Some (record { zones = r.zone_limit; windows = r.window_limit })) None
