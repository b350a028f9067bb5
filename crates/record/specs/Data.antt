-- What a reader's answer says of a zone.
use Rattle.std.specs.Prelude.{List, ℕ, ℤ, take, drop, Option, option_map}
use Rattle.model.specs.Lists.{Name, Zone}
use Rattle.record.specs.declared.NamePlace.{NamePlace}

-- where a name stands, its bytes
abbrev pub name_read : List ℕ → Option NamePlace → Option Name
name_read s n = option_map (λ p. take p.len (drop p.at s)) n

-- a zone whose name stands in `s`
abbrev pub zone_named : List ℕ → ℤ → ℕ → Option NamePlace → Zone
zone_named s o t n = record { offset = o; start = t; name = name_read s n }
