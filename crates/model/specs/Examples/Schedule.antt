-- The schedule program's text: a whole example, refusals by length, and the largest numbers.
use Rattle.std.specs.Prelude.{[], ◌∷◌, ◌++◌, ◌≡◌, refl, pos, neg_ℤ, replicate}
use Rattle.model.specs.Basics.{top, keep, any, first, last, least_of, smallest}
use Rattle.model.specs.Rules.{demand, and_then, test_from, zone_rule, window_rule, test_zones, test_windows}
use Rattle.model.specs.Bytes.{bytes, number, bits_of, signed, all_bytes, zones_bytes, windows_bytes, record_bytes, take_bytes, read_name, read_until, read_entry, read_all, read_record}
use Rattle.model.specs.Lookups.{active_zone, active_window, active_offset, usable, zone_starts, window_bounds, next_transition}
use Rattle.model.specs.Walk.{walk_from, walk}
use Rattle.model.specs.Schedule.{header, refused7, steps_word, digits, decimal, signed_decimal, line, schedule}
use Rattle.model.specs.Examples.Lookups.{school}
use Rattle.model.specs.Examples.Cases.{Gives, ◌gives◌}

-- "500 3600 - yes", "1000 3600 3600 yes", "2000 7200 - no", "steps 2"
example : schedule (bytes 8 500 ++ record_bytes school)
    ≡ header
    ++ ((53 ∷ 48 ∷ 48 ∷ 32 ∷ 51 ∷ 54 ∷ 48 ∷ 48 ∷ 32 ∷ 45 ∷ 32 ∷ 121 ∷ 101 ∷ 115 ∷ 10 ∷ [])
    ++ ((49 ∷ 48 ∷ 48 ∷ 48 ∷ 32 ∷ 51 ∷ 54 ∷ 48 ∷ 48 ∷ 32 ∷ 51 ∷ 54 ∷ 48 ∷ 48 ∷ 32 ∷ 121 ∷ 101 ∷ 115 ∷ 10 ∷ [])
    ++ ((50 ∷ 48 ∷ 48 ∷ 48 ∷ 32 ∷ 55 ∷ 50 ∷ 48 ∷ 48 ∷ 32 ∷ 45 ∷ 32 ∷ 110 ∷ 111 ∷ 10 ∷ []) ++ (steps_word ++ (50 ∷ 10 ∷ [])))))
unfolding schedule line digits decimal bytes number bits_of signed record_bytes zones_bytes windows_bytes all_bytes read_record read_all read_entry take_bytes read_name read_until demand and_then test_from zone_rule window_rule test_zones test_windows walk walk_from next_transition active_zone active_offset active_window usable zone_starts window_bounds keep any first last least_of smallest
example = refl

-- empty lists at the top: one line and no step
at_top : schedule (replicate 8 255 ++ (0 ∷ 0 ∷ []))
    ≡ header ++ (decimal top ++ ((32 ∷ 48 ∷ 32 ∷ 45 ∷ 32 ∷ 110 ∷ 111 ∷ 10 ∷ []) ++ (steps_word ++ (48 ∷ 10 ∷ []))))
unfolding schedule line digits decimal number all_bytes read_record read_all and_then test_from test_zones test_windows walk walk_from active_zone active_offset active_window usable zone_starts window_bounds keep any first last
at_top = refl

-- no input, one byte short of a moment, a moment with no record, and one byte too many
refusals : Gives schedule ([] gives refused7 ∷ replicate 7 0 gives refused7 ∷ replicate 8 0 gives refused7 ∷ replicate 971 0 gives refused7 ∷ [])
unfolding schedule read_record
refusals = refl

-- 0, the top, and both ends of an offset
numbers : Gives decimal
    (0 gives (48 ∷ []) ∷ 10 gives (49 ∷ 48 ∷ [])
    ∷ top gives (49 ∷ 56 ∷ 52 ∷ 52 ∷ 54 ∷ 55 ∷ 52 ∷ 52 ∷ 48 ∷ 55 ∷ 51 ∷ 55 ∷ 48 ∷ 57 ∷ 53 ∷ 53 ∷ 49 ∷ 54 ∷ 49 ∷ 53 ∷ []) ∷ [])
unfolding decimal digits
numbers = refl

signed_numbers : Gives signed_decimal
    (pos 0 gives (48 ∷ []) ∷ neg_ℤ (pos 1) gives (45 ∷ 49 ∷ [])
    ∷ neg_ℤ (pos 2147483648) gives (45 ∷ 50 ∷ 49 ∷ 52 ∷ 55 ∷ 52 ∷ 56 ∷ 51 ∷ 54 ∷ 52 ∷ 56 ∷ []) ∷ [])
unfolding decimal digits
signed_numbers = refl
