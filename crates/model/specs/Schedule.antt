-- The schedule program: the text that it prints for what it reads.
use Rattle.std.specs.Prelude.{Bool, true, false, ◌||◌, cond, List, [], ◌∷◌, ◌++◌, ℕ, zero, suc, ◌+◌, ◌/◌, ◌%◌, ltb, ℤ, pos, negsuc, length, take, drop, Option, None, Some}
use Rattle.model.specs.Lists.{Lists}
use Rattle.model.specs.Rules.{largest}
use Rattle.model.specs.Bytes.{number, all_bytes, read_record}
use Rattle.model.specs.Lookups.{active_zone, active_offset, usable}
use Rattle.model.specs.Walk.{Walk, walk}
use Rattle.model.specs.History.{record_verdict, if_accepted}

-- ## Words, in ASCII

-- "moment zone dst usable" and a new line
abbrev pub header : List ℕ
header =
    109 ∷ 111 ∷ 109 ∷ 101 ∷ 110 ∷ 116 ∷ 32 ∷ 122 ∷ 111 ∷ 110 ∷ 101 ∷ 32 ∷ 100 ∷ 115 ∷ 116 ∷ 32 ∷ 117 ∷ 115 ∷ 97 ∷ 98 ∷ 108 ∷ 101 ∷ 10 ∷ []

-- "refused 7" and a new line
abbrev pub refused7 : List ℕ
refused7 = 114 ∷ 101 ∷ 102 ∷ 117 ∷ 115 ∷ 101 ∷ 100 ∷ 32 ∷ 55 ∷ 10 ∷ []

-- "steps " before their number
abbrev pub steps_word : List ℕ
steps_word = 115 ∷ 116 ∷ 101 ∷ 112 ∷ 115 ∷ 32 ∷ []

abbrev pub yes_or_no : Bool → List ℕ
yes_or_no true = 121 ∷ 101 ∷ 115 ∷ []
yes_or_no false = 110 ∷ 111 ∷ []

abbrev pub space : List ℕ
space = 32 ∷ []

abbrev pub new_line : List ℕ
new_line = 10 ∷ []

-- ## Numbers, in decimal

-- at most so many digits
unfoldable pub digits : ℕ → ℕ → List ℕ
digits zero n = []
digits (suc more) n = cond (ltb n 10) ((48 + n) ∷ []) (digits more (n / 10) ++ ((48 + n % 10) ∷ []))

-- a 64-bit number has at most 20
unfoldable pub decimal : ℕ → List ℕ
decimal n = digits 20 n

-- with `-` before a negative one; `negsuc n` is −(n + 1)
abbrev pub signed_decimal : ℤ → List ℕ
signed_decimal (pos n) = decimal n
signed_decimal (negsuc n) = 45 ∷ decimal (suc n)

-- the active window's offset; `-` where there is none
abbrev pub offset_or_dash : Option ℤ → List ℕ
offset_or_dash None = 45 ∷ []
offset_or_dash (Some o) = signed_decimal o

-- ## The text

-- a line: the moment, the zone's offset, the active window's offset or `-`, and whether a window is usable
unfoldable pub line : Lists → ℕ → List ℕ
line l m =
    decimal m ++ (space ++ (signed_decimal (active_zone l m).offset ++ (space ++ (offset_or_dash (active_offset l m) ++ (space ++ (yes_or_no (usable l m) ++ new_line))))))

-- the header, a line for each walked moment, and the steps
abbrev pub walk_text : Lists → Walk → List ℕ
walk_text l w = header ++ (all_bytes (line l) w.moments ++ (steps_word ++ (decimal w.steps ++ new_line)))

-- a record that cannot be loaded at the largest limits is refused with 7
abbrev pub record_text : Option Lists → ℕ → List ℕ
record_text None m = refused7
record_text (Some l) m = if_accepted (record_verdict largest (Some l)) (walk_text l (walk l m)) refused7

-- a moment in 8 bytes and a record; input of fewer than 8 or more than 970 bytes is refused with 7 too
unfoldable pub schedule : List ℕ → List ℕ
schedule input =
    cond (ltb (length input) 8 || ltb 970 (length input)) refused7 (record_text (read_record (drop 8 input)) (number (take 8 input)))
