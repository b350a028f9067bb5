-- A text by value.
use Rattle.std.specs.Prelude.{List, ◌++◌, ℕ, ◌-◌, length, replicate}
use Rattle.schedule_text.specs.declared.Text.{Text}

-- 2,879 bytes, the text's and then zeros
unfoldable pub text_of : List ℕ → Text
text_of l = record { bytes = l ++ replicate (2879 - length l) 0; length = length l }
