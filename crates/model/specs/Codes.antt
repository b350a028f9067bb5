-- The codes of effects, and what a call returns: its number and the codes of its effects in one 64-bit number.
use Rattle.std.specs.Prelude.{List, ◌∷◌, map, ℕ, ◌+◌}
use Rattle.model.specs.Bytes.{number}
use Rattle.model.specs.Answers.{attribute_number, event_number, Effect, report, emit, wake_timer, wake_client, store_record, remove_record, store_moment, remove_moment, store_source, remove_source}

-- the code of an effect, one byte and never 0: 0x10 and the attribute's number, 0x20 and the event's, and one for each of the others
abbrev pub effect_code : Effect → ℕ
effect_code (report a) = 0x10 + attribute_number a
effect_code (emit e) = 0x20 + event_number e
effect_code wake_timer = 0x30
effect_code wake_client = 0x31
effect_code store_record = 0x40
effect_code remove_record = 0x41
effect_code (store_moment moment) = 0x42
effect_code remove_moment = 0x43
effect_code (store_source source) = 0x44
effect_code remove_source = 0x45

-- the number of the answer in the lowest byte, then a byte for each effect, the first lowest
unfoldable pub returned : ℕ → List Effect → ℕ
returned answer effects = number (answer ∷ map effect_code effects)
