-- Histories, good and damaged.
use Rattle.std.specs.Prelude.{[], ◌∷◌, ◌≡◌, refl, None, Some}
use Rattle.model.specs.Bytes.{take_bytes, number}
use Rattle.model.specs.History.{SetTimeZone, SetDSTOffset, Load, FactoryReset}
use Rattle.history.specs.Calls.{read_sized, read_argument, call_with, read_call, read_calls_by, read_calls}

no_bytes : read_calls [] ≡ Some []
unfolding read_calls read_calls_by
no_bytes = refl

each_kind : read_calls (0 ∷ 2 ∷ 0 ∷ 0 ∷ 0 ∷ 7 ∷ 8 ∷ 4 ∷ 1 ∷ 0 ∷ 0 ∷ 0 ∷ 0 ∷ 3 ∷ 2 ∷ 1 ∷ 0 ∷ 0 ∷ 0 ∷ 9 ∷ [])
    ≡ Some (SetTimeZone (7 ∷ 8 ∷ []) ∷ FactoryReset ∷ SetDSTOffset [] ∷ Load None ∷ Load (Some (9 ∷ [])) ∷ [])
unfolding read_calls read_calls_by read_call read_argument read_sized call_with take_bytes number
each_kind = refl

unknown_kind : read_calls (4 ∷ 5 ∷ []) ≡ None
unfolding read_calls read_calls_by read_call read_argument read_sized call_with take_bytes number
unknown_kind = refl

length_cut : read_calls (0 ∷ 0 ∷ 0 ∷ 0 ∷ []) ≡ None
unfolding read_calls read_calls_by read_call read_argument read_sized call_with take_bytes number
length_cut = refl

argument_cut : read_calls (0 ∷ 2 ∷ 0 ∷ 0 ∷ 0 ∷ 7 ∷ []) ≡ None
unfolding read_calls read_calls_by read_call read_argument read_sized call_with take_bytes number
argument_cut = refl
