-- Calls as bytes: a kind byte, for kinds 0 to 2 a length in 4 bytes and so many bytes, and the next call.
use Rattle.std.specs.Prelude.{cond, List, [], ◌∷◌, ℕ, zero, suc, ltb, length, Option, None, Some}
use Rattle.model.specs.Bytes.{Front, then, take_bytes, byte, number}
use Rattle.model.specs.History.{Call, SetTimeZone, SetDSTOffset, Load, FactoryReset}

-- ## One call

-- a length in 4 bytes, and so many bytes
unfoldable pub read_sized : List ℕ → Front (List ℕ)
read_sized s = then (take_bytes 4 s) (λ n s₁. take_bytes (number n) s₁)

-- by its kind the bytes of a call's argument: kinds 3 and 4 have none, and a kind above 4 is no call
unfoldable pub read_argument : ℕ → List ℕ → Front (List ℕ)
read_argument kind s = cond (ltb kind 3) (read_sized s) (cond (ltb kind 5) (Some ([], s)) None)

-- the call of a kind up to 4 with the bytes of its argument
unfoldable pub call_with : ℕ → List ℕ → Call
call_with zero b = SetTimeZone b
call_with (suc zero) b = SetDSTOffset b
call_with (suc (suc zero)) b = Load (Some b)
call_with (suc (suc (suc zero))) b = Load None
call_with (suc (suc (suc (suc kind)))) b = FactoryReset

unfoldable pub read_call : List ℕ → Front Call
read_call s = then (byte s) (λ kind s₁. then (read_argument kind s₁) (λ b s₂. Some (call_with kind b, s₂)))

-- ## Calls one after the other

-- a call before others that are readable
abbrev pub followed : Call → Option (List Call) → Option (List Call)
followed c None = None
followed c (Some cs) = Some (c ∷ cs)

-- a call, and what the bytes that it leaves read as
abbrev pub and_on : Front Call → (List ℕ → Option (List Call)) → Option (List Call)
and_on None rest = None
and_on (Some f) rest = followed f.0 (rest f.1)

-- at most so many calls, and nothing left over
unfoldable pub read_calls_by : ℕ → List ℕ → Option (List Call)
read_calls_by zero [] = Some []
read_calls_by zero (b ∷ s) = None
read_calls_by (suc n) [] = Some []
read_calls_by (suc n) (b ∷ s) = and_on (read_call (b ∷ s)) (λ s₁. read_calls_by n s₁)

-- the calls of a history: each takes a byte or more, so there are at most as many as bytes
unfoldable pub read_calls : List ℕ → Option (List Call)
read_calls s = read_calls_by (length s) s
