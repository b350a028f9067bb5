-- The codes of effects are different, and a returned number gives back what it was made of.
use Rattle.std.proofs.Common.{Some, slice_get, List, [], ◌∷◌, map, ◌≡◌, refl, ap, ◌∙◌, ℕ, zero, suc, ◌+◌, ◌*◌, ◌/◌, ◌%◌, ◌≤◌, ◌<◌, arith, lit<, length, get_or}
use Rattle.model.specs.declared.Refusal.TheVariants as R
use Rattle.model.specs.Numbers.{refusal_of}
use Rattle.model.specs.Bytes.{bytes, number}
use Rattle.model.specs.RoundTrip.{AreBytes}
use Rattle.model.specs.Answers.{Answer, refused, answers, number_of, Attribute, UTCTime, Granularity, TrustedTimeSource, TimeZone, DSTOffset, DSTTableEmpty, DSTStatus, TimeZoneStatus, TimeFailure, MissingTrustedTimeSource, Effect, report, emit, wake_timer, wake_client, store_record, remove_record, store_moment, remove_moment, store_source, remove_source}
use Rattle.model.specs.Codes.{effect_code, returned}
use Rattle.model.specs.CodeLaws.{kind_of, with_code, kind_named, CodesTell, refusal_in, code_in, refusal_of_answer, ReturnedGivesBack}
use Rattle.model.proofs.NumbersBack.{numbers_back}
use Rattle.model.proofs.Words.{number_below}

-- ## One code

-- a code names its kind, and is a byte that is not 0
record Tells (e : Effect) : Type 0 where
  named : kind_named (effect_code e) ≡ Some (kind_of e)
  fits : effect_code e < 256
  not0 : 0 < effect_code e

tells : (e : Effect) → Tells e
unfolding with_code
tells (report UTCTime) = record { named = refl; fits = lit< tt; not0 = lit< tt }
tells (report Granularity) = record { named = refl; fits = lit< tt; not0 = lit< tt }
tells (report Attribute.TimeSource) = record { named = refl; fits = lit< tt; not0 = lit< tt }
tells (report TrustedTimeSource) = record { named = refl; fits = lit< tt; not0 = lit< tt }
tells (report TimeZone) = record { named = refl; fits = lit< tt; not0 = lit< tt }
tells (report DSTOffset) = record { named = refl; fits = lit< tt; not0 = lit< tt }
tells (emit DSTTableEmpty) = record { named = refl; fits = lit< tt; not0 = lit< tt }
tells (emit (DSTStatus active)) = record { named = refl; fits = lit< tt; not0 = lit< tt }
tells (emit (TimeZoneStatus offset name)) = record { named = refl; fits = lit< tt; not0 = lit< tt }
tells (emit TimeFailure) = record { named = refl; fits = lit< tt; not0 = lit< tt }
tells (emit MissingTrustedTimeSource) = record { named = refl; fits = lit< tt; not0 = lit< tt }
tells wake_timer = record { named = refl; fits = lit< tt; not0 = lit< tt }
tells wake_client = record { named = refl; fits = lit< tt; not0 = lit< tt }
tells store_record = record { named = refl; fits = lit< tt; not0 = lit< tt }
tells remove_record = record { named = refl; fits = lit< tt; not0 = lit< tt }
tells (store_moment moment) = record { named = refl; fits = lit< tt; not0 = lit< tt }
tells remove_moment = record { named = refl; fits = lit< tt; not0 = lit< tt }
tells (store_source source) = record { named = refl; fits = lit< tt; not0 = lit< tt }
tells remove_source = record { named = refl; fits = lit< tt; not0 = lit< tt }

different : (a b : Effect) → effect_code a ≡ effect_code b → kind_of a ≡ kind_of b
different a b e =
    let p = (tells a).named in
    let q = (tells b).named in
    let r = ap kind_named e in
    cc

pub codes_tell : CodesTell
codes_tell = record { different = different; fit = λ e. (tells e).fits; never0 = λ e. (tells e).not0 }

-- ## Bytes of a number

-- a byte of the number that bytes spell is the one that stands there
byte_back : (w : ℕ) (xs : List ℕ) → AreBytes xs → length xs ≤ w → (i : ℕ) → get_or (bytes w (number xs)) i 0 ≡ get_or xs i 0
unfolding bytes number
byte_back zero [] h n i = refl
byte_back zero (x ∷ xs) h n i = absurd (omega arith)
byte_back (suc w) [] h n zero = refl
byte_back (suc w) [] h n (suc i) = byte_back w [] tt (omega arith) i
byte_back (suc w) (x ∷ xs) h n zero = let lt = h.0 in omega arith
byte_back (suc w) (x ∷ xs) h n (suc i) =
    let lt = h.0 in
    let e : (x + 256 * number xs) / 256 ≡ number xs = omega arith in
    rw e (byte_back w xs h.1 (omega arith) i)

-- ## The returned number

small : {A : Type 0} (a : Answer A) → number_of a < 256
small (answers a) = lit< tt
small (refused R.Unreadable) = lit< tt
small (refused R.ConstraintError) = lit< tt
small (refused R.ResourceExhausted) = lit< tt
small (refused R.InvalidCommand) = lit< tt
small (refused R.CommandNotFound) = lit< tt
small (refused R.AttributeNotFound) = lit< tt
small (refused R.BadRecord) = lit< tt
small (refused R.BadLimits) = lit< tt
small (refused R.NoSpace) = lit< tt

named_back : {A : Type 0} (a : Answer A) → refusal_of (number_of a) ≡ refusal_of_answer a
unfolding refusal_of
named_back (answers a) = refl
named_back (refused cause) = numbers_back.refusal cause

codes_fit : (es : List Effect) → AreBytes (map effect_code es)
codes_fit [] = tt
codes_fit (e ∷ es) = ((tells e).fits, codes_fit es)

codes_long : (es : List Effect) → length (map effect_code es) ≡ length es
codes_long [] = refl
codes_long (e ∷ es) = ap suc (codes_long es)

kinds_back : (es : List Effect) (i : ℕ) → kind_named (get_or (map effect_code es) i 0) ≡ slice_get (map kind_of es) i
unfolding with_code
kinds_back [] i = refl
kinds_back (e ∷ es) zero = (tells e).named
kinds_back (e ∷ es) (suc i) = kinds_back es i

module _ {A : Type 0} (a : Answer A) (es : List Effect) (few : length es ≤ 7) where
  all : AreBytes (number_of a ∷ map effect_code es)
  all = (small a, codes_fit es)

  long : length (number_of a ∷ map effect_code es) ≤ 8
  long = omega (arith, codes_long es)

  refusal_back : refusal_in (returned (number_of a) es) ≡ refusal_of_answer a
  unfolding returned number
  refusal_back =
      let lt = small a in
      let e : (number_of a + 256 * number (map effect_code es)) % 256 ≡ number_of a = omega arith in
      ap refusal_of e ∙ named_back a

  kind_back : (i : ℕ) → kind_named (code_in (returned (number_of a) es) i) ≡ slice_get (map kind_of es) i
  unfolding returned
  kind_back i = ap kind_named (byte_back 8 (number_of a ∷ map effect_code es) all long (suc i)) ∙ kinds_back es i

pub returned_gives_back : ReturnedGivesBack
unfolding returned
returned_gives_back A a es few =
    record { fits = number_below 8 (number_of a ∷ map effect_code es) (long a es few) (all a es few); refusal = refusal_back a es few; kind = kind_back a es few }
