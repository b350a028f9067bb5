-- Equal meanings are of equal values.
use Rattle.std.proofs.Common.{arith}
use Rattle.std.proofs.lemmas.Grind.{common_steps}
use Rattle.std.proofs.lemmas.List.{append_cancel_left}
use Rattle.rtc.specs.Meaning.{clock_of}
use Rattle.rtc.specs.Laws.{RtcBack, Injective, OneResult}

-- ## The clock

pub rtc_back : RtcBack
rtc_back r = grind (arith, common_steps)

one_rtc : Injective clock_of
one_rtc a b e = grind (arith, common_steps)

-- ## The answers

pub one_result : OneResult
one_result =
    record {
      source = λ a b e. grind (arith, common_steps);
      rtc = one_rtc;
      utc_time = λ a b e. grind (arith, common_steps);
      reset = λ a b e. grind (arith, one_rtc);
      loaded = λ c a b e. grind (arith, one_rtc);
      utc_time_set = λ a b e. grind (arith, one_rtc);
      utc_time_persisted = λ a b e. grind (arith, common_steps, one_rtc, append_cancel_left);
      source_set = λ a b e. (grind (arith, common_steps, one_rtc), grind (arith, common_steps));
      source_persisted = λ a b e. grind (arith, common_steps, one_rtc);
    }
