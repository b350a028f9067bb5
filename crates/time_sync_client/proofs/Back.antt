-- Equal meanings are of equal values.
use Rattle.std.proofs.Common.{ap, arith}
use Rattle.std.proofs.lemmas.Grind.{common_steps}
use Rattle.rtc.proofs.Back as clock
use Rattle.rtc.specs.Laws.{Injective}
use Rattle.time_sync_client.specs.Laws.{OneResult}
use Rattle.time_sync_client.specs.Meaning.{client_of, effects_of, next_of, step_of}

one_client : Injective client_of
one_client a b e = grind arith

one_next : Injective next_of
one_next a b e = grind (arith, common_steps)

one_effects : Injective effects_of
one_effects a b e = grind (arith, common_steps)

one_step : Injective step_of
one_step a b e = λ i. record {
  client = one_client a.client b.client (ap (λ s. s.client) e) i;
  rtc = clock.one_result.rtc a.rtc b.rtc (ap (λ s. s.clock) e) i;
  effects = one_effects a.effects b.effects (ap (λ s. s.effects) e) i;
  next = one_next a.next b.next (ap (λ s. s.next) e) i;
}

pub one_result : OneResult
one_result =
    record {
      client = one_client;
      reading = λ a b e. grind arith;
      outcome = λ a b e. grind (arith, common_steps);
      refresh = λ a b e. grind (arith, common_steps);
      next = one_next;
      effects = one_effects;
      step = one_step;
    }
