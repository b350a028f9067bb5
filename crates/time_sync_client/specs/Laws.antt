-- What holds of the meanings; what holds of a client's runs stands in `model` (RetryLaws).
use Rattle.rtc.specs.Laws.{Injective}
use Rattle.time_sync_client.specs.Meaning.{client_of, told_of, outcome_of, refresh_of, next_of, effects_of, step_of}

-- a contract that equates meanings leaves one result, `one_result` in proofs/Back.antt: of the client, of an outcome and of a step, with their parts
pub record OneResult : Type 0 where
  pub client : Injective client_of
  pub reading : Injective told_of
  pub outcome : Injective outcome_of
  pub refresh : Injective refresh_of
  pub next : Injective next_of
  pub effects : Injective effects_of
  pub step : Injective step_of
