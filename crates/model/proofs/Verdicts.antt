-- A store's call answers what the rules say of its argument.
use Rattle.std.proofs.Common.{Option, None, Some, List, ◌≡◌, refl, ℕ}
use Rattle.model.specs.Lists.{Window}
use Rattle.model.specs.Rules.{Verdict, accepted, turned_down, test_windows}
use Rattle.model.specs.Bytes.{read_windows}
use Rattle.model.specs.History.{SetTimeZone, SetDSTOffset, Load, FactoryReset, windows_verdict, verdict}
use Rattle.model.specs.Store.{Store, time_zone_set, set_time_zone, windows_tested, windows_read, set_dst_offset, store_loaded, load, factory_reset}
use Rattle.model.specs.Claims.{verdict_of, AnswersVerdict}

module _ (s : Store) where
  zones : (b : List ℕ) (v : Verdict) → verdict_of (time_zone_set s b v).answer ≡ v
  zones b accepted = refl
  zones b (turned_down cause) = refl

  tested : (b : List ℕ) (v : Verdict) → verdict_of (windows_tested s b v).answer ≡ v
  tested b accepted = refl
  tested b (turned_down cause) = refl

  windows : (b : List ℕ) (o : Option (List Window)) → verdict_of (windows_read s b o).answer ≡ windows_verdict s.rules o
  windows b None = refl
  windows b (Some ws) = tested b (test_windows s.rules ws)

  loads : (stored : Option (List ℕ)) (v : Verdict) → verdict_of (store_loaded s stored v).answer ≡ v
  loads stored accepted = refl
  loads stored (turned_down cause) = refl

pub answers_verdict : AnswersVerdict
unfolding set_time_zone set_dst_offset load factory_reset verdict
answers_verdict s (SetTimeZone b) = zones s b _
answers_verdict s (SetDSTOffset b) = windows s b (read_windows b)
answers_verdict s (Load stored) = loads s stored _
answers_verdict s FactoryReset = refl
