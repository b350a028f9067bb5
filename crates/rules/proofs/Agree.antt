-- The answers are the model's verdicts on the calls.
use Rattle.std.proofs.Common.{Option, None, Some, Result, Ok, Err, List, ◌≡◌, refl, sym, ap, ◌∙◌}
use Rattle.model.specs.declared.Refusal.{Refusal}
use Rattle.model.specs.Lists.{Zone, Window}
use Rattle.model.specs.Rules as M
use Rattle.model.specs.Rules.{Rules, test_zones, test_windows, zone_rule, window_rule}
use Rattle.model.specs.Bytes.{read_zones, read_windows}
use Rattle.model.specs.History.{zones_verdict, windows_verdict, verdict}
use Rattle.rules.specs.Verdicts.{verdict_of, list_verdict, zones_tested, windows_tested, record_tested}
use Rattle.rules.specs.Laws.{ZonesAre, WindowsAre, RecordsAre}

zones_same : (r : Rules) (f : Option (List Zone)) → list_verdict r.zone_limit zone_rule f ≡ zones_verdict r f
unfolding test_zones
zones_same r None = refl
zones_same r (Some zs) = refl

windows_same : (r : Rules) (f : Option (List Window)) → list_verdict r.window_limit window_rule f ≡ windows_verdict r f
unfolding test_windows
windows_same r None = refl
windows_same r (Some ws) = refl

pub zones_are_lem : ZonesAre
unfolding zones_tested verdict
zones_are_lem r s = ap verdict_of (zones_same r (read_zones s))

pub windows_are_lem : WindowsAre
unfolding windows_tested verdict
windows_are_lem r s = ap verdict_of (windows_same r (read_windows s))

pub records_are : RecordsAre
unfolding record_tested
records_are r s = refl

-- ## What a verdict by value says

abbrev verdict_back : Result (Unit {0}) Refusal → M.Verdict
verdict_back (Ok tt) = M.accepted
verdict_back (Err cause) = M.turned_down cause

back_of : (v : M.Verdict) → verdict_back (verdict_of v) ≡ v
back_of M.accepted = refl
back_of (M.turned_down cause) = refl

pub is_accepted : (v : M.Verdict) → verdict_of v ≡ (Ok tt) → v ≡ M.accepted
is_accepted v h = sym (back_of v) ∙ ap verdict_back h

pub is_turned_down : (v : M.Verdict) (cause : Refusal) → verdict_of v ≡ Err cause → v ≡ M.turned_down cause
is_turned_down v cause h = sym (back_of v) ∙ ap verdict_back h
