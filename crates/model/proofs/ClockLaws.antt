-- What a clock reads after a setting and after a load, and what stays stored.
use Rattle.std.proofs.Common.{Option, None, Some, true, ◌≡◌, refl, ap, ◌∙◌, ℕ, ◌≤◌, arith, eqb-true, leb-false, eqb}
use Rattle.std.proofs.lemmas.Bool.{and_parts}
use Rattle.model.specs.declared.TimeGranularity.{TimeGranularity}
use Rattle.model.specs.declared.TimeGranularity.TheVariants.{Milliseconds}
use Rattle.model.specs.declared.TimeSource.{TimeSource}
use Rattle.model.specs.declared.TimeSource.TheVariants.{Admin, NodeTimeCluster}
use Rattle.model.specs.Answers.{TrustedSource}
use Rattle.model.specs.Numbers.{granularity_of}
use Rattle.model.specs.Clock.{Clock, reliable, reading, stored_utc, no_fabric, load, granularity_read, set_utc_time, distance, a_day_apart, set_utc_time_persist, same_source, set_trusted_time_source, set_trusted_time_source_persist}
use Rattle.model.specs.Handler.{Device, source_readable, set_utc_time_command}
use Rattle.model.specs.Retries.{Client, Applied, attempt_of}
use Rattle.model.specs.ClockLaws.{IsSet, EverySetting, SettingReadsBack, ReadsLowered, EndsAtSeconds, SettingKeepsSource, OnlySource, SourceChangeKeepsRest, NeverBelowBuild, WithinADay}
use Rattle.model.proofs.Facts.{by_test}

-- ## Settings

module _ (c : Clock) (utc : ℕ) (g : TimeGranularity) (s : TimeSource) (tick : ℕ) where
  is_set : IsSet utc g s tick (set_utc_time c utc g s tick).state (set_utc_time c utc g s tick).effects
  unfolding set_utc_time
  is_set = record { utc = refl; granularity = refl; from = refl; anchor = refl; reported = refl }

  -- whether the moment is stored or not
  is_set_persist : IsSet utc g s tick (set_utc_time_persist c utc g s tick).state (set_utc_time_persist c utc g s tick).effects
  unfolding set_utc_time_persist set_utc_time
  is_set_persist =
      by_test (a_day_apart c utc)
      (λ e. rw e (record { utc = refl; granularity = refl; from = refl; anchor = refl; reported = refl }))
      (λ e. rw e (record { utc = refl; granularity = refl; from = refl; anchor = refl; reported = refl }))

command_is_set : (d : Device) (utc number : ℕ) (g : TimeGranularity) (source : Option ℕ) (tick : ℕ)
    → granularity_of number ≡ Some g → source_readable source ≡ true
    → IsSet utc g Admin tick (set_utc_time_command d utc number source tick).state.clock (set_utc_time_command d utc number source tick).effects
unfolding set_utc_time_command set_utc_time
command_is_set d utc number g source tick e f =
    rw (e, f) (record { utc = refl; granularity = refl; from = refl; anchor = refl; reported = refl })

applied_is_set : (c : Client) (k : Clock) (utc : ℕ) (g : TimeGranularity) (tick : ℕ)
    → IsSet utc g NodeTimeCluster tick (attempt_of c k (Applied utc g) tick).clock (attempt_of c k (Applied utc g) tick).effects
unfolding attempt_of set_utc_time_persist set_utc_time
applied_is_set c k utc g tick =
    let p = is_set_persist k utc g NodeTimeCluster tick in
    record { utc = p.utc; granularity = p.granularity; from = p.from; anchor = p.anchor; reported = refl }

pub every_setting : EverySetting
every_setting = record { set = is_set; set_persist = is_set_persist; command = command_is_set; applied = applied_is_set }

pub setting_reads_back : SettingReadsBack
unfolding set_utc_time reading
setting_reads_back c utc g s tick h = ap reliable (omega arith)

pub reads_lowered : ReadsLowered
unfolding set_utc_time granularity_read
reads_lowered c utc g s tick = refl

pub ends_at_seconds : EndsAtSeconds
unfolding set_utc_time_persist granularity_read
ends_at_seconds c utc s tick =
    let h = reads_lowered c utc Milliseconds s tick in
    by_test (a_day_apart c utc) (λ e. rw e h) (λ e. rw e h)

-- ## The trusted source

source_kept : (c : Clock) (utc : ℕ) (g : TimeGranularity) (s : TimeSource) (tick : ℕ) → (set_utc_time c utc g s tick).state.trusted ≡ c.trusted
unfolding set_utc_time
source_kept c utc g s tick = refl

pub setting_keeps_source : SettingKeepsSource
unfolding set_utc_time_persist
setting_keeps_source c utc g s tick =
    let k = source_kept c utc g s tick in
    (k, by_test (a_day_apart c utc) (λ e. rw e k) (λ e. rw e k))

equal_sources : (s t : Option TrustedSource) → same_source s t ≡ true → s ≡ t
equal_sources None None e = refl
equal_sources None (Some t) e = cc
equal_sources (Some s) None e = cc
equal_sources (Some s) (Some t) e =
    let p = and_parts (eqb s.fabric t.fabric) _ e in
    let q = and_parts (eqb s.node t.node) _ p.1 in
    ap Some
    (ap (λ (x : ℕ). record { fabric = x; node = s.node; endpoint = s.endpoint }) (eqb-true _ _ p.0)
    ∙ (ap (λ (x : ℕ). record { fabric = t.fabric; node = x; endpoint = s.endpoint }) (eqb-true _ _ q.0)
    ∙ ap (λ (x : ℕ). record { fabric = t.fabric; node = t.node; endpoint = x }) (eqb-true _ _ q.1)))

only_source : (c : Clock) (source : Option TrustedSource) → OnlySource c source (set_trusted_time_source c source).state
unfolding set_trusted_time_source
only_source c source =
    by_test (same_source c.trusted source)
    (λ e. rw e (record { utc = refl; persisted = refl; granularity = refl; from = refl; anchor = refl; trusted = equal_sources _ _ e }))
    (λ e. rw e (record { utc = refl; persisted = refl; granularity = refl; from = refl; anchor = refl; trusted = refl }))

pub source_change_keeps_rest : SourceChangeKeepsRest
unfolding set_trusted_time_source_persist
source_change_keeps_rest c source = (only_source c source, only_source c source)

-- ## A load

floor : (build : ℕ) (moment : Option ℕ) → build ≤ stored_utc build moment
floor build None = omega arith
floor build (Some moment) = omega arith

pub never_below_build : NeverBelowBuild
unfolding load reading
never_below_build build c moment source tick h =
    by_test (no_fabric source)
    (λ e. let taken = rw e at h in cc)
    (λ e. rw e (floor build moment))

-- ## The persisted moment

persisted_kept : (c : Clock) (utc : ℕ) (g : TimeGranularity) (s : TimeSource) (tick : ℕ) → (set_utc_time c utc g s tick).state.persisted ≡ c.persisted
unfolding set_utc_time
persisted_kept c utc g s tick = refl

pub within_a_day : WithinADay
unfolding set_utc_time_persist a_day_apart
within_a_day c utc g s tick =
    by_test (a_day_apart c utc) (λ e. rw e (omega arith))
    (λ e. let h = leb-false 86400000000 (distance c.persisted utc) e in
    rw (e, persisted_kept c utc g s tick) (omega arith))
