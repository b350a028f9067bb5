-- What is said of the entries of a section, each found where it stands.
use Rattle.std.specs.Prelude.{Bool, not, cond, List, ℕ, ◌+◌, ltb, eqb, length, get_or, Option, None, Some, Result, Err, option_map}
use Rattle.model.specs.declared.Refusal.{Refusal}
use Rattle.model.specs.declared.Refusal.TheVariants.{ConstraintError, ResourceExhausted, Unreadable}
use Rattle.model.specs.Rules as M
use Rattle.model.specs.Rules.{demand, and_then, test_from, test_zones, test_windows}
use Rattle.model.specs.Bytes.{read_record}
use Rattle.record.specs.declared.SectionRead.{SectionRead}
use Rattle.record.specs.Fronts.{entries_at}
use Rattle.rules.specs.declared.rule.Tested.{Tested}
use Rattle.rules.specs.Verdicts.{verdict_of}

module _ {E : Type 0} (keeps : ℕ → Option E → E → Bool) where
  -- an entry that does not keep its rule is turned down by ConstraintError
  abbrev pub entry_rule : ℕ → Option E → E → M.Verdict
  entry_rule index before e = demand (keeps index before e) ConstraintError M.accepted

  -- of one entry: the limit is tested before the rule
  abbrev pub entry_tested : ℕ → ℕ → Option E → E → Result (Unit {0}) Refusal
  entry_tested limit index before e = verdict_of (demand (not (eqb index limit)) ResourceExhausted (entry_rule index before e))

-- what is said of a section that was read, and where a reader at `at` goes on
abbrev pub verdict_in : Option Tested → Option (Result (Unit {0}) Refusal)
verdict_in r = option_map (λ t. t.verdict) r

abbrev pub moved_to : ℕ → Option Tested → ℕ
moved_to at None = at
moved_to at (Some t) = t.next

-- where a section ends: as it was tested, and as it was read
abbrev pub end_tested : Option Tested → Option ℕ
end_tested r = option_map (λ t. t.next) r

abbrev pub end_read : Option SectionRead → Option ℕ
end_read r = option_map (λ x. x.next) r

-- the same of a section after which nothing is left over of so many bytes
abbrev pub whole_tested : ℕ → Option Tested → Result (Unit {0}) Refusal
whole_tested len None = Err Unreadable
whole_tested len (Some t) = cond (eqb t.next len) t.verdict (Err Unreadable)

module _ {E : Type 0} (found_at : List ℕ → ℕ → Option E) (next_of : E → ℕ) (keeps : ℕ → Option E → E → Bool) (limit : ℕ) where
  abbrev pub entries_tested : Option (List E × ℕ) → Option Tested
  entries_tested found = option_map (λ p. record { verdict = verdict_of (test_from limit (entry_rule keeps) 0 None p.0); next = p.1 }) found

  -- of the section at `at`, where it is readable, and the place after it
  unfoldable pub section_tested : List ℕ → ℕ → Option Tested
  section_tested s at = cond (ltb at (length s)) (entries_tested (entries_at found_at next_of s (at + 1) (get_or s at 0))) None

  -- of a request: one section and nothing else
  unfoldable pub request_tested : List ℕ → Result (Unit {0}) Refusal
  request_tested s = whole_tested (length s) (section_tested s 0)

-- of both lists of a record that is readable: the zones' verdict decides where it turns down
unfoldable pub lists_tested : ℕ → ℕ → List ℕ → Option (Result (Unit {0}) Refusal)
lists_tested zones windows s =
    let r : M.Rules = record { zone_limit = zones; window_limit = windows } in
    option_map (λ l. verdict_of (and_then (test_zones r l.zones) (test_windows r l.windows))) (read_record s)
