-- Worked cases of the table: contracts where they may stand, and where they may not.
use Rattle.std.proofs.Common.{◌≡◌, refl, true, false, Some, None, codes}
use Rattle.contract_kinds.specs.declared.breach.Rule.TheVariants as rules
use Rattle.contract_kinds.specs.declared.contract.Contract.TheVariants as contracts
use Rattle.contract_kinds.specs.declared.spot.Clause.{Clause}
use Rattle.contract_kinds.specs.declared.spot.Clause.TheVariants as clauses
use Rattle.contract_kinds.specs.declared.spot.Level.TheVariants as levels
use Rattle.contract_kinds.specs.declared.spot.Spot.{Spot}
use Rattle.contract_kinds.specs.declared.spot.Spot.TheVariants as spots
use Rattle.contract_kinds.specs.Words.{contract_named}
use Rattle.contract_kinds.specs.Kinds.{asserted, consequent, lower, second_conjunct, contract_spot, refusal}

abbrev guarded : Clause → Spot
guarded k = spots.Inside k levels.Guarded

abbrev term : Clause → Spot
term k = spots.Inside k levels.Term

names : contract_named (codes "MayJoin") ≡ Some contracts.MayJoin
names = refl

no_name : contract_named (codes "Predicate") ≡ None
no_name = refl

requires_first : refusal contracts.Requires 1 (spots.MethodHead true) ≡ None
requires_first = refl

requires_late : refusal contracts.Requires 1 spots.Alone ≡ Some rules.ContractPlace
requires_late = refl

requires_in_a_loop : refusal contracts.Requires 1 (spots.LoopHead false) ≡ Some rules.ContractPlace
requires_in_a_loop = refl

invariant_first : refusal contracts.Invariant 1 (spots.LoopHead false) ≡ None
invariant_first = refl

assert_as_a_value : refusal contracts.Assert 1 spots.Value ≡ Some rules.ContractPlace
assert_as_a_value = refl

acc_guarded : refusal contracts.Acc 1 (guarded clauses.Predicate) ≡ None
acc_guarded = refl

acc_as_a_term : refusal contracts.Acc 1 (term clauses.Precondition) ≡ Some rules.ContractPlace
acc_as_a_term = refl

acc_in_a_pure_function : refusal contracts.Acc 1 (asserted clauses.Pure) ≡ Some rules.ContractPlace
acc_in_a_pure_function = refl

old_in_a_precondition : refusal contracts.Old 1 (term clauses.Precondition) ≡ Some rules.OldInPre
old_in_a_precondition = refl

old_in_a_predicate : refusal contracts.Old 1 (guarded clauses.Predicate) ≡ Some rules.OldInPre
old_in_a_predicate = refl

old_in_a_postcondition : refusal contracts.Old 1 (term (clauses.Postcondition false)) ≡ None
old_in_a_postcondition = refl

old_in_an_instance : refusal contracts.Old 1 (term clauses.Instance) ≡ Some rules.ContractPlace
old_in_an_instance = refl

result_of_none : refusal contracts.Result 0 (term (clauses.Postcondition false)) ≡ Some rules.ContractPlace
result_of_none = refl

result_of_a_value : refusal contracts.Result 0 (term (clauses.Postcondition true)) ≡ None
result_of_a_value = refl

level_in_code : refusal contracts.Level 1 spots.Value ≡ Some rules.ContractPlace
level_in_code = refl

measure_at_the_top : refusal contracts.MustTerminate 1 (asserted clauses.Invariant) ≡ None
measure_at_the_top = refl

second_measure : refusal contracts.MustTerminate 1 (second_conjunct (asserted clauses.Invariant) true) ≡ Some rules.DutyPlace
second_measure = refl

measure_under_implies : refusal contracts.MustTerminate 1 (consequent (asserted clauses.Precondition)) ≡ Some rules.DutyPlace
measure_under_implies = refl

measure_in_a_condition_of_a_predicate : refusal contracts.MustTerminate 1 (guarded clauses.Predicate) ≡ Some rules.DutyPlace
measure_in_a_condition_of_a_predicate = refl

measure_behind_another_precondition : contract_spot false contracts.Requires (spots.MethodHead true) 0 ≡ spots.Inside clauses.Precondition (levels.Top true)
measure_behind_another_precondition = refl

release_in_a_precondition : refusal contracts.MustRelease 2 (guarded clauses.Precondition) ≡ None
release_in_a_precondition = refl

release_without_a_number : refusal contracts.MustRelease 1 (guarded clauses.Precondition) ≡ Some rules.DutyPlace
release_without_a_number = refl

release_at_the_end : refusal contracts.MustRelease 1 (guarded clauses.ExceptionalPostcondition) ≡ None
release_at_the_end = refl

join_in_an_assert : refusal contracts.MayJoin 2 (asserted clauses.Assertion) ≡ Some rules.DutyPlace
join_in_an_assert = refl

join_in_code : refusal contracts.MayJoin 2 spots.Value ≡ Some rules.ContractPlace
join_in_code = refl

wait_level_below : refusal contracts.WaitLevel 0 (lower (asserted clauses.Precondition)) ≡ None
wait_level_below = refl

wait_level_guarded : refusal contracts.WaitLevel 0 (lower (guarded clauses.Precondition)) ≡ Some rules.DutyPlace
wait_level_guarded = refl

wait_level_in_an_invariant : refusal contracts.WaitLevel 0 (lower (asserted clauses.Invariant)) ≡ Some rules.DutyPlace
wait_level_in_an_invariant = refl
