-- Where a contract may stand. An expression stands in code, alone or as a value, or in a text of a contract: at its top, where it is a
-- conjunct of the whole; guarded, as the second part of an `Implies` that is such a conjunct, and its conjuncts; or within anything
-- else. Brackets count for nothing.
use Rattle.std.specs.Prelude.{ℕ, Bool, true, false, ◌||◌, nat_eq, List, [], ◌∷◌, Option, Some, None, is_some, if◌then◌else◌}
use Rattle.std.specs.Option.{option_map_or}
use Rattle.py_base.specs.declared.Place.{Place}
use Rattle.contract_kinds.specs.declared.breach.Rule.{Rule}
use Rattle.contract_kinds.specs.declared.breach.Rule.TheVariants as rules
use Rattle.contract_kinds.specs.declared.breach.Breach.{Breach}
use Rattle.contract_kinds.specs.declared.contract.Contract.{Contract}
use Rattle.contract_kinds.specs.declared.contract.Contract.TheVariants as contracts
use Rattle.contract_kinds.specs.declared.spot.Clause.{Clause}
use Rattle.contract_kinds.specs.declared.spot.Clause.TheVariants as clauses
use Rattle.contract_kinds.specs.declared.spot.Level.{Level}
use Rattle.contract_kinds.specs.declared.spot.Level.TheVariants as levels
use Rattle.contract_kinds.specs.declared.spot.Spot.{Spot}
use Rattle.contract_kinds.specs.declared.spot.Spot.TheVariants as spots

-- Breaches of rules.
abbrev pub breach : Place → Rule → Breach
breach p r = record { place = p; rule = r }

abbrev pub breach_if : Bool → Place → Rule → List Breach
breach_if true p r = breach p r ∷ []
breach_if false p r = []

abbrev pub told : Option Rule → Place → List Breach
told None p = []
told (Some r) p = breach p r ∷ []

abbrev pub unless : Bool → Rule → Option Rule
unless true r = None
unless false r = Some r

-- Spots: where the parts of an expression stand.
abbrev pub inner : Spot → Spot
inner (spots.Inside k level) = spots.Inside k levels.Term
inner at = spots.Value

abbrev pub conjunct_level : Level → Level
conjunct_level (levels.Top measured) = levels.Top measured
conjunct_level levels.Guarded = levels.Guarded
conjunct_level level = levels.Term

-- the first part of an `and`
abbrev pub conjunct : Spot → Spot
conjunct (spots.Inside k level) = spots.Inside k (conjunct_level level)
conjunct at = spots.Value

abbrev pub measured_level : Level → Bool → Level
measured_level (levels.Top measured) b = levels.Top (measured || b)
measured_level levels.Guarded b = levels.Guarded
measured_level level b = levels.Term

-- the second part, where the first has a measure or not
abbrev pub second_conjunct : Spot → Bool → Spot
second_conjunct (spots.Inside k level) b = spots.Inside k (measured_level level b)
second_conjunct at b = spots.Value

abbrev pub guarded_level : Level → Level
guarded_level (levels.Top measured) = levels.Guarded
guarded_level levels.Guarded = levels.Guarded
guarded_level level = levels.Term

-- the second part of an `Implies`
abbrev pub consequent : Spot → Spot
consequent (spots.Inside k level) = spots.Inside k (guarded_level level)
consequent at = spots.Value

abbrev pub bound_level : Level → Level
bound_level (levels.Top measured) = levels.Bound
bound_level level = levels.Term

-- the left side of a comparison by a single `<`
abbrev pub lower : Spot → Spot
lower (spots.Inside k level) = spots.Inside k (bound_level level)
lower at = spots.Value

-- whether a measure stands before, in the contracts of the same kind
abbrev pub is_measured : Spot → Bool
is_measured (spots.MethodHead measured) = measured
is_measured (spots.LoopHead measured) = measured
is_measured at = false

abbrev pub asserted : Clause → Spot
asserted k = spots.Inside k (levels.Top false)

abbrev pub first_then : {X : Type 0} → ℕ → X → X → X
first_then k a b = if nat_eq k 0 then a else b

-- where the argument of number k of a contract stands; `gives` says that the method gives a value
abbrev pub contract_spot : Bool → Contract → Spot → ℕ → Spot
contract_spot gives contracts.Requires at k = spots.Inside clauses.Precondition (levels.Top (is_measured at))
contract_spot gives contracts.Ensures at k = asserted (clauses.Postcondition gives)
contract_spot gives contracts.Exsures at k = first_then k (spots.Inside clauses.ExceptionalPostcondition levels.Term) (asserted clauses.ExceptionalPostcondition)
contract_spot gives contracts.Invariant at k = spots.Inside clauses.Invariant (levels.Top (is_measured at))
contract_spot gives contracts.Assert at k = asserted clauses.Assertion
contract_spot gives contracts.Fold at k = spots.Inside clauses.Instance levels.Term
contract_spot gives contracts.Unfold at k = spots.Inside clauses.Instance levels.Term
contract_spot gives contracts.Implies at k = first_then k (inner at) (consequent at)
contract_spot gives c at k = inner at

abbrev pub argument_spot : Bool → Option Contract → Spot → ℕ → Spot
argument_spot gives None at k = inner at
argument_spot gives (Some c) at k = contract_spot gives c at k

-- The text in which an expression stands: at any level, as an atom, at the top with no measure before it, and as a bound.
abbrev pub clause_of : Spot → Option Clause
clause_of (spots.Inside k level) = Some k
clause_of at = None

abbrev pub clause_of_atom : Spot → Option Clause
clause_of_atom (spots.Inside k (levels.Top measured)) = Some k
clause_of_atom (spots.Inside k levels.Guarded) = Some k
clause_of_atom at = None

abbrev pub clause_of_measure : Spot → Option Clause
clause_of_measure (spots.Inside k (levels.Top false)) = Some k
clause_of_measure at = None

abbrev pub clause_of_bound : Spot → Option Clause
clause_of_bound (spots.Inside k levels.Bound) = Some k
clause_of_bound at = None

abbrev pub holds : (Clause → Bool) → Option Clause → Bool
holds test k = option_map_or test k false

-- Statements.
abbrev pub is_statement : Spot → Bool
is_statement (spots.MethodHead measured) = true
is_statement (spots.LoopHead measured) = true
is_statement spots.Alone = true
is_statement at = false

abbrev pub is_method_head : Spot → Bool
is_method_head (spots.MethodHead measured) = true
is_method_head at = false

abbrev pub is_loop_head : Spot → Bool
is_loop_head (spots.LoopHead measured) = true
is_loop_head at = false

-- `Acc` is an atom of each text but a pure body and the instance of a `Fold` or `Unfold`.
abbrev pub has_permissions : Clause → Bool
has_permissions clauses.Pure = false
has_permissions clauses.Instance = false
has_permissions k = true

-- `Old` needs an entry to look back to.
abbrev pub old_refusal : Option Clause → Option Rule
old_refusal None = Some rules.ContractPlace
old_refusal (Some clauses.Precondition) = Some rules.OldInPre
old_refusal (Some clauses.Predicate) = Some rules.OldInPre
old_refusal (Some clauses.Pure) = Some rules.ContractPlace
old_refusal (Some clauses.Instance) = Some rules.ContractPlace
old_refusal (Some k) = None

-- `Result()` stands in the `Ensures` of a method that gives a value.
abbrev pub gives_result : Clause → Bool
gives_result (clauses.Postcondition gives) = gives
gives_result k = false

-- Duties: `MustTerminate` once at the top of a precondition and of a loop's invariant, `MustRelease` with a number as an atom of a
-- precondition and without one where the method or a turn of the loop ends, `MayJoin` as an atom of these all.
abbrev pub may_terminate : Clause → Bool
may_terminate clauses.Precondition = true
may_terminate clauses.Invariant = true
may_terminate k = false

abbrev pub is_precondition : Clause → Bool
is_precondition clauses.Precondition = true
is_precondition k = false

abbrev pub is_ending : Clause → Bool
is_ending (clauses.Postcondition gives) = true
is_ending clauses.ExceptionalPostcondition = true
is_ending clauses.Invariant = true
is_ending k = false

abbrev pub may_join : Clause → Bool
may_join k = is_precondition k || is_ending k

-- by the number of its arguments
abbrev pub may_release : ℕ → Clause → Bool
may_release count k = if nat_eq count 2 then is_precondition k else if nat_eq count 1 then is_ending k else false

-- a duty has no place in code, and in a contract its own alone
abbrev pub duty_refusal : Bool → Bool → Option Rule
duty_refusal false fits = Some rules.ContractPlace
duty_refusal true fits = unless fits rules.DutyPlace

-- which rule refuses a contract with so many arguments where it stands
abbrev pub refusal : Contract → ℕ → Spot → Option Rule
refusal contracts.Requires count at = unless (is_method_head at) rules.ContractPlace
refusal contracts.Ensures count at = unless (is_method_head at) rules.ContractPlace
refusal contracts.Exsures count at = unless (is_method_head at) rules.ContractPlace
refusal contracts.Invariant count at = unless (is_loop_head at) rules.ContractPlace
refusal contracts.Assert count at = unless (is_statement at) rules.ContractPlace
refusal contracts.Fold count at = unless (is_statement at) rules.ContractPlace
refusal contracts.Unfold count at = unless (is_statement at) rules.ContractPlace
refusal contracts.Acc count at = unless (holds has_permissions (clause_of_atom at)) rules.ContractPlace
refusal contracts.Implies count at = unless (is_some (clause_of at)) rules.ContractPlace
refusal contracts.Level count at = unless (is_some (clause_of at)) rules.ContractPlace
refusal contracts.Unfolding count at = unless (is_some (clause_of at)) rules.ContractPlace
refusal contracts.Old count at = old_refusal (clause_of at)
refusal contracts.Result count at = unless (holds gives_result (clause_of at)) rules.ContractPlace
refusal contracts.MustTerminate count at = duty_refusal (is_some (clause_of at)) (holds may_terminate (clause_of_measure at))
refusal contracts.MustRelease count at = duty_refusal (is_some (clause_of at)) (holds (may_release count) (clause_of_atom at))
refusal contracts.MayJoin count at = duty_refusal (is_some (clause_of at)) (holds may_join (clause_of_atom at))
refusal contracts.WaitLevel count at = duty_refusal (is_some (clause_of at)) (holds is_precondition (clause_of_bound at))
