-- Worked cases of the definitions: expressions in a method `f(c) -> int` of a module with the predicate `P`, the pure function `q`, the
-- function `work`, which may be the target of a thread, and `main`.
use Rattle.std.proofs.Common.{◌≡◌, refl, ℕ, pos, negsuc, Bool, true, false, List, [], ◌∷◌, None, codes}
use Rattle.py_base.specs.declared.Place.{Place}
use Rattle.raw_syntax.specs.declared.Arithmetic.TheVariants as signs
use Rattle.raw_syntax.specs.declared.Comparison.TheVariants as marks
use Rattle.raw_syntax.specs.declared.RawExprForm.{RawExprForm-F}
use Rattle.raw_syntax.specs.declared.RawFunc.{RawFunc}
use Rattle.contract_kinds.specs.declared.Rule.TheVariants as rules
use Rattle.contract_kinds.specs.declared.Clause.TheVariants as clauses
use Rattle.contract_kinds.specs.declared.Spot.TheVariants as spots
use Rattle.contract_kinds.specs.Kinds.{breach, asserted}
use Rattle.contract_forms.specs.declared.function.Sort.{Sort}
use Rattle.contract_forms.specs.declared.function.Sort.TheVariants as sorts
use Rattle.contract_forms.specs.declared.function.Function.{Function}
use Rattle.contract_forms.specs.Fractions.{is_amount}
use Rattle.contract_forms.specs.Readings.{Scope, scope, Reading, Argument, alone, labelled, form_reading}
use Rattle.contract_forms.specs.Pures.{is_recursive}

abbrev at : ℕ → Place
at n = record { line = 1; col = n }

abbrev function : List ℕ → Sort → Bool → Function
function name sort target = record { place = at 0; name = name; sort = sort; is_target = target }

abbrev the_functions : List Function
the_functions = function (codes "P") sorts.Predicate false ∷ function (codes "q") sorts.Pure false ∷ function (codes "work") sorts.Code true ∷ function (codes "main") sorts.Code false ∷ []

abbrev the_method : RawFunc
the_method = record {
  place = at 0;
  marks = [];
  name = codes "f";
  params = record { place = at 0; name = codes "c"; ty = None } ∷ [];
  ret = record { place = at 0; head = codes "int"; inner = None };
  body = [];
}

abbrev the_scope : Scope
the_scope = scope the_functions the_method []

-- the same with a local `P`
abbrev hiding : Scope
hiding = scope the_functions the_method (codes "P" ∷ [])

abbrev name : List ℕ → ℕ → Reading
name word p = form_reading (RawExprForm-F.Name word) (at p)

abbrev number : ℕ → ℕ → Reading
number n p = form_reading (RawExprForm-F.Number (pos n)) (at p)

abbrev call : Reading → List Argument → Reading
call e xs = form_reading (RawExprForm-F.Call e xs) e.place

abbrev over : Reading → Reading → ℕ → Reading
over a b p = form_reading (RawExprForm-F.Binary signs.Divide a b) (at p)

abbrev and_then : Reading → Reading → ℕ → Reading
and_then a b p = form_reading (RawExprForm-F.And a b) (at p)

abbrev below : Reading → Reading → ℕ → Reading
below a b p = form_reading (RawExprForm-F.Chain a (record { operator = marks.Less; operand = b } ∷ [])) (at p)

abbrev true_at : ℕ → Reading
true_at p = form_reading (RawExprForm-F.Truth true) (at p)

-- Fractions.
whole : is_amount (pos 16) (pos 16) ≡ true
whole = refl

smallest : is_amount (pos 1) (pos 16) ≡ true
smallest = refl

too_fine : is_amount (pos 1) (pos 17) ≡ false
too_fine = refl

too_much : is_amount (pos 3) (pos 2) ≡ false
too_much = refl

no_part : is_amount (pos 0) (pos 1) ≡ false
no_part = refl

negative : is_amount (negsuc 0) (pos 2) ≡ false
negative = refl

-- `Acc(c, 2/3)` and `Acc(c, 3/2)`, where `Acc` stands at 1 and the fraction's first token at 8
good_fraction : (call (name (codes "Acc") 1) (alone (name (codes "c") 5) ∷ alone (over (number 2 8) (number 3 10) 9) ∷ [])).breaches the_scope (asserted clauses.Precondition) ≡ []
good_fraction = refl

bad_fraction : (call (name (codes "Acc") 1) (alone (name (codes "c") 5) ∷ alone (over (number 3 8) (number 2 10) 9) ∷ [])).breaches the_scope (asserted clauses.Precondition) ≡ breach (at 8) rules.BadFraction ∷ []
bad_fraction = refl

-- `Acc` in the condition of an `Implies`, and behind it
as_a_condition : (call (name (codes "Implies") 1) (alone (call (name (codes "Acc") 9) (alone (name (codes "c") 13) ∷ [])) ∷ alone (true_at 17) ∷ [])).breaches the_scope (asserted clauses.Predicate) ≡ breach (at 9) rules.ContractPlace ∷ []
as_a_condition = refl

guarded : (call (name (codes "Implies") 1) (alone (true_at 9) ∷ alone (call (name (codes "Acc") 15) (alone (name (codes "c") 19) ∷ [])) ∷ [])).breaches the_scope (asserted clauses.Predicate) ≡ []
guarded = refl

-- `MustTerminate(1) and MustTerminate(2)`
two_measures : (and_then (call (name (codes "MustTerminate") 1) (alone (number 1 15) ∷ [])) (call (name (codes "MustTerminate") 22) (alone (number 2 36) ∷ [])) 18).breaches the_scope (asserted clauses.Precondition) ≡ breach (at 22) rules.DutyPlace ∷ []
two_measures = refl

-- `Requires(MustTerminate(1))` behind a `Requires` with one, and behind one without
behind_a_measure : (call (name (codes "Requires") 1) (alone (call (name (codes "MustTerminate") 10) (alone (number 1 24) ∷ [])) ∷ [])).breaches the_scope (spots.MethodHead true) ≡ breach (at 10) rules.DutyPlace ∷ []
behind_a_measure = refl

behind_no_measure : (call (name (codes "Requires") 1) (alone (call (name (codes "MustTerminate") 10) (alone (number 1 24) ∷ [])) ∷ [])).breaches the_scope (spots.MethodHead false) ≡ []
behind_no_measure = refl

-- `WaitLevel() < 3`, and `3 < WaitLevel()`
wait_level : (below (call (name (codes "WaitLevel") 1) []) (number 3 15) 13).breaches the_scope (asserted clauses.Precondition) ≡ []
wait_level = refl

wait_level_above : (below (number 3 1) (call (name (codes "WaitLevel") 5) []) 3).breaches the_scope (asserted clauses.Precondition) ≡ breach (at 5) rules.DutyPlace ∷ []
wait_level_above = refl

-- `Ensures(Old(Result()))` in a method that gives a value
result : (call (name (codes "Ensures") 1) (alone (call (name (codes "Old") 9) (alone (call (name (codes "Result") 13) []) ∷ [])) ∷ [])).breaches the_scope (spots.MethodHead false) ≡ []
result = refl

-- `Fold(P(c))`, where a local hides `P`, and of a pure function
instance : (call (name (codes "Fold") 1) (alone (call (name (codes "P") 6) (alone (name (codes "c") 8) ∷ [])) ∷ [])).breaches the_scope spots.Alone ≡ []
instance = refl

hidden_instance : (call (name (codes "Fold") 1) (alone (call (name (codes "P") 6) (alone (name (codes "c") 8) ∷ [])) ∷ [])).breaches hiding spots.Alone ≡ breach (at 6) rules.UnknownPredicate ∷ []
hidden_instance = refl

pure_instance : (call (name (codes "Fold") 1) (alone (call (name (codes "q") 6) (alone (name (codes "c") 8) ∷ [])) ∷ [])).breaches the_scope spots.Alone ≡ breach (at 6) rules.UnknownPredicate ∷ []
pure_instance = refl

-- `Thread(target=work)` and `Thread(target=main)`
target : (call (name (codes "Thread") 1) (labelled (name (codes "target") 8) (name (codes "work") 15) ∷ [])).breaches the_scope spots.Value ≡ []
target = refl

main_as_a_target : (call (name (codes "Thread") 1) (labelled (name (codes "target") 8) (name (codes "main") 15) ∷ [])).breaches the_scope spots.Value ≡ breach (at 15) rules.BadTarget ∷ []
main_as_a_target = refl

-- `c.start(q)` as a statement
start : (call (form_reading (RawExprForm-F.Field (name (codes "c") 1) (codes "start")) (at 3)) (alone (name (codes "q") 9) ∷ [])).breaches the_scope spots.Alone ≡ breach (at 9) rules.BadTarget ∷ []
start = refl

-- Rings of pure functions: of one, two and three, a function that calls one in a ring, and none.
ring_of_one : is_recursive ((0 ∷ []) ∷ []) 0 ≡ true
ring_of_one = refl

ring_of_two : is_recursive ((1 ∷ []) ∷ (0 ∷ []) ∷ []) 1 ≡ true
ring_of_two = refl

ring_of_three : is_recursive ((1 ∷ []) ∷ (2 ∷ []) ∷ (0 ∷ []) ∷ []) 0 ≡ true
ring_of_three = refl

beside_a_ring : is_recursive ((1 ∷ []) ∷ (1 ∷ []) ∷ []) 0 ≡ false
beside_a_ring = refl

no_ring : is_recursive ((1 ∷ 2 ∷ []) ∷ (2 ∷ []) ∷ [] ∷ []) 0 ≡ false
no_ring = refl
