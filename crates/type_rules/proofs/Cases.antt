-- Worked cases of the definitions: expressions by their rules, each broken and kept, with the places of their faults. The text has a
-- class `Cell` with an int `value` and an optional `next`, a class `Part` below it, a class of exceptions `Error`, a class of locks
-- `Guard` over `Cell`, the functions `main`, `f(int) -> int`, `g() -> None`, the predicate `p(Cell)`, the pure function `q(Cell) -> int`,
-- and the method `m(int) -> bool` of `Cell`, whose `__init__` takes an int.
use Rattle.std.proofs.Common.{◌≡◌, refl, ℕ, List, [], ◌∷◌, Option, Some, None, codes, true}
use Rattle.py_base.specs.declared.Place.{Place}
use Rattle.raw_syntax.specs.declared.Arithmetic.TheVariants as signs
use Rattle.raw_syntax.specs.declared.Comparison.{Comparison}
use Rattle.raw_syntax.specs.declared.Comparison.TheVariants as marks
use Rattle.raw_syntax.specs.declared.RawExprForm.{RawExprForm-F}
use Rattle.py_syntax.specs.declared.Ty.{Ty}
use Rattle.py_syntax.specs.declared.Ty.TheVariants as types
use Rattle.py_syntax.specs.declared.ClassSort.{ClassSort}
use Rattle.py_syntax.specs.declared.ClassSort.TheVariants as classes
use Rattle.py_syntax.specs.declared.Field.{Field}
use Rattle.py_syntax.specs.declared.Class.{Class}
use Rattle.class_table.specs.declared.Classes.{Classes}
use Rattle.type_base.specs.declared.Fault.{Fault}
use Rattle.type_base.specs.declared.Rank.TheVariants as ranks
use Rattle.type_base.specs.Faults.{fault}
use Rattle.type_names.specs.declared.Position.{Position}
use Rattle.type_names.specs.declared.Position.TheVariants as positions
use Rattle.type_names.specs.declared.FunctionSort.{FunctionSort}
use Rattle.type_names.specs.declared.FunctionSort.TheVariants as sorts
use Rattle.type_names.specs.declared.Signature.{Signature}
use Rattle.type_names.specs.declared.Variable.{Variable}
use Rattle.type_names.specs.declared.Scope.{Scope}
use Rattle.type_names.specs.Positions.{Question}
use Rattle.type_rules.specs.Statements.{tested_faults, stored_faults, returned_faults, with_faults, augmented_faults}
use Rattle.type_terms.specs.Expressions.{Link, Argument, alone, labelled, form_typing}

abbrev at : ℕ → Place
at n = record { line = 1; col = n }

abbrev field : ℕ → Ty → Field
field n ty = record { name = n; ty = ty }

abbrev class : ℕ → Option ℕ → ClassSort → List Field → Class
class n base sort fields = record { name = n; place = at 0; base = base; sort = sort; fields = fields; methods = [] }

abbrev the_classes : Classes
the_classes = record {
  names = codes "Exception" ∷ codes "Cell" ∷ codes "value" ∷ codes "next" ∷ codes "Part" ∷ codes "Error" ∷ codes "Guard" ∷ [];
  list = class 0 None classes.Exc [] ∷ class 1 None classes.Plain (field 2 types.Int ∷ field 3 (types.Opt 1) ∷ []) ∷ class 4 (Some 1) classes.Plain [] ∷ class 5 (Some 0) classes.Exc [] ∷ class 6 None (classes.LockOver 1 0) [] ∷ [];
  main = 0;
}

abbrev function : List ℕ → Option ℕ → FunctionSort → List (Option Ty) → Ty → Signature
function name owner sort params result = record { name = name; owner = owner; sort = sort; parameters = params; result = Some result }

abbrev the_functions : List Signature
the_functions =
    function (codes "main") None sorts.Code [] types.Void
    ∷ function (codes "f") None sorts.Code (Some types.Int ∷ []) types.Int
    ∷ function (codes "g") None sorts.Code [] types.Void
    ∷ function (codes "p") None sorts.Predicate (Some (types.Obj 1) ∷ []) types.Bool
    ∷ function (codes "q") None sorts.Pure (Some (types.Obj 1) ∷ []) types.Int
    ∷ function (codes "m") (Some 1) sorts.Code (Some types.Int ∷ []) types.Bool
    ∷ function (codes "__init__") (Some 1) sorts.Code (Some types.Int ∷ []) types.Void
    ∷ []

abbrev variable : List ℕ → Ty → Variable
variable name ty = record { name = name; ty = Some ty }

-- an int, a bool, two objects, an optional one, a lock and a thread
abbrev the_scope : Scope
the_scope = record {
  variables = variable (codes "x") types.Int ∷ variable (codes "b") types.Bool ∷ variable (codes "c") (types.Obj 1) ∷ variable (codes "d") (types.Obj 2)
      ∷ variable (codes "o") (types.Opt 1) ∷ variable (codes "l") (types.Obj 4) ∷ variable (codes "t") types.Thr ∷ [];
  owner = None;
  result = Some types.Int;
}

abbrev Form : Type 0
Form = RawExprForm-F Argument (Place → Question) Link Question

-- an expression is what it answers at each position
abbrev node : ℕ → Form → Question
node n form = form_typing the_classes the_functions the_scope form (at n)

abbrev named : ℕ → List ℕ → Question
named n word = node n (RawExprForm-F.Name word)

abbrev link : ℕ → Comparison → Question → Link
link n o e = record { place = at n; operator = o; operand = e }

abbrev call : ℕ → List ℕ → List Argument → Question
call n word xs = node n (RawExprForm-F.Call (named n word) xs)

abbrev send : ℕ → Question → List ℕ → List Argument → Question
send n e word xs = node n (RawExprForm-F.Call (node n (RawExprForm-F.Field e word)) xs)

abbrev faults : Position → Question → List Fault
faults here e = (e here).faults

abbrev broken : ℕ → ℕ → List Fault
broken rule n = fault (at n) (ranks.Mistyped rule) ∷ []

abbrev bool_as_int : ℕ → List Fault
bool_as_int n = fault (at n) ranks.BoolAsInt ∷ []

-- rule 2: names
pub known_name : faults positions.Value (named 1 (codes "x")) ≡ []
known_name = refl

unknown_name : faults positions.Value (named 1 (codes "y")) ≡ broken 2 1
unknown_name = refl

function_as_value : faults positions.Value (named 1 (codes "f")) ≡ broken 2 1
function_as_value = refl

-- rule 3 and bools: operands
sum_of_ints : faults positions.Value (node 3 (RawExprForm-F.Binary signs.Plus (named 1 (codes "x")) (named 5 (codes "x")))) ≡ []
sum_of_ints = refl

sum_with_bool : faults positions.Value (node 3 (RawExprForm-F.Binary signs.Plus (named 1 (codes "b")) (named 5 (codes "x")))) ≡ bool_as_int 1
sum_with_bool = refl

sum_with_object : faults positions.Value (node 3 (RawExprForm-F.Binary signs.Plus (named 1 (codes "x")) (named 5 (codes "c")))) ≡ broken 3 5
sum_with_object = refl

sum_with_none : faults positions.Value (node 3 (RawExprForm-F.Binary signs.Plus (node 1 RawExprForm-F.Nil) (named 5 (codes "x")))) ≡ broken 3 1
sum_with_none = refl

negated_bool : faults positions.Value (node 1 (RawExprForm-F.Negate (named 2 (codes "b")))) ≡ bool_as_int 2
negated_bool = refl

not_int : faults positions.Value (node 1 (RawExprForm-F.Not (named 5 (codes "x")))) ≡ broken 3 5
not_int = refl

not_bool : faults positions.Value (node 1 (RawExprForm-F.Not (named 5 (codes "b")))) ≡ []
not_bool = refl

and_of_int : faults positions.Value (node 3 (RawExprForm-F.And (named 1 (codes "b")) (named 7 (codes "x")))) ≡ broken 3 7
and_of_int = refl

less : faults positions.Value (node 3 (RawExprForm-F.Chain (named 1 (codes "x")) (link 3 marks.Less (named 5 (codes "x")) ∷ []))) ≡ []
less = refl

equal_ints : faults positions.Value (node 3 (RawExprForm-F.Chain (named 1 (codes "x")) (link 3 marks.Equal (named 6 (codes "x")) ∷ []))) ≡ []
equal_ints = refl

equal_bools : faults positions.Value (node 3 (RawExprForm-F.Chain (named 1 (codes "b")) (link 3 marks.Equal (named 6 (codes "b")) ∷ []))) ≡ []
equal_bools = refl

equal_mixed : faults positions.Value (node 3 (RawExprForm-F.Chain (named 1 (codes "x")) (link 3 marks.Equal (named 6 (codes "b")) ∷ []))) ≡ broken 3 3
equal_mixed = refl

equal_object : faults positions.Value (node 3 (RawExprForm-F.Chain (named 1 (codes "c")) (link 3 marks.Equal (named 6 (codes "x")) ∷ []))) ≡ broken 3 3
equal_object = refl

-- rule 8: fields and methods
field_read : faults positions.Value (node 3 (RawExprForm-F.Field (named 1 (codes "c")) (codes "value"))) ≡ []
field_read = refl

field_of_base : faults positions.Value (node 3 (RawExprForm-F.Field (named 1 (codes "d")) (codes "value"))) ≡ []
field_of_base = refl

field_of_optional : faults positions.Value (node 3 (RawExprForm-F.Field (named 1 (codes "o")) (codes "value"))) ≡ []
field_of_optional = refl

unknown_field : faults positions.Value (node 3 (RawExprForm-F.Field (named 1 (codes "c")) (codes "size"))) ≡ broken 8 3
unknown_field = refl

field_of_int : faults positions.Value (node 3 (RawExprForm-F.Field (named 1 (codes "x")) (codes "value"))) ≡ broken 8 3
field_of_int = refl

method : faults positions.Value (send 3 (named 1 (codes "d")) (codes "m") (alone (named 5 (codes "x")) ∷ [])) ≡ []
method = refl

unknown_method : faults positions.Value (send 3 (named 1 (codes "c")) (codes "h") ([])) ≡ broken 8 3
unknown_method = refl

locked_of_object : faults positions.Value (send 3 (named 1 (codes "c")) (codes "get_locked") ([])) ≡ broken 8 3
locked_of_object = refl

-- rule 9: arguments
argument : faults positions.Value (call 1 (codes "f") (alone (named 3 (codes "x")) ∷ [])) ≡ []
argument = refl

no_argument : faults positions.Value (call 1 (codes "f") ([])) ≡ broken 9 1
no_argument = refl

bool_argument : faults positions.Value (call 1 (codes "f") (alone (named 3 (codes "b")) ∷ [])) ≡ bool_as_int 3
bool_argument = refl

object_argument : faults positions.Value (call 1 (codes "f") (alone (named 3 (codes "c")) ∷ [])) ≡ broken 9 3
object_argument = refl

object_made : faults positions.Value (call 1 (codes "Cell") (alone (named 6 (codes "x")) ∷ [])) ≡ []
object_made = refl

lock_made : faults positions.Value (call 1 (codes "Guard") (alone (named 7 (codes "d")) ∷ alone (named 10 (codes "x")) ∷ [])) ≡ []
lock_made = refl

lock_over_int : faults positions.Value (call 1 (codes "Guard") (alone (named 7 (codes "x")) ∷ alone (named 10 (codes "x")) ∷ [])) ≡ broken 9 7
lock_over_int = refl

acquire_with_argument : faults positions.Statement (send 3 (named 1 (codes "l")) (codes "acquire") (alone (named 11 (codes "b")) ∷ [])) ≡ broken 9 3
acquire_with_argument = refl

-- rule 10: what is called
main_called : faults positions.Statement (call 1 (codes "main") ([])) ≡ broken 10 1
main_called = refl

unknown_called : faults positions.Value (call 1 (codes "h") ([])) ≡ broken 10 1
unknown_called = refl

variable_called : faults positions.Value (call 1 (codes "x") ([])) ≡ broken 10 1
variable_called = refl

exception_made : faults positions.Value (call 1 (codes "Error") ([])) ≡ broken 10 1
exception_made = refl

predicate_in_code : faults positions.Value (call 1 (codes "p") (alone (named 3 (codes "c")) ∷ [])) ≡ broken 10 1
predicate_in_code = refl

pure_in_code : faults positions.Value (call 1 (codes "q") (alone (named 3 (codes "c")) ∷ [])) ≡ broken 10 1
pure_in_code = refl

pure_in_contract : faults positions.Term (call 1 (codes "q") (alone (named 3 (codes "c")) ∷ [])) ≡ []
pure_in_contract = refl

predicate_as_atom : faults positions.Atom (call 1 (codes "p") (alone (named 3 (codes "c")) ∷ [])) ≡ []
predicate_as_atom = refl

predicate_as_term : faults positions.Term (call 1 (codes "p") (alone (named 3 (codes "c")) ∷ [])) ≡ broken 10 1
predicate_as_term = refl

function_in_contract : faults positions.Term (call 1 (codes "f") (alone (named 3 (codes "x")) ∷ [])) ≡ broken 10 1
function_in_contract = refl

object_in_contract : faults positions.Term (call 1 (codes "Cell") (alone (named 6 (codes "x")) ∷ [])) ≡ broken 10 1
object_in_contract = refl

init_called : faults positions.Statement (send 3 (named 1 (codes "c")) (codes "__init__") (alone (named 12 (codes "x")) ∷ [])) ≡ broken 10 3
init_called = refl

-- rule 14: locks
acquire_alone : faults positions.Statement (send 3 (named 1 (codes "l")) (codes "acquire") ([])) ≡ []
acquire_alone = refl

acquire_as_value : faults positions.Value (send 3 (named 1 (codes "l")) (codes "acquire") ([])) ≡ broken 14 3
acquire_as_value = refl

locked : faults positions.Value (node 16 (RawExprForm-F.Field (send 3 (named 1 (codes "l")) (codes "get_locked") ([])) (codes "value"))) ≡ []
locked = refl

-- rule 15: threads
thread : faults positions.Value (call 1 (codes "Thread") (labelled (named 8 (codes "target")) (named 15 (codes "f")) ∷ labelled (named 18 (codes "args")) (node 23 (RawExprForm-F.Tuple ((named 24 (codes "x")) ∷ []))) ∷ labelled (named 28 (codes "level")) (named 34 (codes "x")) ∷ [])) ≡ []
thread = refl

thread_of_two : faults positions.Value (call 1 (codes "Thread") (labelled (named 8 (codes "target")) (named 15 (codes "f")) ∷ labelled (named 18 (codes "args")) (node 23 (RawExprForm-F.Tuple ((named 24 (codes "x")) ∷ []))) ∷ [])) ≡ broken 15 1
thread_of_two = refl

thread_in_another_order : faults positions.Value (call 1 (codes "Thread") (labelled (named 8 (codes "target")) (named 15 (codes "f")) ∷ labelled (named 18 (codes "level")) (node 23 (RawExprForm-F.Tuple ((named 24 (codes "x")) ∷ []))) ∷ labelled (named 28 (codes "args")) (named 34 (codes "x")) ∷ [])) ≡ broken 15 1
thread_in_another_order = refl

thread_of_number : faults positions.Value (call 1 (codes "Thread") (labelled (named 8 (codes "target")) (node 15 (RawExprForm-F.Truth true)) ∷ labelled (named 18 (codes "args")) (node 23 (RawExprForm-F.Tuple ((named 24 (codes "x")) ∷ []))) ∷ labelled (named 28 (codes "level")) (named 34 (codes "x")) ∷ [])) ≡ broken 15 15
thread_of_number = refl

thread_with_bool : faults positions.Value (call 1 (codes "Thread") (labelled (named 8 (codes "target")) (named 15 (codes "f")) ∷ labelled (named 18 (codes "args")) (node 23 (RawExprForm-F.Tuple ((named 24 (codes "b")) ∷ []))) ∷ labelled (named 28 (codes "level")) (named 34 (codes "x")) ∷ [])) ≡ bool_as_int 24
thread_with_bool = refl

thread_without_tuple : faults positions.Value (call 1 (codes "Thread") (labelled (named 8 (codes "target")) (named 15 (codes "f")) ∷ labelled (named 18 (codes "args")) (named 23 (codes "x")) ∷ labelled (named 28 (codes "level")) (named 34 (codes "x")) ∷ [])) ≡ broken 15 23
thread_without_tuple = refl

start : faults positions.Statement (send 3 (named 1 (codes "t")) (codes "start") (alone (named 9 (codes "f")) ∷ [])) ≡ []
start = refl

start_as_value : faults positions.Value (send 3 (named 1 (codes "t")) (codes "start") (alone (named 9 (codes "f")) ∷ [])) ≡ broken 15 3
start_as_value = refl

start_of_variable : faults positions.Statement (send 3 (named 1 (codes "t")) (codes "start") (alone (named 9 (codes "x")) ∷ [])) ≡ broken 15 9
start_of_variable = refl

-- rule 16: identity
is_in_line : faults positions.Value (node 3 (RawExprForm-F.Chain (named 1 (codes "c")) (link 3 marks.Is (named 6 (codes "d")) ∷ []))) ≡ []
is_in_line = refl

is_none : faults positions.Value (node 3 (RawExprForm-F.Chain (named 1 (codes "o")) (link 3 marks.IsNot (node 10 RawExprForm-F.Nil) ∷ []))) ≡ []
is_none = refl

is_unrelated : faults positions.Value (node 3 (RawExprForm-F.Chain (named 1 (codes "c")) (link 3 marks.Is (named 6 (codes "l")) ∷ []))) ≡ broken 16 3
is_unrelated = refl

is_int : faults positions.Value (node 3 (RawExprForm-F.Chain (named 1 (codes "x")) (link 3 marks.Is (named 6 (codes "x")) ∷ []))) ≡ broken 16 3
is_int = refl

-- rule 17: print
printed : faults positions.Statement (call 1 (codes "print") (alone (named 7 (codes "x")) ∷ alone (named 10 (codes "b")) ∷ alone (node 13 (RawExprForm-F.Str [])) ∷ [])) ≡ []
printed = refl

object_printed : faults positions.Statement (call 1 (codes "print") (alone (named 7 (codes "c")) ∷ [])) ≡ broken 17 7
object_printed = refl

print_as_value : faults positions.Value (call 1 (codes "print") (alone (named 7 (codes "x")) ∷ [])) ≡ broken 17 1
print_as_value = refl

-- rule 18: strings, tuples, `/` and `=`
string : faults positions.Value (node 1 (RawExprForm-F.Str [])) ≡ broken 18 1
string = refl

tuple : faults positions.Value (node 1 (RawExprForm-F.Tuple ((named 2 (codes "x")) ∷ []))) ≡ broken 18 1
tuple = refl

quotient : faults positions.Value (node 3 (RawExprForm-F.Binary signs.Divide (named 1 (codes "x")) (named 5 (codes "x")))) ≡ broken 18 3
quotient = refl

named_argument : faults positions.Value (call 1 (codes "f") (labelled (named 3 (codes "a")) (named 5 (codes "x")) ∷ [])) ≡ broken 18 3
named_argument = refl

-- rule 23: calls without a result
no_result_alone : faults positions.Statement (call 1 (codes "g") ([])) ≡ []
no_result_alone = refl

no_result_as_value : faults positions.Value (call 1 (codes "g") ([])) ≡ broken 23 1
no_result_as_value = refl

-- rule 24: contracts
acc : faults positions.Atom (call 1 (codes "Acc") (alone (node 7 (RawExprForm-F.Field (named 5 (codes "c")) (codes "value"))) ∷ [])) ≡ []
acc = refl

acc_with_fraction : faults positions.Atom (call 1 (codes "Acc") (alone (node 7 (RawExprForm-F.Field (named 5 (codes "c")) (codes "value"))) ∷ alone (node 15 (RawExprForm-F.Binary signs.Divide (node 14 (RawExprForm-F.Truth true)) (node 16 (RawExprForm-F.Truth true)))) ∷ [])) ≡ []
acc_with_fraction = refl

acc_with_unknown : faults positions.Atom (call 1 (codes "Acc") (alone (node 7 (RawExprForm-F.Field (named 5 (codes "c")) (codes "value"))) ∷ alone (node 15 (RawExprForm-F.Binary signs.Divide (named 14 (codes "y")) (node 16 (RawExprForm-F.Truth true)))) ∷ [])) ≡ broken 2 14
acc_with_unknown = refl

acc_of_name : faults positions.Atom (call 1 (codes "Acc") (alone (named 5 (codes "c")) ∷ [])) ≡ broken 24 5
acc_of_name = refl

int_as_atom : faults positions.Atom (named 1 (codes "x")) ≡ broken 24 1
int_as_atom = refl

int_in_conjunction : faults positions.Atom (node 3 (RawExprForm-F.And (named 1 (codes "b")) (named 7 (codes "x")))) ≡ broken 24 7
int_in_conjunction = refl

level : faults positions.Term (call 1 (codes "Level") (alone (named 7 (codes "l")) ∷ [])) ≡ []
level = refl

level_of_int : faults positions.Term (call 1 (codes "Level") (alone (named 7 (codes "x")) ∷ [])) ≡ broken 24 7
level_of_int = refl

bool_measure : faults positions.Atom (call 1 (codes "MustTerminate") (alone (named 15 (codes "b")) ∷ [])) ≡ bool_as_int 15
bool_measure = refl

may_join : faults positions.Atom (call 1 (codes "MayJoin") (alone (named 9 (codes "t")) ∷ alone (named 12 (codes "f")) ∷ alone (named 15 (codes "x")) ∷ [])) ≡ []
may_join = refl

may_join_without_argument : faults positions.Atom (call 1 (codes "MayJoin") (alone (named 9 (codes "t")) ∷ alone (named 12 (codes "f")) ∷ [])) ≡ broken 24 1
may_join_without_argument = refl

may_join_of_variable : faults positions.Atom (call 1 (codes "MayJoin") (alone (named 9 (codes "t")) ∷ alone (named 12 (codes "x")) ∷ [])) ≡ broken 24 12
may_join_of_variable = refl

old_of_nothing : faults positions.Term (call 1 (codes "Old") ([])) ≡ broken 24 1
old_of_nothing = refl

implies_of_int : faults positions.Atom (call 1 (codes "Implies") (alone (named 9 (codes "x")) ∷ alone (named 12 (codes "b")) ∷ [])) ≡ broken 24 9
implies_of_int = refl

-- rule 26: chains
chain_of_ints : faults positions.Value (node 3 (RawExprForm-F.Chain (named 1 (codes "x")) (link 3 marks.Less (named 5 (codes "x")) ∷ link 7 marks.Equal (named 10 (codes "x")) ∷ []))) ≡ []
chain_of_ints = refl

chain_with_is : faults positions.Value (node 3 (RawExprForm-F.Chain (named 1 (codes "x")) (link 3 marks.Less (named 5 (codes "x")) ∷ link 7 marks.Is (named 10 (codes "x")) ∷ []))) ≡ fault (at 7) (ranks.Mistyped 16) ∷ broken 26 7
chain_with_is = refl

chain_with_bool : faults positions.Value (node 3 (RawExprForm-F.Chain (named 1 (codes "x")) (link 3 marks.Less (named 5 (codes "x")) ∷ link 7 marks.Equal (named 10 (codes "b")) ∷ []))) ≡ bool_as_int 10
chain_with_bool = refl

-- rules 4, 5, 11 and 14: statements
condition : tested_faults the_classes (named 4 (codes "b") positions.Value) ≡ []
condition = refl

int_condition : tested_faults the_classes (named 4 (codes "x") positions.Value) ≡ broken 4 4
int_condition = refl

stored : stored_faults the_classes (named 1 (codes "o") positions.Value) (named 5 (codes "d") positions.Value) ≡ []
stored = refl

stored_bool : stored_faults the_classes (named 1 (codes "x") positions.Value) (named 5 (codes "b") positions.Value) ≡ bool_as_int 5
stored_bool = refl

stored_base : stored_faults the_classes (named 1 (codes "d") positions.Value) (named 5 (codes "c") positions.Value) ≡ broken 5 5
stored_base = refl

returned : returned_faults the_classes the_scope (named 8 (codes "x") positions.Value) ≡ []
returned = refl

returned_object : returned_faults the_classes the_scope (named 8 (codes "c") positions.Value) ≡ broken 11 8
returned_object = refl

returned_bool : returned_faults the_classes the_scope (named 8 (codes "b") positions.Value) ≡ bool_as_int 8
returned_bool = refl

held : with_faults the_classes (named 6 (codes "l") positions.Value) ≡ []
held = refl

held_object : with_faults the_classes (named 6 (codes "c") positions.Value) ≡ broken 14 6
held_object = refl

added : augmented_faults the_classes signs.Plus (at 3) (named 1 (codes "x") positions.Value) (named 6 (codes "x") positions.Value) ≡ []
added = refl

added_to_bool : augmented_faults the_classes signs.Plus (at 3) (named 1 (codes "b") positions.Value) (named 6 (codes "x") positions.Value) ≡ bool_as_int 1
added_to_bool = refl
