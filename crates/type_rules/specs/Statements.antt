-- Statements: a condition is bool (rule 4), an assigned value fits its local or field (rule 5), the operands of an augmented
-- assignment are ints (rule 3), a returned value fits the result (rule 11, at the value), and `with` is on a lock (rule 14, at the
-- statement). The body of a predicate returns an assertion, and that of a pure function a term of a contract.
use Rattle.std.specs.Prelude.{ℕ, suc, List, [], ◌∷◌, ◌++◌, map, Option, Some, None}
use Rattle.py_base.specs.declared.Place.{Place}
use Rattle.raw_syntax.specs.declared.Arithmetic.{Arithmetic}
use Rattle.raw_syntax.specs.declared.RawExpr.{RawExpr}
use Rattle.raw_syntax.specs.declared.RawStmt.{RawStmt, fold-RawStmt}
use Rattle.raw_syntax.specs.declared.RawStmtForm.{RawStmtForm-F}
use Rattle.raw_syntax.specs.declared.RawElif.{RawElif, fold-RawElif}
use Rattle.raw_syntax.specs.declared.RawHandler.{RawHandler, fold-RawHandler}
use Rattle.raw_syntax.specs.declared.RawFunc.{RawFunc}
use Rattle.raw_syntax.specs.declared.RawItem.{RawItem}
use Rattle.raw_syntax.specs.declared.RawItem.TheVariants as items
use Rattle.raw_syntax.specs.declared.Raw.{Raw}
use Rattle.py_syntax.specs.declared.Ty.TheVariants as types
use Rattle.class_table.specs.declared.Classes.{Classes}
use Rattle.class_table.specs.Declaring.{behind_docstring}
use Rattle.type_base.specs.declared.Fault.{Fault}
use Rattle.type_base.specs.Faults.{joined}
use Rattle.type_names.specs.declared.Position.{Position}
use Rattle.type_names.specs.declared.Position.TheVariants as positions
use Rattle.type_names.specs.declared.FunctionSort.{FunctionSort}
use Rattle.type_names.specs.declared.FunctionSort.TheVariants as sorts
use Rattle.type_names.specs.declared.Signature.{Signature}
use Rattle.type_names.specs.declared.Scope.{Scope}
use Rattle.type_names.specs.Fitting.{want_faults, wanted_faults}
use Rattle.type_names.specs.Operands.{arithmetic_faults}
use Rattle.type_terms.specs.Calls.{lock_fault, value_type}
use Rattle.type_names.specs.Positions.{Typing}
use Rattle.type_terms.specs.Expressions.{typing}
use Rattle.type_names.specs.Signatures.{function_sort, signatures}
use Rattle.type_rules.specs.Scopes.{scope_of}

-- a condition
abbrev pub tested_faults : Classes → Typing → List Fault
tested_faults cs t = t.faults ++ want_faults cs.list 4 types.Bool t.worth

abbrev pub condition_faults : Classes → List Signature → Scope → RawExpr → List Fault
condition_faults cs fs sc e = tested_faults cs (typing cs fs sc e positions.Value)

-- A target and the value that it gets. A local has its type, so that the target is read as any other expression.
abbrev pub stored_faults : Classes → Typing → Typing → List Fault
stored_faults cs t v = t.faults ++ (v.faults ++ wanted_faults cs.list 5 t.worth.ty v.worth)

abbrev pub assignment_faults : Classes → List Signature → Scope → RawExpr → RawExpr → List Fault
assignment_faults cs fs sc target e = stored_faults cs (typing cs fs sc target positions.Value) (typing cs fs sc e positions.Value)

abbrev pub augmented_faults : Classes → Arithmetic → Place → Typing → Typing → List Fault
augmented_faults cs o p t v = t.faults ++ (v.faults ++ arithmetic_faults cs.list o p t.worth v.worth)

abbrev pub returned_faults : Classes → Scope → Typing → List Fault
returned_faults cs sc t = t.faults ++ wanted_faults cs.list 11 (value_type sc.result) t.worth

abbrev pub return_faults : Classes → List Signature → Scope → Position → Option RawExpr → List Fault
return_faults cs fs sc at None = []
return_faults cs fs sc at (Some e) = returned_faults cs sc (typing cs fs sc e at)

abbrev pub with_faults : Classes → Typing → List Fault
with_faults cs t = t.faults ++ lock_fault cs 14 t.worth.place t.worth.ty

abbrev pub Faults : Type 0
Faults = List Fault

abbrev pub statement_form : Classes → List Signature → Scope → Position → RawStmtForm-F (Place → Faults) Faults Faults Faults → Place → Faults
statement_form cs fs sc at (RawStmtForm-F.Return e) p = return_faults cs fs sc at e
statement_form cs fs sc at (RawStmtForm-F.Assert e) p = condition_faults cs fs sc e
statement_form cs fs sc at (RawStmtForm-F.Eval e) p = (typing cs fs sc e positions.Statement).faults
statement_form cs fs sc at (RawStmtForm-F.Declare target ty e) p = assignment_faults cs fs sc target e
statement_form cs fs sc at (RawStmtForm-F.Assign target e) p = assignment_faults cs fs sc target e
statement_form cs fs sc at (RawStmtForm-F.Augment target q o e) p = augmented_faults cs o q (typing cs fs sc target positions.Value) (typing cs fs sc e positions.Value)
statement_form cs fs sc at (RawStmtForm-F.If e ss elifs other) p = condition_faults cs fs sc e ++ (joined ss ++ (joined elifs ++ joined other))
statement_form cs fs sc at (RawStmtForm-F.While e ss) p = condition_faults cs fs sc e ++ joined ss
statement_form cs fs sc at (RawStmtForm-F.Try ss handlers other last) p = joined ss ++ (joined handlers ++ (joined other ++ joined last))
statement_form cs fs sc at (RawStmtForm-F.With e ss) p = with_faults cs (typing cs fs sc e positions.Value) ++ joined ss
statement_form cs fs sc at form p = []

-- the faults of a statement and those within it, where returned values stand at this position
abbrev pub statement_faults : Classes → List Signature → Scope → Position → RawStmt → Faults
statement_faults cs fs sc at = fold-RawStmt (Place → Faults) Faults Faults Faults (statement_form cs fs sc at) (λ e. condition_faults cs fs sc e.condition ++ joined e.body) (λ h. joined h.body) (λ s. s.form s.place)

abbrev pub part_faults : Classes → List Signature → Scope → Position → RawElif → Faults
part_faults cs fs sc at = fold-RawElif (Place → Faults) Faults Faults Faults (statement_form cs fs sc at) (λ e. condition_faults cs fs sc e.condition ++ joined e.body) (λ h. joined h.body) (λ s. s.form s.place)

abbrev pub handler_faults : Classes → List Signature → Scope → Position → RawHandler → Faults
handler_faults cs fs sc at = fold-RawHandler (Place → Faults) Faults Faults Faults (statement_form cs fs sc at) (λ e. condition_faults cs fs sc e.condition ++ joined e.body) (λ h. joined h.body) (λ s. s.form s.place)

abbrev pub returned_at : FunctionSort → Position
returned_at sorts.Code = positions.Value
returned_at sorts.Predicate = positions.Atom
returned_at sorts.Pure = positions.Term

-- a function, or a method of this class, behind its docstring
unfoldable pub function_faults : Classes → List Signature → Option ℕ → RawFunc → Faults
function_faults cs fs owner f = joined (map (statement_faults cs fs (scope_of cs fs owner f) (returned_at (function_sort f))) (behind_docstring f.body))

-- the methods of the class of number k
abbrev pub members_faults : Classes → List Signature → ℕ → List RawFunc → Faults
members_faults cs fs k [] = []
members_faults cs fs k (f ∷ members) = function_faults cs fs (Some k) f ++ members_faults cs fs k members

-- those of the classes from number n on and of the functions
abbrev pub faults_from : Classes → List Signature → ℕ → List RawItem → Faults
faults_from cs fs n [] = []
faults_from cs fs n (items.Class c ∷ xs) = members_faults cs fs n c.members ++ faults_from cs fs (suc n) xs
faults_from cs fs n (items.Func f ∷ xs) = function_faults cs fs None f ++ faults_from cs fs n xs

-- all faults of the types of expressions in a text with these classes
abbrev pub rule_faults : Raw → Classes → Faults
rule_faults raw cs = faults_from cs (signatures cs raw.items) 1 raw.items
