-- The types of the expressions of a text, in the order of the text, and the locals of its methods with their types.
use Rattle.std.specs.Prelude.{ℕ, suc, List, [], ◌∷◌, ◌++◌, map, flat_map, drop, length, Option, Some, None}
use Rattle.raw_syntax.specs.declared.RawExpr.{RawExpr}
use Rattle.raw_syntax.specs.declared.RawStmt.{RawStmt, fold-RawStmt}
use Rattle.raw_syntax.specs.declared.RawStmtForm.{RawStmtForm-F}
use Rattle.raw_syntax.specs.declared.RawElif.{RawElif, fold-RawElif}
use Rattle.raw_syntax.specs.declared.RawHandler.{RawHandler, fold-RawHandler}
use Rattle.raw_syntax.specs.declared.RawFunc.{RawFunc}
use Rattle.raw_syntax.specs.declared.RawItem.{RawItem}
use Rattle.raw_syntax.specs.declared.RawItem.TheVariants as items
use Rattle.raw_syntax.specs.declared.Raw.{Raw}
use Rattle.class_table.specs.declared.Classes.{Classes}
use Rattle.class_table.specs.Declaring.{behind_docstring}
use Rattle.type_names.specs.declared.Position.{Position}
use Rattle.type_names.specs.declared.Position.TheVariants as positions
use Rattle.type_names.specs.declared.FunctionSort.{FunctionSort}
use Rattle.type_names.specs.declared.FunctionSort.TheVariants as sorts
use Rattle.type_names.specs.declared.TypeAt.{TypeAt}
use Rattle.type_names.specs.declared.Signature.{Signature}
use Rattle.type_names.specs.declared.Variable.{Variable}
use Rattle.type_names.specs.declared.Local.{Local}
use Rattle.type_names.specs.declared.Scope.{Scope}
use Rattle.type_names.specs.Positions.{or_void}
use Rattle.type_names.specs.Signatures.{function_sort, signatures}
use Rattle.type_terms.specs.Expressions.{typing}
use Rattle.type_rules.specs.declared.outcome.Findings.{Findings}
use Rattle.type_rules.specs.Scopes.{scope_of}
use Rattle.type_rules.specs.Statements.{returned_at, rule_faults}

abbrev pub Types : Type 0
Types = List TypeAt

abbrev pub joined_types : List Types → Types
joined_types = flat_map (λ ts. ts)

-- Statements: their expressions in turn, and an assignment's target before its value.
abbrev pub value_types : Classes → List Signature → Scope → RawExpr → Types
value_types cs fs sc e = (typing cs fs sc e positions.Value).types

abbrev pub assignment_types : Classes → List Signature → Scope → RawExpr → RawExpr → Types
assignment_types cs fs sc target e = value_types cs fs sc target ++ value_types cs fs sc e

abbrev pub return_types : Classes → List Signature → Scope → Position → Option RawExpr → Types
return_types cs fs sc at None = []
return_types cs fs sc at (Some e) = (typing cs fs sc e at).types

abbrev pub types_form : Classes → List Signature → Scope → Position → RawStmtForm-F Types Types Types Types → Types
types_form cs fs sc at (RawStmtForm-F.Return e) = return_types cs fs sc at e
types_form cs fs sc at (RawStmtForm-F.Assert e) = value_types cs fs sc e
types_form cs fs sc at (RawStmtForm-F.Eval e) = (typing cs fs sc e positions.Statement).types
types_form cs fs sc at (RawStmtForm-F.Declare target ty e) = assignment_types cs fs sc target e
types_form cs fs sc at (RawStmtForm-F.Assign target e) = assignment_types cs fs sc target e
types_form cs fs sc at (RawStmtForm-F.Augment target q o e) = assignment_types cs fs sc target e
types_form cs fs sc at (RawStmtForm-F.If e ss elifs other) = value_types cs fs sc e ++ (joined_types ss ++ (joined_types elifs ++ joined_types other))
types_form cs fs sc at (RawStmtForm-F.While e ss) = value_types cs fs sc e ++ joined_types ss
types_form cs fs sc at (RawStmtForm-F.Try ss handlers other last) = joined_types ss ++ (joined_types handlers ++ (joined_types other ++ joined_types last))
types_form cs fs sc at (RawStmtForm-F.With e ss) = value_types cs fs sc e ++ joined_types ss
types_form cs fs sc at form = []

-- the types of a statement and those within it, where returned values stand at this position
abbrev pub statement_types : Classes → List Signature → Scope → Position → RawStmt → Types
statement_types cs fs sc at = fold-RawStmt Types Types Types Types (types_form cs fs sc at) (λ e. value_types cs fs sc e.condition ++ joined_types e.body) (λ h. joined_types h.body) (λ s. s.form)

abbrev pub part_types : Classes → List Signature → Scope → Position → RawElif → Types
part_types cs fs sc at = fold-RawElif Types Types Types Types (types_form cs fs sc at) (λ e. value_types cs fs sc e.condition ++ joined_types e.body) (λ h. joined_types h.body) (λ s. s.form)

abbrev pub handler_types : Classes → List Signature → Scope → Position → RawHandler → Types
handler_types cs fs sc at = fold-RawHandler Types Types Types Types (types_form cs fs sc at) (λ e. value_types cs fs sc e.condition ++ joined_types e.body) (λ h. joined_types h.body) (λ s. s.form)

-- Functions, and methods of a class, behind their docstrings.
unfoldable pub function_types : Classes → List Signature → Option ℕ → RawFunc → Types
function_types cs fs owner f = joined_types (map (statement_types cs fs (scope_of cs fs owner f) (returned_at (function_sort f))) (behind_docstring f.body))

-- the methods of the class of number k
abbrev pub members_types : Classes → List Signature → ℕ → List RawFunc → Types
members_types cs fs k [] = []
members_types cs fs k (f ∷ members) = function_types cs fs (Some k) f ++ members_types cs fs k members

-- those of the classes from number n on and of the functions
abbrev pub types_from : Classes → List Signature → ℕ → List RawItem → Types
types_from cs fs n [] = []
types_from cs fs n (items.Class c ∷ xs) = members_types cs fs n c.members ++ types_from cs fs (suc n) xs
types_from cs fs n (items.Func f ∷ xs) = function_types cs fs None f ++ types_from cs fs n xs

-- Locals: the names of a method behind its parameters.
abbrev pub local : Variable → Local
local v = record { name = v.name; ty = or_void v.ty }

abbrev pub locals_in : RawFunc → Scope → List Local
locals_in f sc = map local (drop (length f.params) sc.variables)

-- what is marked `Predicate` or `Pure` is no method
abbrev pub sort_locals : FunctionSort → List Local → List (List Local)
sort_locals sorts.Code ls = ls ∷ []
sort_locals s ls = []

unfoldable pub function_locals : Classes → List Signature → Option ℕ → RawFunc → List (List Local)
function_locals cs fs owner f = sort_locals (function_sort f) (locals_in f (scope_of cs fs owner f))

abbrev pub members_locals : Classes → List Signature → ℕ → List RawFunc → List (List Local)
members_locals cs fs k [] = []
members_locals cs fs k (f ∷ members) = function_locals cs fs (Some k) f ++ members_locals cs fs k members

abbrev pub locals_from : Classes → List Signature → ℕ → List RawItem → List (List Local)
locals_from cs fs n [] = []
locals_from cs fs n (items.Class c ∷ xs) = members_locals cs fs n c.members ++ locals_from cs fs (suc n) xs
locals_from cs fs n (items.Func f ∷ xs) = function_locals cs fs None f ++ locals_from cs fs n xs

-- all faults and types of the expressions of a text with these classes, and the locals of its methods in turn
abbrev pub findings_of : Raw → Classes → Findings
findings_of raw cs =
    let fs = signatures cs raw.items in
    record { faults = rule_faults raw cs; types = types_from cs fs 1 raw.items; locals = locals_from cs fs 1 raw.items }
