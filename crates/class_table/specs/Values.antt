-- The types of annotations, and what the values of the first assignments of `__init__` may be.
use Rattle.std.specs.Prelude.{ℕ, Bool, true, false, ◌&&◌, not, List, find, Option, Some, None, option_and_then, if◌then◌else◌, codes, bytes_eq, ⊤}
use Rattle.std.specs.List.{list_any, list_all}
use Rattle.std.specs.Option.{option_map_or}
use Rattle.raw_syntax.specs.declared.Arithmetic.{Arithmetic}
use Rattle.raw_syntax.specs.declared.Arithmetic.TheVariants as signs
use Rattle.raw_syntax.specs.declared.RawExpr.{RawExpr, fold-RawExpr}
use Rattle.raw_syntax.specs.declared.RawExprForm.{RawExprForm-F}
use Rattle.raw_syntax.specs.declared.RawComparison.{RawComparison, fold-RawComparison}
use Rattle.raw_syntax.specs.declared.RawTy.{RawTy}
use Rattle.raw_syntax.specs.declared.RawParam.{RawParam}
use Rattle.py_syntax.specs.declared.Ty.{Ty}
use Rattle.py_syntax.specs.declared.Ty.TheVariants as types
use Rattle.class_table.specs.declared.outline.Heritage.{Heritage}
use Rattle.class_table.specs.Bases.{object_class}

abbrev pub object_type : Option ℕ → Ty
object_type None = types.Void
object_type (Some k) = types.Obj k

abbrev pub optional_type : Option ℕ → Ty
optional_type None = types.Void
optional_type (Some k) = types.Opt k

-- the type of a name alone
abbrev pub type_named : List (List ℕ) → List Heritage → List ℕ → Ty
type_named names rows name =
    if bytes_eq name (codes "int") then types.Int
    else if bytes_eq name (codes "bool") then types.Bool
    else if bytes_eq name (codes "Thread") then types.Thr
    else object_type (object_class names rows name)

-- the type of a name with another in brackets
abbrev pub type_within : List (List ℕ) → List Heritage → List ℕ → List ℕ → Ty
type_within names rows name inner = if bytes_eq name (codes "Optional") then optional_type (object_class names rows inner) else types.Void

abbrev pub type_by : List (List ℕ) → List Heritage → List ℕ → Option (List ℕ) → Ty
type_by names rows name None = type_named names rows name
type_by names rows name (Some inner) = type_within names rows name inner

-- what an annotation means, and Void where it is no type of a value
abbrev pub type_of : List (List ℕ) → List Heritage → RawTy → Ty
type_of names rows t = type_by names rows t.head t.inner

abbrev pub is_parameter : List RawParam → List ℕ → Bool
is_parameter params name = list_any (λ (p : RawParam). bytes_eq name p.name) params

-- the type of a parameter, by the first of the name
abbrev pub parameter_type : List (List ℕ) → List Heritage → List RawParam → List ℕ → Ty
parameter_type names rows params name =
    option_map_or (type_of names rows) (option_and_then (λ (p : RawParam). p.ty) (find (λ (p : RawParam). bytes_eq name p.name) params)) types.Void

abbrev pub every : List Bool → Bool
every = list_all (λ b. b)

-- no call stands within, and no `self`
abbrev pub free_form : RawExprForm-F Bool Bool Bool Bool → Bool
free_form (RawExprForm-F.Name n) = not (bytes_eq n (codes "self"))
free_form (RawExprForm-F.Bracket e) = e
free_form (RawExprForm-F.Tuple es) = every es
free_form (RawExprForm-F.Field e n) = e
free_form (RawExprForm-F.Call e xs) = false
free_form (RawExprForm-F.Negate e) = e
free_form (RawExprForm-F.Binary o a b) = a && b
free_form (RawExprForm-F.Chain e ls) = e && every ls
free_form (RawExprForm-F.Not e) = e
free_form (RawExprForm-F.And a b) = a && b
free_form (RawExprForm-F.Or a b) = a && b
free_form form = true

abbrev pub is_free : RawExpr → Bool
is_free = fold-RawExpr Bool Bool Bool Bool (λ x. true) free_form (λ l. l.operand) (λ e. e.form)

abbrev pub link_is_free : RawComparison → Bool
link_is_free = fold-RawComparison Bool Bool Bool Bool (λ x. true) free_form (λ l. l.operand) (λ e. e.form)

-- it is made of number and truth literals, parameters but `self`, and operators
abbrev pub plain_form : List RawParam → RawExprForm-F Bool Bool Bool Bool → Bool
plain_form params (RawExprForm-F.Number n) = true
plain_form params (RawExprForm-F.Truth b) = true
plain_form params (RawExprForm-F.Name n) = not (bytes_eq n (codes "self")) && is_parameter params n
plain_form params (RawExprForm-F.Bracket e) = e
plain_form params (RawExprForm-F.Negate e) = e
plain_form params (RawExprForm-F.Binary o a b) = a && b
plain_form params (RawExprForm-F.Chain e ls) = e && every ls
plain_form params (RawExprForm-F.Not e) = e
plain_form params (RawExprForm-F.And a b) = a && b
plain_form params (RawExprForm-F.Or a b) = a && b
plain_form params form = false

abbrev pub is_plain : List RawParam → RawExpr → Bool
is_plain params = fold-RawExpr Bool Bool Bool Bool (λ x. true) (plain_form params) (λ l. l.operand) (λ e. e.form)

abbrev pub link_is_plain : List RawParam → RawComparison → Bool
link_is_plain params = fold-RawComparison Bool Bool Bool Bool (λ x. true) (plain_form params) (λ l. l.operand) (λ e. e.form)

-- `/` has no result
abbrev pub result_of : Arithmetic → Ty
result_of signs.Divide = types.Void
result_of o = types.Int

-- the type of such a value by its outermost operator, as the table of operators has it
abbrev pub value_form : (List ℕ → Ty) → RawExprForm-F ⊤ Ty ⊤ Ty → Ty
value_form parameter (RawExprForm-F.Number n) = types.Int
value_form parameter (RawExprForm-F.Truth b) = types.Bool
value_form parameter (RawExprForm-F.Name n) = parameter n
value_form parameter (RawExprForm-F.Bracket t) = t
value_form parameter (RawExprForm-F.Negate t) = types.Int
value_form parameter (RawExprForm-F.Binary o a b) = result_of o
value_form parameter (RawExprForm-F.Chain t ls) = types.Bool
value_form parameter (RawExprForm-F.Not t) = types.Bool
value_form parameter (RawExprForm-F.And a b) = types.Bool
value_form parameter (RawExprForm-F.Or a b) = types.Bool
value_form parameter form = types.Void

abbrev pub value_type : List (List ℕ) → List Heritage → List RawParam → RawExpr → Ty
value_type names rows params = fold-RawExpr ⊤ Ty ⊤ Ty (λ x. tt) (value_form (parameter_type names rows params)) (λ l. tt) (λ e. e.form)
