-- What a class declares: its methods, and the fields that the first assignments of its `__init__` make.
use Rattle.std.specs.Prelude.{ℕ, Bool, false, List, [], ◌∷◌, ◌++◌, drop, length, flat_map, Option, Some, None, if◌then◌else◌, bytes_eq}
use Rattle.std.specs.List.{list_any}
use Rattle.py_base.specs.declared.Place.{Place}
use Rattle.raw_syntax.specs.declared.RawExpr.{RawExpr}
use Rattle.raw_syntax.specs.declared.RawStmt.{RawStmt}
use Rattle.raw_syntax.specs.declared.RawStmtForm.{RawStmtForm, RawStmtForm-F, out-RawStmtForm}
use Rattle.raw_syntax.specs.declared.RawElif.{RawElif}
use Rattle.raw_syntax.specs.declared.RawHandler.{RawHandler}
use Rattle.raw_syntax.specs.declared.RawTy.{RawTy}
use Rattle.raw_syntax.specs.declared.RawParam.{RawParam}
use Rattle.raw_syntax.specs.declared.RawFunc.{RawFunc}
use Rattle.raw_syntax.specs.declared.RawClass.{RawClass}
use Rattle.raw_syntax.specs.declared.RawItem.{RawItem}
use Rattle.raw_syntax.specs.declared.RawItem.TheVariants as items
use Rattle.py_syntax.specs.declared.Ty.{Ty}
use Rattle.class_table.specs.declared.outline.Heritage.{Heritage}
use Rattle.class_table.specs.declared.outline.Declared.{Declared}
use Rattle.class_table.specs.Shapes.{Shape, shape, is_string, is_contract, self_field}
use Rattle.class_table.specs.Values.{type_of, value_type, is_free, is_plain}
use Rattle.class_table.specs.Bases.{is_init, needs_super}

-- an expression alone that passes the test
abbrev pub form_is : (Shape → Bool) → RawStmtForm-F RawStmtForm RawElif RawHandler RawStmt → Bool
form_is test (RawStmtForm-F.Eval e) = test (shape e)
form_is test form = false

abbrev pub statement_is : (Shape → Bool) → RawStmt → Bool
statement_is test s = form_is test (out-RawStmtForm s.form)

abbrev pub behind_docstring : List RawStmt → List RawStmt
behind_docstring [] = []
behind_docstring (s ∷ ss) = if statement_is is_string s then ss else s ∷ ss

abbrev pub behind_contracts : List RawStmt → List RawStmt
behind_contracts [] = []
behind_contracts (s ∷ ss) = if statement_is is_contract s then behind_contracts ss else s ∷ ss

-- what stands behind the docstring and the contracts of a method
abbrev pub after_contracts : List RawStmt → List RawStmt
after_contracts body = behind_contracts (behind_docstring body)

-- where the assignments of `__init__` begin: behind its call of `super().__init__`, where one is needed
abbrev pub prefix_start : Bool → List RawStmt → List RawStmt
prefix_start needed body = if needed then drop 1 (after_contracts body) else after_contracts body

abbrev pub field_at : Ty → Option (Place × List ℕ) → Option Declared
field_at ty None = None
field_at ty (Some (p, name)) = Some (record { place = p; name = name; field = Some ty })

-- The field that `self.f: T = e` makes. The value has no call and doesn't name `self`.
abbrev pub declared_field : List (List ℕ) → List Heritage → RawExpr → RawTy → RawExpr → Option Declared
declared_field names rows target ty e = if is_free e then field_at (type_of names rows ty) (self_field (shape target)) else None

-- The field that `self.f = e` makes. The value is made of literals, parameters and operators.
abbrev pub assigned_field : List (List ℕ) → List Heritage → List RawParam → RawExpr → RawExpr → Option Declared
assigned_field names rows params target e = if is_plain params e then field_at (value_type names rows params e) (self_field (shape target)) else None

abbrev pub field_form : List (List ℕ) → List Heritage → List RawParam → RawStmtForm-F RawStmtForm RawElif RawHandler RawStmt → Option Declared
field_form names rows params (RawStmtForm-F.Declare target ty e) = declared_field names rows target ty e
field_form names rows params (RawStmtForm-F.Assign target e) = assigned_field names rows params target e
field_form names rows params form = None

abbrev pub field_of : List (List ℕ) → List Heritage → List RawParam → RawStmt → Option Declared
field_of names rows params s = field_form names rows params (out-RawStmtForm s.form)

abbrev pub is_declared : List ℕ → List Declared → Bool
is_declared name ds = list_any (λ (d : Declared). bytes_eq name d.name) ds

-- the field, where it is none of those before
abbrev pub new_field : List Declared → Option Declared → Option Declared
new_field before None = None
new_field before (Some d) = if is_declared d.name before then None else Some d

-- the fields before, and those of the longest run of such assignments to further fields
abbrev pub fields_behind : List (List ℕ) → List Heritage → List RawParam → List Declared → List RawStmt → List Declared
fields_behind names rows params before [] = before
fields_behind names rows params before (s ∷ ss) = elim (new_field before (field_of names rows params s)) as (λ _. List Declared) [
  | None ↦ before
  | Some d ↦ fields_behind names rows params (before ++ d ∷ []) ss
]

abbrev pub method_at : RawFunc → Declared
method_at m = record { place = m.place; name = m.name; field = None }

-- a method, and the fields that it makes
abbrev pub member_declares : List (List ℕ) → List Heritage → Bool → RawFunc → List Declared
member_declares names rows needed m = method_at m ∷ (if is_init m then fields_behind names rows m.params [] (prefix_start needed m.body) else [])

-- what the class of this number declares
abbrev pub class_declares : List (List ℕ) → List Heritage → ℕ → RawClass → List Declared
class_declares names rows n c = flat_map (member_declares names rows (needs_super rows n)) c.members

-- what the classes before declare, and those that follow
abbrev pub declared_behind : List (List ℕ) → List Heritage → List (List Declared) → List RawItem → List (List Declared)
declared_behind names rows before [] = before
declared_behind names rows before (items.Class c ∷ xs) = declared_behind names rows (before ++ class_declares names rows (length before) c ∷ []) xs
declared_behind names rows before (items.Func f ∷ xs) = declared_behind names rows before xs

-- what each class declares, by its number; `Exception` declares nothing
abbrev pub all_declared : List (List ℕ) → List Heritage → List RawItem → List (List Declared)
all_declared names rows xs = declared_behind names rows ([] ∷ []) xs
