-- The names of a method with their types. A local has the type of its annotation at its first assignment in the text, or of the
-- first value that it is assigned, read with the locals before it. An augmented assignment gives an int.
use Rattle.std.specs.Prelude.{ℕ, List, [], ◌∷◌, ◌++◌, map, Option, Some, None, is_some, if◌then◌else◌}
use Rattle.raw_syntax.specs.declared.RawExpr.{RawExpr}
use Rattle.raw_syntax.specs.declared.RawStmt.{RawStmt, fold-RawStmt}
use Rattle.raw_syntax.specs.declared.RawStmtForm.{RawStmtForm-F}
use Rattle.raw_syntax.specs.declared.RawElif.{RawElif, fold-RawElif}
use Rattle.raw_syntax.specs.declared.RawHandler.{RawHandler, fold-RawHandler}
use Rattle.raw_syntax.specs.declared.RawFunc.{RawFunc}
use Rattle.py_syntax.specs.declared.Ty.{Ty}
use Rattle.py_syntax.specs.declared.Ty.TheVariants as types
use Rattle.class_table.specs.declared.Classes.{Classes}
use Rattle.class_table.specs.Shapes.{Shape, name, shape}
use Rattle.type_base.specs.Types.{ty_of}
use Rattle.type_names.specs.declared.Position.TheVariants as positions
use Rattle.type_names.specs.declared.Signature.{Signature}
use Rattle.type_names.specs.declared.Scope.{Scope}
use Rattle.type_terms.specs.Calls.{value_type}
use Rattle.type_names.specs.Names.{variable_in}
use Rattle.type_terms.specs.Expressions.{typing}
use Rattle.type_names.specs.Signatures.{parameters_scope}

abbrev pub with_variable : Scope → List ℕ → Option Ty → Scope
with_variable sc word ty = if is_some (variable_in sc.variables word) then sc else record { variables = sc.variables ++ record { name = word; ty = ty } ∷ []; owner = sc.owner; result = sc.result }

abbrev pub name_in : Shape → Option (List ℕ)
name_in (name p n) = Some n
name_in s = None

abbrev pub with_named : Scope → Option (List ℕ) → Option Ty → Scope
with_named sc None ty = sc
with_named sc (Some n) ty = with_variable sc n ty

-- the scope once this target is assigned a value of this type
abbrev pub with_target : Scope → RawExpr → Option Ty → Scope
with_target sc target ty = with_named sc (name_in (shape target)) ty

abbrev pub Change : Type 0
Change = Scope → Scope

abbrev pub in_turn : List Change → Change
in_turn [] sc = sc
in_turn (c ∷ cs) sc = in_turn cs (c sc)

-- the type of a value, where it has one that a local may have
abbrev pub assigned_type : Classes → List Signature → Scope → RawExpr → Option Ty
assigned_type cs fs sc e = value_type (typing cs fs sc e positions.Value).worth.ty

abbrev pub local_form : Classes → List Signature → RawStmtForm-F Change Change Change Change → Change
local_form cs fs (RawStmtForm-F.Declare target ty e) sc = with_target sc target (ty_of cs ty)
local_form cs fs (RawStmtForm-F.Assign target e) sc = with_target sc target (assigned_type cs fs sc e)
local_form cs fs (RawStmtForm-F.Augment target p o e) sc = with_target sc target (Some types.Int)
local_form cs fs (RawStmtForm-F.If e ss elifs other) sc = in_turn other (in_turn elifs (in_turn ss sc))
local_form cs fs (RawStmtForm-F.While e ss) sc = in_turn ss sc
local_form cs fs (RawStmtForm-F.Try ss handlers other last) sc = in_turn last (in_turn other (in_turn handlers (in_turn ss sc)))
local_form cs fs (RawStmtForm-F.With e ss) sc = in_turn ss sc
local_form cs fs form sc = sc

-- the names of a method behind a statement
abbrev pub locals_of : Classes → List Signature → RawStmt → Change
locals_of cs fs = fold-RawStmt Change Change Change Change (local_form cs fs) (λ e. in_turn e.body) (λ h. in_turn h.body) (λ s. s.form)

abbrev pub part_locals : Classes → List Signature → RawElif → Change
part_locals cs fs = fold-RawElif Change Change Change Change (local_form cs fs) (λ e. in_turn e.body) (λ h. in_turn h.body) (λ s. s.form)

abbrev pub handler_locals : Classes → List Signature → RawHandler → Change
handler_locals cs fs = fold-RawHandler Change Change Change Change (local_form cs fs) (λ e. in_turn e.body) (λ h. in_turn h.body) (λ s. s.form)

-- the names of a method of this class, or of a function
abbrev pub scope_of : Classes → List Signature → Option ℕ → RawFunc → Scope
scope_of cs fs owner f = in_turn (map (locals_of cs fs) f.body) (parameters_scope cs owner f)
