-- The names of a method: its parameters, and its locals in the order of their first assignment in the text. Such a name hides
-- a class or function of the module in the whole method.
use Rattle.std.specs.Prelude.{ℕ, Bool, ◌||◌, List, [], ◌∷◌, ◌++◌, flat_map, find, map, Option, Some, None, option_and_then, if◌then◌else◌, codes, bytes_eq}
use Rattle.std.specs.List.{list_any}
use Rattle.std.specs.Option.{option_map}
use Rattle.raw_syntax.specs.declared.RawStmt.{RawStmt, fold-RawStmt}
use Rattle.raw_syntax.specs.declared.RawStmtForm.{RawStmtForm-F}
use Rattle.raw_syntax.specs.declared.RawElif.{RawElif, fold-RawElif}
use Rattle.raw_syntax.specs.declared.RawHandler.{RawHandler, fold-RawHandler}
use Rattle.raw_syntax.specs.declared.RawTy.{RawTy}
use Rattle.raw_syntax.specs.declared.RawParam.{RawParam}
use Rattle.raw_syntax.specs.declared.RawFunc.{RawFunc}
use Rattle.py_syntax.specs.declared.Ty.{Ty}
use Rattle.py_syntax.specs.declared.Ty.TheVariants as types
use Rattle.class_table.specs.declared.Classes.{Classes}
use Rattle.class_table.specs.Shapes.{Shape, name, shape}
use Rattle.type_base.specs.Types.{ty_of}

abbrev pub parameter_is_called : List ℕ → RawParam → Bool
parameter_is_called n p = bytes_eq n p.name

abbrev pub is_parameter : List RawParam → List ℕ → Bool
is_parameter params n = list_any (parameter_is_called n) params

-- `self`, which alone has no type, is an object of the class of the method
abbrev pub self_type : Option ℕ → List ℕ → Option Ty
self_type owner n = if bytes_eq n (codes "self") then option_map (λ k. types.Obj k) owner else None

abbrev pub type_or_self : Classes → Option ℕ → List ℕ → Option RawTy → Option Ty
type_or_self cs owner n None = self_type owner n
type_or_self cs owner n (Some t) = ty_of cs t

-- the type of a parameter of a method of this class, if any
abbrev pub type_of_parameter : Classes → Option ℕ → RawParam → Option Ty
type_of_parameter cs owner p = type_or_self cs owner p.name p.ty

-- the type of the first parameter of this name
abbrev pub parameter_type : Classes → Option ℕ → List RawParam → List ℕ → Option Ty
parameter_type cs owner params n = option_and_then (type_of_parameter cs owner) (find (parameter_is_called n) params)

abbrev pub target_name : Shape → List (List ℕ)
target_name (name p n) = n ∷ []
target_name s = []

abbrev pub names_of : List (List (List ℕ)) → List (List ℕ)
names_of = flat_map (λ names. names)

abbrev pub assigned_form : RawStmtForm-F (List (List ℕ)) (List (List ℕ)) (List (List ℕ)) (List (List ℕ)) → List (List ℕ)
assigned_form (RawStmtForm-F.Declare target ty e) = target_name (shape target)
assigned_form (RawStmtForm-F.Assign target e) = target_name (shape target)
assigned_form (RawStmtForm-F.Augment target p o e) = target_name (shape target)
assigned_form (RawStmtForm-F.If e ss elifs other) = names_of ss ++ names_of elifs ++ names_of other
assigned_form (RawStmtForm-F.While e ss) = names_of ss
assigned_form (RawStmtForm-F.Try ss handlers other last) = names_of ss ++ names_of handlers ++ names_of other ++ names_of last
assigned_form (RawStmtForm-F.With e ss) = names_of ss
assigned_form form = []

-- the names that a statement and those within it assign, in the order of the text
abbrev pub assigned_names : RawStmt → List (List ℕ)
assigned_names = fold-RawStmt (List (List ℕ)) (List (List ℕ)) (List (List ℕ)) (List (List ℕ)) assigned_form (λ e. names_of e.body) (λ h. names_of h.body) (λ s. s.form)

abbrev pub part_names : RawElif → List (List ℕ)
part_names = fold-RawElif (List (List ℕ)) (List (List ℕ)) (List (List ℕ)) (List (List ℕ)) assigned_form (λ e. names_of e.body) (λ h. names_of h.body) (λ s. s.form)

abbrev pub handler_names : RawHandler → List (List ℕ)
handler_names = fold-RawHandler (List (List ℕ)) (List (List ℕ)) (List (List ℕ)) (List (List ℕ)) assigned_form (λ e. names_of e.body) (λ h. names_of h.body) (λ s. s.form)

abbrev pub is_listed : List (List ℕ) → List ℕ → Bool
is_listed names n = list_any (bytes_eq n) names

-- the locals once this name is assigned
abbrev pub with_local : List RawParam → List (List ℕ) → List ℕ → List (List ℕ)
with_local params names n = if is_parameter params n || is_listed names n then names else names ++ n ∷ []

abbrev pub locals_behind : List RawParam → List (List ℕ) → List (List ℕ) → List (List ℕ)
locals_behind params before [] = before
locals_behind params before (n ∷ ns) = locals_behind params (with_local params before n) ns

-- the locals of a method, in the order of their first assignment
abbrev pub locals : RawFunc → List (List ℕ)
locals f = locals_behind f.params [] (names_of (map assigned_names f.body))

-- whether the name is a parameter or one of these locals of the method
abbrev pub is_own_name : List RawParam → List (List ℕ) → List ℕ → Bool
is_own_name params names n = is_parameter params n || is_listed names n
