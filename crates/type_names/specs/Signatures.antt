-- The functions of a text by their numbers, and the parameters of a method with their types.
use Rattle.std.specs.Prelude.{ℕ, suc, Bool, List, [], ◌∷◌, ◌++◌, map, drop, Option, Some, None, option_and_then, if◌then◌else◌, codes, bytes_eq}
use Rattle.std.specs.Option.{option_map}
use Rattle.std.specs.List.{list_any}
use Rattle.raw_syntax.specs.declared.RawTy.{RawTy}
use Rattle.raw_syntax.specs.declared.RawParam.{RawParam}
use Rattle.raw_syntax.specs.declared.RawFunc.{RawFunc}
use Rattle.raw_syntax.specs.declared.RawItem.{RawItem}
use Rattle.raw_syntax.specs.declared.RawItem.TheVariants as items
use Rattle.py_syntax.specs.declared.Ty.{Ty}
use Rattle.py_syntax.specs.declared.Ty.TheVariants as types
use Rattle.class_table.specs.declared.Classes.{Classes}
use Rattle.type_base.specs.Types.{ty_of, result_of}
use Rattle.type_names.specs.declared.signature.FunctionSort.{FunctionSort}
use Rattle.type_names.specs.declared.signature.FunctionSort.TheVariants as sorts
use Rattle.type_names.specs.declared.signature.Signature.{Signature}
use Rattle.type_names.specs.declared.signature.Variable.{Variable}
use Rattle.type_names.specs.declared.signature.Scope.{Scope}

abbrev pub has_mark : List ℕ → RawFunc → Bool
has_mark word f = list_any (bytes_eq word) f.marks

abbrev pub function_sort : RawFunc → FunctionSort
function_sort f = if has_mark (codes "Predicate") f then sorts.Predicate else if has_mark (codes "Pure") f then sorts.Pure else sorts.Code

abbrev pub annotated : Classes → Option RawTy → Option Ty
annotated cs t = option_and_then (ty_of cs) t

abbrev pub parameter_type : Classes → RawParam → Option Ty
parameter_type cs p = annotated cs p.ty

-- the parameters that take arguments: all but a method's `self`
abbrev pub taking : Option ℕ → List RawParam → List RawParam
taking None ps = ps
taking (Some k) ps = drop 1 ps

abbrev pub signature : Classes → Option ℕ → RawFunc → Signature
signature cs owner f =
    record { name = f.name; owner = owner; sort = function_sort f; parameters = map (parameter_type cs) (taking owner f.params); result = result_of cs f.ret }

-- the signatures before, and those of the classes from number n on and of the functions
abbrev pub signatures_behind : Classes → ℕ → List Signature → List RawItem → List Signature
signatures_behind cs n before [] = before
signatures_behind cs n before (items.Class c ∷ xs) = signatures_behind cs (suc n) (before ++ map (signature cs (Some n)) c.members) xs
signatures_behind cs n before (items.Func f ∷ xs) = signatures_behind cs n (before ++ signature cs None f ∷ []) xs

abbrev pub signatures : Classes → List RawItem → List Signature
signatures cs xs = signatures_behind cs 1 [] xs

-- Parameters.
abbrev pub own_type : Classes → Option ℕ → Option RawTy → Option Ty
own_type cs owner None = option_map types.Obj owner
own_type cs owner (Some t) = ty_of cs t

-- `self`, which has no annotation, is an object of the method's class
abbrev pub parameter : Classes → Option ℕ → RawParam → Variable
parameter cs owner p = record { name = p.name; ty = own_type cs owner p.ty }

abbrev pub parameters_scope : Classes → Option ℕ → RawFunc → Scope
parameters_scope cs owner f = record { variables = map (parameter cs owner) f.params; owner = owner; result = result_of cs f.ret }
