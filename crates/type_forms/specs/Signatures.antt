-- The rules on the heads of functions. Rule 1: the types of parameters and results are types. Rule 19: `self` comes first in
-- methods, without a type; other parameters have one; parameters differ. Rule 20: an overriding method has the same parameter
-- types and result; `__init__` overrides nothing. Rule 25: a predicate has reference parameters, result bool and one `return`;
-- a pure function has one `return`; decorators are `Predicate` or `Pure`, one at most, on module functions, and `Predicate`
-- also on a lock's `invariant`.
use Rattle.std.specs.Prelude.{ℕ, Bool, true, false, ◌&&◌, ◌||◌, not, nat_eq, List, [], ◌∷◌, ◌++◌, drop, flat_map, Option, Some, None, is_none, is_some, option_and_then, if◌then◌else◌, codes, bytes_eq}
use Rattle.std.specs.List.{list_all}
use Rattle.py_base.specs.declared.Place.{Place}
use Rattle.raw_syntax.specs.declared.RawStmt.{RawStmt}
use Rattle.raw_syntax.specs.declared.RawStmtForm.{RawStmtForm, RawStmtForm-F, out-RawStmtForm}
use Rattle.raw_syntax.specs.declared.RawElif.{RawElif}
use Rattle.raw_syntax.specs.declared.RawHandler.{RawHandler}
use Rattle.raw_syntax.specs.declared.RawTy.{RawTy}
use Rattle.raw_syntax.specs.declared.RawParam.{RawParam}
use Rattle.raw_syntax.specs.declared.RawFunc.{RawFunc}
use Rattle.raw_syntax.specs.declared.RawItem.{RawItem}
use Rattle.py_syntax.specs.declared.Ty.{Ty}
use Rattle.py_syntax.specs.declared.Ty.TheVariants as types
use Rattle.class_table.specs.declared.Classes.{Classes}
use Rattle.class_table.specs.Bases.{is_init}
use Rattle.class_table.specs.ClassList.{has_mark}
use Rattle.class_table.specs.Faults.{is_alone}
use Rattle.type_base.specs.declared.Fault.{Fault}
use Rattle.type_base.specs.declared.Rank.TheVariants as ranks
use Rattle.type_base.specs.Faults.{fault, fault_if}
use Rattle.type_base.specs.Types.{ty_of, result_of, locked_by}
use Rattle.type_base.specs.Members.{method_above}
use Rattle.type_base.specs.Locals.{is_parameter}

-- Rule 1.
abbrev pub annotation_fault : Classes → RawTy → List Fault
annotation_fault cs t = fault_if (is_none (ty_of cs t)) t.place (ranks.Mistyped 1)

abbrev pub annotation_faults : Classes → Option RawTy → List Fault
annotation_faults cs None = []
annotation_faults cs (Some t) = annotation_fault cs t

abbrev pub parameter_type_fault : Classes → RawParam → List Fault
parameter_type_fault cs p = annotation_faults cs p.ty

abbrev pub result_fault : Classes → RawTy → List Fault
result_fault cs t = fault_if (is_none (result_of cs t)) t.place (ranks.Mistyped 1)

abbrev pub type_faults : Classes → RawFunc → List Fault
type_faults cs f = flat_map (parameter_type_fault cs) f.params ++ result_fault cs f.ret

-- Rule 19.
abbrev pub is_bare_self : RawParam → Bool
is_bare_self p = bytes_eq p.name (codes "self") && is_none p.ty

abbrev pub first_fault : Place → List RawParam → List Fault
first_fault p [] = fault p (ranks.Mistyped 19) ∷ []
first_fault p (q ∷ qs) = fault_if (not (is_bare_self q)) q.place (ranks.Mistyped 19)

abbrev pub untyped_fault : RawParam → List Fault
untyped_fault p = fault_if (is_none p.ty) p.place (ranks.Mistyped 19)

abbrev pub repeated_fault : List RawParam → RawParam → List Fault
repeated_fault before p = fault_if (is_parameter before p.name) p.place (ranks.Mistyped 19)

-- those of the parameters behind these others
abbrev pub repeated_faults : List RawParam → List RawParam → List Fault
repeated_faults before [] = []
repeated_faults before (p ∷ ps) = repeated_fault before p ++ repeated_faults (before ++ p ∷ []) ps

abbrev pub parameter_faults : Option ℕ → RawFunc → List Fault
parameter_faults None f = flat_map untyped_fault f.params ++ repeated_faults [] f.params
parameter_faults (Some k) f = first_fault f.place f.params ++ flat_map untyped_fault (drop 1 f.params) ++ repeated_faults [] f.params

-- Rule 20. Two types are one where they are of one sort and of one class.
abbrev pub type_sort : Ty → ℕ
type_sort types.Int = 0
type_sort types.Bool = 1
type_sort types.Void = 2
type_sort (types.Obj k) = 3
type_sort (types.Opt k) = 4
type_sort types.Thr = 5

abbrev pub type_class : Ty → ℕ
type_class (types.Obj k) = k
type_class (types.Opt k) = k
type_class t = 0

abbrev pub same_type : Ty → Ty → Bool
same_type a b = nat_eq (type_sort a) (type_sort b) && nat_eq (type_class a) (type_class b)

abbrev pub same_if_any : Option Ty → Option Ty → Bool
same_if_any None None = true
same_if_any None (Some b) = false
same_if_any (Some a) None = false
same_if_any (Some a) (Some b) = same_type a b

abbrev pub written_type : Classes → RawParam → Option Ty
written_type cs p = option_and_then (ty_of cs) p.ty

abbrev pub is_no_parameter : List RawParam → Bool
is_no_parameter [] = true
is_no_parameter (q ∷ qs) = false

abbrev pub same_parameters : Classes → List RawParam → List RawParam → Bool
same_parameters cs [] qs = is_no_parameter qs
same_parameters cs (p ∷ ps) [] = false
same_parameters cs (p ∷ ps) (q ∷ qs) = same_if_any (written_type cs p) (written_type cs q) && same_parameters cs ps qs

abbrev pub overrides_well : Classes → RawFunc → RawFunc → Bool
overrides_well cs f g = same_parameters cs (drop 1 f.params) (drop 1 g.params) && same_if_any (result_of cs f.ret) (result_of cs g.ret)

abbrev pub override_fault : Classes → RawFunc → Option RawFunc → List Fault
override_fault cs f None = []
override_fault cs f (Some g) = fault_if (not (overrides_well cs f g)) f.place (ranks.Mistyped 20)

abbrev pub override_faults : Classes → List RawItem → Option ℕ → RawFunc → List Fault
override_faults cs xs None f = []
override_faults cs xs (Some k) f = if is_init f then [] else override_fault cs f (method_above cs xs k f.name)

-- Rule 25.
abbrev pub is_reference : Option Ty → Bool
is_reference (Some (types.Obj k)) = true
is_reference (Some (types.Opt k)) = true
is_reference t = false

abbrev pub has_reference : Classes → RawParam → Bool
has_reference cs p = is_reference (written_type cs p)

abbrev pub form_returns : RawStmtForm-F RawStmtForm RawElif RawHandler RawStmt → Bool
form_returns (RawStmtForm-F.Return e) = true
form_returns form = false

abbrev pub returns : RawStmt → Bool
returns s = form_returns (out-RawStmtForm s.form)

abbrev pub is_one_return : List RawStmt → Bool
is_one_return (s ∷ []) = returns s
is_one_return ss = false

-- the parameters that aren't `self`
abbrev pub given_parameters : Option ℕ → RawFunc → List RawParam
given_parameters None f = f.params
given_parameters (Some k) f = drop 1 f.params

abbrev pub is_predicate_form : Classes → Option ℕ → RawFunc → Bool
is_predicate_form cs owner f = list_all (has_reference cs) (given_parameters owner f) && (is_alone f.ret (codes "bool") && is_one_return f.body)

abbrev pub mark_fits : Classes → Option ℕ → RawFunc → List ℕ → Bool
mark_fits cs None f m = bytes_eq m (codes "Predicate") || bytes_eq m (codes "Pure")
mark_fits cs (Some k) f m = bytes_eq m (codes "Predicate") && (is_some (locked_by cs k) && bytes_eq f.name (codes "invariant"))

abbrev pub marks_fit : Classes → Option ℕ → RawFunc → List (List ℕ) → Bool
marks_fit cs owner f [] = true
marks_fit cs owner f (m ∷ []) = mark_fits cs owner f m
marks_fit cs owner f (m ∷ n ∷ ms) = false

abbrev pub fits_marks : Classes → Option ℕ → RawFunc → Bool
fits_marks cs owner f = marks_fit cs owner f f.marks && ((not (has_mark (codes "Predicate") f) || is_predicate_form cs owner f) && (not (has_mark (codes "Pure") f) || is_one_return f.body))

abbrev pub mark_faults : Classes → Option ℕ → RawFunc → List Fault
mark_faults cs owner f = fault_if (not (fits_marks cs owner f)) f.place (ranks.Mistyped 25)

abbrev pub head_faults : Classes → List RawItem → Option ℕ → RawFunc → List Fault
head_faults cs xs owner f = type_faults cs f ++ parameter_faults owner f ++ override_faults cs xs owner f ++ mark_faults cs owner f
