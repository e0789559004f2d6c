-- The faults of a text's classes, rule by rule, each at its place. A name declared twice in one scope, a built-in name and a
-- reserved name are DuplicateName at the (second) name; a base that is no class that may be one is UnknownBase, and one that
-- doesn't stand before is BaseCycle, both at the base; BadInit stands at the first statement that breaks the form of `__init__`,
-- at its name where it ends too early or has a result, and for the members of a class of locks or exceptions at the class's
-- name; NoMain stands at the end of the text.
use Rattle.std.specs.Prelude.{ℕ, suc, Bool, true, false, ◌||◌, ◌&&◌, not, nat_eq, nat_lt, nat_le, List, [], ◌∷◌, ◌++◌, map, flat_map, find, Option, Some, None, is_none, is_some, if◌then◌else◌, codes, bytes_eq}
use Rattle.std.specs.List.{list_any}
use Rattle.py_base.specs.declared.Place.{Place}
use Rattle.raw_syntax.specs.declared.RawStmt.{RawStmt, fold-RawStmt}
use Rattle.raw_syntax.specs.declared.RawStmtForm.{RawStmtForm-F}
use Rattle.raw_syntax.specs.declared.RawElif.{RawElif, fold-RawElif}
use Rattle.raw_syntax.specs.declared.RawHandler.{RawHandler, fold-RawHandler}
use Rattle.raw_syntax.specs.declared.RawTy.{RawTy}
use Rattle.raw_syntax.specs.declared.RawParam.{RawParam}
use Rattle.raw_syntax.specs.declared.RawFunc.{RawFunc}
use Rattle.raw_syntax.specs.declared.RawClass.{RawClass}
use Rattle.raw_syntax.specs.declared.RawItem.{RawItem}
use Rattle.raw_syntax.specs.declared.RawItem.TheVariants as items
use Rattle.raw_syntax.specs.declared.Raw.{Raw}
use Rattle.class_table.specs.declared.fault.ClassFault.{ClassFault}
use Rattle.class_table.specs.declared.fault.ClassFault.TheVariants as faults
use Rattle.class_table.specs.declared.outline.Declared.{Declared}
use Rattle.class_table.specs.declared.outline.Table.{Table}
use Rattle.class_table.specs.Names.{is_built_in, is_reserved, init_name}
use Rattle.class_table.specs.Shapes.{Shape, name, shape, calls_super_init}
use Rattle.class_table.specs.Bases.{classes_above, is_exception, needs_super, is_init, named_base, locked_class}
use Rattle.class_table.specs.Declaring.{is_declared, statement_is, after_contracts}
use Rattle.class_table.specs.Tables.{table_of, is_lock, declared_by}

abbrev pub fault_if : Bool → ClassFault → List ClassFault
fault_if true f = f ∷ []
fault_if false f = []

-- The scope of the module: its classes and functions.
abbrev pub item_name : RawItem → List ℕ
item_name (items.Class c) = c.name
item_name (items.Func f) = f.name

abbrev pub item_place : RawItem → Place
item_place (items.Class c) = c.place
item_place (items.Func f) = f.place

abbrev pub is_taken : List RawItem → List ℕ → Bool
is_taken before n = is_built_in n || (is_reserved n || list_any (λ (x : RawItem). bytes_eq n (item_name x)) before)

abbrev pub item_fault : List RawItem → RawItem → List ClassFault
item_fault before x = fault_if (is_taken before (item_name x)) (faults.DuplicateName (item_place x))

-- those of the items behind these others
abbrev pub module_faults : List RawItem → List RawItem → List ClassFault
module_faults before [] = []
module_faults before (x ∷ xs) = item_fault before x ++ module_faults (before ++ x ∷ []) xs

-- The scope of a class with its bases: its methods and fields. Only a method may stand again, for one of a base.
abbrev pub is_field : Declared → Bool
is_field d = is_some d.field

abbrev pub is_unfit : Declared → Bool
is_unfit d = is_built_in d.name || (is_reserved d.name && not (is_none d.field && bytes_eq d.name init_name))

abbrev pub clashes : Declared → Declared → Bool
clashes d e = bytes_eq d.name e.name && (is_field d || is_field e)

-- whether it clashes with what the class of this number declares
abbrev pub clashes_with : Table → Declared → ℕ → Bool
clashes_with t d k = list_any (clashes d) (declared_by t k)

-- whether it may not stand in a class behind these others, below these classes
abbrev pub is_refused : Table → List ℕ → List Declared → Declared → Bool
is_refused t above before d = is_unfit d || (is_declared d.name before || list_any (clashes_with t d) above)

abbrev pub declared_fault : Table → List ℕ → List Declared → Declared → List ClassFault
declared_fault t above before d = fault_if (is_refused t above before d) (faults.DuplicateName d.place)

abbrev pub declared_faults : Table → List ℕ → List Declared → List Declared → List ClassFault
declared_faults t above before [] = []
declared_faults t above before (d ∷ ds) = declared_fault t above before d ++ declared_faults t above (before ++ d ∷ []) ds

abbrev pub scope_faults : Table → ℕ → List ClassFault
scope_faults t n = declared_faults t (classes_above t.rows n) [] (declared_by t n)

-- The scope of a method: its parameters and locals. Two parameters of one name are left to the typing rules, and a local is
-- declared where it is first assigned, so that only built-in names are refused.
abbrev pub parameter_fault : RawParam → List ClassFault
parameter_fault p = fault_if (is_built_in p.name) (faults.DuplicateName p.place)

abbrev pub target_fault : Shape → List ClassFault
target_fault (name p n) = fault_if (is_built_in n) (faults.DuplicateName p)
target_fault s = []

abbrev pub joined : List (List ClassFault) → List ClassFault
joined = flat_map (λ fs. fs)

abbrev pub assigned_form : RawStmtForm-F (List ClassFault) (List ClassFault) (List ClassFault) (List ClassFault) → List ClassFault
assigned_form (RawStmtForm-F.Declare target ty e) = target_fault (shape target)
assigned_form (RawStmtForm-F.Assign target e) = target_fault (shape target)
assigned_form (RawStmtForm-F.Augment target p o e) = target_fault (shape target)
assigned_form (RawStmtForm-F.If e ss elifs other) = joined ss ++ joined elifs ++ joined other
assigned_form (RawStmtForm-F.While e ss) = joined ss
assigned_form (RawStmtForm-F.Try ss handlers other last) = joined ss ++ joined handlers ++ joined other ++ joined last
assigned_form (RawStmtForm-F.With e ss) = joined ss
assigned_form form = []

-- the built-in names that a statement and those within it assign
abbrev pub assigned_faults : RawStmt → List ClassFault
assigned_faults = fold-RawStmt (List ClassFault) (List ClassFault) (List ClassFault) (List ClassFault) assigned_form (λ e. joined e.body) (λ h. joined h.body) (λ s. s.form)

abbrev pub part_faults : RawElif → List ClassFault
part_faults = fold-RawElif (List ClassFault) (List ClassFault) (List ClassFault) (List ClassFault) assigned_form (λ e. joined e.body) (λ h. joined h.body) (λ s. s.form)

abbrev pub handler_faults : RawHandler → List ClassFault
handler_faults = fold-RawHandler (List ClassFault) (List ClassFault) (List ClassFault) (List ClassFault) assigned_form (λ e. joined e.body) (λ h. joined h.body) (λ s. s.form)

abbrev pub local_faults : RawFunc → List ClassFault
local_faults f = flat_map parameter_fault f.params ++ joined (map assigned_faults f.body)

-- The base of the class of number n, which stands at p.
abbrev pub named_fault : Table → ℕ → Place → Option ℕ → List ClassFault
named_fault t n p None = faults.UnknownBase p ∷ []
named_fault t n p (Some k) = if is_lock t k then faults.UnknownBase p ∷ [] else fault_if (nat_le n k) (faults.BaseCycle p)

abbrev pub base_faults : Table → ℕ → Option RawTy → List ClassFault
base_faults t n None = []
base_faults t n (Some b) = if is_some (locked_class t.names t.rows b) then [] else named_fault t n b.place (named_base t.names b)

-- The members of a class of locks are `@Predicate def invariant(self) -> bool` alone, those of a class of exceptions none.
abbrev pub is_alone : RawTy → List ℕ → Bool
is_alone ty word = bytes_eq ty.head word && is_none ty.inner

abbrev pub has_self_alone : List RawParam → Bool
has_self_alone (p ∷ []) = bytes_eq p.name (codes "self") && is_none p.ty
has_self_alone params = false

abbrev pub has_predicate_alone : List (List ℕ) → Bool
has_predicate_alone (mark ∷ []) = bytes_eq mark (codes "Predicate")
has_predicate_alone marks = false

abbrev pub is_invariant : RawFunc → Bool
is_invariant f = bytes_eq f.name (codes "invariant") && (has_predicate_alone f.marks && (has_self_alone f.params && is_alone f.ret (codes "bool")))

abbrev pub has_invariant_alone : List RawFunc → Bool
has_invariant_alone (f ∷ []) = is_invariant f
has_invariant_alone fs = false

abbrev pub has_no_members : List RawFunc → Bool
has_no_members [] = true
has_no_members (f ∷ fs) = false

abbrev pub has_fit_members : Table → ℕ → List RawFunc → Bool
has_fit_members t n fs = if is_lock t n then has_invariant_alone fs else if is_exception t.rows n then has_no_members fs else true

abbrev pub member_faults : Table → ℕ → RawClass → List ClassFault
member_faults t n c = fault_if (not (has_fit_members t n c.members)) (faults.BadInit c.place)

-- The form of `__init__`: no result, and behind its contracts the call of `super().__init__` where a class above has one.
abbrev pub super_fault : Place → List RawStmt → List ClassFault
super_fault p [] = faults.BadInit p ∷ []
super_fault p (s ∷ ss) = fault_if (not (statement_is calls_super_init s)) (faults.BadInit s.place)

abbrev pub form_faults : Bool → RawFunc → List ClassFault
form_faults needed f = fault_if (not (is_alone f.ret (codes "None"))) (faults.BadInit f.place) ++ (if needed then super_fault f.place (after_contracts f.body) else [])

abbrev pub init_faults : Bool → Option RawFunc → List ClassFault
init_faults needed None = []
init_faults needed (Some f) = form_faults needed f

-- all of the class of number n
abbrev pub class_faults : Table → ℕ → RawClass → List ClassFault
class_faults t n c = scope_faults t n ++ base_faults t n c.base ++ member_faults t n c ++ init_faults (needs_super t.rows n) (find is_init c.members) ++ flat_map local_faults c.members

-- those before, and those of the classes from number n on and of the functions
abbrev pub faults_behind : Table → ℕ → List ClassFault → List RawItem → List ClassFault
faults_behind t n before [] = before
faults_behind t n before (items.Class c ∷ xs) = faults_behind t (suc n) (before ++ class_faults t n c) xs
faults_behind t n before (items.Func f ∷ xs) = faults_behind t n (before ++ local_faults f) xs

-- A function `main` without decorators and parameters, whose result is None.
abbrev pub has_no_marks : List (List ℕ) → Bool
has_no_marks [] = true
has_no_marks (mark ∷ marks) = false

abbrev pub has_no_parameters : List RawParam → Bool
has_no_parameters [] = true
has_no_parameters (p ∷ ps) = false

abbrev pub is_main : RawFunc → Bool
is_main f = bytes_eq f.name (codes "main") && (has_no_marks f.marks && (has_no_parameters f.params && is_alone f.ret (codes "None")))

abbrev pub is_main_item : RawItem → Bool
is_main_item (items.Class c) = false
is_main_item (items.Func f) = is_main f

abbrev pub main_faults : List RawItem → Place → List ClassFault
main_faults xs last = fault_if (not (list_any is_main_item xs)) (faults.NoMain last)

abbrev pub faults_with : Table → Raw → List ClassFault
faults_with t raw = faults_behind t 1 (module_faults [] raw.items) raw.items ++ main_faults raw.items raw.«end»

-- The order of faults: by place, and at one place as they are listed here.
abbrev pub place_of : ClassFault → Place
place_of (faults.DuplicateName p) = p
place_of (faults.UnknownBase p) = p
place_of (faults.BaseCycle p) = p
place_of (faults.BadInit p) = p
place_of (faults.NoMain p) = p
place_of faults.OutOfMemory = record { line = 0; col = 0 }

abbrev pub rank_of : ClassFault → ℕ
rank_of (faults.DuplicateName p) = 1
rank_of (faults.UnknownBase p) = 2
rank_of (faults.BaseCycle p) = 3
rank_of (faults.BadInit p) = 4
rank_of (faults.NoMain p) = 5
rank_of faults.OutOfMemory = 0

abbrev pub is_before : Place → ℕ → Place → ℕ → Bool
is_before p i q k = nat_lt p.line q.line || (nat_eq p.line q.line && (nat_lt p.col q.col || (nat_eq p.col q.col && nat_lt i k)))

abbrev pub comes_before : ClassFault → ClassFault → Bool
comes_before f g = is_before (place_of f) (rank_of f) (place_of g) (rank_of g)

abbrev pub sooner : Option ClassFault → ClassFault → ClassFault
sooner None f = f
sooner (Some best) f = if comes_before f best then f else best

-- the first of those so far and of these
abbrev pub first_of : Option ClassFault → List ClassFault → Option ClassFault
first_of best [] = best
first_of best (f ∷ fs) = first_of (Some (sooner best f)) fs

-- all faults of the classes of a tree, and the first of them
abbrev pub faults_of : Raw → List ClassFault
faults_of raw = faults_with (table_of raw.items) raw

abbrev pub first_fault : Raw → Option ClassFault
first_fault raw = first_of None (faults_of raw)
