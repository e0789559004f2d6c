-- Small statements have no fault of types, and their locals are ints.
use Rattle.std.proofs.Common.{◌≡◌, refl, sym, ap, ◌∙◌, ℕ, List, [], ◌∷◌, ◌++◌, Option, Some, None}
use Rattle.std.specs.Prelude.{Bool, true, false, ◌||◌, is_some, if◌then◌else◌}
use Rattle.std.proofs.lemmas.List.{map-append}
use Rattle.py_base.specs.declared.Place.{Place}
use Rattle.raw_syntax.specs.declared.RawStmt.{RawStmt}
use Rattle.raw_syntax.specs.declared.RawStmtForm.{RawStmtForm, RawStmtForm-F, out-RawStmtForm, fold-RawStmtForm, map-RawStmtForm}
use Rattle.raw_syntax.specs.declared.RawElif.{RawElif}
use Rattle.raw_syntax.specs.declared.RawHandler.{RawHandler}
use Rattle.py_syntax.specs.declared.Ty.{Ty}
use Rattle.py_syntax.specs.declared.Ty.TheVariants as types
use Rattle.class_table.specs.declared.Classes.{Classes}
use Rattle.class_table.specs.Shapes.{Shape}
use Rattle.type_base.specs.declared.Fault.{Fault}
use Rattle.type_base.specs.Faults.{joined}
use Rattle.type_names.specs.declared.Position.TheVariants as positions
use Rattle.type_names.specs.declared.Signature.{Signature}
use Rattle.type_names.specs.declared.Variable.{Variable}
use Rattle.type_names.specs.declared.Scope.{Scope}
use Rattle.type_names.specs.Fitting.{want_faults, wanted_faults, known_fit_faults}
use Rattle.type_names.specs.Positions.{Typing}
use Rattle.type_terms.specs.Calls.{value_type}
use Rattle.type_terms.specs.Expressions.{typing}
use Rattle.type_rules.specs.Scopes.{with_variable, name_in, with_named, assigned_type, Change, in_turn, local_form, locals_of, part_locals, handler_locals}
use Rattle.type_rules.specs.Statements.{condition_faults, stored_faults, statement_form, statement_faults, part_faults, handler_faults}
use Rattle.small_module.specs.SmallTree.{is_known, with_name}
use Rattle.small_trees.proofs.Opened.{StmtLayer, opened_stmt}
use Rattle.small_trees.proofs.Trees.{IsStmt, is_pass, is_store, is_check, is_printed}
use Rattle.small_trees.proofs.Names.{AllFree, equal_bytes, known_behind}
use Rattle.small_trees.proofs.Exprs.{target_shape}
use Rattle.small_trees.proofs.Typings.{int_named, ints, scope_with, known_variable, no_variable, Has, as_value, Among, sum_typed, target_typed, equation_typed, print_typed}

-- The locals.
changed : (cs : Classes) (fs : List Signature) (s : RawStmt) (f : StmtLayer) → out-RawStmtForm s.form ≡ f → locals_of cs fs s ≡ local_form cs fs (map-RawStmtForm RawStmtForm RawElif RawHandler RawStmt Change Change Change Change (fold-RawStmtForm Change Change Change Change (local_form cs fs) (λ e. in_turn e.body) (λ h. in_turn h.body) (λ s. s.form)) (part_locals cs fs) (handler_locals cs fs) (locals_of cs fs) f)
changed cs fs s f is = opened_stmt Change Change Change Change (local_form cs fs) (λ e. in_turn e.body) (λ h. in_turn h.body) (λ s. s.form) s f is

-- a local that is an int, behind its assignment
with_int : (names : List (List ℕ)) (n : List ℕ) → with_variable (scope_with names) n (Some types.Int) ≡ scope_with (with_name names n)
with_int names n = by_test (is_known names n) refl
  where
    by_test : (t : Bool) → is_known names n ≡ t → with_variable (scope_with names) n (Some types.Int) ≡ scope_with (if t then names else names ++ n ∷ [])
    by_test true known = ap (λ (o : Option Variable). if is_some o then scope_with names else record { variables = ints names ++ int_named n ∷ []; owner = None; result = Some types.Void }) (known_variable names n known)
    by_test false new =
        ap (λ (o : Option Variable). if is_some o then scope_with names else record { variables = ints names ++ int_named n ∷ []; owner = None; result = Some types.Void }) (no_variable names n new)
        ∙ ap (λ (vs : List Variable). record { variables = vs; owner = None; result = Some types.Void }) (sym (map-append int_named names (n ∷ [])))

same_names : (names : List (List ℕ)) → Among names names
same_names names n known = known

pub stmt_locals : (cs : Classes) (fs : List Signature) (names after : List (List ℕ)) (s : RawStmt) → IsStmt names s after → locals_of cs fs s (scope_with names) ≡ scope_with after
stmt_locals cs fs names _ s (is_pass is) = ap (λ (c : Change). c (scope_with names)) (changed cs fs s RawStmtForm-F.Pass is)
stmt_locals cs fs names _ s (is_store t v n is h free sum) =
    ap (λ (c : Change). c (scope_with names)) (changed cs fs s (RawStmtForm-F.Assign t v) is)
    ∙ ap (λ (k : Shape). with_named (scope_with names) (name_in k) (assigned_type cs fs (scope_with names) v)) (target_shape t n h)
    ∙ ap (λ (ty : Option Ty). with_variable (scope_with names) n (value_type ty)) (sum_typed cs fs names names v positions.Value as_value (same_names names) sum).is
    ∙ with_int names n
stmt_locals cs fs names _ s (is_check e is h) = ap (λ (c : Change). c (scope_with names)) (changed cs fs s (RawStmtForm-F.Assert e) is)
stmt_locals cs fs names _ s (is_printed e is h) = ap (λ (c : Change). c (scope_with names)) (changed cs fs s (RawStmtForm-F.Eval e) is)

-- The types.
abbrev Faults : Type 0
Faults = List Fault

ruled : (cs : Classes) (fs : List Signature) (sc : Scope) (s : RawStmt) (f : StmtLayer) → out-RawStmtForm s.form ≡ f → statement_faults cs fs sc positions.Value s ≡ statement_form cs fs sc positions.Value (map-RawStmtForm RawStmtForm RawElif RawHandler RawStmt (Place → Faults) Faults Faults Faults (fold-RawStmtForm (Place → Faults) Faults Faults Faults (statement_form cs fs sc positions.Value) (λ e. condition_faults cs fs sc e.condition ++ joined e.body) (λ h. joined h.body) (λ s. s.form s.place)) (part_faults cs fs sc positions.Value) (handler_faults cs fs sc positions.Value) (statement_faults cs fs sc positions.Value) f) s.place
ruled cs fs sc s f is = opened_stmt (Place → Faults) Faults Faults Faults (statement_form cs fs sc positions.Value) (λ e. condition_faults cs fs sc e.condition ++ joined e.body) (λ h. joined h.body) (λ s. s.form s.place) s f is

-- an int that is stored in a local
int_stored : (cs : Classes) (t v : Typing) → Has types.Int t → Has types.Int v → stored_faults cs t v ≡ []
int_stored cs t v left right =
    ap (λ (fs : Faults). fs ++ (v.faults ++ wanted_faults cs.list 5 t.worth.ty v.worth)) left.faultless
    ∙ ap (λ (fs : Faults). fs ++ wanted_faults cs.list 5 t.worth.ty v.worth) right.faultless
    ∙ ap (λ (ty : Option Ty). wanted_faults cs.list 5 ty v.worth) left.is
    ∙ ap (λ (ty : Option Ty). known_fit_faults cs.list 5 v.worth.place types.Int ty) right.is

bool_tested : (cs : Classes) (t : Typing) → Has types.Bool t → t.faults ++ want_faults cs.list 4 types.Bool t.worth ≡ []
bool_tested cs t h = ap (λ (fs : Faults). fs ++ want_faults cs.list 4 types.Bool t.worth) h.faultless ∙ ap (λ (ty : Option Ty). known_fit_faults cs.list 4 t.worth.place types.Bool ty) h.is

or_true : (a : Bool) → (a || true) ≡ true
or_true true = refl
or_true false = refl

-- a name is known behind its assignment
known_itself : (names : List (List ℕ)) (n : List ℕ) → is_known (with_name names n) n ≡ true
known_itself names n = known_behind names n n ∙ ap (λ (b : Bool). is_known names n || b) (equal_bytes n n refl) ∙ or_true (is_known names n)

-- where all names of the method are these, and those behind the statement are among them
pub stmt_types : (cs : Classes) (fs : List Signature) (names after all : List (List ℕ)) (s : RawStmt) → AllFree all → Among names all → Among after all → IsStmt names s after → statement_faults cs fs (scope_with all) positions.Value s ≡ []
stmt_types cs fs names _ all s free among later (is_pass is) = ruled cs fs (scope_with all) s RawStmtForm-F.Pass is
stmt_types cs fs names _ all s free among later (is_store t v n is h new sum) =
    ruled cs fs (scope_with all) s (RawStmtForm-F.Assign t v) is
    ∙ int_stored cs (typing cs fs (scope_with all) t positions.Value) (typing cs fs (scope_with all) v positions.Value) (target_typed cs fs all t n h (later n (known_itself names n))) (sum_typed cs fs names all v positions.Value as_value among sum)
stmt_types cs fs names _ all s free among later (is_check e is h) =
    ruled cs fs (scope_with all) s (RawStmtForm-F.Assert e) is ∙ bool_tested cs (typing cs fs (scope_with all) e positions.Value) (equation_typed cs fs names all e among h)
stmt_types cs fs names _ all s free among later (is_printed e is h) = ruled cs fs (scope_with all) s (RawStmtForm-F.Eval e) is ∙ print_typed cs fs names all e among free h
