-- Small bodies have no fault.
use Rattle.std.proofs.Common.{◌≡◌, refl, ap, ◌∙◌, ℕ, List, [], ◌∷◌, ◌++◌, map, None}
use Rattle.std.specs.Prelude.{Bool, true, false, nat_lt, if◌then◌else◌}
use Rattle.py_base.specs.declared.Place.{Place}
use Rattle.raw_syntax.specs.declared.RawStmt.{RawStmt}
use Rattle.class_table.specs.declared.Classes.{Classes}
use Rattle.class_table.specs.declared.ClassFault.{ClassFault}
use Rattle.class_table.specs.Declaring.{behind_docstring}
use Rattle.class_table.specs.Faults as classes
use Rattle.type_base.specs.declared.Fault.{Fault}
use Rattle.type_base.specs.declared.Rank.TheVariants as ranks
use Rattle.type_base.specs.Faults.{fault_if, joined}
use Rattle.type_base.specs.Locals as locals
use Rattle.type_ways.specs.declared.Setting.{Setting}
use Rattle.type_ways.specs.Settings as settings
use Rattle.type_ways.specs.Ways.{way, block_faults}
use Rattle.type_forms.specs.Jumps as jumps
use Rattle.type_forms.specs.Statements as forms
use Rattle.type_names.specs.declared.Position.TheVariants as positions
use Rattle.type_names.specs.declared.Signature.{Signature}
use Rattle.type_names.specs.declared.Scope.{Scope}
use Rattle.type_rules.specs.Scopes.{in_turn, locals_of}
use Rattle.type_rules.specs.Statements.{statement_faults}
use Rattle.small_module.specs.SmallTree.{is_known, is_reserved}
use Rattle.small_trees.proofs.Trees.{IsStmt, is_pass, is_store, is_check, is_printed, IsBody, is_done, is_more}
use Rattle.small_trees.proofs.Names.{AllFree, free_with, still_known}
use Rattle.small_trees.proofs.Stmts.{stmt_assigned, stmt_names, IsPlain, sets_nothing, sets_one, stmt_settings, stmt_jumps, stmt_standing, stmt_way, stmt_is_no_string}
use Rattle.small_trees.proofs.Typings.{scope_with, Among}
use Rattle.small_trees.proofs.StmtTypes.{stmt_locals, stmt_types}

-- Names.
free_behind : (names after : List (List ℕ)) (s : RawStmt) → AllFree names → IsStmt names s after → AllFree after
free_behind names _ s free (is_pass is) = free
free_behind names _ s free (is_store t v n is h new sum) = free_with names n free new
free_behind names _ s free (is_check e is h) = free
free_behind names _ s free (is_printed e is h) = free

pub all_free : (names after : List (List ℕ)) (ss : List RawStmt) → AllFree names → IsBody names ss after → AllFree after
all_free names _ _ free (is_done _) = free
all_free names after _ free (is_more _ mid _ s ss first more) = all_free mid after ss (free_behind names mid s free first) more

among_behind : (names after : List (List ℕ)) (s : RawStmt) → IsStmt names s after → Among names after
among_behind names _ s (is_pass is) n known = known
among_behind names _ s (is_store t v m is h new sum) n known = still_known names m n known
among_behind names _ s (is_check e is h) n known = known
among_behind names _ s (is_printed e is h) n known = known

among_all : (names after : List (List ℕ)) (ss : List RawStmt) → IsBody names ss after → Among names after
among_all names _ _ (is_done _) n known = known
among_all names after _ (is_more _ mid _ s ss first more) n known = among_all mid after ss more n (among_behind names mid s first n known)

-- No docstring stands first.
pub body_is_behind : (names after : List (List ℕ)) (ss : List RawStmt) → IsBody names ss after → behind_docstring ss ≡ ss
body_is_behind names _ _ (is_done _) = refl
body_is_behind names after _ (is_more _ mid _ s ss first more) = ap (λ (b : Bool). if b then ss else s ∷ ss) (stmt_is_no_string names mid s first)

pub body_assigned : (names after : List (List ℕ)) (ss : List RawStmt) → IsBody names ss after → classes.joined (map classes.assigned_faults ss) ≡ []
body_assigned names _ _ (is_done _) = refl
body_assigned names after _ (is_more _ mid _ s ss first more) =
    ap (λ (fs : List ClassFault). fs ++ classes.joined (map classes.assigned_faults ss)) (stmt_assigned names mid s first) ∙ body_assigned mid after ss more

-- its locals are the names behind it
pub body_names : (names after : List (List ℕ)) (ss : List RawStmt) → IsBody names ss after → locals.locals_behind [] names (locals.names_of (map locals.assigned_names ss)) ≡ after
body_names names _ _ (is_done _) = refl
body_names names after _ (is_more _ mid _ s ss first more) = stmt_names names mid s (locals.names_of (map locals.assigned_names ss)) first ∙ body_names mid after ss more

-- its assignments have no annotation, and none is of None
abbrev plain_one : Place → List ℕ → Setting
plain_one p n = record { place = p; name = n; annotated = false; nil = None }

no_setting_fault : (b : Bool) (p : Place) → (if b then fault_if false p (ranks.Mistyped 6) else []) ≡ []
no_setting_fault true p = refl
no_setting_fault false p = refl

set_plainly : (before now more : List Setting) → IsPlain now → ((ls : List Setting) → settings.faults_behind [] ls more ≡ []) → settings.faults_behind [] before (now ++ more) ≡ []
set_plainly before _ more sets_nothing later = later before
set_plainly before _ more (sets_one p n) later =
    ap (λ (fs : List Fault). fs ++ settings.faults_behind [] (before ++ plain_one p n ∷ []) more) (no_setting_fault (settings.is_set before n) p) ∙ later (before ++ plain_one p n ∷ [])

pub body_settings : (names after : List (List ℕ)) (ss : List RawStmt) (before : List Setting) → IsBody names ss after → settings.faults_behind [] before (settings.all_of (map settings.settings ss)) ≡ []
body_settings names _ _ before (is_done _) = refl
body_settings names after _ before (is_more _ mid _ s ss first more) =
    set_plainly before (settings.settings s) (settings.all_of (map settings.settings ss)) (stmt_settings names mid s first) (λ ls. body_settings mid after ss ls more)

pub body_jumps : (names after : List (List ℕ)) (ss : List RawStmt) → IsBody names ss after → jumps.all_jumps (map jumps.jumps ss) false false ≡ []
body_jumps names _ _ (is_done _) = refl
body_jumps names after _ (is_more _ mid _ s ss first more) =
    ap (λ (fs : List Fault). fs ++ jumps.all_jumps (map jumps.jumps ss) false false) (stmt_jumps names mid s first) ∙ body_jumps mid after ss more

pub body_standing : (cs : Classes) (all names after : List (List ℕ)) (ss : List RawStmt) (left : ℕ) → AllFree names → IsBody names ss after → forms.body_faults cs [] all true false left ss ≡ []
body_standing cs all names _ _ left free (is_done _) = refl
body_standing cs all names after _ left free (is_more _ mid _ s ss first more) =
    ap (λ (fs : List Fault). fs ++ forms.body_faults cs [] all true false (forms.left_behind left s) ss) (stmt_standing cs all names mid s (nat_lt 0 left) free first)
    ∙ body_standing cs all mid after ss (forms.left_behind left s) (free_behind names mid s free first) more

pub body_ways : (names after : List (List ℕ)) (n : List ℕ) (ss : List RawStmt) → is_reserved n ≡ false → IsBody names ss after → block_faults (map (way n) ss) (is_known names n) ≡ []
body_ways names _ n _ free (is_done _) = refl
body_ways names after n _ free (is_more _ mid _ s ss first more) =
    let w = stmt_way names mid n s free first in
    ap (λ (fs : List Fault). fs ++ block_faults (map (way n) ss) ((way n s).after (is_known names n))) w.faultless
    ∙ ap (λ (b : Bool). block_faults (map (way n) ss) b) w.behind
    ∙ body_ways mid after n ss free more

pub body_locals : (cs : Classes) (fs : List Signature) (names after : List (List ℕ)) (ss : List RawStmt) → IsBody names ss after → in_turn (map (locals_of cs fs) ss) (scope_with names) ≡ scope_with after
body_locals cs fs names _ _ (is_done _) = refl
body_locals cs fs names after _ (is_more _ mid _ s ss first more) = ap (λ (sc : Scope). in_turn (map (locals_of cs fs) ss) sc) (stmt_locals cs fs names mid s first) ∙ body_locals cs fs mid after ss more

pub body_types : (cs : Classes) (fs : List Signature) (names all : List (List ℕ)) (ss : List RawStmt) → AllFree all → IsBody names ss all → joined (map (statement_faults cs fs (scope_with all) positions.Value) ss) ≡ []
body_types cs fs names _ _ free (is_done _) = refl
body_types cs fs names all _ free (is_more _ mid _ s ss first more) =
    ap (λ (gs : List Fault). gs ++ joined (map (statement_faults cs fs (scope_with all) positions.Value) ss)) (stmt_types cs fs names mid all s free (among_all names all (s ∷ ss) (is_more names mid all s ss first more)) (among_all mid all ss more) first)
    ∙ body_types cs fs mid all ss free more
