-- Rule 6: a first assignment of `None` has an annotation, else the fault stands at the value; a local is annotated at most
-- once, at its first assignment, else the fault stands at the statement.
use Rattle.std.specs.Prelude.{ℕ, Bool, true, false, List, [], ◌∷◌, ◌++◌, flat_map, map, Option, Some, None, if◌then◌else◌, bytes_eq, ⊤}
use Rattle.std.specs.List.{list_any}
use Rattle.py_base.specs.declared.Place.{Place}
use Rattle.raw_syntax.specs.declared.RawExpr.{RawExpr, fold-RawExpr}
use Rattle.raw_syntax.specs.declared.RawExprForm.{RawExprForm-F}
use Rattle.raw_syntax.specs.declared.RawStmt.{RawStmt, fold-RawStmt}
use Rattle.raw_syntax.specs.declared.RawStmtForm.{RawStmtForm-F}
use Rattle.raw_syntax.specs.declared.RawElif.{RawElif, fold-RawElif}
use Rattle.raw_syntax.specs.declared.RawHandler.{RawHandler, fold-RawHandler}
use Rattle.raw_syntax.specs.declared.RawParam.{RawParam}
use Rattle.raw_syntax.specs.declared.RawFunc.{RawFunc}
use Rattle.class_table.specs.Shapes.{Shape, name, shape}
use Rattle.type_base.specs.declared.Fault.{Fault}
use Rattle.type_base.specs.declared.Rank.TheVariants as ranks
use Rattle.type_base.specs.Faults.{fault, fault_if}
use Rattle.type_base.specs.Locals.{is_parameter}
use Rattle.type_ways.specs.declared.setting.Setting.{Setting}

abbrev pub nil_form : RawExprForm-F ⊤ (Place → Option Place) ⊤ (Option Place) → Place → Option Place
nil_form RawExprForm-F.Nil p = Some p
nil_form (RawExprForm-F.Bracket e) p = e
nil_form form p = None

-- the place of `None`, where the expression is that
abbrev pub nil_place : RawExpr → Option Place
nil_place = fold-RawExpr ⊤ (Place → Option Place) ⊤ (Option Place) (λ x. tt) nil_form (λ l. tt) (λ e. e.form e.place)

-- what a statement at this place sets
abbrev pub setting_of : Place → Bool → Option Place → Shape → List Setting
setting_of p annotated nil (name q n) = record { place = p; name = n; annotated = annotated; nil = nil } ∷ []
setting_of p annotated nil s = []

abbrev pub all_of : List (List Setting) → List Setting
all_of = flat_map (λ ss. ss)

abbrev pub setting_form : RawStmtForm-F (Place → List Setting) (List Setting) (List Setting) (List Setting) → Place → List Setting
setting_form (RawStmtForm-F.Declare target ty e) p = setting_of p true None (shape target)
setting_form (RawStmtForm-F.Assign target e) p = setting_of p false (nil_place e) (shape target)
setting_form (RawStmtForm-F.Augment target q o e) p = setting_of p false None (shape target)
setting_form (RawStmtForm-F.If e ss elifs other) p = all_of ss ++ all_of elifs ++ all_of other
setting_form (RawStmtForm-F.While e ss) p = all_of ss
setting_form (RawStmtForm-F.Try ss handlers other last) p = all_of ss ++ all_of handlers ++ all_of other ++ all_of last
setting_form (RawStmtForm-F.With e ss) p = all_of ss
setting_form form p = []

-- the assignments to names in a statement, in the order of the text
abbrev pub settings : RawStmt → List Setting
settings = fold-RawStmt (Place → List Setting) (List Setting) (List Setting) (List Setting) setting_form (λ e. all_of e.body) (λ h. all_of h.body) (λ s. s.form s.place)

abbrev pub part_settings : RawElif → List Setting
part_settings = fold-RawElif (Place → List Setting) (List Setting) (List Setting) (List Setting) setting_form (λ e. all_of e.body) (λ h. all_of h.body) (λ s. s.form s.place)

abbrev pub handler_settings : RawHandler → List Setting
handler_settings = fold-RawHandler (Place → List Setting) (List Setting) (List Setting) (List Setting) setting_form (λ e. all_of e.body) (λ h. all_of h.body) (λ s. s.form s.place)

abbrev pub sets : List ℕ → Setting → Bool
sets n s = bytes_eq n s.name

abbrev pub is_set : List Setting → List ℕ → Bool
is_set before n = list_any (sets n) before

abbrev pub nil_fault : Option Place → List Fault
nil_fault None = []
nil_fault (Some p) = fault p (ranks.Mistyped 6) ∷ []

abbrev pub setting_fault : List RawParam → List Setting → Setting → List Fault
setting_fault params before s =
    if is_parameter params s.name then []
    else if is_set before s.name then fault_if s.annotated s.place (ranks.Mistyped 6)
    else nil_fault s.nil

-- those of the assignments behind these others
abbrev pub faults_behind : List RawParam → List Setting → List Setting → List Fault
faults_behind params before [] = []
faults_behind params before (s ∷ ss) = setting_fault params before s ++ faults_behind params (before ++ s ∷ []) ss

abbrev pub setting_faults : RawFunc → List Fault
setting_faults f = faults_behind f.params [] (all_of (map settings f.body))
