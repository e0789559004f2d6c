-- Small statements have no fault by the rules that look at forms.
use Rattle.std.proofs.Common.{◌≡◌, refl, sym, ap, subst, ◌∙◌, ℕ, List, [], ◌∷◌, ◌++◌, Option, None}
use Rattle.std.specs.Prelude.{Bool, true, false, not}
use Rattle.py_base.specs.declared.Place.{Place}
use Rattle.raw_syntax.specs.declared.RawStmt.{RawStmt}
use Rattle.raw_syntax.specs.declared.RawStmtForm.{RawStmtForm, RawStmtForm-F, out-RawStmtForm, fold-RawStmtForm, map-RawStmtForm}
use Rattle.raw_syntax.specs.declared.RawElif.{RawElif}
use Rattle.raw_syntax.specs.declared.RawHandler.{RawHandler}
use Rattle.class_table.specs.declared.Classes.{Classes}
use Rattle.class_table.specs.declared.ClassFault.{ClassFault}
use Rattle.class_table.specs.declared.ClassFault.TheVariants as class_faults
use Rattle.class_table.specs.Shapes.{Shape, name, is_name, is_string}
use Rattle.class_table.specs.Declaring.{form_is, statement_is}
use Rattle.class_table.specs.Faults as classes
use Rattle.type_base.specs.declared.Fault.{Fault}
use Rattle.type_base.specs.declared.Rank.TheVariants as ranks
use Rattle.type_base.specs.Faults.{fault_if}
use Rattle.type_base.specs.Locals as locals
use Rattle.type_ways.specs.declared.Setting.{Setting}
use Rattle.type_ways.specs.Sights.{Mention, sight, bare_place, is_any_call}
use Rattle.type_ways.specs.Settings as settings
use Rattle.type_ways.specs.Ways.{Way, unless, goes_on, sets, way, part_way, handler_way, way_form, then_way, reads, is_some_name}
use Rattle.type_forms.specs.Jumps as jumps
use Rattle.type_forms.specs.Statements as forms
use Rattle.type_forms.specs.Supers.{super_faults}
use Rattle.small_module.specs.SmallTree.{is_known, with_name, is_reserved}
use Rattle.small_trees.proofs.Opened.{StmtLayer, opened_stmt}
use Rattle.small_trees.proofs.Trees.{IsStmt, is_pass, is_store, is_check, is_printed}
use Rattle.small_trees.proofs.Names.{not_built_in, AllFree, known_behind}
use Rattle.small_trees.proofs.Exprs.{target_shape, print_shape, print_declares, sum_is_not_nil, sum_use, target_use, equation_use, print_use, sum_read, equation_read, print_read}

-- It assigns no built-in name.
assigned : (s : RawStmt) (f : StmtLayer) → out-RawStmtForm s.form ≡ f → classes.assigned_faults s ≡ classes.assigned_form (map-RawStmtForm RawStmtForm RawElif RawHandler RawStmt (List ClassFault) (List ClassFault) (List ClassFault) (List ClassFault) (fold-RawStmtForm (List ClassFault) (List ClassFault) (List ClassFault) (List ClassFault) classes.assigned_form (λ e. classes.joined e.body) (λ h. classes.joined h.body) (λ s. s.form)) classes.part_faults classes.handler_faults classes.assigned_faults f)
assigned s f is = opened_stmt (List ClassFault) (List ClassFault) (List ClassFault) (List ClassFault) classes.assigned_form (λ e. classes.joined e.body) (λ h. classes.joined h.body) (λ s. s.form) s f is

pub stmt_assigned : (names after : List (List ℕ)) (s : RawStmt) → IsStmt names s after → classes.assigned_faults s ≡ []
stmt_assigned names _ s (is_pass is) = assigned s RawStmtForm-F.Pass is
stmt_assigned names _ s (is_store t v n is h free sum) =
    assigned s (RawStmtForm-F.Assign t v) is ∙ ap (λ (k : Shape). classes.target_fault k) (target_shape t n h)
    ∙ ap (λ (b : Bool). classes.fault_if b (class_faults.DuplicateName h.b.place)) (not_built_in n free)
stmt_assigned names _ s (is_check e is h) = assigned s (RawStmtForm-F.Assert e) is
stmt_assigned names _ s (is_printed e is h) = assigned s (RawStmtForm-F.Eval e) is

-- What it assigns.
abbrev Names : Type 0
Names = List (List ℕ)

named : (s : RawStmt) (f : StmtLayer) → out-RawStmtForm s.form ≡ f → locals.assigned_names s ≡ locals.assigned_form (map-RawStmtForm RawStmtForm RawElif RawHandler RawStmt Names Names Names Names (fold-RawStmtForm Names Names Names Names locals.assigned_form (λ e. locals.names_of e.body) (λ h. locals.names_of h.body) (λ s. s.form)) locals.part_names locals.handler_names locals.assigned_names f)
named s f is = opened_stmt Names Names Names Names locals.assigned_form (λ e. locals.names_of e.body) (λ h. locals.names_of h.body) (λ s. s.form) s f is

-- the names behind it are those before it with what it assigns, whatever follows
pub stmt_names : (names after : List (List ℕ)) (s : RawStmt) (more : List (List ℕ)) → IsStmt names s after → locals.locals_behind [] names (locals.assigned_names s ++ more) ≡ locals.locals_behind [] after more
stmt_names names _ s more (is_pass is) = ap (λ (ns : Names). locals.locals_behind [] names (ns ++ more)) (named s RawStmtForm-F.Pass is)
stmt_names names _ s more (is_store t v n is h free sum) =
    ap (λ (ns : Names). locals.locals_behind [] names (ns ++ more)) (named s (RawStmtForm-F.Assign t v) is)
    ∙ ap (λ (k : Shape). locals.locals_behind [] names (locals.target_name k ++ more)) (target_shape t n h)
stmt_names names _ s more (is_check e is h) = ap (λ (ns : Names). locals.locals_behind [] names (ns ++ more)) (named s (RawStmtForm-F.Assert e) is)
stmt_names names _ s more (is_printed e is h) = ap (λ (ns : Names). locals.locals_behind [] names (ns ++ more)) (named s (RawStmtForm-F.Eval e) is)

-- Its assignment has no annotation, and isn't one of None.
abbrev Sets : Type 0
Sets = List Setting

set_by : (s : RawStmt) (f : StmtLayer) → out-RawStmtForm s.form ≡ f → settings.settings s ≡ settings.setting_form (map-RawStmtForm RawStmtForm RawElif RawHandler RawStmt (Place → Sets) Sets Sets Sets (fold-RawStmtForm (Place → Sets) Sets Sets Sets settings.setting_form (λ e. settings.all_of e.body) (λ h. settings.all_of h.body) (λ s. s.form s.place)) settings.part_settings settings.handler_settings settings.settings f) s.place
set_by s f is = opened_stmt (Place → Sets) Sets Sets Sets settings.setting_form (λ e. settings.all_of e.body) (λ h. settings.all_of h.body) (λ s. s.form s.place) s f is

pub data IsPlain : List Setting → Type 0 where
  sets_nothing : IsPlain []
  sets_one : (p : Place) (n : List ℕ) → IsPlain (record { place = p; name = n; annotated = false; nil = None } ∷ [])

pub stmt_settings : (names after : List (List ℕ)) (s : RawStmt) → IsStmt names s after → IsPlain (settings.settings s)
stmt_settings names _ s (is_pass is) = subst (λ (k : Sets). IsPlain k) (sym (set_by s RawStmtForm-F.Pass is)) sets_nothing
stmt_settings names _ s (is_store t v n is h free sum) =
    let whole : settings.settings s ≡ record { place = s.place; name = n; annotated = false; nil = None } ∷ [] =
    set_by s (RawStmtForm-F.Assign t v) is
    ∙ ap (λ (k : Shape). settings.setting_of s.place false (settings.nil_place v) k) (target_shape t n h)
    ∙ ap (λ (o : Option Place). settings.setting_of s.place false o (name h.b.place n)) (sum_is_not_nil names v sum) in
    subst (λ (k : Sets). IsPlain k) (sym whole) (sets_one s.place n)
stmt_settings names _ s (is_check e is h) = subst (λ (k : Sets). IsPlain k) (sym (set_by s (RawStmtForm-F.Assert e) is)) sets_nothing
stmt_settings names _ s (is_printed e is h) = subst (λ (k : Sets). IsPlain k) (sym (set_by s (RawStmtForm-F.Eval e) is)) sets_nothing

-- It is no jump.
jumped : (s : RawStmt) (f : StmtLayer) → out-RawStmtForm s.form ≡ f → jumps.jumps s ≡ jumps.jump_form (map-RawStmtForm RawStmtForm RawElif RawHandler RawStmt (Place → jumps.Jumping) jumps.Jumping jumps.Jumping jumps.Jumping (fold-RawStmtForm (Place → jumps.Jumping) jumps.Jumping jumps.Jumping jumps.Jumping jumps.jump_form (λ e. jumps.all_jumps e.body) (λ h. jumps.all_jumps h.body) (λ s. s.form s.place)) jumps.part_jumps jumps.handler_jumps jumps.jumps f) s.place
jumped s f is = opened_stmt (Place → jumps.Jumping) jumps.Jumping jumps.Jumping jumps.Jumping jumps.jump_form (λ e. jumps.all_jumps e.body) (λ h. jumps.all_jumps h.body) (λ s. s.form s.place) s f is

pub stmt_jumps : (names after : List (List ℕ)) (s : RawStmt) → IsStmt names s after → jumps.jumps s false false ≡ []
stmt_jumps names _ s (is_pass is) = ap (λ (j : jumps.Jumping). j false false) (jumped s RawStmtForm-F.Pass is)
stmt_jumps names _ s (is_store t v n is h free sum) = ap (λ (j : jumps.Jumping). j false false) (jumped s (RawStmtForm-F.Assign t v) is)
stmt_jumps names _ s (is_check e is h) = ap (λ (j : jumps.Jumping). j false false) (jumped s (RawStmtForm-F.Assert e) is)
stmt_jumps names _ s (is_printed e is h) = ap (λ (j : jumps.Jumping). j false false) (jumped s (RawStmtForm-F.Eval e) is)

-- Its targets, calls and uses of `super`.
abbrev not_call : Shape → Bool
not_call k = not (is_any_call k)

stood : (cs : Classes) (all : List (List ℕ)) (s : RawStmt) (f : StmtLayer) → out-RawStmtForm s.form ≡ f → forms.standing cs [] all true s ≡ forms.standing_form cs [] all true (map-RawStmtForm RawStmtForm RawElif RawHandler RawStmt (Place → forms.Standing) (List Fault) (List Fault) forms.Standing (fold-RawStmtForm (Place → forms.Standing) (List Fault) (List Fault) forms.Standing (forms.standing_form cs [] all true) (λ e. super_faults e.condition ++ forms.in_block e.body) (λ h. forms.class_fault cs [] all h.place h.class ++ forms.in_block h.body) (λ s. s.form s.place)) (forms.part_standing cs [] all true) (forms.handler_standing cs [] all true) (forms.standing cs [] all true) f) s.place
stood cs all s f is = opened_stmt (Place → forms.Standing) (List Fault) (List Fault) forms.Standing (forms.standing_form cs [] all true) (λ e. super_faults e.condition ++ forms.in_block e.body) (λ h. forms.class_fault cs [] all h.place h.class ++ forms.in_block h.body) (λ s. s.form s.place) s f is

pub stmt_standing : (cs : Classes) (all names after : List (List ℕ)) (s : RawStmt) (made : Bool) → AllFree names → IsStmt names s after → forms.standing cs [] all true s false made ≡ []
stmt_standing cs all names _ s made free (is_pass is) = ap (λ (j : forms.Standing). j false made) (stood cs all s RawStmtForm-F.Pass is)
stmt_standing cs all names _ s made free (is_store t v n is h new sum) =
    ap (λ (j : forms.Standing). j false made) (stood cs all s (RawStmtForm-F.Assign t v) is)
    ∙ ap (λ (k : Shape). forms.shape_fault [] false (bare_place t) k ++ super_faults t ++ super_faults v) (target_shape t n h)
    ∙ ap (λ (fs : List Fault). fs ++ super_faults v) (target_use t n h new)
    ∙ sum_use names v free sum
stmt_standing cs all names _ s made free (is_check e is h) = ap (λ (j : forms.Standing). j false made) (stood cs all s (RawStmtForm-F.Assert e) is) ∙ equation_use names e free h
stmt_standing cs all names _ s made free (is_printed e is h) =
    ap (λ (j : forms.Standing). j false made) (stood cs all s (RawStmtForm-F.Eval e) is)
    ∙ ap (λ (k : Shape). fault_if (not_call k) (bare_place e) (ranks.Mistyped 21) ++ forms.declared_fault cs [] all (sight e).declared ++ super_faults e) (print_shape names e h)
    ∙ ap (λ (o : Option Mention). forms.declared_fault cs [] all o ++ super_faults e) (print_declares names e h)
    ∙ print_use names e free h

-- Its reads: none is of a name that isn't settled.
wayed : (n : List ℕ) (s : RawStmt) (f : StmtLayer) → out-RawStmtForm s.form ≡ f → way n s ≡ way_form n (map-RawStmtForm RawStmtForm RawElif RawHandler RawStmt Way Way Way Way (fold-RawStmtForm Way Way Way Way (way_form n) (λ e. then_way (reads n e.condition) e.body) (λ h. then_way [] h.body) (λ s. s.form)) (part_way n) (handler_way n) (way n) f)
wayed n s f is = opened_stmt Way Way Way Way (way_form n) (λ e. then_way (reads n e.condition) e.body) (λ h. then_way [] h.body) (λ s. s.form) s f is

unless_known : (settled : Bool) (fs : List Fault) → (settled ≡ false → fs ≡ []) → unless settled fs ≡ []
unless_known true fs h = refl
unless_known false fs h = h refl

-- what the way does where these names are assigned before, and these behind it
pub record Goes (names after : List (List ℕ)) (n : List ℕ) (w : Way) : Type 0 where
  pub faultless : w.faults (is_known names n) ≡ []
  pub behind : w.after (is_known names n) ≡ is_known after n

goes : (names after : List (List ℕ)) (n : List ℕ) (v w : Way) → v ≡ w → Goes names after n w → Goes names after n v
goes names after n v w is h = subst (λ (k : Way). Goes names after n k) (sym is) h

on : (names : List (List ℕ)) (n : List ℕ) (fs : List Fault) → (is_known names n ≡ false → fs ≡ []) → Goes names names n (goes_on fs)
on names n fs h = record { faultless = unless_known (is_known names n) fs h; behind = refl }

stored_way : (names : List (List ℕ)) (n m : List ℕ) (p : Place) (fs : List Fault) → (is_known names n ≡ false → fs ≡ []) → Goes names (with_name names m) n (sets (is_name n (name p m)) fs)
stored_way names n m p fs h = record { faultless = unless_known (is_known names n) fs h; behind = sym (known_behind names m n) }

pub stmt_way : (names after : List (List ℕ)) (n : List ℕ) (s : RawStmt) → is_reserved n ≡ false → IsStmt names s after → Goes names after n (way n s)
stmt_way names _ n s free (is_pass is) = goes names names n (way n s) _ (wayed n s RawStmtForm-F.Pass is) (on names n [] (λ new. refl))
stmt_way names _ n s free (is_store t v m is h new sum) =
    goes names (with_name names m) n (way n s) _
    (wayed n s (RawStmtForm-F.Assign t v) is ∙ ap (λ (k : Shape). sets (is_name n k) (unless (is_some_name k) (reads n t) ++ reads n v)) (target_shape t m h))
    (stored_way names n m h.b.place (reads n v) (λ gone. sum_read names n v gone sum))
stmt_way names _ n s free (is_check e is h) = goes names names n (way n s) _ (wayed n s (RawStmtForm-F.Assert e) is) (on names n (reads n e) (λ new. equation_read names n e new h))
stmt_way names _ n s free (is_printed e is h) = goes names names n (way n s) _ (wayed n s (RawStmtForm-F.Eval e) is) (on names n (reads n e) (λ new. print_read names n e new free h))

-- It is no docstring.
string_by : (s : RawStmt) (f : StmtLayer) → out-RawStmtForm s.form ≡ f → statement_is is_string s ≡ form_is is_string f
string_by s f is = ap (form_is is_string) is

pub stmt_is_no_string : (names after : List (List ℕ)) (s : RawStmt) → IsStmt names s after → statement_is is_string s ≡ false
stmt_is_no_string names _ s (is_pass is) = string_by s RawStmtForm-F.Pass is
stmt_is_no_string names _ s (is_store t v n is h new sum) = string_by s (RawStmtForm-F.Assign t v) is
stmt_is_no_string names _ s (is_check e is h) = string_by s (RawStmtForm-F.Assert e) is
stmt_is_no_string names _ s (is_printed e is h) = string_by s (RawStmtForm-F.Eval e) is ∙ ap is_string (print_shape names e h)
