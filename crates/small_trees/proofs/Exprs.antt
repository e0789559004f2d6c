-- Small expressions have no fault by the rules that look at forms.
use Rattle.std.proofs.Common.{◌≡◌, refl, ap, ◌∙◌, ℕ, pos, List, [], ◌∷◌, ◌++◌, Option, Some, None, codes}
use Rattle.std.specs.Prelude.{Bool, false, bytes_eq, ⊤}
use Rattle.py_base.specs.declared.Place.{Place}
use Rattle.raw_syntax.specs.declared.RawExpr.{RawExpr}
use Rattle.raw_syntax.specs.declared.RawExprForm.{RawExprForm, RawExprForm-F, out-RawExprForm, fold-RawExprForm, map-RawExprForm}
use Rattle.raw_syntax.specs.declared.RawComparison.{RawComparison, fold-RawComparison}
use Rattle.raw_syntax.specs.declared.RawArgument.{RawArgument, RawArgument-F, out-RawArgument, fold-RawArgument}
use Rattle.class_table.specs.Shapes.{Shape, name, call, form_shape, shape}
use Rattle.type_base.specs.declared.Fault.{Fault}
use Rattle.type_base.specs.declared.Rank.TheVariants as ranks
use Rattle.type_base.specs.Faults.{fault_if, joined}
use Rattle.type_ways.specs.Sights.{Mention, Sight, argument_sight, form_sight, sight, declared_by, mention_in}
use Rattle.type_ways.specs.Settings.{nil_form, nil_place}
use Rattle.type_ways.specs.Ways.{argument_reads, read_form, reads, reads_in, link_reads}
use Rattle.type_forms.specs.Supers.{Use, of_name, of_call, argument_use, use_form, uses, super_faults, argument_super_faults, link_super_faults}
use Rattle.small_module.specs.SmallTree.{is_known, is_reserved}
use Rattle.small_trees.proofs.Opened.{ExprLayer, opened, opened_link, opened_argument}
use Rattle.small_trees.proofs.Trees.{Bare, is_itself, is_within, IsOperand, is_number, is_local, IsSum, is_alone, is_two, IsTarget, IsEquation, IsPrinting}
use Rattle.small_trees.proofs.Names.{differs, differs_back, AllFree, known_free, known_differs}

-- What it is.
abbrev layer_shape : ExprLayer → Place → Shape
layer_shape f = form_shape (map-RawExprForm RawArgument RawExprForm RawComparison RawExpr ⊤ (Place → Shape) ⊤ Shape (λ x. fold-RawArgument ⊤ (Place → Shape) ⊤ Shape (λ x. tt) form_shape (λ l. tt) (λ e. e.form e.place) x) (fold-RawExprForm ⊤ (Place → Shape) ⊤ Shape (λ x. tt) form_shape (λ l. tt) (λ e. e.form e.place)) (λ l. fold-RawComparison ⊤ (Place → Shape) ⊤ Shape (λ x. tt) form_shape (λ l. tt) (λ e. e.form e.place) l) shape f)

shaped : (e : RawExpr) (f : ExprLayer) → out-RawExprForm e.form ≡ f → shape e ≡ layer_shape f e.place
shaped e f is = opened ⊤ (Place → Shape) ⊤ Shape (λ x. tt) form_shape (λ l. tt) (λ e. e.form e.place) e f is

bare_shape : (e b : RawExpr) → Bare e b → shape e ≡ shape b
bare_shape e b (is_itself _) = refl
bare_shape e b (is_within _ i _ is more) = shaped e (RawExprForm-F.Bracket i) is ∙ bare_shape i b more

pub target_shape : (e : RawExpr) (n : List ℕ) (h : IsTarget e n) → shape e ≡ name h.b.place n
target_shape e n h = bare_shape e h.b h.bare ∙ shaped h.b (RawExprForm-F.Name n) h.is

pub print_shape : (names : List (List ℕ)) (e : RawExpr) (h : IsPrinting names e) → shape e ≡ call (name h.printed.b.place (codes "print")) 1
print_shape names e h =
    bare_shape e h.b h.bare ∙ shaped h.b (RawExprForm-F.Call h.f (h.x ∷ [])) h.is ∙ ap (λ (s : Shape). call s 1) (target_shape h.f (codes "print") h.printed)

-- The classes that it names as exceptions.
sighted : (e : RawExpr) (f : ExprLayer) → out-RawExprForm e.form ≡ f → sight e ≡ form_sight (map-RawExprForm RawArgument RawExprForm RawComparison RawExpr (Option Mention) (Place → Sight) ⊤ Sight mention_in (fold-RawExprForm (Option Mention) (Place → Sight) ⊤ Sight argument_sight form_sight (λ l. tt) (λ e. e.form e.place)) (λ l. fold-RawComparison (Option Mention) (Place → Sight) ⊤ Sight argument_sight form_sight (λ l. tt) (λ e. e.form e.place) l) sight f) e.place
sighted e f is = opened (Option Mention) (Place → Sight) ⊤ Sight argument_sight form_sight (λ l. tt) (λ e. e.form e.place) e f is

bare_sight : (e b : RawExpr) → Bare e b → sight e ≡ sight b
bare_sight e b (is_itself _) = refl
bare_sight e b (is_within _ i _ is more) = sighted e (RawExprForm-F.Bracket i) is ∙ bare_sight i b more

target_word : (e : RawExpr) (n : List ℕ) → IsTarget e n → (sight e).mention.word ≡ Some n
target_word e n h = ap (λ (s : Sight). s.mention.word) (bare_sight e h.b h.bare ∙ sighted h.b (RawExprForm-F.Name n) h.is)

pub print_declares : (names : List (List ℕ)) (e : RawExpr) → IsPrinting names e → (sight e).declared ≡ None
print_declares names e h =
    ap (λ (s : Sight). s.declared) (bare_sight e h.b h.bare ∙ sighted h.b (RawExprForm-F.Call h.f (h.x ∷ [])) h.is)
    ∙ ap (λ (w : Option (List ℕ)). declared_by w (mention_in h.x ∷ [])) (target_word h.f (codes "print") h.printed)

-- It isn't None.
nils : (e : RawExpr) (f : ExprLayer) → out-RawExprForm e.form ≡ f → nil_place e ≡ nil_form (map-RawExprForm RawArgument RawExprForm RawComparison RawExpr ⊤ (Place → Option Place) ⊤ (Option Place) (λ x. fold-RawArgument ⊤ (Place → Option Place) ⊤ (Option Place) (λ x. tt) nil_form (λ l. tt) (λ e. e.form e.place) x) (fold-RawExprForm ⊤ (Place → Option Place) ⊤ (Option Place) (λ x. tt) nil_form (λ l. tt) (λ e. e.form e.place)) (λ l. fold-RawComparison ⊤ (Place → Option Place) ⊤ (Option Place) (λ x. tt) nil_form (λ l. tt) (λ e. e.form e.place) l) nil_place f) e.place
nils e f is = opened ⊤ (Place → Option Place) ⊤ (Option Place) (λ x. tt) nil_form (λ l. tt) (λ e. e.form e.place) e f is

bare_nil : (e b : RawExpr) → Bare e b → nil_place e ≡ nil_place b
bare_nil e b (is_itself _) = refl
bare_nil e b (is_within _ i _ is more) = nils e (RawExprForm-F.Bracket i) is ∙ bare_nil i b more

pub sum_is_not_nil : (names : List (List ℕ)) (e : RawExpr) → IsSum names e → nil_place e ≡ None
sum_is_not_nil names e (is_alone (is_number b n bare is)) = bare_nil e b bare ∙ nils b (RawExprForm-F.Number (pos n)) is
sum_is_not_nil names e (is_alone (is_local b n bare is known)) = bare_nil e b bare ∙ nils b (RawExprForm-F.Name n) is
sum_is_not_nil names e (is_two b x y o bare is sign left right) = bare_nil e b bare ∙ nils b (RawExprForm-F.Binary o x y) is

-- It doesn't name `super`.
used : (e : RawExpr) (f : ExprLayer) → out-RawExprForm e.form ≡ f → uses e ≡ use_form (map-RawExprForm RawArgument RawExprForm RawComparison RawExpr (List Fault) (Place → Use) (List Fault) Use argument_super_faults (fold-RawExprForm (List Fault) (Place → Use) (List Fault) Use argument_use use_form (λ l. l.operand.faults) (λ e. e.form e.place)) link_super_faults uses f) e.place
used e f is = opened (List Fault) (Place → Use) (List Fault) Use argument_use use_form (λ l. l.operand.faults) (λ e. e.form e.place) e f is

bare_use : (e b : RawExpr) → Bare e b → uses e ≡ uses b
bare_use e b (is_itself _) = refl
bare_use e b (is_within _ i _ is more) = used e (RawExprForm-F.Bracket i) is ∙ bare_use i b more

link_use : (l : RawComparison) → link_super_faults l ≡ super_faults l.operand
link_use l = opened_link (List Fault) (Place → Use) (List Fault) Use argument_use use_form (λ l. l.operand.faults) (λ e. e.form e.place) l

argument_used : (x : RawArgument) (v : RawExpr) → out-RawArgument x ≡ RawArgument-F.Value v → argument_super_faults x ≡ super_faults v
argument_used x v is = opened_argument (List Fault) (Place → Use) (List Fault) Use argument_use use_form (λ l. l.operand.faults) (λ e. e.form e.place) x v is

name_use : (b : RawExpr) (n : List ℕ) → out-RawExprForm b.form ≡ RawExprForm-F.Name n → is_reserved n ≡ false → super_faults b ≡ []
name_use b n is free = ap (λ (u : Use). u.faults) (used b (RawExprForm-F.Name n) is) ∙ ap (λ (t : Bool). fault_if t b.place (ranks.Mistyped 22)) (differs n (codes "super") free refl)

operand_use : (names : List (List ℕ)) (e : RawExpr) → AllFree names → IsOperand names e → super_faults e ≡ []
operand_use names e free (is_number b n bare is) = ap (λ (u : Use). u.faults) (bare_use e b bare ∙ used b (RawExprForm-F.Number (pos n)) is)
operand_use names e free (is_local b n bare is known) = ap (λ (u : Use). u.faults) (bare_use e b bare) ∙ name_use b n is (known_free names n free known)

two_empty : (xs ys : List Fault) → xs ≡ [] → ys ≡ [] → xs ++ ys ≡ []
two_empty xs ys h k = ap (λ (z : List Fault). z ++ ys) h ∙ k

pub sum_use : (names : List (List ℕ)) (e : RawExpr) → AllFree names → IsSum names e → super_faults e ≡ []
sum_use names e free (is_alone o) = operand_use names e free o
sum_use names e free (is_two b x y o bare is sign left right) =
    ap (λ (u : Use). u.faults) (bare_use e b bare ∙ used b (RawExprForm-F.Binary o x y) is)
    ∙ two_empty (super_faults x) (super_faults y) (operand_use names x free left) (operand_use names y free right)

pub target_use : (e : RawExpr) (n : List ℕ) → IsTarget e n → is_reserved n ≡ false → super_faults e ≡ []
target_use e n h free = ap (λ (u : Use). u.faults) (bare_use e h.b h.bare) ∙ name_use h.b n h.is free

pub equation_use : (names : List (List ℕ)) (e : RawExpr) → AllFree names → IsEquation names e → super_faults e ≡ []
equation_use names e free h =
    ap (λ (u : Use). u.faults) (bare_use e h.b h.bare ∙ used h.b (RawExprForm-F.Chain h.x (h.l ∷ [])) h.is)
    ∙ ap (λ (fs : List Fault). super_faults h.x ++ joined (fs ∷ [])) (link_use h.l)
    ∙ ap (λ (fs : List Fault). fs ++ joined (super_faults h.l.operand ∷ [])) (sum_use names h.x free h.left)
    ∙ ap (λ (fs : List Fault). joined (fs ∷ [])) (sum_use names h.l.operand free h.right)

called_use : (f : RawExpr) (h : IsTarget f (codes "print")) → uses f ≡ of_name false h.b.place
called_use f h = bare_use f h.b h.bare ∙ used h.b (RawExprForm-F.Name (codes "print")) h.is

pub print_use : (names : List (List ℕ)) (e : RawExpr) → AllFree names → IsPrinting names e → super_faults e ≡ []
print_use names e free h =
    ap (λ (u : Use). u.faults) (bare_use e h.b h.bare ∙ used h.b (RawExprForm-F.Call h.f (h.x ∷ [])) h.is)
    ∙ ap (λ (u : Use). (of_call u (argument_super_faults h.x ∷ [])).faults) (called_use h.f h.printed)
    ∙ ap (λ (fs : List Fault). joined (fs ∷ [])) (argument_used h.x h.v h.value ∙ sum_use names h.v free h.sum)

-- It reads no name but those that are assigned.
read : (n : List ℕ) (e : RawExpr) (f : ExprLayer) → out-RawExprForm e.form ≡ f → reads n e ≡ read_form n (map-RawExprForm RawArgument RawExprForm RawComparison RawExpr (List Fault) (Place → List Fault) (List Fault) (List Fault) (reads_in n) (fold-RawExprForm (List Fault) (Place → List Fault) (List Fault) (List Fault) argument_reads (read_form n) (λ l. l.operand) (λ e. e.form e.place)) (link_reads n) (reads n) f) e.place
read n e f is = opened (List Fault) (Place → List Fault) (List Fault) (List Fault) argument_reads (read_form n) (λ l. l.operand) (λ e. e.form e.place) e f is

bare_read : (n : List ℕ) (e b : RawExpr) → Bare e b → reads n e ≡ reads n b
bare_read n e b (is_itself _) = refl
bare_read n e b (is_within _ i _ is more) = read n e (RawExprForm-F.Bracket i) is ∙ bare_read n i b more

link_read : (n : List ℕ) (l : RawComparison) → link_reads n l ≡ reads n l.operand
link_read n l = opened_link (List Fault) (Place → List Fault) (List Fault) (List Fault) argument_reads (read_form n) (λ l. l.operand) (λ e. e.form e.place) l

argument_read : (n : List ℕ) (x : RawArgument) (v : RawExpr) → out-RawArgument x ≡ RawArgument-F.Value v → reads_in n x ≡ reads n v
argument_read n x v is = opened_argument (List Fault) (Place → List Fault) (List Fault) (List Fault) argument_reads (read_form n) (λ l. l.operand) (λ e. e.form e.place) x v is

name_read : (n m : List ℕ) (b : RawExpr) → out-RawExprForm b.form ≡ RawExprForm-F.Name m → bytes_eq m n ≡ false → reads n b ≡ []
name_read n m b is other = read n b (RawExprForm-F.Name m) is ∙ ap (λ (t : Bool). fault_if t b.place ranks.Unassigned) other

operand_read : (names : List (List ℕ)) (n : List ℕ) (e : RawExpr) → is_known names n ≡ false → IsOperand names e → reads n e ≡ []
operand_read names n e new (is_number b k bare is) = bare_read n e b bare ∙ read n b (RawExprForm-F.Number (pos k)) is
operand_read names n e new (is_local b m bare is known) = bare_read n e b bare ∙ name_read n m b is (known_differs names m n known new)

pub sum_read : (names : List (List ℕ)) (n : List ℕ) (e : RawExpr) → is_known names n ≡ false → IsSum names e → reads n e ≡ []
sum_read names n e new (is_alone o) = operand_read names n e new o
sum_read names n e new (is_two b x y o bare is sign left right) =
    bare_read n e b bare ∙ read n b (RawExprForm-F.Binary o x y) is
    ∙ two_empty (reads n x) (reads n y) (operand_read names n x new left) (operand_read names n y new right)

pub equation_read : (names : List (List ℕ)) (n : List ℕ) (e : RawExpr) → is_known names n ≡ false → IsEquation names e → reads n e ≡ []
equation_read names n e new h =
    bare_read n e h.b h.bare ∙ read n h.b (RawExprForm-F.Chain h.x (h.l ∷ [])) h.is
    ∙ ap (λ (fs : List Fault). reads n h.x ++ joined (fs ∷ [])) (link_read n h.l)
    ∙ ap (λ (fs : List Fault). fs ++ joined (reads n h.l.operand ∷ [])) (sum_read names n h.x new h.left)
    ∙ ap (λ (fs : List Fault). joined (fs ∷ [])) (sum_read names n h.l.operand new h.right)

pub print_read : (names : List (List ℕ)) (n : List ℕ) (e : RawExpr) → is_known names n ≡ false → is_reserved n ≡ false → IsPrinting names e → reads n e ≡ []
print_read names n e new free h =
    bare_read n e h.b h.bare ∙ read n h.b (RawExprForm-F.Call h.f (h.x ∷ [])) h.is
    ∙ ap (λ (fs : List Fault). fs ++ joined (reads_in n h.x ∷ [])) (bare_read n h.f h.printed.b h.printed.bare ∙ name_read n (codes "print") h.printed.b h.printed.is (differs_back n (codes "print") free refl))
    ∙ ap (λ (fs : List Fault). joined (fs ∷ [])) (argument_read n h.x h.v h.value ∙ sum_read names n h.v new h.sum)
