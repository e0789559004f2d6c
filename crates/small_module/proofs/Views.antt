-- Each part of an expression, as it is seen, is fine.
use Rattle.std.proofs.Common.{◌≡◌, ℕ, List, [], ◌∷◌, length, map, refl, sym, ap, subst, inl, inr}
use Rattle.py_base.specs.declared.Place.{Place}
use Rattle.raw_syntax.specs.declared.RawExpr.{RawExpr, RawExpr-F, roll-RawExpr, map-RawExpr, fold-roll-RawExpr, ind-RawExpr}
use Rattle.raw_syntax.specs.declared.RawExprForm.{RawExprForm, RawExprForm-F, roll-RawExprForm, map-RawExprForm, fold-RawExprForm, fold-roll-RawExprForm}
use Rattle.raw_syntax.specs.declared.RawComparison.{RawComparison, RawComparison-F, roll-RawComparison, map-RawComparison, fold-RawComparison, fold-roll-RawComparison}
use Rattle.raw_syntax.specs.declared.RawArgument.{RawArgument, RawArgument-F, roll-RawArgument, map-RawArgument, fold-RawArgument, fold-roll-RawArgument}
use Rattle.raw_syntax.specs.declared.Arithmetic.{Arithmetic}
use Rattle.raw_syntax.specs.declared.Arithmetic.TheVariants as signs
use Rattle.small_module.specs.SmallTree.{Link, Argument, value, named, Shape, chain, call, View, sign_piece, form_view, argument_view, link_view, view}
use Rattle.small_module.specs.declared.piece.Piece.TheVariants as pieces
use Rattle.small_module.proofs.SumShapes.{FinePiece, Fine, fine_append, number_fine, name_fine}

abbrev pub FineLinks : ℕ → List Link → Type 0
FineLinks k [] = Unit {0}
FineLinks k (l ∷ ls) = Fine k l.parts × FineLinks k ls

abbrev pub FineArgument : ℕ → Argument → Type 0
FineArgument k (value p parts) = Fine k parts
FineArgument k (named p) = Unit {0}

abbrev pub FineArguments : ℕ → List Argument → Type 0
FineArguments k [] = Unit {0}
FineArguments k (x ∷ xs) = FineArgument k x × FineArguments k xs

abbrev pub FineShape : ℕ → Shape → Type 0
FineShape k (chain first links) = Fine k first × FineLinks k links
FineShape k (call s xs) = FineArguments k xs
FineShape k s = Unit {0}

pub record FineView (k : ℕ) (v : View) : Type 0 where
  pub parts : Fine k v.parts
  pub shape : FineShape k v.shape

abbrev of_expr : RawExpr-F Argument (Place → View) Link View → View
of_expr e = e.form e.place

abbrev form_seen : List (List ℕ) → RawExprForm → Place → View
form_seen names = fold-RawExprForm Argument (Place → View) Link View argument_view (form_view names) link_view of_expr

abbrev link_seen : List (List ℕ) → RawComparison → Link
link_seen names = fold-RawComparison Argument (Place → View) Link View argument_view (form_view names) link_view of_expr

abbrev argument_seen : List (List ℕ) → RawArgument → Argument
argument_seen names = fold-RawArgument Argument (Place → View) Link View argument_view (form_view names) link_view of_expr

abbrev FormIsFine : List (List ℕ) → RawExprForm → Type 0
FormIsFine names form = (p : Place) → FineView (length names) (form_seen names form p)

abbrev ExprIsFine : List (List ℕ) → RawExpr → Type 0
ExprIsFine names e = FineView (length names) (view names e)

abbrev LinkIsFine : List (List ℕ) → RawComparison → Type 0
LinkIsFine names l = Fine (length names) (link_seen names l).parts

abbrev ArgumentIsFine : List (List ℕ) → RawArgument → Type 0
ArgumentIsFine names x = FineArgument (length names) (argument_seen names x)

abbrev Forms : List (List ℕ) → Type 0
Forms names = (form : RawExprForm) × FormIsFine names form

abbrev Exprs : List (List ℕ) → Type 0
Exprs names = (e : RawExpr) × ExprIsFine names e

abbrev Links : List (List ℕ) → Type 0
Links names = (l : RawComparison) × LinkIsFine names l

abbrev Arguments : List (List ℕ) → Type 0
Arguments names = (x : RawArgument) × ArgumentIsFine names x

abbrev plain_form : (names : List (List ℕ)) → RawExprForm-F (Arguments names) (Forms names) (Links names) (Exprs names) → RawExprForm-F RawArgument RawExprForm RawComparison RawExpr
plain_form names y = map-RawExprForm (Arguments names) (Forms names) (Links names) (Exprs names) RawArgument RawExprForm RawComparison RawExpr (λ e. e.0) (λ e. e.0) (λ e. e.0) (λ e. e.0) y

abbrev plain_expr : (names : List (List ℕ)) → RawExpr-F (Arguments names) (Forms names) (Links names) (Exprs names) → RawExpr-F RawArgument RawExprForm RawComparison RawExpr
plain_expr names y = map-RawExpr (Arguments names) (Forms names) (Links names) (Exprs names) RawArgument RawExprForm RawComparison RawExpr (λ e. e.0) (λ e. e.0) (λ e. e.0) (λ e. e.0) y

abbrev plain_link : (names : List (List ℕ)) → RawComparison-F (Arguments names) (Forms names) (Links names) (Exprs names) → RawComparison-F RawArgument RawExprForm RawComparison RawExpr
plain_link names y = map-RawComparison (Arguments names) (Forms names) (Links names) (Exprs names) RawArgument RawExprForm RawComparison RawExpr (λ e. e.0) (λ e. e.0) (λ e. e.0) (λ e. e.0) y

abbrev plain_argument : (names : List (List ℕ)) → RawArgument-F (Arguments names) (Forms names) (Links names) (Exprs names) → RawArgument-F RawArgument RawExprForm RawComparison RawExpr
plain_argument names y = map-RawArgument (Arguments names) (Forms names) (Links names) (Exprs names) RawArgument RawExprForm RawComparison RawExpr (λ e. e.0) (λ e. e.0) (λ e. e.0) (λ e. e.0) y

-- one level, where each part is seen
abbrev layer_seen : List (List ℕ) → RawExprForm-F RawArgument RawExprForm RawComparison RawExpr → Place → View
layer_seen names form = form_view names (map-RawExprForm RawArgument RawExprForm RawComparison RawExpr Argument (Place → View) Link View (argument_seen names) (form_seen names) (link_seen names) (view names) form)

links_fine : (names : List (List ℕ)) (ls : List (Links names)) → FineLinks (length names) (map (link_seen names) (map (λ (l : Links names). l.0) ls))
links_fine names [] = tt
links_fine names (l ∷ ls) = (l.1, links_fine names ls)

arguments_fine : (names : List (List ℕ)) (xs : List (Arguments names)) → FineArguments (length names) (map (argument_seen names) (map (λ (x : Arguments names). x.0) xs))
arguments_fine names [] = tt
arguments_fine names (x ∷ xs) = (x.1, arguments_fine names xs)

sign_fine : (k : ℕ) (p : Place) (o : Arithmetic) → FinePiece k (sign_piece p o)
sign_fine k p signs.Plus = inl refl
sign_fine k p signs.Minus = inr refl
sign_fine k p o = tt

layer_fine : (names : List (List ℕ)) (y : RawExprForm-F (Arguments names) (Forms names) (Links names) (Exprs names)) (p : Place) → FineView (length names) (layer_seen names (plain_form names y) p)
layer_fine names (RawExprForm-F.Number n) p = record { parts = (number_fine (length names) p n, tt); shape = tt }
layer_fine names (RawExprForm-F.Name n) p = record { parts = (name_fine names p n, tt); shape = tt }
layer_fine names (RawExprForm-F.Bracket e) p = e.1
layer_fine names (RawExprForm-F.Binary o a b) p = record { parts = fine_append (length names) (view names a.0).parts (sign_piece p o ∷ (view names b.0).parts) (a.1).parts (sign_fine (length names) p o, (b.1).parts); shape = tt }
layer_fine names (RawExprForm-F.Field e n) p = record { parts = fine_append (length names) (view names e.0).parts (pieces.Other p ∷ []) (e.1).parts (tt, tt); shape = tt }
layer_fine names (RawExprForm-F.Call e xs) p = record { parts = fine_append (length names) (view names e.0).parts (pieces.Other p ∷ []) (e.1).parts (tt, tt); shape = arguments_fine names xs }
layer_fine names (RawExprForm-F.And a b) p = record { parts = fine_append (length names) (view names a.0).parts (pieces.Other p ∷ (view names b.0).parts) (a.1).parts (tt, (b.1).parts); shape = tt }
layer_fine names (RawExprForm-F.Or a b) p = record { parts = fine_append (length names) (view names a.0).parts (pieces.Other p ∷ (view names b.0).parts) (a.1).parts (tt, (b.1).parts); shape = tt }
layer_fine names (RawExprForm-F.Chain e ls) p = record { parts = fine_append (length names) (view names e.0).parts (pieces.Other p ∷ []) (e.1).parts (tt, tt); shape = ((e.1).parts, links_fine names ls) }
layer_fine names form p = record { parts = (tt, tt); shape = tt }

form_fine : (names : List (List ℕ)) (x : RawExprForm-F RawArgument RawExprForm RawComparison RawExpr) (y : RawExprForm-F (Arguments names) (Forms names) (Links names) (Exprs names)) → plain_form names y ≡ x → FormIsFine names (roll-RawExprForm x)
form_fine names x y is = subst (λ z. FormIsFine names (roll-RawExprForm z)) is (λ p. subst (λ (v : View). FineView (length names) v) (sym (ap (λ k. k p) (fold-roll-RawExprForm Argument (Place → View) Link View argument_view (form_view names) link_view of_expr (plain_form names y)))) (layer_fine names y p))

expr_fine : (names : List (List ℕ)) (x : RawExpr-F RawArgument RawExprForm RawComparison RawExpr) (y : RawExpr-F (Arguments names) (Forms names) (Links names) (Exprs names)) → plain_expr names y ≡ x → ExprIsFine names (roll-RawExpr x)
expr_fine names x y is = subst (λ z. ExprIsFine names (roll-RawExpr z)) is (subst (λ (v : View). FineView (length names) v) (sym (fold-roll-RawExpr Argument (Place → View) Link View argument_view (form_view names) link_view of_expr (plain_expr names y))) ((y.form).1 y.place))

link_fine : (names : List (List ℕ)) (x : RawComparison-F RawArgument RawExprForm RawComparison RawExpr) (y : RawComparison-F (Arguments names) (Forms names) (Links names) (Exprs names)) → plain_link names y ≡ x → LinkIsFine names (roll-RawComparison x)
link_fine names x y is = subst (λ z. LinkIsFine names (roll-RawComparison z)) is (subst (λ (l : Link). Fine (length names) l.parts) (sym (fold-roll-RawComparison Argument (Place → View) Link View argument_view (form_view names) link_view of_expr (plain_link names y))) ((y.operand).1).parts)

argument_layer : (names : List (List ℕ)) (y : RawArgument-F (Arguments names) (Forms names) (Links names) (Exprs names)) → FineArgument (length names) (argument_view (map-RawArgument RawArgument RawExprForm RawComparison RawExpr Argument (Place → View) Link View (argument_seen names) (form_seen names) (link_seen names) (view names) (plain_argument names y)))
argument_layer names (RawArgument-F.Value e) = (e.1).parts
argument_layer names (RawArgument-F.Named e f) = tt

argument_fine : (names : List (List ℕ)) (x : RawArgument-F RawArgument RawExprForm RawComparison RawExpr) (y : RawArgument-F (Arguments names) (Forms names) (Links names) (Exprs names)) → plain_argument names y ≡ x → ArgumentIsFine names (roll-RawArgument x)
argument_fine names x y is = subst (λ z. ArgumentIsFine names (roll-RawArgument z)) is (subst (λ (a : Argument). FineArgument (length names) a) (sym (fold-roll-RawArgument Argument (Place → View) Link View argument_view (form_view names) link_view of_expr (plain_argument names y))) (argument_layer names y))

-- an expression is seen with fine parts, where these names are assigned
pub view_fine : (names : List (List ℕ)) (e : RawExpr) → FineView (length names) (view names e)
view_fine names = ind-RawExpr (ArgumentIsFine names) (FormIsFine names) (LinkIsFine names) (ExprIsFine names) (argument_fine names) (form_fine names) (link_fine names) (expr_fine names)
