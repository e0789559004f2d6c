-- How the expressions of a small text are seen.
use Rattle.std.proofs.Common.{◌≡◌, ap, ◌∙◌, ℕ, ℤ, List, [], ◌∷◌, ◌++◌}
use Rattle.py_base.specs.declared.Place.{Place}
use Rattle.raw_syntax.specs.declared.RawExpr.{RawExpr, RawExpr-F, fold-roll-RawExpr}
use Rattle.raw_syntax.specs.declared.RawExprForm.{RawExprForm, RawExprForm-F, out-RawExprForm, fold-RawExprForm, fold_out-RawExprForm, map-RawExprForm, the_lemmas}
use Rattle.raw_syntax.specs.declared.RawExprForm.TheVariants as exprs
use Rattle.raw_syntax.specs.declared.RawComparison.{RawComparison, fold-roll-RawComparison}
use Rattle.raw_syntax.specs.declared.RawArgument.{RawArgument, RawArgument-F, out-RawArgument, fold_out-RawArgument, map-RawArgument, the_lemmas as argument_lemmas}
use Rattle.raw_syntax.specs.declared.RawArgument.TheVariants as arguments
use Rattle.raw_syntax.specs.declared.Arithmetic.{Arithmetic}
use Rattle.raw_syntax.specs.declared.Comparison.{Comparison}
use Rattle.py_grammar.specs.ExprGrammar.{node, link}
use Rattle.small_module.specs.SmallTree.{Link, Argument, value, name, chain, call, plain, View, view, link_of, argument_of, form_view, argument_view, link_view, seen_as, number_piece, name_piece, sign_piece}
use Rattle.small_module.specs.declared.piece.Piece.TheVariants as pieces

abbrev of_expr : RawExpr-F Argument (Place → View) Link View → View
of_expr e = e.form e.place

abbrev form_seen : List (List ℕ) → RawExprForm → Place → View
form_seen names = fold-RawExprForm Argument (Place → View) Link View argument_view (form_view names) link_view of_expr

-- one level, where each part is seen
abbrev layer_seen : List (List ℕ) → RawExprForm-F RawArgument RawExprForm RawComparison RawExpr → Place → View
layer_seen names form = form_view names (map-RawExprForm RawArgument RawExprForm RawComparison RawExpr Argument (Place → View) Link View (argument_of names) (form_seen names) (link_of names) (view names) form)

seen : (names : List (List ℕ)) (p : Place) (form : RawExprForm) (f : RawExprForm-F RawArgument RawExprForm RawComparison RawExpr) → out-RawExprForm form ≡ f → view names (node p form) ≡ layer_seen names f p
seen names p form f is =
    fold-roll-RawExpr Argument (Place → View) Link View argument_view (form_view names) link_view of_expr (record { place = p; form = form })
    ∙ ap (λ k. k p) (fold_out-RawExprForm Argument (Place → View) Link View argument_view (form_view names) link_view of_expr form)
    ∙ ap (λ x. layer_seen names x p) is

out-Number : (z : ℤ) → out-RawExprForm (exprs.Number z) ≡ RawExprForm-F.Number z
out-Number z = search the_lemmas

out-Name : (n : List ℕ) → out-RawExprForm (exprs.Name n) ≡ RawExprForm-F.Name n
out-Name n = search the_lemmas

out-Binary : (o : Arithmetic) (a b : RawExpr) → out-RawExprForm (exprs.Binary o a b) ≡ RawExprForm-F.Binary o a b
out-Binary o a b = search the_lemmas

out-Chain : (e : RawExpr) (ls : List RawComparison) → out-RawExprForm (exprs.Chain e ls) ≡ RawExprForm-F.Chain e ls
out-Chain e ls = search the_lemmas

out-Call : (e : RawExpr) (xs : List RawArgument) → out-RawExprForm (exprs.Call e xs) ≡ RawExprForm-F.Call e xs
out-Call e xs = search the_lemmas

out-Value : (e : RawExpr) → out-RawArgument (arguments.Value e) ≡ RawArgument-F.Value e
out-Value e = search argument_lemmas

pub number_seen : (names : List (List ℕ)) (p : Place) (z : ℤ) → view names (node p (exprs.Number z)) ≡ seen_as plain (number_piece p z ∷ []) p
number_seen names p z = seen names p (exprs.Number z) (RawExprForm-F.Number z) (out-Number z)

pub name_seen : (names : List (List ℕ)) (p : Place) (n : List ℕ) → view names (node p (exprs.Name n)) ≡ seen_as (name n) (name_piece names p n ∷ []) p
name_seen names p n = seen names p (exprs.Name n) (RawExprForm-F.Name n) (out-Name n)

pub two_seen : (names : List (List ℕ)) (p : Place) (o : Arithmetic) (a b : RawExpr) → view names (node p (exprs.Binary o a b)) ≡ seen_as plain ((view names a).parts ++ sign_piece p o ∷ (view names b).parts) p
two_seen names p o a b = seen names p (exprs.Binary o a b) (RawExprForm-F.Binary o a b) (out-Binary o a b)

link_seen : (names : List (List ℕ)) (p : Place) (c : Comparison) (e : RawExpr) → link_of names (link p c e) ≡ record { place = p; operator = c; parts = (view names e).parts }
link_seen names p c e = fold-roll-RawComparison Argument (Place → View) Link View argument_view (form_view names) link_view of_expr (record { place = p; operator = c; operand = e })

argument_seen : (names : List (List ℕ)) (e : RawExpr) → argument_of names (arguments.Value e) ≡ value (view names e).place (view names e).parts
argument_seen names e =
    fold_out-RawArgument Argument (Place → View) Link View argument_view (form_view names) link_view of_expr (arguments.Value e)
    ∙ ap (λ x. argument_view (map-RawArgument RawArgument RawExprForm RawComparison RawExpr Argument (Place → View) Link View (argument_of names) (form_seen names) (link_of names) (view names) x)) (out-Value e)

-- one comparison
pub chain_seen : (names : List (List ℕ)) (p q : Place) (c : Comparison) (a b : RawExpr) → (view names (node p (exprs.Chain a (link q c b ∷ [])))).shape ≡ chain (view names a).parts (record { place = q; operator = c; parts = (view names b).parts } ∷ [])
chain_seen names p q c a b =
    ap (λ (v : View). v.shape) (seen names p (exprs.Chain a (link q c b ∷ [])) (RawExprForm-F.Chain a (link q c b ∷ [])) (out-Chain a (link q c b ∷ [])))
    ∙ ap (λ l. chain (view names a).parts (l ∷ [])) (link_seen names q c b)

-- a call with one argument
pub call_seen : (names : List (List ℕ)) (p : Place) (f e : RawExpr) → view names (node p (exprs.Call f (arguments.Value e ∷ []))) ≡ seen_as (call (view names f).shape (value (view names e).place (view names e).parts ∷ [])) ((view names f).parts ++ pieces.Other p ∷ []) p
call_seen names p f e =
    seen names p (exprs.Call f (arguments.Value e ∷ [])) (RawExprForm-F.Call f (arguments.Value e ∷ [])) (out-Call f (arguments.Value e ∷ []))
    ∙ ap (λ x. seen_as (call (view names f).shape (x ∷ [])) ((view names f).parts ++ pieces.Other p ∷ []) p) (argument_seen names e)
