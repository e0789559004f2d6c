-- The linear forms of the two sides of an order, and its row.
use Rattle.std.specs.Prelude.{◌≡◌, ℤ, ◌-ℤ◌, List, [], ◌∷◌, map, All, Result, Ok, Err, IfErr, FitsSigned}
use Rattle.std.specs.Int.{w128}
use Rattle.std.proofs.Common.{refl, ap, sym, subst, ◌∙◌}
use Rattle.std.proofs.lemmas.List.Elements.{All-head}
use Rattle.lin_rows.specs.declared.Row.{Row}
use Rattle.lin_rows.specs.declared.RowFault.{RowFault}
use Rattle.lin_rows.specs.declared.RowFault.TheVariants.{Wide}
use Rattle.lin_rows.specs.Terms.{coef_at}
use Rattle.terms.specs.declared.Term.{Term, Term-F, map-Term, roll-Term, out-Term, para-roll-Term, roll-out-Term}
use Rattle.terms.specs.declared.Linear.{Linear}
use Rattle.terms.specs.Within.{parts_of, within_step, terms_within}
use Rattle.terms.specs.Forms.{Form, FormFits, AllFormsFit, form_of, form_in}
use Rattle.proof_checker.specs.Rows.{RowFits}
use Rattle.cond_facts.specs.Differences.{CoefsFit, LessFits}

-- a term beside the terms within it
abbrev with_within : Term → Term × List Term
with_within y = (y, terms_within y)

firsts : (ts : List Term) → map {A = Term × List Term} (λ e. e.0) (map with_within ts) ≡ ts
firsts [] = refl
firsts (t ∷ ts) = ap (λ us. t ∷ us) (firsts ts)

same_layer : (x : Term-F Term) → map-Term (Term × List Term) Term (λ e. e.0) (map-Term Term (Term × List Term) with_within x) ≡ x
same_layer (Term-F.Sym n) = refl
same_layer (Term-F.Lit z) = refl
same_layer (Term-F.Add a b) = refl
same_layer (Term-F.Scale k a) = refl
same_layer (Term-F.App operator all) = ap (λ ts. Term-F.App operator ts) (firsts all)
same_layer (Term-F.RefSym n) = refl
same_layer (Term-F.RefLit n) = refl
same_layer Term-F.Nil = refl

-- the terms within a form's parts
abbrev below : Term-F Term → List Term
below x = parts_of (map-Term (Term × List Term) (List Term) (λ e. e.1) (map-Term Term (Term × List Term) with_within x))

itself_first : (x : Term-F Term) → terms_within (roll-Term x) ≡ roll-Term x ∷ below x
itself_first x =
    para-roll-Term (List Term) within_step x ∙ ap (λ y. roll-Term y ∷ below x) (same_layer x)

-- the linear form of a term fits where all within it do
own_fits : (t : Term) → AllFormsFit t → FormFits (form_of t)
own_fits t h =
    let is : terms_within t ≡ t ∷ below (out-Term t) = ap terms_within (sym (roll-out-Term t)) ∙ itself_first (out-Term t) ∙ ap (λ u. u ∷ below (out-Term t)) (roll-out-Term t) in
    All-head (λ u. FormFits (form_of u)) t (below (out-Term t)) (subst (All (λ u. FormFits (form_of u))) is h.within)

pub coefs_fit : (t : Term) (l : Linear) → form_in l ≡ form_of t → AllFormsFit t → CoefsFit l.coefs
coefs_fit t l e h v =
    subst (λ z. FitsSigned w128 z) (sym (ap (λ (f : Form). f.coefs v) e)) ((own_fits t h).coefs v)

-- where the difference of the forms of the sides doesn't fit, nor does the row
pub order_wide : (res : Result Row RowFault) (a b : Term) (l r : Linear) → form_in l ≡ form_of a → form_in r ≡ form_of b → IfErr res (λ e. e ≡ Wide → ¬ (LessFits l.coefs r.coefs × FitsSigned w128 (r.bound -ℤ l.bound))) → IfErr res (λ e. e ≡ Wide → ¬ (RowFits a b))
order_wide (Ok x) a b l r e f wide = tt
order_wide (Err x) a b l r e f wide = λ same fits. wide same (
  λ v. difference_fits (coef_at l.coefs v) (coef_at r.coefs v) _ _ (ap (λ (g : Form). g.coefs v) e) (ap (λ (g : Form). g.coefs v) f) (fits.coefs v),
  difference_fits r.bound l.bound _ _ (ap (λ (g : Form). g.units) f) (ap (λ (g : Form). g.units) e) fits.units,
)
  where
    difference_fits : (x y z w : ℤ) → x ≡ z → y ≡ w → FitsSigned w128 (z -ℤ w) → FitsSigned w128 (x -ℤ y)
    difference_fits x y z w p q h = subst (λ u. FitsSigned w128 (u -ℤ y)) (sym p) (subst (λ u. FitsSigned w128 (z -ℤ u)) (sym q) h)
