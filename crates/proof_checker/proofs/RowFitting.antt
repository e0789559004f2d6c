-- When the row of a comparison is within 128 bits.
use Rattle.std.specs.Prelude.{◌≡◌, ℕ, ◌+◌, ◌<◌, ◌≤◌, Bool, true, false, ℤ, pos, ◌-ℤ◌, FitsSigned}
use Rattle.std.specs.Int.{w128}
use Rattle.std.proofs.Common.{refl, sym, subst, arith, ⊎_elim}
use Rattle.std.proofs.lemmas.Int.{ints}
use Rattle.std.proofs.lemmas.Bool.{cases_lt}
use Rattle.terms.specs.declared.Term.{Term, Sym}
use Rattle.terms.specs.Forms.{form_of}
use Rattle.terms.specs.Within.{terms_within}
use Rattle.proof_checker.specs.declared.replies.Figure.TheVariants.{Coefficient, Units}
use Rattle.proof_checker.specs.Figures.{HasSymbol, BothFit, FitAtSymbols}
use Rattle.proof_checker.specs.Rows.{RowFits}
use Rattle.proof_checker.specs.Views.{has}
use Rattle.proof_checker.proofs.Sides.{there, has_it}
use Rattle.proof_checker.proofs.Figuring.{zero_fits, all_figures_fit, coefficient_fits, units_fit}
use Rattle.proof_checker.proofs.Symbols.{absent_fits, no_coefficient}

absent : (v : ℕ) (t : Term) → has (terms_within t) (Sym v) ≡ false → ¬ (HasSymbol v t)
absent v t off h = let on = has_it (terms_within t) (Sym v) h in absurd (cc (on, off))

none_between : (x y : ℤ) → x ≡ pos 0 → y ≡ pos 0 → x -ℤ y ≡ pos 0
none_between x y p q = omega (arith, ints)

absent_both : (v : ℕ) (a b : Term) → ¬ (HasSymbol v a) → ¬ (HasSymbol v b) → BothFit (Coefficient v) a b
absent_both v a b p q = record {
  left = absent_fits v a p;
  right = absent_fits v b q;
  difference =
      subst (λ z. FitsSigned w128 z) (sym (none_between ((form_of a).coefs v) ((form_of b).coefs v) (no_coefficient v a p) (no_coefficient v b q))) zero_fits;
}

-- at the symbols of both sides, and so at each one
at_each : (a b : Term) → FitAtSymbols a a b → FitAtSymbols b a b → (v : ℕ) → BothFit (Coefficient v) a b
at_each a b f g v = by_left (has (terms_within a) (Sym v)) refl
  where
    by_right : (c : Bool) → has (terms_within a) (Sym v) ≡ false → has (terms_within b) (Sym v) ≡ c → BothFit (Coefficient v) a b
    by_right true d e = g v (there (terms_within b) (Sym v) e)
    by_right false d e = absent_both v a b (absent v a d) (absent v b e)

    by_left : (c : Bool) → has (terms_within a) (Sym v) ≡ c → BothFit (Coefficient v) a b
    by_left true e = f v (there (terms_within a) (Sym v) e)
    by_left false e = by_right (has (terms_within b) (Sym v)) e refl

pub row_fits : (a b : Term) → BothFit Units b a → FitAtSymbols a a b → FitAtSymbols b a b → RowFits a b
row_fits a b u f g = record {
  left = all_figures_fit a (λ v. (at_each a b f g v).left) u.right;
  right = all_figures_fit b (λ v. (at_each a b f g v).right) u.left;
  coefs = λ v. (at_each a b f g v).difference;
  units = u.difference;
}

pub units_of_row : (a b : Term) → RowFits a b → BothFit Units b a
units_of_row a b r = record { left = units_fit b r.right; right = units_fit a r.left; difference = r.units }

pub symbols_of_row : (t a b : Term) → RowFits a b → FitAtSymbols t a b
symbols_of_row t a b r v h = record { left = coefficient_fits a v r.left; right = coefficient_fits b v r.right; difference = r.coefs v }

-- the symbols below a number, of which there are no more than below the next symbol
abbrev pub FitBelow : ℕ → Term → Term → Term → Type 0
FitBelow from t a b = (w : ℕ) → HasSymbol w t → w < from → BothFit (Coefficient w) a b

pub fit_further : (from v : ℕ) (t a b : Term) → FitBelow from t a b → ((w : ℕ) → HasSymbol w t → from ≤ w → v ≤ w) → BothFit (Coefficient v) a b → FitBelow (v + 1) t a b
fit_further from v t a b h least fits w has_it lt = ⊎_elim
    (λ (less : w < from). h w has_it less)
    (λ (le : from ≤ w). let e : v ≡ w = (let k = least w has_it le in omega (arith, k, lt)) in subst (λ n. BothFit (Coefficient n) a b) e fits)
    (cases_lt w from)

pub fit_all : (from : ℕ) (t a b : Term) → FitBelow from t a b → ((w : ℕ) → HasSymbol w t → ¬ (from ≤ w)) → FitAtSymbols t a b
fit_all from t a b h none w has_it = ⊎_elim
    (λ (less : w < from). h w has_it less)
    (λ (le : from ≤ w). absurd (none w has_it le))
    (cases_lt w from)
