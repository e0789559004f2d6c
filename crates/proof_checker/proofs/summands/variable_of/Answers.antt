use Rattle.std.specs.Prelude.{◌≡◌, ℕ, ◌<◌, ℤ, pos, ◌-ℤ◌, Option}
use Rattle.std.proofs.Common.{subst, sym, arith}
use Rattle.std.proofs.lemmas.Int.{ints}
use Rattle.lin_rows.specs.declared.Row.{Row}
use Rattle.terms.specs.declared.Term.{Term}
use Rattle.terms.specs.Forms.{form_of}
use Rattle.proof_checker.specs.Rows.{IsRow}
use Rattle.proof_checker.specs.Chains.{side_term}
use Rattle.proof_checker.specs.Figures.{HasSymbol}
use Rattle.proof_checker.specs.Combos.{IsRowOf, IsBelow, IsClear, lesser_of}
use Rattle.proof_checker.proofs.Symbols.{no_coefficient}
use Rattle.proof_checker.proofs.Adding.{below_lesser}
use Rattle.proof_checker.proofs.summands.variable_of.Goals as goal

no_difference : (x y z : ℤ) → z ≡ x -ℤ y → x ≡ pos 0 → y ≡ pos 0 → z ≡ pos 0
no_difference x y z e f g = omega (arith, ints, e, f, g)

clear_between : (a b : Term) (last : ℕ) (x y : Option ℕ) → ((w : ℕ) → last < w → IsBelow w x → HasSymbol w a → ⊥) → ((w : ℕ) → last < w → IsBelow w y → HasSymbol w b → ⊥) → (r : Row) → IsRow a b r → IsClear last (lesser_of x y) r.coefs
clear_between a b last x y first second r is w lt below =
    let both = below_lesser x y w below in
    no_difference ((form_of a).coefs w) ((form_of b).coefs w) _ (is.coefs w) (no_coefficient w a (first w lt both.0)) (no_coefficient w b (second w lt both.1))

pub returns-in-Compared-clause-clear : goal.returns-in-Compared-clause-clear
returns-in-Compared-clause-clear c r is =
    let a = side_term c.in-Compared.a.now in
    let b = side_term c.in-Compared.b.now in
    let x = c.symbol_after.result in
    let y = c.symbol_after-in-Compared.result in
    subst (λ o. IsClear c.args.last o r.coefs) (sym c.lesser.ensures) (clear_between a b c.args.last x y c.symbol_after.ensures.none c.symbol_after-in-Compared.ensures.none r (subst (λ s. IsRowOf s r) c.in-Compared.is is))
