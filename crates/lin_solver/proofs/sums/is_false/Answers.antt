use Rattle.std.specs.Prelude.{◌≡◌, ℕ, ℤ, pos, ◌<ℤ◌, ◌≤ℤ◌, List, [], ◌∷◌, IsTrue, FitsSigned, length, eqb, true, false, refl}
use Rattle.std.specs.Int.{w128}
use lib.Signed.{lt_z}
use Rattle.std.proofs.Common.{rules, arith, sym, ap, ◌∙◌}
use Rattle.std.proofs.lemmas.Bool.Decides.{nat_tests}
use Rattle.std.proofs.lemmas.Int.{to_z-of_z, by_lt_z}
use Rattle.lin_rows.specs.Terms.{IsNormal, coef_at}
use Rattle.lin_rows.specs.TermLaws.{coef-first}
use Rattle.lin_solver.proofs.sums.is_false.Goals as goal

is_less : (b : ℤ) → b <ℤ pos 0 → IsTrue (lt_z b (pos 0))
is_less b h = search (rules, h)

-- a row that isn't false may be met
may_be_met : (ts : List (ℕ × ℤ)) (b : ℤ) → IsNormal ts → ¬ ((ts ≡ []) × (b <ℤ pos 0)) → ((v : ℕ) → coef_at ts v ≡ pos 0) → pos 0 ≤ℤ b
may_be_met [] b normal true_ none =
    by_lt_z b (pos 0) (λ lt. absurd (true_ (refl, lt))) (λ le. le)
may_be_met (t ∷ ts) b normal true_ none =
    absurd (normal.1 (sym (coef-first t.0 t.0 t.1 ts refl normal.2) ∙ none t.0))

not_empty : (n : ℕ) → false ≡ eqb n 0 → n ≡ 0 → ⊥
not_empty n f e = let b : eqb n 0 ≡ true = grind (arith, nat_tests) in absurd (cc)

pub returns-then-is_empty-clause-may : goal.returns-then-is_empty-clause-may
returns-then-is_empty-clause-may c isnt =
    let fits : FitsSigned w128 c.args.row.now.bound = search rules in
    may_be_met c.args.row.now.coefs c.args.row.now.bound c.as_slice.ensures.in_order (λ h. isnt (rw (to_z-of_z w128 c.args.row.now.bound fits) (is_less c.args.row.now.bound h.1)))

pub returns-else-is_empty-clause-may : goal.returns-else-is_empty-clause-may
returns-else-is_empty-clause-may c isnt =
    let none = λ (e : c.args.row.now.coefs ≡ []). ap length (c.as_slice.ensures.terms ∙ e) in
    may_be_met c.args.row.now.coefs c.args.row.now.bound c.as_slice.ensures.in_order (λ h. not_empty (length c.as_slice.result.now) (sym c.if-is_empty.false ∙ c.is_empty.ensures) (none h.0))
