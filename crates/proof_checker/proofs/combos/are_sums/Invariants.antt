use Rattle.std.specs.Prelude.{ℕ, ◌≤◌, ◌-◌, ◌^◌}
use Rattle.lin_rows.specs.declared.Row.{Row}
use Rattle.proof_checker.specs.declared.replies.Figure.TheVariants.{Coefficient}
use Rattle.proof_checker.specs.Combos.{IsRowOf, IsSumAt}
use Rattle.proof_checker.proofs.combos.are_sums.Given as goal

-- the coefficients of the variables so far are sums
abbrev pub invariant-variables : goal.invariant-variables
invariant-variables l =
    (a b : Row) → IsRowOf l.left a → IsRowOf l.right b → (v : ℕ) → v ≤ l.last → IsSumAt (Coefficient v) a b l.s

abbrev pub decreases-variables : goal.decreases-variables
decreases-variables l = 2 ^ 32 - l.last
