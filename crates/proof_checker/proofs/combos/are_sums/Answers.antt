use Rattle.std.specs.Prelude.{◌≡◌, ℕ, ◌<◌, ◌≤◌}
use Rattle.std.proofs.Common.{subst, ⊎_elim, arith, refl}
use Rattle.std.proofs.lemmas.Bool.{cases_lt}
use Rattle.proof_checker.specs.declared.replies.Figure.TheVariants.{Coefficient}
use Rattle.proof_checker.specs.Combos.{IsSumAt}
use Rattle.proof_checker.proofs.Adding.{sums_nowhere_else, refused}
use Rattle.proof_checker.proofs.combos.are_sums.Goals as goal

-- what holds of the variables so far, of none between and of the next one
carried : (P : ℕ → Type 0) (last next : ℕ) → ((v : ℕ) → v ≤ last → P v) → ((v : ℕ) → last < v → v < next → P v) → P next → (v : ℕ) → v ≤ next → P v
carried P last next before between here v le = ⊎_elim (λ (less : last < v). ⊎_elim (λ (below : v < next). between v less below) (λ (ge : next ≤ v). let e : next ≡ v = omega arith in subst P e here) (cases_lt v next)) (λ (past : v ≤ last). before v past) (cases_lt last v)

ended : (P : ℕ → Type 0) (last : ℕ) → ((v : ℕ) → v ≤ last → P v) → ((v : ℕ) → last < v → P v) → (v : ℕ) → P v
ended P last before after v = ⊎_elim (λ (less : last < v). after v less) (λ (past : v ≤ last). before v past) (cases_lt last v)

pub returns-then-not-is_sum_at : goal.returns-then-not-is_sum_at
returns-then-not-is_sum_at c a b left right =
    refused c.is_sum_at.result (IsSumAt (Coefficient 0) a b c.args.s.now) ((v : ℕ) → IsSumAt (Coefficient v) a b c.args.s.now) c.if-not-is_sum_at.true (λ all. all 0) (c.is_sum_at.ensures a b left right).1

pub variables-init : goal.variables-init
variables-init c a b left right v le =
    let e : 0 ≡ v = omega arith in
    subst (λ w. IsSumAt (Coefficient w) a b c.args.s.now) e ((c.is_sum_at.ensures a b left right).0 c.if-not-is_sum_at.false)

pub returns-then-not-is_sum_at-2 : goal.returns-then-not-is_sum_at-2
returns-then-not-is_sum_at-2 c a b left right =
    refused c.is_sum_at-in-Some.result (IsSumAt (Coefficient c.in-Some.v) a b c.args.s.now) ((v : ℕ) → IsSumAt (Coefficient v) a b c.args.s.now) c.if-not-is_sum_at-2.true (λ all. all c.in-Some.v) (c.is_sum_at-in-Some.ensures a b left right).1

pub variables-preserved : goal.variables-preserved
variables-preserved c a b left right =
    let s = c.args.s.now in
    let clear = c.in-Some.ensures in
    carried (λ v. IsSumAt (Coefficient v) a b s) c.variables.last c.in-Some.v (c.variables.invariant a b left right) (λ v lt below. sums_nowhere_else a b s v (clear.left a left v lt below) (clear.right b right v lt below) (clear.own v lt below)) ((c.is_sum_at-in-Some.ensures a b left right).0 c.if-not-is_sum_at-2.false)

pub returns : goal.returns
returns c a b left right =
    let s = c.args.s.now in
    let clear = c.in_default.ensures in
    (λ h. ended (λ v. IsSumAt (Coefficient v) a b s) c.variables.last (c.variables.invariant a b left right) (λ v lt. sums_nowhere_else a b s v (clear.left a left v lt tt) (clear.right b right v lt tt) (clear.own v lt tt)), λ all. refl)
