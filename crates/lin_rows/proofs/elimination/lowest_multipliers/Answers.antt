use Rattle.std.specs.Prelude.{◌≡◌, ℕ, ℤ, pos, negsuc, ◌/◌, ◌<◌, ◌<ℤ◌, FitsSigned, unsigned_abs, Some, None, Result, Ok, Err}
use Rattle.std.specs.Int.{w128, IsGcd}
use Rattle.std.specs.Result.{OkIff, result_ok}
use Rattle.std.proofs.Common.{rules, arith, sym, ◌∙◌}
use Rattle.std.proofs.lemmas.Int.{to_z-of_z, ints}
use Rattle.lin_rows.specs.Lowest.{IsLowest}
use Rattle.lin_rows.specs.LowestLaws.{gcd_positive, lowest_of_gcd}
use Rattle.lin_rows.proofs.elimination.lowest_multipliers.Goals as goal

-- a divisor of the sizes isn't 0
positive_divisor : (x : ℤ) (m n g : ℕ) → pos 0 <ℤ x → m ≡ unsigned_abs x → IsGcd m n g → 0 < g
positive_divisor (pos i) m n g some e is = gcd_positive m n g (omega (arith, ints)) is
positive_divisor (negsuc i) m n g some e is = absurd (omega (arith, ints))

-- the lowest multipliers are the quotients by the divisor that was found
lowest_found : (x y : ℤ) (m n g : ℕ) → pos 0 <ℤ x → y <ℤ pos 0 → m ≡ unsigned_abs x → n ≡ unsigned_abs y → IsGcd m n g → IsLowest x y (pos (n / g)) (pos (m / g))
lowest_found x y m n g some less p q is =
    rw (p, q) (lowest_of_gcd x y g some less (rw (p, q) at is))

-- what a conversion gave, and why it gave nothing
given : {E : Type 0} (r : Result ℤ E) (z y : ℤ) → OkIff r (FitsSigned w128 y) y → Some z ≡ result_ok r → z ≡ y
given (Ok v) z y f e = cc
given (Err v) z y f e = absurd (cc)

not_given : {E : Type 0} (r : Result ℤ E) (y : ℤ) → OkIff r (FitsSigned w128 y) y → None ≡ result_ok r → ¬ (FitsSigned w128 y)
not_given (Ok v) y f e = absurd (cc)
not_given (Err v) y f e = f

pub nonzero_div-right : goal.nonzero_div-right
nonzero_div-right c =
    let left = rw (to_z-of_z w128 c.args.x c.ranges.x) at c.unsigned_abs-left.ensures.value in
    positive_divisor c.args.x _ _ c.gcd-divisor.result c.requires.positive left c.gcd-divisor.ensures

pub returns-in_err-by_left-clause-none : goal.returns-in_err-by_left-clause-none
returns-in_err-by_left-clause-none c =
    let left = rw (to_z-of_z w128 c.args.x c.ranges.x) at c.unsigned_abs-left.ensures.value in
    let right = rw (to_z-of_z w128 c.args.y c.ranges.y) at c.unsigned_abs-right.ensures.value in
    let low = lowest_found c.args.x c.args.y _ _ c.gcd-divisor.result c.requires.positive c.requires.negative left right c.gcd-divisor.ensures in
    let wide = not_given c.try_from.result _ c.try_from.ensures (sym c.in_err-by_left.was ∙ c.ok.ensures.value) in
    rw (c.from_residual.ensures) (_, _, low, λ fits. wide fits.0)

pub nonzero_div-left : goal.nonzero_div-left
nonzero_div-left c =
    let left = rw (to_z-of_z w128 c.args.x c.ranges.x) at c.unsigned_abs-left.ensures.value in
    positive_divisor c.args.x _ _ c.gcd-divisor.result c.requires.positive left c.gcd-divisor.ensures

pub returns-clause-some : goal.returns-clause-some
returns-clause-some c =
    let left = rw (to_z-of_z w128 c.args.x c.ranges.x) at c.unsigned_abs-left.ensures.value in
    let right = rw (to_z-of_z w128 c.args.y c.ranges.y) at c.unsigned_abs-right.ensures.value in
    let low = lowest_found c.args.x c.args.y _ _ c.gcd-divisor.result c.requires.positive c.requires.negative left right c.gcd-divisor.ensures in
    let by_left = given c.try_from.result _ _ c.try_from.ensures c.in_ok-by_left.ensures.value in
    let by_right = given c.try_from-2.result _ _ c.try_from-2.ensures c.in_ok-by_right.ensures.value in
    let fl : FitsSigned w128 c.in_ok-by_left.by_left = search rules in
    let fr : FitsSigned w128 c.in_ok-by_right.by_right = search rules in
    rw (to_z-of_z w128 c.in_ok-by_left.by_left fl, to_z-of_z w128 c.in_ok-by_right.by_right fr, by_left, by_right) low
