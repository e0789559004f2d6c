use Rattle.std.specs.Prelude.{◌≡◌, ◌+ℤ◌, ◌*ℤ◌, Option, Some, None, ℤ, FitsSigned}
use Rattle.std.specs.Int.{w128}
use Rattle.std.specs.Option.{SomeIff}
use Rattle.std.proofs.Common.{subst, sym, ap, ◌∙◌}
use Rattle.std.proofs.lemmas.Int.{to_z-of_z}
use Rattle.lin_rows.specs.Rows.{MixFits}
use Rattle.lin_rows.proofs.combination.mix.Goals as goal

-- the sum of two products, each of which fits
both_fit : (o : Option ℤ) (k a l b x y : ℤ) → FitsSigned w128 (k *ℤ a) → FitsSigned w128 (l *ℤ b) → x ≡ k *ℤ a → y ≡ l *ℤ b → SomeIff o (FitsSigned w128 (x +ℤ y)) (x +ℤ y) → SomeIff o (MixFits k a l b) (k *ℤ a +ℤ l *ℤ b)
both_fit None k a l b x y f g p q s = λ h. s (subst (λ z. FitsSigned w128 z) (sym (ap (λ z. z +ℤ y) p ∙ ap (λ z. k *ℤ a +ℤ z) q)) h.2)
both_fit (Some z) k a l b x y f g p q s =
    let e : x +ℤ y ≡ k *ℤ a +ℤ l *ℤ b = ap (λ z. z +ℤ y) p ∙ ap (λ z. k *ℤ a +ℤ z) q in
    ((f, g, subst (λ z. FitsSigned w128 z) e s.0), s.1 ∙ e)

pub returns-in-Some-Some : goal.returns-in-Some-Some
returns-in-Some-Some c =
    let k = to_z-of_z w128 c.args.k c.ranges.k in
    let a = to_z-of_z w128 c.args.a c.ranges.a in
    let l = to_z-of_z w128 c.args.l c.ranges.l in
    let b = to_z-of_z w128 c.args.b c.ranges.b in
    let left = rw (k, a) at c.in-Some-Some.ensures in
    let right = rw (l, b) at c.in-Some-Some.ensures' in
    let x : FitsSigned w128 c.in-Some-Some.left = subst (λ z. FitsSigned w128 z) (sym left.1) left.0 in
    let y : FitsSigned w128 c.in-Some-Some.right = subst (λ z. FitsSigned w128 z) (sym right.1) right.0 in
    both_fit c.checked_add.result c.args.k c.args.a c.args.l c.args.b c.in-Some-Some.left c.in-Some-Some.right left.0 right.0 left.1 right.1
    (rw (to_z-of_z w128 c.in-Some-Some.left x, to_z-of_z w128 c.in-Some-Some.right y) at c.checked_add.ensures)
