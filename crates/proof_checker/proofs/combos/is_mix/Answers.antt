use Rattle.std.specs.Prelude.{◌≡◌, ◌==◌, ℕ, false, true, ℤ, ◌+ℤ◌, ◌*ℤ◌, IsTrue, FitsSigned}
use Rattle.std.specs.Int.{w128}
use Rattle.std.proofs.Common.{sym, ap, subst, ◌∙◌, arith, to_z, of_z}
use Rattle.std.proofs.lemmas.Bool.Decides.{nat_tests}
use Rattle.std.proofs.lemmas.Int.{to_z-of_z}
use Rattle.lin_rows.specs.Rows.{MixFits}
use Rattle.proof_checker.proofs.combos.is_mix.Goals as goal

abbrev IsMix : ℤ → ℤ → ℤ → ℤ → ℤ → Type 0
IsMix k x l y z = MixFits k x l y × (z ≡ k *ℤ x +ℤ l *ℤ y)

same_bits : (m n : ℕ) → IsTrue (m == n) → m ≡ n
same_bits m n h = grind (arith, nat_tests)

itself : (m n : ℕ) → m ≡ n → IsTrue (m == n)
itself m n e = grind (arith, nat_tests)

total : (k x l y p q : ℤ) → p ≡ k *ℤ x → q ≡ l *ℤ y → p +ℤ q ≡ k *ℤ x +ℤ l *ℤ y
total k x l y p q e f = ap (λ z. z +ℤ q) e ∙ ap (λ z. k *ℤ x +ℤ z) f

pub is_mix : (k x l y z p q sum : ℤ) → FitsSigned w128 z → FitsSigned w128 (k *ℤ x) × (p ≡ k *ℤ x) → FitsSigned w128 (l *ℤ y) × (q ≡ l *ℤ y) → FitsSigned w128 (p +ℤ q) × (sum ≡ p +ℤ q) → (IsTrue (of_z w128 z == of_z w128 sum) → IsMix k x l y z) × (IsMix k x l y z → IsTrue (of_z w128 z == of_z w128 sum))
is_mix k x l y z p q sum fz (fx, e) (fy, f) (fs, g) =
    let whole = total k x l y p q e f in
    let fits : FitsSigned w128 sum = subst (λ n. FitsSigned w128 n) (sym g) fs in (
      λ h. ((fx, fy, subst (λ n. FitsSigned w128 n) whole fs), sym (to_z-of_z w128 z fz) ∙ ap (to_z w128) (same_bits (of_z w128 z) (of_z w128 sum) h) ∙ to_z-of_z w128 sum fits ∙ g ∙ whole),
      λ h. itself (of_z w128 z) (of_z w128 sum) (ap (of_z w128) (h.1 ∙ sym whole ∙ sym g)),
    )

no_mix : (k x l y z p q : ℤ) → p ≡ k *ℤ x → q ≡ l *ℤ y → ¬ (FitsSigned w128 (p +ℤ q)) → IsMix k x l y z → ⊥
no_mix k x l y z p q e f wide h = wide (subst (λ n. FitsSigned w128 n) (sym (total k x l y p q e f)) h.0.2)

pub returns-in-Some : goal.returns-in-Some
returns-in-Some c =
    let k = to_z-of_z w128 c.args.k c.ranges.k in
    let x = to_z-of_z w128 c.args.x c.ranges.x in
    let l = to_z-of_z w128 c.args.l c.ranges.l in
    let y = to_z-of_z w128 c.args.y c.ranges.y in
    let left = rw (k, x) at c.in-Some-Some.ensures in
    let right = rw (l, y) at c.in-Some-Some.ensures' in
    let p : FitsSigned w128 c.in-Some-Some.left = subst (λ z. FitsSigned w128 z) (sym left.1) left.0 in
    let q : FitsSigned w128 c.in-Some-Some.right = subst (λ z. FitsSigned w128 z) (sym right.1) right.0 in
    is_mix c.args.k c.args.x c.args.l c.args.y c.args.z c.in-Some-Some.left c.in-Some-Some.right c.in-Some.sum c.ranges.z left right
    (rw (to_z-of_z w128 c.in-Some-Some.left p, to_z-of_z w128 c.in-Some-Some.right q) at c.in-Some.ensures)

pub returns-in-None : goal.returns-in-None
returns-in-None c =
    let k = to_z-of_z w128 c.args.k c.ranges.k in
    let x = to_z-of_z w128 c.args.x c.ranges.x in
    let l = to_z-of_z w128 c.args.l c.ranges.l in
    let y = to_z-of_z w128 c.args.y c.ranges.y in
    let left = rw (k, x) at c.in-Some-Some.ensures in
    let right = rw (l, y) at c.in-Some-Some.ensures' in
    let p : FitsSigned w128 c.in-Some-Some.left = subst (λ z. FitsSigned w128 z) (sym left.1) left.0 in
    let q : FitsSigned w128 c.in-Some-Some.right = subst (λ z. FitsSigned w128 z) (sym right.1) right.0 in
    let wide = rw (to_z-of_z w128 c.in-Some-Some.left p, to_z-of_z w128 c.in-Some-Some.right q) at c.in-None.ensures in
    (λ h. let e : false ≡ true = h in absurd (cc), λ h. absurd (no_mix c.args.k c.args.x c.args.l c.args.y c.args.z c.in-Some-Some.left c.in-Some-Some.right left.1 right.1 wide h))
