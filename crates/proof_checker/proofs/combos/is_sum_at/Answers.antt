use Rattle.std.specs.Prelude.{◌≡◌, Bool, ℤ, ◌+ℤ◌, ◌*ℤ◌, IsTrue, Option, Some, FitsSigned}
use Rattle.std.specs.Int.{w128}
use Rattle.std.proofs.Common.{rules, sym, subst}
use Rattle.std.proofs.lemmas.Int.{to_z-of_z}
use Rattle.lin_rows.specs.declared.Row.{Row}
use Rattle.lin_rows.specs.declared.ComboStep.{ComboStep}
use Rattle.lin_rows.specs.Rows.{MixFits}
use Rattle.proof_checker.specs.declared.replies.Figure.{Figure}
use Rattle.proof_checker.specs.Combos.{IsSumAt, row_number}
use Rattle.proof_checker.proofs.combos.is_sum_at.Goals as goal

abbrev IsMix : ℤ → ℤ → ℤ → ℤ → ℤ → Type 0
IsMix k x l y z = MixFits k x l y × (z ≡ k *ℤ x +ℤ l *ℤ y)

one_number : (o : Option ℤ) (x y : ℤ) → o ≡ Some x → o ≡ Some y → x ≡ y
one_number o x y e f = cc

sums : (q : Figure) (a b : Row) (s : ComboStep) (x y z : ℤ) (r : Bool) → x ≡ row_number q a → y ≡ row_number q b → z ≡ row_number q s.row → (IsTrue r → IsMix s.by_left x s.by_right y z) × (IsMix s.by_left x s.by_right y z → IsTrue r) → (IsTrue r → IsSumAt q a b s) × (IsSumAt q a b s → IsTrue r)
sums q a b s x y z r e f g both = (
  λ h. let (fits, is) = same (both.0 h) in record { fits = fits; sum = is },
  λ h. both.1 (back (h.fits, h.sum)),
)
  where
    same : IsMix s.by_left x s.by_right y z → IsMix s.by_left (row_number q a) s.by_right (row_number q b) (row_number q s.row)
    same h = subst (λ n. IsMix s.by_left n s.by_right (row_number q b) (row_number q s.row)) e (subst (λ n. IsMix s.by_left x s.by_right n (row_number q s.row)) f (subst (λ n. IsMix s.by_left x s.by_right y n) g h))

    back : IsMix s.by_left (row_number q a) s.by_right (row_number q b) (row_number q s.row) → IsMix s.by_left x s.by_right y z
    back h = subst (λ n. IsMix s.by_left n s.by_right y z) (sym e) (subst (λ n. IsMix s.by_left (row_number q a) s.by_right n z) (sym f) (subst (λ n. IsMix s.by_left (row_number q a) s.by_right (row_number q b) n) (sym g) h))

pub returns-in-Some-Some : goal.returns-in-Some-Some
returns-in-Some-Some c a b left right =
    let s = c.args.s.now in
    let x = c.in-Some-Some.x in
    let y = c.in-Some-Some.y in
    let z = c.number_in.result in
    let fk : FitsSigned w128 s.by_left = search rules in
    let fl : FitsSigned w128 s.by_right = search rules in
    let fx : FitsSigned w128 x = search rules in
    let fy : FitsSigned w128 y = search rules in
    let fz : FitsSigned w128 z = search rules in
    let e : x ≡ row_number c.args.q a = one_number c.number_of.result x (row_number c.args.q a) (search rules) (c.number_of.ensures a left) in
    let f : y ≡ row_number c.args.q b = one_number c.number_of-2.result y (row_number c.args.q b) (search rules) (c.number_of-2.ensures b right) in
    sums c.args.q a b s x y z c.is_mix.result e f c.number_in.ensures (rw (to_z-of_z w128 s.by_left fk, to_z-of_z w128 x fx, to_z-of_z w128 s.by_right fl, to_z-of_z w128 y fy, to_z-of_z w128 z fz) at c.is_mix.ensures)
