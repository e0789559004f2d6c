-- Numbers in parts of a unit: two that differ do so by a unit at least.
use Rattle.std.proofs.Common.{◌≡◌, refl, sym, ap, ◌∙◌, arith}
use Rattle.std.specs.Prelude.{ℤ, pos, ◌+ℤ◌, ◌-ℤ◌, ◌*ℤ◌, ◌≤ℤ◌, ◌<ℤ◌, int_le, int_lt, Bool, true, false, ◌&&◌, Option, Some, None, if◌then◌else◌}
use Rattle.std.specs.Ordering.{int_eq}
use Rattle.std.proofs.lemmas.Int.{ints}
use Rattle.std.proofs.lemmas.Bool.Decides.{Decides-int_eq}
use Rattle.std.proofs.Math.IntN.{*ℤ_comm}
use Rattle.lin_rows.specs.Ring.{*ℤ-≤ℤ, -ℤ-*ℤ}
use Rattle.py_syntax.specs.declared.Value.{Value}
use Rattle.py_syntax.specs.declared.Value.TheVariants.{Truth}
use Rattle.py_syntax.specs.SmallLocal.{compared}

-- what a comparison gives by the answers of its tests
abbrev answer : Bool → Bool → Bool → Bool → Option Value
answer a b c d = if a && b then Some (Truth true) else (if c && d then None else Some (Truth false))

-- numbers a unit apart are not the same
below : (q x y : ℤ) → pos 1 ≤ℤ q → (x +ℤ q) ≤ℤ y → compared q x y ≡ Some (Truth false)
below q x y unit h = by (int_le x y) (int_le y x) (int_lt x (y +ℤ q)) (int_lt y (x +ℤ q)) refl refl refl refl
  where
    by : (a b c d : Bool) → int_le x y ≡ a → int_le y x ≡ b → int_lt x (y +ℤ q) ≡ c → int_lt y (x +ℤ q) ≡ d → answer a b c d ≡ Some (Truth false)
    by true true c d e f g i = absurd (omega (arith, ints))
    by true false true true e f g i = absurd (omega (arith, ints))
    by true false true false e f g i = refl
    by true false false d e f g i = refl
    by false b true true e f g i = absurd (omega (arith, ints))
    by false b true false e f g i = refl
    by false b false d e f g i = refl

above : (q x y : ℤ) → pos 1 ≤ℤ q → (y +ℤ q) ≤ℤ x → compared q x y ≡ Some (Truth false)
above q x y unit h = by (int_le x y) (int_le y x) (int_lt x (y +ℤ q)) (int_lt y (x +ℤ q)) refl refl refl refl
  where
    by : (a b c d : Bool) → int_le x y ≡ a → int_le y x ≡ b → int_lt x (y +ℤ q) ≡ c → int_lt y (x +ℤ q) ≡ d → answer a b c d ≡ Some (Truth false)
    by true b c d e f g i = absurd (omega (arith, ints))
    by false b true d e f g i = absurd (omega (arith, ints))
    by false b false d e f g i = refl

level : (q x : ℤ) → compared q x x ≡ Some (Truth true)
level q x = by (int_le x x) refl
  where
    by : (a : Bool) → int_le x x ≡ a → answer a a (int_lt x (x +ℤ q)) (int_lt x (x +ℤ q)) ≡ Some (Truth true)
    by true e = refl
    by false e = absurd (omega (arith, ints))

-- a number above another is a unit above it in parts
a_unit_more : (q x y : ℤ) → pos 1 ≤ℤ q → x <ℤ y → (x *ℤ q +ℤ q) ≤ℤ (y *ℤ q)
a_unit_more q x y unit h =
    let gap : pos 1 ≤ℤ (y -ℤ x) = omega (arith, ints) in
    let positive : pos 0 ≤ℤ q = omega (arith, ints) in
    let more : (q *ℤ pos 1) ≤ℤ (q *ℤ (y -ℤ x)) = *ℤ-≤ℤ q (pos 1) (y -ℤ x) positive gap in
    omega (arith, ints, *ℤ_comm q (y -ℤ x), -ℤ-*ℤ y x q)

-- numbers in parts compare as they are
pub compared_is : (q x y : ℤ) → pos 1 ≤ℤ q → compared q (x *ℤ q) (y *ℤ q) ≡ Some (Truth (int_eq x y))
compared_is q x y unit = by (int_lt x y) (int_lt y x) refl refl
  where
    differ : (b : Bool) → int_eq x y ≡ b → (x ≡ y → ⊥) → Some (Truth false) ≡ Some (Truth (int_eq x y))
    differ true e apart = absurd (apart ((Decides-int_eq x y).0 e))
    differ false e apart = ap (λ b. Some (Truth b)) (sym e)

    same : x ≡ y → compared q (x *ℤ q) (y *ℤ q) ≡ Some (Truth (int_eq x y))
    same e = ap (λ z. compared q (x *ℤ q) (z *ℤ q)) (sym e) ∙ level q (x *ℤ q) ∙ ap (λ b. Some (Truth b)) (sym ((Decides-int_eq x y).1 e))

    by : (a b : Bool) → int_lt x y ≡ a → int_lt y x ≡ b → compared q (x *ℤ q) (y *ℤ q) ≡ Some (Truth (int_eq x y))
    by true b e f = below q (x *ℤ q) (y *ℤ q) unit (a_unit_more q x y unit (omega (arith, ints))) ∙ differ (int_eq x y) refl (λ s. omega (arith, ints))
    by false true e f = above q (x *ℤ q) (y *ℤ q) unit (a_unit_more q y x unit (omega (arith, ints))) ∙ differ (int_eq x y) refl (λ s. omega (arith, ints))
    by false false e f = same (omega (arith, ints))
