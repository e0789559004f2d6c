-- In the unit 1 a number is kept as it is, and numbers that are near are the same.
use Rattle.std.proofs.Common.{◌≡◌, refl, arith}
use Rattle.std.specs.Prelude.{ℤ, pos, ◌*ℤ◌, ◌+ℤ◌, int_le, int_lt, Bool, true, false, ◌&&◌, Option, Some, None, if◌then◌else◌}
use Rattle.std.proofs.lemmas.Int.{ints}
use Rattle.py_syntax.specs.declared.Value.{Value}
use Rattle.py_syntax.specs.declared.Value.TheVariants.{Truth}
use Rattle.py_syntax.specs.SmallLocal.{are_same, compared}

pub times_one : (n : ℤ) → n *ℤ pos 1 ≡ n
times_one n = omega (arith, ints)

-- what a comparison gives by the answers of its tests
abbrev answer : Bool → Bool → Bool → Bool → Option Value
answer a b c d = if a && b then Some (Truth true) else (if c && d then None else Some (Truth false))

pub compared_is : (x y : ℤ) → compared (pos 1) x y ≡ Some (Truth (are_same x y))
compared_is x y = by (int_le x y) (int_le y x) (int_lt x (y +ℤ pos 1)) (int_lt y (x +ℤ pos 1)) refl refl refl refl
  where
    by : (a b c d : Bool) → int_le x y ≡ a → int_le y x ≡ b → int_lt x (y +ℤ pos 1) ≡ c → int_lt y (x +ℤ pos 1) ≡ d → answer a b c d ≡ Some (Truth (a && b))
    by true true c d e f g h = refl
    by true false true true e f g h = absurd (omega (arith, ints))
    by true false true false e f g h = refl
    by true false false d e f g h = refl
    by false b true true e f g h = absurd (omega (arith, ints))
    by false b true false e f g h = refl
    by false b false d e f g h = refl
