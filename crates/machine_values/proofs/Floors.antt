-- Division rounded down, and numbers that fit.
use Rattle.std.proofs.Common.{◌≡◌, ℕ, true, false, ℤ, pos, negsuc, ◌+ℤ◌, ◌-ℤ◌, FitsSigned, Some, None, Result, ap, sym, subst, ◌∙◌, to_z, of_z, arith}
use Rattle.std.proofs.lemmas.Int.{ints, to_z-of_z}
use Rattle.std.specs.Prelude.{int_div, int_rem, if◌then◌else◌}
use Rattle.std.specs.Int.{w128}
use Rattle.py_base.specs.declared.Place.{Place}
use Rattle.py_syntax.specs.declared.Value.{Value}
use Rattle.py_syntax.specs.declared.Value.TheVariants.{Num}
use Rattle.machine_model.specs.Results.{Got, Stops, then_do, sized}
use Rattle.machine_model.specs.Frames.{operand}
use Rattle.machine_model.specs.declared.halt.Halt.TheVariants.{Wide}
use Rattle.machine_model.specs.Operators.{int_eq, is_rounded_up, floor_div, floor_mod, on_numbers, binary}
use Rattle.machine_values.specs.declared.stop.Stop.{Stop}
use Rattle.machine_values.specs.Agreement.{Agrees}
use Rattle.machine_values.specs.Bits.{has_128_bits}

pub floor_div_up : (x y : ℤ) → is_rounded_up x y ≡ true → floor_div x y ≡ int_div x y -ℤ pos 1
floor_div_up x y up = ap (λ b. if b then int_div x y -ℤ pos 1 else int_div x y) up

pub floor_div_there : (x y : ℤ) → is_rounded_up x y ≡ false → floor_div x y ≡ int_div x y
floor_div_there x y there = ap (λ b. if b then int_div x y -ℤ pos 1 else int_div x y) there

pub floor_mod_up : (x y : ℤ) → is_rounded_up x y ≡ true → floor_mod x y ≡ int_rem x y +ℤ y
floor_mod_up x y up = ap (λ b. if b then int_rem x y +ℤ y else int_rem x y) up

pub floor_mod_there : (x y : ℤ) → is_rounded_up x y ≡ false → floor_mod x y ≡ int_rem x y
floor_mod_there x y there = ap (λ b. if b then int_rem x y +ℤ y else int_rem x y) there

fits : (z : ℤ) → FitsSigned w128 z → has_128_bits z ≡ true
fits (pos n) within = grind (arith, within.sfits)
fits (negsuc n) within = grind (arith, within.sfits)

pub sized_there : (p : Place) (z : ℤ) → FitsSigned w128 z → sized has_128_bits p (Num z) ≡ Got (Num z)
sized_there p z within = ap (λ b. if b then Got (Num z) else Stops (Wide p)) (fits z within)

no_zero : (y : ℤ) → (y ≡ pos 0 → ⊥) → int_eq y (pos 0) ≡ false
no_zero y other = grind (arith, ints)

quotient_of : (key : ℕ) (x y : ℤ) → key ≡ 4 → (y ≡ pos 0 → ⊥) → on_numbers key x y ≡ Some (Num (floor_div x y))
quotient_of key x y is other =
    ap (λ k. on_numbers k x y) is ∙ ap (λ b. if b then None else Some (Num (floor_div x y))) (no_zero y other)

modulus_of : (key : ℕ) (x y : ℤ) → key ≡ 5 → (y ≡ pos 0 → ⊥) → on_numbers key x y ≡ Some (Num (floor_mod x y))
modulus_of key x y is other =
    ap (λ k. on_numbers k x y) is ∙ ap (λ b. if b then None else Some (Num (floor_mod x y))) (no_zero y other)

-- as a call of the code shows a number
abbrev seen : ℤ → ℤ
seen z = to_z w128 (of_z w128 z)

pub quotient_agrees : (p : Place) (key : ℕ) (x y : ℤ) (r : Result Value Stop) → FitsSigned w128 x → FitsSigned w128 y → key ≡ 4 → (y ≡ pos 0 → ⊥)
    → Agrees (sized has_128_bits p (Num (floor_div (seen x) (seen y)))) r (λ v. v) → Agrees (then_do (operand (on_numbers key x y)) (sized has_128_bits p)) r (λ v. v)
quotient_agrees p key x y r fits_x fits_y is other agrees =
    let right = subst (λ z. Agrees (sized has_128_bits p (Num (floor_div (seen x) z))) r (λ v. v)) (to_z-of_z w128 y fits_y) agrees in
    let both = subst (λ z. Agrees (sized has_128_bits p (Num (floor_div z y))) r (λ v. v)) (to_z-of_z w128 x fits_x) right in
    subst (λ o. Agrees (then_do (operand o) (sized has_128_bits p)) r (λ v. v)) (sym (quotient_of key x y is other)) both

pub modulus_agrees : (p : Place) (key : ℕ) (x y : ℤ) (r : Result Value Stop) → FitsSigned w128 x → FitsSigned w128 y → key ≡ 5 → (y ≡ pos 0 → ⊥)
    → Agrees (sized has_128_bits p (Num (floor_mod (seen x) (seen y)))) r (λ v. v) → Agrees (then_do (operand (on_numbers key x y)) (sized has_128_bits p)) r (λ v. v)
modulus_agrees p key x y r fits_x fits_y is other agrees =
    let right = subst (λ z. Agrees (sized has_128_bits p (Num (floor_mod (seen x) z))) r (λ v. v)) (to_z-of_z w128 y fits_y) agrees in
    let both = subst (λ z. Agrees (sized has_128_bits p (Num (floor_mod z y))) r (λ v. v)) (to_z-of_z w128 x fits_x) right in
    subst (λ o. Agrees (then_do (operand o) (sized has_128_bits p)) r (λ v. v)) (sym (modulus_of key x y is other)) both

pub numbers_agree : (p : Place) (key : ℕ) (a b : Value) (x y : ℤ) (r : Result Value Stop) → a ≡ Num x → b ≡ Num y → FitsSigned w128 x → FitsSigned w128 y
    → Agrees (then_do (operand (on_numbers key (seen x) (seen y))) (sized has_128_bits p)) r (λ v. v) → Agrees (then_do (operand (binary key a b)) (sized has_128_bits p)) r (λ v. v)
numbers_agree p key a b x y r is_x is_y fits_x fits_y agrees =
    let right = subst (λ z. Agrees (then_do (operand (on_numbers key (seen x) z)) (sized has_128_bits p)) r (λ v. v)) (to_z-of_z w128 y fits_y) agrees in
    let both = subst (λ z. Agrees (then_do (operand (on_numbers key z y)) (sized has_128_bits p)) r (λ v. v)) (to_z-of_z w128 x fits_x) right in
    let left = subst (λ v. Agrees (then_do (operand (binary key v (Num y))) (sized has_128_bits p)) r (λ v. v)) (sym is_x) both in
    subst (λ v. Agrees (then_do (operand (binary key a v)) (sized has_128_bits p)) r (λ v. v)) (sym is_y) left
