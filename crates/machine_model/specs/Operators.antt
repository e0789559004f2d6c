-- The operators, by their keys, on whole numbers, truth values and references (Language Reference, "Binary arithmetic operations", "Unary arithmetic and bitwise operations", "Comparisons", "Boolean operations").
use Rattle.std.specs.Prelude.{ℕ, ℤ, pos, ◌+ℤ◌, ◌-ℤ◌, ◌*ℤ◌, int_div, int_rem, int_lt, int_le, Bool, true, false, not, ◌&&◌, ◌||◌, nat_eq, Option, Some, None, if◌then◌else◌}
use Rattle.py_syntax.specs.declared.Value.{Value}
use Rattle.py_syntax.specs.declared.Value.TheVariants.{Num, Truth, Nil, Ref}

abbrev pub int_eq : ℤ → ℤ → Bool
int_eq x y = int_le x y && int_le y x

-- both below zero, or none
abbrev pub same_sign : ℤ → ℤ → Bool
same_sign x y = if int_lt x (pos 0) then int_lt y (pos 0) else not (int_lt y (pos 0))

-- whether a division that rounds towards zero has rounded a quotient below zero up
abbrev pub is_rounded_up : ℤ → ℤ → Bool
is_rounded_up x y = not (int_eq (int_rem x y) (pos 0)) && not (same_sign x y)

-- `x // y`, rounded towards minus infinity
abbrev pub floor_div : ℤ → ℤ → ℤ
floor_div x y = if is_rounded_up x y then int_div x y -ℤ pos 1 else int_div x y

-- `x % y`, with the sign of `y`: `x` is `(x // y) * y + x % y`
abbrev pub floor_mod : ℤ → ℤ → ℤ
floor_mod x y = if is_rounded_up x y then int_rem x y +ℤ y else int_rem x y

-- an operator on two numbers; a zero divisor has no value
abbrev pub on_numbers : ℕ → ℤ → ℤ → Option Value
on_numbers key x y =
    if nat_eq key 1 then Some (Num (x +ℤ y)) else
    (if nat_eq key 2 then Some (Num (x -ℤ y)) else
    (if nat_eq key 3 then Some (Num (x *ℤ y)) else
    (if nat_eq key 4 then (if int_eq y (pos 0) then None else Some (Num (floor_div x y))) else
    (if nat_eq key 5 then (if int_eq y (pos 0) then None else Some (Num (floor_mod x y))) else
    (if nat_eq key 7 then Some (Truth (int_lt x y)) else
    (if nat_eq key 8 then Some (Truth (int_le x y)) else
    (if nat_eq key 9 then Some (Truth (int_lt y x)) else
    (if nat_eq key 10 then Some (Truth (int_le y x)) else
    (if nat_eq key 11 then Some (Truth (int_eq x y)) else
    (if nat_eq key 12 then Some (Truth (not (int_eq x y))) else None))))))))))

-- `==` and `!=` on truth values
abbrev pub on_truths : ℕ → Bool → Bool → Option Value
on_truths key a b =
    if nat_eq key 13 then Some (Truth (if a then b else not b)) else
    (if nat_eq key 14 then Some (Truth (if a then not b else b)) else None)

-- `is` and `is not`, by whether the two are one
abbrev pub on_references : ℕ → Bool → Option Value
on_references key same =
    if nat_eq key 15 then Some (Truth same) else
    (if nat_eq key 16 then Some (Truth (not same)) else None)

-- an operator between two values, where they are of its kinds
abbrev pub binary : ℕ → Value → Value → Option Value
binary key (Num x) (Num y) = on_numbers key x y
binary key (Truth a) (Truth b) = on_truths key a b
binary key (Ref r) (Ref s) = on_references key (nat_eq r s)
binary key (Ref r) Nil = on_references key false
binary key Nil (Ref s) = on_references key false
binary key Nil Nil = on_references key true
binary key v w = None

-- `not` and prefix `-`
abbrev pub unary : ℕ → Value → Option Value
unary key (Num x) = if nat_eq key 6 then Some (Num (pos 0 -ℤ x)) else None
unary key (Truth b) = if nat_eq key 17 then Some (Truth (not b)) else None
unary key Nil = None
unary key (Ref r) = None

-- a division by zero
abbrev pub divides_by_zero : ℕ → Value → Bool
divides_by_zero key (Num y) = (nat_eq key 4 || nat_eq key 5) && int_eq y (pos 0)
divides_by_zero key v = false
