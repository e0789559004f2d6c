-- The lowest multipliers that cancel two numbers are their quotients by the greatest common divisor.
use Rattle.std.specs.Prelude.{◌≡◌, ℕ, zero, suc, ◌*◌, ◌/◌, ◌<◌, ◌≤◌, ℤ, pos, negsuc, ◌<ℤ◌, ◌≤ℤ◌, unsigned_abs, [], ◌∷◌, All}
use Rattle.std.specs.Int.{IsGcd, ◌∣◌}
use Rattle.std.proofs.Common.{sym, ap, ◌∙◌, subst, arith}
use Rattle.std.proofs.Math.Nat.{div-mul_cancel, dvd-mul_left, zero-mul, eq-zero_of_zero-dvd}
use Rattle.std.proofs.lemmas.Nat.Gcd.{le_of_dvd}
use Rattle.std.proofs.lemmas.Int.{ints}
use Rattle.std.proofs.lemmas.List.Elements.{All-nil, All-cons, All-head}
use Rattle.lin_rows.specs.declared.row.Row.{Row}
use Rattle.lin_rows.specs.Terms.{IsNormal, coef_at}
use Rattle.lin_rows.specs.Rows.{IsSum, NumbersFit}
use Rattle.lin_rows.specs.Lowest.{Cancels, IsLowest, IsElimination, FitsElimination, IsWideElimination}
use Rattle.lin_rows.specs.Points.{IsWholeIn}
use Rattle.lin_rows.specs.Ring.{*-cancel}
use Rattle.lin_rows.specs.TermLaws.{at_or_not}
use Rattle.lin_rows.specs.UnitLaws.{least_unit}
use Rattle.lin_rows.specs.RowLaws.{same_sum}

-- two naturals have no common divisor above 1
abbrev pub AreCoprime : ℕ → ℕ → Type 0
AreCoprime k l = (d : ℕ) → d ∣ k → d ∣ l → d ≤ 1

-- of the pairs that make two products equal none is lower than a coprime one
no_lower : (k l m n x y : ℕ) → 0 < m → 0 < y → AreCoprime k l → k * x ≡ l * y → m * x ≡ n * y → k ≤ m
no_lower k l m n x y some positive coprime e f =
    let same : n * k ≡ l * m = *-cancel (n * k) (l * m) y positive (moved n k y ∙ ap (λ (z : ℕ). k * z) (sym f) ∙ swapped k m x ∙ ap (λ (z : ℕ). m * z) e ∙ swapped m l y ∙ sym (assoc l m y)) in
    let whole : IsWholeIn (pos k) (pos m) (pos l) = (pos n, ap pos same) in
    let one : All (λ t. IsWholeIn (pos k) (pos m) t.1) ((0, pos l) ∷ []) = All-cons (λ t. IsWholeIn (pos k) (pos m) t.1) (0, pos l) [] whole (All-nil (λ t. IsWholeIn (pos k) (pos m) t.1)) in
    least_unit k m ((0, pos l) ∷ []) some (λ d p q. coprime d p (All-head (λ t. d ∣ unsigned_abs t.1) (0, pos l) [] q)) one
  where
    moved : (n k y : ℕ) → n * k * y ≡ k * (n * y)
    moved n k y = grind arith

    swapped : (a b c : ℕ) → a * (b * c) ≡ b * (a * c)
    swapped a b c = grind arith

    assoc : (a b c : ℕ) → a * b * c ≡ a * (b * c)
    assoc a b c = grind arith

-- the quotients of two naturals by their greatest common divisor
pub gcd_positive : (m n g : ℕ) → 0 < m → IsGcd m n g → 0 < g
gcd_positive m n g some is = at_or_not g 0
    (λ none. let nothing : m ≡ 0 = eq-zero_of_zero-dvd (subst (λ z. z ∣ m) none is.0) in absurd (omega arith))
    (λ other. omega arith)

pub quotients_coprime : (m n g : ℕ) → 0 < m → IsGcd m n g → AreCoprime (n / g) (m / g)
quotients_coprime m n g some is d p q =
    let positive = gcd_positive m n g some is in
    let left : d * g ∣ n = subst (λ z. d * g ∣ z) (div-mul_cancel g is.1) (times d (n / g) g p) in
    let right : d * g ∣ m = subst (λ z. d * g ∣ z) (div-mul_cancel g is.0) (times d (m / g) g q) in
    at_most_one d g positive (le_of_dvd positive (is.2 (d * g) right left))
  where
    times : (d k g : ℕ) → d ∣ k → d * g ∣ k * g
    times d k g p =
        let same : k / d * (d * g) ≡ k * g = moved (k / d) d g ∙ ap (λ (z : ℕ). z * g) (div-mul_cancel d p) in
        subst (λ z. d * g ∣ z) same (dvd-mul_left (d * g) (k / d))
      where
        moved : (e d g : ℕ) → e * (d * g) ≡ e * d * g
        moved e d g = grind arith

    at_most_one : (d g : ℕ) → 0 < g → d * g ≤ g → d ≤ 1
    at_most_one zero g p h = omega arith
    at_most_one (suc zero) g p h = omega arith
    at_most_one (suc (suc d)) g p h = absurd (omega arith)

quotients_cancel : (m n g : ℕ) → IsGcd m n g → n / g * m ≡ m / g * n
quotients_cancel m n g is =
    ap (λ (z : ℕ). n / g * z) (sym (div-mul_cancel g is.0)) ∙ swapped (n / g) (m / g) g ∙ ap (λ (z : ℕ). m / g * z) (div-mul_cancel g is.1)
  where
    swapped : (k l g : ℕ) → k * (l * g) ≡ l * (k * g)
    swapped k l g = grind arith

quotient_positive : (n g : ℕ) → 0 < n → g ∣ n → 0 < n / g
quotient_positive n g some p = at_or_not (n / g) 0
    (λ none. let nothing : n ≡ 0 = sym (div-mul_cancel g p) ∙ ap (λ (z : ℕ). z * g) none ∙ zero-mul g in absurd (omega arith))
    (λ other. omega arith)

cancels_of : (k l m b : ℕ) → 0 < k → 0 < l → k * m ≡ l * suc b → Cancels (pos m) (negsuc b) (pos k) (pos l)
cancels_of k l m b p q e = record {
  left = omega (arith, ints);
  right = omega (arith, ints);
  none = omega (arith, ints);
}

least_of : (k l m b : ℕ) → 0 < m → AreCoprime k l → AreCoprime l k → k * m ≡ l * suc b → (i j : ℤ) → Cancels (pos m) (negsuc b) i j → (pos k ≤ℤ i) × (pos l ≤ℤ j)
least_of k l m b some p q e (pos i) (pos j) h =
    let same : i * m ≡ j * suc b = let f = h.none in omega (arith, ints) in
    let left : 0 < i = let f = h.left in omega (arith, ints) in
    let right : 0 < j = let f = h.right in omega (arith, ints) in
    let one : k ≤ i = no_lower k l i j m (suc b) left (omega arith) p e same in
    let two : l ≤ j = no_lower l k j i (suc b) m right some q (sym e) (sym same) in
    (omega (arith, ints), omega (arith, ints))
least_of k l m b some p q e (negsuc i) j h = let f = h.left in absurd (omega (arith, ints))
least_of k l m b some p q e (pos i) (negsuc j) h = let f = h.right in absurd (omega (arith, ints))

-- the quotients of the sizes by their greatest common divisor are the lowest multipliers
pub lowest_of_gcd : (x y : ℤ) (g : ℕ) → pos 0 <ℤ x → y <ℤ pos 0 → IsGcd (unsigned_abs x) (unsigned_abs y) g → IsLowest x y (pos (unsigned_abs y / g)) (pos (unsigned_abs x / g))
lowest_of_gcd (pos m) (negsuc b) g above below is =
    let some : 0 < m = omega (arith, ints) in
    let coprime = quotients_coprime m (suc b) g some is in
    let same = quotients_cancel m (suc b) g is in record {
      cancels = cancels_of (suc b / g) (m / g) m b (quotient_positive (suc b) g (omega arith) is.1) (quotient_positive m g some is.0) same;
      least = least_of (suc b / g) (m / g) m b some coprime (λ d p q. coprime d q p) same;
    }
lowest_of_gcd (negsuc m) y g above below is = absurd (omega (arith, ints))
lowest_of_gcd (pos m) (pos n) g above below is = absurd (omega (arith, ints))

-- there is one pair of lowest multipliers
pub same_lowest : (x y k l m n : ℤ) → IsLowest x y k l → IsLowest x y m n → (k ≡ m) × (l ≡ n)
same_lowest x y k l m n p q =
    let one = p.least m n q.cancels in
    let two = q.least k l p.cancels in
    (antisymm k m one.0 two.0, antisymm l n one.1 two.1)
  where
    antisymm : (a b : ℤ) → a ≤ℤ b → b ≤ℤ a → a ≡ b
    antisymm a b p q = omega (arith, ints)

-- elimination has one row
pub same_elimination : (v : ℕ) (a b r s : Row) → IsNormal r.coefs → IsNormal s.coefs → IsElimination v a b r → IsElimination v a b s → r ≡ s
same_elimination v a b r s p q f g =
    let (k, l, low, sum) = f in
    let (m, n, low', sum') = g in
    let same = same_lowest (coef_at a.coefs v) (coef_at b.coefs v) m n k l low' low in
    same_sum k l a b r s p q sum (subst (λ z. IsSum k z a b s) same.1 (subst (λ z. IsSum z n a b s) same.0 sum'))

-- its numbers are within 128 bits or they are not
pub fits_or_wide : (v : ℕ) (a b : Row) → FitsElimination v a b → IsWideElimination v a b → ⊥
fits_or_wide v a b f g =
    let (k, l, low, fits) = f in
    let (m, n, low', wide) = g in
    let same = same_lowest (coef_at a.coefs v) (coef_at b.coefs v) k l m n low low' in
    wide (subst (λ z. NumbersFit m z a b) same.1 (subst (λ z. NumbersFit z l a b) same.0 fits))
