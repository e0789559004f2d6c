-- A unit and values that are made larger by a number, with a value that has no common divisor with it, have
-- none either.
use Rattle.std.specs.Prelude.{◌≡◌, ℕ, zero, suc, ◌*◌, ◌/◌, ◌%◌, ◌≤◌, ◌<◌, ℤ, unsigned_abs, List, All}
use Rattle.std.specs.Int.{IsGcd, ◌∣◌}
use Rattle.std.proofs.Common.{sym, ap, ◌∙◌, subst, arith}
use Rattle.std.proofs.Math.Nat.{div-mul_cancel, dvd-mul_left, dvd-mul_right, dvd_of_mul-dvd-mul_right}
use Rattle.std.proofs.lemmas.Nat.Gcd.{IsGcd-from_zero, IsGcd-from_mod, dvd-zero}
use Rattle.std.proofs.lemmas.List.Elements.{All-weaker}
use Rattle.lin_rows.specs.Points.{HasNoDivisor}
use Rattle.lin_rows.specs.LowestLaws.{AreCoprime, gcd_positive, quotients_coprime}
use Rattle.lin_rows.specs.TermLaws.{at_or_not}

-- two naturals have a greatest common divisor
gcd_by : (fuel a b : ℕ) → b ≤ fuel → (g : ℕ) × IsGcd a b g
gcd_by zero a b le = (a, IsGcd-from_zero a b (omega arith))
gcd_by (suc fuel) a b le = at_or_not b 0
    (λ e. (a, IsGcd-from_zero a b e))
    (λ n. let (g, is) = gcd_by fuel b (a % b) (omega arith) in (g, IsGcd-from_mod a b g is))

pub has_gcd : (a b : ℕ) → (g : ℕ) × IsGcd a b g
has_gcd a b = gcd_by b a b (omega arith)

times_positive : (a b : ℕ) → 0 < a → 0 < b → 0 < a * b
times_positive a b p q = grind arith

-- a number that divides a product and has no common divisor with a factor divides the other (Euclid)
pub divides_other : (d s m : ℕ) → 0 < d → AreCoprime d s → d ∣ s * m → d ∣ m
divides_other d s m some coprime p = at_or_not m 0
    (λ e. subst (λ z. d ∣ z) (sym e) (dvd-zero d))
    (λ n.
    let positive : 0 < m = omega arith in
    let (g, is) = has_gcd (d * m) (s * m) in
    let above : m ∣ g = is.2 m (dvd-mul_left m d) (dvd-mul_left m s) in
    let whole : g / m * m ≡ g = div-mul_cancel m above in
    let left : g / m ∣ d = dvd_of_mul-dvd-mul_right (g / m) positive (subst (λ z. z ∣ d * m) (sym whole) is.0) in
    let right : g / m ∣ s = dvd_of_mul-dvd-mul_right (g / m) positive (subst (λ z. z ∣ s * m) (sym whole) is.1) in
    let some_g : 0 < g = gcd_positive (d * m) (s * m) g (times_positive d m some positive) is in
    let same : g ≡ m = once (g / m) m g (coprime (g / m) left right) whole some_g in
    subst (λ z. d ∣ z) same (is.2 d (dvd-mul_right d m) p))
  where
    once : (k m g : ℕ) → k ≤ 1 → k * m ≡ g → 0 < g → g ≡ m
    once zero m g le e some = absurd (omega arith)
    once (suc zero) m g le e some = omega arith
    once (suc (suc k)) m g le e some = absurd (omega arith)

-- what divides the unit and all values made larger by a number divides that number
pub divides_scale : (d s q : ℕ) (values : List (ℕ × ℤ)) → 0 < s → HasNoDivisor q values → d ∣ q * s → All (λ t. d ∣ unsigned_abs t.1 * s) values → 0 < d → d ∣ s
divides_scale d s q values some none unit each positive =
    let (g, is) = has_gcd d s in
    let some_g : 0 < g = gcd_positive d s g positive is in
    let coprime : AreCoprime (d / g) (s / g) = λ e a b. quotients_coprime d s g positive is e b a in
    let part : d / g * g ≡ d = div-mul_cancel g is.0 in
    let some_d : 0 < d / g = factor_positive (d / g) g (subst (λ z. 0 < z) (sym part) positive) in
    let reduced = λ (m : ℕ) (h : d ∣ m * s). divides_other (d / g) (s / g) m some_d coprime (without d s g m some_g is h) in
    let at_most = none (d / g) (reduced q unit) (All-weaker (λ t. d ∣ unsigned_abs t.1 * s) (λ t. d / g ∣ unsigned_abs t.1) (λ t h. reduced (unsigned_abs t.1) h) values each) in
    let same : g ≡ d = once (d / g) g d at_most some_d part in
    subst (λ z. z ∣ s) same is.1
  where
    factor_positive : (k g : ℕ) → 0 < k * g → 0 < k
    factor_positive zero g h = absurd (omega arith)
    factor_positive (suc k) g h = omega arith

    once : (k g d : ℕ) → k ≤ 1 → 0 < k → k * g ≡ d → g ≡ d
    once zero g d le some e = absurd (omega arith)
    once (suc zero) g d le some e = omega arith
    once (suc (suc k)) g d le some e = absurd (omega arith)

    without : (d s g m : ℕ) → 0 < g → IsGcd d s g → d ∣ m * s → d / g ∣ s / g * m
    without d s g m some is h =
        dvd_of_mul-dvd-mul_right (d / g) some (subst (λ z. z ∣ s / g * m * g) (sym (div-mul_cancel g is.0)) (subst (λ z. d ∣ z) (moved (s / g) m g s (div-mul_cancel g is.1)) h))
      where
        moved : (k m g s : ℕ) → k * g ≡ s → m * s ≡ k * m * g
        moved k m g s e = ap (λ (z : ℕ). m * z) (sym e) ∙ around k m g
          where
            around : (k m g : ℕ) → m * (k * g) ≡ k * m * g
            around k m g = grind arith
