-- A unit without a common divisor with the values is the least that makes them whole.
use Rattle.std.specs.Prelude.{◌≡◌, ℕ, zero, suc, ◌+◌, ◌*◌, ◌/◌, ◌%◌, ◌<◌, ◌≤◌, ℤ, pos, negsuc, ◌+ℤ◌, ◌-ℤ◌, ◌*ℤ◌, ◌≤ℤ◌, unsigned_abs, List, All}
use Rattle.std.specs.Int.{◌∣◌}
use Rattle.std.proofs.Common.{sym, ap, ◌∙◌, subst, arith}
use Rattle.std.proofs.Math.Nat.{div-add-mod, dvd-mul_left, dvd-mul_right}
use Rattle.std.proofs.Math.IntN.{*ℤ_comm}
use Rattle.std.proofs.lemmas.Int.{ints, unsigned_abs-mul}
use Rattle.std.proofs.lemmas.List.Elements.{All-weaker}
use Rattle.lin_rows.specs.declared.point.Point.{Point}
use Rattle.lin_rows.specs.Points.{IsWholeIn, HasLeastUnit, HasNoDivisor}
use Rattle.lin_rows.specs.Ring.{*ℤ-+ℤ, -ℤ-*ℤ, *ℤ_assoc, *-cancel}
use Rattle.lin_rows.specs.TermLaws.{at_or_not}

-- a value that is whole in two units is whole in their remainder
whole_in_rest : (q unit k r : ℕ) (z : ℤ) → q ≡ k * unit + r → IsWholeIn (pos q) (pos unit) z → IsWholeIn (pos q) (pos r) z
whole_in_rest q unit k r z is (y, e) =
    let units : pos q ≡ pos k *ℤ pos unit +ℤ pos r = omega (arith, ints, is) in
    let whole : z *ℤ pos q ≡ z *ℤ (pos k *ℤ pos unit) +ℤ z *ℤ pos r = ap (λ s. z *ℤ s) units ∙ *ℤ-+ℤ z (pos k *ℤ pos unit) (pos r) in
    let same : z *ℤ (pos k *ℤ pos unit) ≡ (pos k *ℤ y) *ℤ pos q = swap z (pos k) (pos unit) ∙ ap (λ s. pos k *ℤ s) (sym e) ∙ sym (*ℤ_assoc (pos k) y (pos q)) in
    (z -ℤ pos k *ℤ y, -ℤ-*ℤ z (pos k *ℤ y) (pos q) ∙ less (z *ℤ pos q) ((pos k *ℤ y) *ℤ pos q) (z *ℤ pos r) (whole ∙ ap (λ s. s +ℤ z *ℤ pos r) same))
  where
    swap : (a b c : ℤ) → a *ℤ (b *ℤ c) ≡ b *ℤ (a *ℤ c)
    swap a b c = sym (*ℤ_assoc a b c) ∙ ap (λ s. s *ℤ c) (*ℤ_comm a b) ∙ *ℤ_assoc b a c

    less : (a b c : ℤ) → a ≡ b +ℤ c → a -ℤ b ≡ c
    less a b c e = omega (arith, ints)

-- where one unit is `k` times another, `k` divides each value that is whole in both
divides_value : (q unit k : ℕ) (z : ℤ) → 0 < unit → q ≡ k * unit → IsWholeIn (pos q) (pos unit) z → k ∣ unsigned_abs z
divides_value q unit k z some is (y, e) =
    let sizes : unsigned_abs y * q ≡ unsigned_abs z * unit = sym (unsigned_abs-mul y (pos q)) ∙ ap unsigned_abs e ∙ unsigned_abs-mul z (pos unit) in
    let spread : unsigned_abs y * q ≡ unsigned_abs y * k * unit = ap (λ (m : ℕ). unsigned_abs y * m) is ∙ regroup (unsigned_abs y) k unit in
    let same : unsigned_abs y * k ≡ unsigned_abs z = *-cancel (unsigned_abs y * k) (unsigned_abs z) unit some (sym spread ∙ sizes) in
    subst (λ m. k ∣ m) same (dvd-mul_left k (unsigned_abs y))
  where
    regroup : (a b c : ℕ) → a * (b * c) ≡ a * b * c
    regroup a b c = grind arith

-- no unit is less
no_less_unit : (fuel q unit : ℕ) (values : List (ℕ × ℤ)) → unit ≤ fuel → 0 < unit → HasNoDivisor q values → All (λ t. IsWholeIn (pos q) (pos unit) t.1) values → q ≤ unit
no_less_unit zero q unit values le some none whole = absurd (omega arith)
no_less_unit (suc fuel) q unit values le some none whole = at_or_not (q % unit) 0
    (λ exact.
    let is : q ≡ q / unit * unit = divided q unit ∙ ap (λ (m : ℕ). q / unit * unit + m) exact ∙ plus_none (q / unit * unit) in
    let each = All-weaker (λ t. IsWholeIn (pos q) (pos unit) t.1) (λ t. q / unit ∣ unsigned_abs t.1) (λ t h. divides_value q unit (q / unit) t.1 some is h) values whole in
    let at_most : q / unit ≤ 1 = none (q / unit) (subst (λ m. q / unit ∣ m) (sym is) (dvd-mul_right (q / unit) unit)) each in
    let below : q / unit * unit ≤ unit = once (q / unit) unit at_most in
    omega (arith, is))
    (λ more.
    let rest = All-weaker (λ t. IsWholeIn (pos q) (pos unit) t.1) (λ t. IsWholeIn (pos q) (pos (q % unit)) t.1) (λ t h. whole_in_rest q unit (q / unit) (q % unit) t.1 (divided q unit) h) values whole in
    let lt : q % unit < unit = omega arith in
    let below : q ≤ q % unit = no_less_unit fuel q (q % unit) values (omega arith) (omega arith) none rest in
    omega arith)
  where
    divided : (k m : ℕ) → k ≡ k / m * m + k % m
    divided k m = let whole = div-add-mod k m in grind arith

    plus_none : (m : ℕ) → m + 0 ≡ m
    plus_none m = omega arith

    once : (q m : ℕ) → q ≤ 1 → q * m ≤ m
    once q m h = grind arith

pub least_unit : (q unit : ℕ) (values : List (ℕ × ℤ)) → 0 < unit → HasNoDivisor q values → All (λ t. IsWholeIn (pos q) (pos unit) t.1) values → q ≤ unit
least_unit q unit values some none whole = no_less_unit unit q unit values (omega arith) some none whole

pub has_least_unit : (p : Point) → pos 1 ≤ℤ p.q → HasNoDivisor (unsigned_abs p.q) p.values → HasLeastUnit p
has_least_unit p positive none = record {
  positive = positive;
  least = λ unit some whole. least_at p.q unit p.values positive none some whole;
}
  where
    least_at : (q unit : ℤ) (values : List (ℕ × ℤ)) → pos 1 ≤ℤ q → HasNoDivisor (unsigned_abs q) values → pos 1 ≤ℤ unit → All (λ t. IsWholeIn q unit t.1) values → q ≤ℤ unit
    least_at (pos q) (pos unit) values a none b whole =
        let le = least_unit q unit values (omega (arith, ints)) none whole in
        omega (arith, ints)
    least_at (pos q) (negsuc unit) values a none b whole = absurd (omega (arith, ints))
    least_at (negsuc q) unit values a none b whole = absurd (omega (arith, ints))
