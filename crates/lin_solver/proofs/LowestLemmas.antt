-- A bound in lowest terms.
use Rattle.std.specs.Prelude.{◌≡◌, ◌≢◌, ℕ, zero, suc, ◌*◌, ◌/◌, ◌<◌, Bool, true, false, ℤ, pos, negsuc, neg_ℤ, ◌+ℤ◌, ◌*ℤ◌, ◌≤ℤ◌, ◌<ℤ◌, unsigned_abs, Result, Ok, Err, IfOk, IfErr, refl}
use Rattle.std.specs.Int.{IsGcd, ◌∣◌}
use Rattle.std.proofs.Common.{sym, ap, ◌∙◌, subst, arith}
use Rattle.std.proofs.Math.Nat.{div-mul_cancel}
use Rattle.std.proofs.lemmas.Int.{ints}
use Rattle.std.proofs.lemmas.Bool.Decides.{nat_tests}
use lib.Signed.{lt_z}
use Rattle.lin_rows.specs.declared.point.Point.{Point}
use Rattle.lin_rows.specs.declared.fault.RowFault.{RowFault}
use Rattle.lin_rows.specs.declared.fault.RowFault.TheVariants.{Wide}
use Rattle.lin_rows.specs.Ring.{+ℤ-*ℤ, *ℤ-+ℤ}
use Rattle.lin_rows.specs.LowestLaws.{AreCoprime, gcd_positive, quotients_coprime}
use Rattle.lin_rows.specs.WidePoints.{HasWideNumber}
use Rattle.lin_solver.specs.WayBack.{signed_number, extension, IsAtBound, HasWideBound}

-- products with a negated factor
times-neg : (a b : ℤ) → a *ℤ neg_ℤ b ≡ neg_ℤ (a *ℤ b)
times-neg a b = turned (a *ℤ b) (a *ℤ neg_ℤ b) (sym (*ℤ-+ℤ a b (neg_ℤ b)) ∙ ap (λ z. a *ℤ z) (gone b) ∙ times_none a)
  where
    gone : (z : ℤ) → z +ℤ neg_ℤ z ≡ pos 0
    gone z = omega (arith, ints)

    times_none : (z : ℤ) → z *ℤ pos 0 ≡ pos 0
    times_none z = omega (arith, ints)

    turned : (x y : ℤ) → x +ℤ y ≡ pos 0 → y ≡ neg_ℤ x
    turned x y e = omega (arith, ints)

pub neg-times : (a b : ℤ) → neg_ℤ a *ℤ b ≡ neg_ℤ (a *ℤ b)
neg-times a b = turned (a *ℤ b) (neg_ℤ a *ℤ b) (sym (+ℤ-*ℤ a (neg_ℤ a) b) ∙ ap (λ z. z *ℤ b) (gone a) ∙ none_times b)
  where
    gone : (z : ℤ) → z +ℤ neg_ℤ z ≡ pos 0
    gone z = omega (arith, ints)

    none_times : (z : ℤ) → pos 0 *ℤ z ≡ pos 0
    none_times z = omega (arith, ints)

    turned : (x y : ℤ) → x +ℤ y ≡ pos 0 → y ≡ neg_ℤ x
    turned x y e = omega (arith, ints)

-- the bound of a negative room by a positive or a negative coefficient
bound_above : (a b k t : ℕ) → b * k ≡ a * t → pos b *ℤ neg_ℤ (pos k) ≡ neg_ℤ (pos a) *ℤ pos t
bound_above a b k t e = times-neg (pos b) (pos k) ∙ ap (λ (m : ℕ). neg_ℤ (pos m)) e ∙ sym (neg-times (pos a) (pos t))

bound_below : (a b k t : ℕ) → b * k ≡ a * t → neg_ℤ (pos b) *ℤ pos k ≡ neg_ℤ (pos a) *ℤ pos t
bound_below a b k t e = neg-times (pos b) (pos k) ∙ ap (λ (m : ℕ). neg_ℤ (pos m)) e ∙ sym (neg-times (pos a) (pos t))

bound_signed : (n c : ℤ) (k t : ℕ) → n <ℤ pos 0 → c ≢ pos 0 → unsigned_abs c * k ≡ unsigned_abs n * t → c *ℤ signed_number (lt_z (pos 0) c) k ≡ n *ℤ pos t
bound_signed (pos a) c k t less some e = absurd (omega (arith, ints))
bound_signed (negsuc a) (pos zero) k t less some e = absurd (some refl)
bound_signed (negsuc a) (pos (suc b)) k t less some e =
    let above : lt_z (pos 0) (pos (suc b)) ≡ true = grind (arith, nat_tests) in
    ap (λ s. pos (suc b) *ℤ signed_number s k) above ∙ bound_above (suc a) (suc b) k t e
bound_signed (negsuc a) (negsuc b) k t less some e = bound_below (suc a) (suc b) k t e

size_signed : (b : Bool) (k : ℕ) → unsigned_abs (signed_number b k) ≡ k
size_signed true zero = refl
size_signed true (suc k) = refl
size_signed false k = refl

some_size : (c : ℤ) → c ≢ pos 0 → 0 < unsigned_abs c
some_size (pos zero) some = absurd (some refl)
some_size (pos (suc n)) some = omega arith
some_size (negsuc n) some = omega arith

quotient_positive : (n g : ℕ) → 0 < n → g ∣ n → 0 < n / g
quotient_positive n g some p = from (n / g) g n (div-mul_cancel g p) some
  where
    from : (k g n : ℕ) → k * g ≡ n → 0 < n → 0 < k
    from zero g n e some = absurd (omega arith)
    from (suc k) g n e some = omega arith

-- a divisor of the sizes isn't 0
pub divisor_positive : (n c : ℤ) (top bottom g : ℕ) → n <ℤ pos 0 → top ≡ unsigned_abs n → IsGcd top bottom g → 0 < g
divisor_positive n c top bottom g less e is = gcd_positive top bottom g (some n less e) is
  where
    some : (n : ℤ) → n <ℤ pos 0 → top ≡ unsigned_abs n → 0 < top
    some n less e = omega (arith, ints)

pub at_bound_of : (p : Point) (n c : ℤ) (v top bottom g : ℕ) (p' : Point) → n <ℤ pos 0 → c ≢ pos 0 → top ≡ unsigned_abs n → bottom ≡ unsigned_abs c → IsGcd top bottom g → p' ≡ extension p (pos (bottom / g)) v (signed_number (lt_z (pos 0) c) (top / g)) → IsAtBound p n c v p'
at_bound_of p n c v top bottom g p' less some e f is same =
    let some_top : 0 < top = subst (λ m. 0 < m) (sym e) (some_size n (not_none n less)) in
    let some_bottom : 0 < bottom = subst (λ m. 0 < m) (sym f) (some_size c some) in
    let coprime = quotients_coprime top bottom g some_top is in record {
      s = pos (bottom / g);
      z = signed_number (lt_z (pos 0) c) (top / g);
      positive = at_least (bottom / g) (quotient_positive bottom g some_bottom is.1);
      lowest = subst (λ m. AreCoprime (bottom / g) m) (sym (size_signed (lt_z (pos 0) c) (top / g))) coprime;
      bound = bound_signed n c (top / g) (bottom / g) less some (ap (λ (m : ℕ). m * (top / g)) (sym f) ∙ across top bottom g is ∙ ap (λ (m : ℕ). m * (bottom / g)) e);
      point = same;
    }
  where
    not_none : (n : ℤ) → n <ℤ pos 0 → n ≢ pos 0
    not_none n less e = omega (arith, ints)

    at_least : (m : ℕ) → 0 < m → pos 1 ≤ℤ pos m
    at_least m h = omega (arith, ints)

    across : (m n g : ℕ) → IsGcd m n g → n * (m / g) ≡ m * (n / g)
    across m n g is =
        ap (λ (k : ℕ). k * (m / g)) (sym (div-mul_cancel g is.1)) ∙ around (n / g) g (m / g) ∙ ap (λ (k : ℕ). k * (n / g)) (div-mul_cancel g is.0)
      where
        around : (a g b : ℕ) → a * g * b ≡ b * g * a
        around a g b = grind arith

pub all_at_bound : (r : Result Point RowFault) (p : Point) (n c : ℤ) (v top bottom g : ℕ) → n <ℤ pos 0 → c ≢ pos 0 → top ≡ unsigned_abs n → bottom ≡ unsigned_abs c → IsGcd top bottom g → IfOk r (λ p'. p' ≡ extension p (pos (bottom / g)) v (signed_number (lt_z (pos 0) c) (top / g))) → IfOk r (IsAtBound p n c v)
all_at_bound (Ok p') p n c v top bottom g less some e f is same = at_bound_of p n c v top bottom g p' less some e f is same
all_at_bound (Err e') p n c v top bottom g less some e f is same = tt

pub wide_bound_of : (r : Result Point RowFault) (p : Point) (n c : ℤ) (v top bottom g : ℕ) → n <ℤ pos 0 → c ≢ pos 0 → top ≡ unsigned_abs n → bottom ≡ unsigned_abs c → IsGcd top bottom g → IfErr r (λ e. e ≡ Wide → HasWideNumber (extension p (pos (bottom / g)) v (signed_number (lt_z (pos 0) c) (top / g)))) → IfErr r (λ e. e ≡ Wide → HasWideBound p n c v)
wide_bound_of (Ok p') p n c v top bottom g less some e f is wide = tt
wide_bound_of (Err e') p n c v top bottom g less some e f is wide =
    λ same. (extension p (pos (bottom / g)) v (signed_number (lt_z (pos 0) c) (top / g)), at_bound_of p n c v top bottom g _ less some e f is refl, wide same)
