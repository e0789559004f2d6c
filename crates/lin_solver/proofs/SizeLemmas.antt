-- How large the numbers of a point of the way back are, before the unit is made the least.
use Rattle.std.specs.Prelude.{◌≡◌, ◌≢◌, ℕ, zero, suc, ◌+◌, ◌*◌, ◌≤◌, ◌<◌, eqb, cond, true, false, ℤ, pos, negsuc, neg_ℤ, ◌+ℤ◌, ◌-ℤ◌, ◌*ℤ◌, unsigned_abs, List, [], ◌∷◌, ◌⊎◌, map, refl}
use Rattle.std.proofs.Common.{sym, ap, ◌∙◌, subst, arith, inl, inr}
use Rattle.std.proofs.Math.IntN.{*ℤ_comm}
use Rattle.std.proofs.lemmas.Int.{ints, unsigned_abs-mul}
use Rattle.std.proofs.lemmas.Bool.Decides.{nat_tests}
use Rattle.lin_rows.specs.declared.row.Row.{Row}
use Rattle.lin_rows.specs.Terms.{coef_at, value_at}
use Rattle.lin_rows.specs.Ring.{*ℤ_assoc, -ℤ-*ℤ}
use Rattle.lin_rows.specs.TermLaws.{at_or_not, value-same}
use Rattle.lin_solver.specs.WayBack.{HasNoneBelow}
use Rattle.lin_solver.specs.Narrow.{IsWithin}
use Rattle.lin_solver.proofs.LowestLemmas.{neg-times}
use Rattle.lin_solver.proofs.GrowthLemmas.{abs_sum, product_within}
use Rattle.lin_solver.proofs.RoomLemmas.{after, by_order, coef_after, none_after, value_split, value_scaled}

-- variables in ascending order after one
abbrev pub Ascend : ℕ → List ℕ → Type 0
Ascend w [] = Unit {0}
Ascend w (u ∷ us) = (w < u) × Ascend u us

abbrev pub Member : List ℕ → ℕ → Type 0
Member [] z = ⊥
Member (u ∷ us) z = (z ≡ u) ⊎ Member us z

pub member_above : (w : ℕ) (us : List ℕ) (z : ℕ) → Ascend w us → Member us z → w < z
member_above w [] z up h = absurd h
member_above w (u ∷ us) z up (inl e) = let lt : w < u = up.0 in omega arith
member_above w (u ∷ us) z up (inr h) = let lt : w < u = up.0 in let below = member_above u us z up.1 h in omega arith

-- the sum of the sizes of numbers of variables
abbrev pub total : (ℕ → ℤ) → List ℕ → ℕ
total n [] = 0
total n (u ∷ us) = unsigned_abs (n u) + total n us

abbrev terms_on : (ℕ → ℤ) → List ℕ → List (ℕ × ℤ)
terms_on f us = map (λ u. (u, f u)) us

-- the terms after `w` are those with these variables
abbrev pub Covers : Row → ℕ → List ℕ → Type 0
Covers r w us = (z : ℕ) → w < z → (coef_at r.coefs z ≡ pos 0) ⊎ Member us z

value_on : (n : ℕ → ℤ) (r : Row) (w : ℕ) (us : List ℕ) → Ascend w us → Covers r w us → value_at n (after w r.coefs) ≡ value_at n (terms_on (coef_at r.coefs) us)
value_on n r w [] up covers = value-same n (after w r.coefs) [] (λ z. by_order w z
    (λ lt. coef_after w z r.coefs lt ∙ none z lt (covers z lt))
    (λ le. none_after w z r.coefs le))
  where
    none : (z : ℕ) → w < z → (coef_at r.coefs z ≡ pos 0) ⊎ ⊥ → coef_at r.coefs z ≡ pos 0
    none z lt (inl e) = e
    none z lt (inr h) = absurd h
value_on n r w (u ∷ us) up covers =
    value_split n u (after w r.coefs) (λ z lt. by_order w z
    (λ more. coef_after w z r.coefs more ∙ between z lt (covers z more))
    (λ le. none_after w z r.coefs le))
    ∙ ap (λ c. c *ℤ n u +ℤ value_at n (after u (after w r.coefs))) (coef_after w u r.coefs up.0)
    ∙ ap (λ a. coef_at r.coefs u *ℤ n u +ℤ a) (value-same n (after u (after w r.coefs)) (after u r.coefs) (λ z. by_order u z
    (λ lt. coef_after u z (after w r.coefs) lt ∙ coef_after w z r.coefs (trans w u z up.0 lt) ∙ sym (coef_after u z r.coefs lt))
    (λ le. none_after u z (after w r.coefs) le ∙ sym (none_after u z r.coefs le))) ∙ value_on n r u us up.1 (λ z lt. rest z lt (covers z (trans w u z up.0 lt))))
  where
    trans : (a b c : ℕ) → a < b → b < c → a < c
    trans a b c p q = omega arith

    between : (z : ℕ) → z < u → (coef_at r.coefs z ≡ pos 0) ⊎ ((z ≡ u) ⊎ Member us z) → coef_at r.coefs z ≡ pos 0
    between z lt (inl e) = e
    between z lt (inr (inl e)) = absurd (omega arith)
    between z lt (inr (inr h)) = let below = member_above u us z up.1 h in absurd (omega arith)

    rest : (z : ℕ) → u < z → (coef_at r.coefs z ≡ pos 0) ⊎ ((z ≡ u) ⊎ Member us z) → (coef_at r.coefs z ≡ pos 0) ⊎ Member us z
    rest z lt (inl e) = inl e
    rest z lt (inr (inl e)) = absurd (omega arith)
    rest z lt (inr (inr h)) = inr h

terms_within : (n f : ℕ → ℤ) (m : ℕ) (us : List ℕ) → ((u : ℕ) → unsigned_abs (f u) ≤ m) → unsigned_abs (value_at n (terms_on f us)) ≤ m * total n us
terms_within n f m [] le = omega arith
terms_within n f m (u ∷ us) le =
    let p = product_within (f u) (n u) m (unsigned_abs (n u)) (le u) (same (unsigned_abs (n u))) in
    let q = terms_within n f m us le in
    let s = abs_sum (f u *ℤ n u) (value_at n (terms_on f us)) in
    let e = spread m (unsigned_abs (n u)) (total n us) in
    omega arith
  where
    same : (k : ℕ) → k ≤ k
    same k = omega arith

    spread : (m a b : ℕ) → m * (a + b) ≡ m * a + m * b
    spread m a b = grind arith

-- Whole numbers `n` in parts of 1/d for those of a point from `low` on, which is 0 at the variables there that
-- aren't listed, and how large they are together.
pub record Sized (x : ℕ → ℤ) (q : ℤ) (low : ℕ) (us : List ℕ) (s : ℕ) : Type 0 where
  pub d : ℕ
  pub n : ℕ → ℤ
  pub positive : 0 < d
  pub same : (u : ℕ) → low ≤ u → x u *ℤ pos d ≡ n u *ℤ q
  pub none : (u : ℕ) → u < low → n u ≡ pos 0
  pub small : d + total n us ≤ s

no_times : (z : ℤ) → pos 0 *ℤ z ≡ pos 0
no_times z = omega (arith, ints)

pub sized_none : (x : ℕ → ℤ) (q : ℤ) (low : ℕ) → ((u : ℕ) → low ≤ u → x u ≡ pos 0) → Sized x q low [] 1
sized_none x q low zeros = record {
  d = 1;
  n = λ u. pos 0;
  positive = omega arith;
  same = λ u le. ap (λ z. z *ℤ pos 1) (zeros u le) ∙ no_times (pos 1) ∙ sym (no_times q);
  none = λ u lt. refl;
  small = omega arith;
}

pub sized_lower : (x : ℕ → ℤ) (q : ℤ) (low lower : ℕ) (us : List ℕ) (s : ℕ) → Sized x q low us s → lower ≤ low → ((u : ℕ) → lower ≤ u → u < low → x u ≡ pos 0) → Sized x q lower us s
sized_lower x q low lower us s is le zeros = record {
  d = is.d;
  n = is.n;
  positive = is.positive;
  same = λ u from. by_order u low
      (λ lt. ap (λ z. z *ℤ pos is.d) (zeros u from lt) ∙ no_times (pos is.d) ∙ sym (ap (λ z. z *ℤ q) (is.none u lt) ∙ no_times q))
      (λ more. is.same u more);
  none = λ u lt. is.none u (omega arith);
  small = is.small;
}

twice : (m s k : ℕ) → 1 ≤ m → k ≤ s → k ≤ 2 * (m * s)
twice m s k some le = let p = at_least m s some in omega arith
  where
    at_least : (m s : ℕ) → 1 ≤ m → s ≤ m * s
    at_least m s some = grind arith

pub sized_zero : (x : ℕ → ℤ) (q : ℤ) (w : ℕ) (us : List ℕ) (m s : ℕ) → 1 ≤ m → Sized x q (w + 1) us s → x w ≡ pos 0 → Sized x q w (w ∷ us) (2 * (m * s))
sized_zero x q w us m s some is zero_ =
    let none : unsigned_abs (is.n w) ≡ 0 = ap unsigned_abs (is.none w (omega arith)) in record {
      d = is.d;
      n = is.n;
      positive = is.positive;
      same = λ u from. at_or_not u w
          (λ e. ap (λ v. x v *ℤ pos is.d) e ∙ ap (λ z. z *ℤ pos is.d) zero_ ∙ no_times (pos is.d) ∙ sym (ap (λ v. is.n v *ℤ q) e ∙ ap (λ z. z *ℤ q) (is.none w (omega arith)) ∙ no_times q))
          (λ more. is.same u (omega arith));
      none = λ u lt. is.none u (omega arith);
      small = twice m s (is.d + (unsigned_abs (is.n w) + total is.n us)) some (let h = is.small in omega arith);
    }

-- the numbers with one more at `w`, the others `k` times as large
abbrev with_number : (ℕ → ℤ) → ℕ → ℤ → ℤ → ℕ → ℤ
with_number n w z k u = cond (eqb u w) z (n u *ℤ k)

at_number : (n : ℕ → ℤ) (w : ℕ) (z k : ℤ) (u : ℕ) → u ≡ w → with_number n w z k u ≡ z
at_number n w z k u e = let b : eqb u w ≡ true = grind (arith, nat_tests) in rw b refl

other_number : (n : ℕ → ℤ) (w : ℕ) (z k : ℤ) (u : ℕ) → u ≢ w → with_number n w z k u ≡ n u *ℤ k
other_number n w z k u h = let b : eqb u w ≡ false = grind (arith, nat_tests) in rw b refl

total_scaled : (n : ℕ → ℤ) (w low : ℕ) (z : ℤ) (k : ℕ) (us : List ℕ) → w ≤ low → Ascend low us → total (with_number n w z (pos k)) us ≡ k * total n us
total_scaled n w low z k [] le up = none k
  where
    none : (k : ℕ) → 0 ≡ k * 0
    none k = grind arith
total_scaled n w low z k (u ∷ us) le up =
    ap (λ (i : ℕ). i + total (with_number n w z (pos k)) us) (ap unsigned_abs (other_number n w z (pos k) u (apart u le up.0)) ∙ unsigned_abs-mul (n u) (pos k)) ∙ ap (λ (i : ℕ). unsigned_abs (n u) * k + i) (total_scaled n w u z k us (weaker u le up.0) up.1) ∙ spread k (unsigned_abs (n u)) (total n us)
  where
    apart : (u : ℕ) → w ≤ low → low < u → u ≢ w
    apart u p q e = omega arith

    weaker : (u : ℕ) → w ≤ low → low < u → w ≤ u
    weaker u p q = omega arith

    spread : (m a b : ℕ) → a * m + m * b ≡ m * (a + b)
    spread m a b = grind arith

swap : (a b c : ℤ) → (a *ℤ b) *ℤ c ≡ (a *ℤ c) *ℤ b
swap a b c =
    *ℤ_assoc a b c ∙ ap (λ z. a *ℤ z) (*ℤ_comm b c) ∙ sym (*ℤ_assoc a c b)

-- the number of a bound, by its coefficient's sign
abbrev turned_by : ℤ → ℤ → ℤ
turned_by (pos c) z = z
turned_by (negsuc c) z = neg_ℤ z

turned_size : (c z : ℤ) → unsigned_abs (turned_by c z) ≡ unsigned_abs z
turned_size (pos c) z = refl
turned_size (negsuc c) z = same z
  where
    same : (z : ℤ) → unsigned_abs (neg_ℤ z) ≡ unsigned_abs z
    same z = omega (arith, ints)

turned_product : (c y z q : ℤ) → c *ℤ y ≡ z *ℤ q → y *ℤ pos (unsigned_abs c) ≡ turned_by c z *ℤ q
turned_product (pos c) y z q e = *ℤ_comm y (pos c) ∙ e
turned_product (negsuc c) y z q e =
    *ℤ_comm y (pos (suc c)) ∙ turn (pos (suc c) *ℤ y) (negsuc c *ℤ y) (neg-times (pos (suc c)) y) ∙ ap neg_ℤ e ∙ sym (neg-times z q)
  where
    turn : (a b : ℤ) → b ≡ neg_ℤ a → a ≡ neg_ℤ b
    turn a b e = omega (arith, ints)

-- the room in whole numbers
number_of : (x : ℕ → ℤ) (q : ℤ) (w : ℕ) (r : Row) (d : ℕ) (n : ℕ → ℤ) → HasNoneBelow w r → value_at x r.coefs ≡ r.bound *ℤ q → ((u : ℕ) → w < u → x u *ℤ pos d ≡ n u *ℤ q) → coef_at r.coefs w *ℤ (x w *ℤ pos d) ≡ (r.bound *ℤ pos d -ℤ value_at n (after w r.coefs)) *ℤ q
number_of x q w r d n none tight same =
    let scaled_x : value_at (λ u. x u *ℤ pos d) (after w r.coefs) ≡ value_at x (after w r.coefs) *ℤ pos d = value_scaled x (λ u. x u *ℤ pos d) (pos d) w r.coefs (λ u lt. refl) in
    let scaled_n : value_at (λ u. x u *ℤ pos d) (after w r.coefs) ≡ value_at n (after w r.coefs) *ℤ q = value_scaled n (λ u. x u *ℤ pos d) q w r.coefs same in
    let rests : value_at x (after w r.coefs) *ℤ pos d ≡ value_at n (after w r.coefs) *ℤ q = sym scaled_x ∙ scaled_n in
    let here : coef_at r.coefs w *ℤ x w ≡ r.bound *ℤ q -ℤ value_at x (after w r.coefs) = left (value_at x r.coefs) (coef_at r.coefs w *ℤ x w) (value_at x (after w r.coefs)) (r.bound *ℤ q) (value_split x w r.coefs none) tight in
    sym (*ℤ_assoc (coef_at r.coefs w) (x w) (pos d)) ∙ ap (λ z. z *ℤ pos d) here ∙ -ℤ-*ℤ (r.bound *ℤ q) (value_at x (after w r.coefs)) (pos d) ∙ ap (λ z. (r.bound *ℤ q) *ℤ pos d -ℤ z) rests ∙ ap (λ z. z -ℤ value_at n (after w r.coefs) *ℤ q) (swap r.bound q (pos d)) ∙ sym (-ℤ-*ℤ (r.bound *ℤ pos d) (value_at n (after w r.coefs)) q)
  where
    left : (v c a b : ℤ) → v ≡ c +ℤ a → v ≡ b → c ≡ b -ℤ a
    left v c a b e f = omega (arith, ints)

pub sized_tight : (x : ℕ → ℤ) (q : ℤ) (w : ℕ) (us : List ℕ) (m s : ℕ) (r : Row) → Ascend w us → Covers r w us → IsWithin m r → HasNoneBelow w r → coef_at r.coefs w ≢ pos 0 → value_at x r.coefs ≡ r.bound *ℤ q → Sized x q (w + 1) us s → Sized x q w (w ∷ us) (2 * (m * s))
sized_tight x q w us m s r up covers within none some tight is =
    let c = coef_at r.coefs w in
    let k = unsigned_abs c in
    let z = r.bound *ℤ pos is.d -ℤ value_at is.n (after w r.coefs) in
    let y = turned_by c z in
    let whole = turned_product c (x w *ℤ pos is.d) z q (number_of x q w r is.d is.n none tight (λ u lt. is.same u (up_one u lt))) in record {
      d = is.d * k;
      n = with_number is.n w y (pos k);
      positive = times_positive is.d k is.positive (some_size c some);
      same = λ u from. at_or_not u w
          (λ e. ap (λ v. x v *ℤ pos (is.d * k)) e ∙ sym (*ℤ_assoc (x w) (pos is.d) (pos k)) ∙ whole ∙ ap (λ a. a *ℤ q) (sym (at_number is.n w y (pos k) u e)))
          (λ h. sym (*ℤ_assoc (x u) (pos is.d) (pos k)) ∙ ap (λ a. a *ℤ pos k) (is.same u (above u from h)) ∙ swap (is.n u) q (pos k) ∙ ap (λ a. a *ℤ q) (sym (other_number is.n w y (pos k) u h)));
      none = λ u lt. other_number is.n w y (pos k) u (λ e. omega arith) ∙ ap (λ a. a *ℤ pos k) (is.none u (omega arith)) ∙ no_times (pos k);
      small = sizes is.d k (unsigned_abs (with_number is.n w y (pos k) w)) (total (with_number is.n w y (pos k)) us) (total is.n us) m s (within.coefs w)
          (subst (λ (i : ℕ). i ≤ m * is.d + m * total is.n us) (sym (ap unsigned_abs (at_number is.n w y (pos k) w refl) ∙ turned_size c z)) (number_within (r.bound *ℤ pos is.d) (value_at is.n (after w r.coefs)) (m * is.d) (m * total is.n us) (product_within r.bound (pos is.d) m is.d within.bound (same_le is.d)) (subst (λ a. unsigned_abs a ≤ m * total is.n us) (sym (value_on is.n r w us up covers)) (terms_within is.n (coef_at r.coefs) m us within.coefs))))
          (total_scaled is.n w w y k us (same_le w) up) is.small;
    }
  where
    up_one : (u : ℕ) → w < u → w + 1 ≤ u
    up_one u lt = omega arith

    above : (u : ℕ) → w ≤ u → u ≢ w → w + 1 ≤ u
    above u le h = omega arith

    same_le : (k : ℕ) → k ≤ k
    same_le k = omega arith

    some_size : (c : ℤ) → c ≢ pos 0 → 0 < unsigned_abs c
    some_size (pos zero) some = absurd (some refl)
    some_size (pos (suc n)) some = omega arith
    some_size (negsuc n) some = omega arith

    times_positive : (a b : ℕ) → 0 < a → 0 < b → 0 < a * b
    times_positive a b p q = grind arith

    number_within : (a b : ℤ) (i j : ℕ) → unsigned_abs a ≤ i → unsigned_abs b ≤ j → unsigned_abs (a -ℤ b) ≤ i + j
    number_within a b i j p q = omega (arith, ints)

    sizes : (d k y t' t m s : ℕ) → k ≤ m → y ≤ m * d + m * t → t' ≡ k * t → d + t ≤ s → d * k + (y + t') ≤ 2 * (m * s)
    sizes d k y t' t m s p q e small =
        let a : d * k ≤ m * d = le_times d k m p in
        let b : k * t ≤ m * t = times_le k m t p in
        let c : m * (d + t) ≤ m * s = times_le' m (d + t) s small in
        let f : m * (d + t) ≡ m * d + m * t = spread m d t in
        omega arith
      where
        le_times : (d k m : ℕ) → k ≤ m → d * k ≤ m * d
        le_times d k m p = grind arith

        times_le : (k m t : ℕ) → k ≤ m → k * t ≤ m * t
        times_le k m t p = grind arith

        times_le' : (m a b : ℕ) → a ≤ b → m * a ≤ m * b
        times_le' m a b p = grind arith

        spread : (m a b : ℕ) → m * (a + b) ≡ m * a + m * b
        spread m a b = grind arith
