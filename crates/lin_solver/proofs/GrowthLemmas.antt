-- How large the numbers of derived rows are.
use Rattle.std.specs.Prelude.{◌≡◌, ◌≢◌, ℕ, ◌+◌, ◌*◌, ◌≤◌, ◌<◌, ◌^◌, ℤ, pos, negsuc, neg_ℤ, ◌+ℤ◌, ◌*ℤ◌, ◌≤ℤ◌, ◌<ℤ◌, unsigned_abs, FitsSigned, List, All}
use Rattle.std.specs.Int.{w128}
use Rattle.std.proofs.Common.{sym, ap, ◌∙◌, subst, arith, inl, inr}
use Rattle.std.proofs.Math.IntN.{*ℤ_comm}
use Rattle.std.proofs.lemmas.Int.{ints, unsigned_abs-mul, fits_signed_from_abs}
use Rattle.std.proofs.lemmas.List.Elements.{All-contains}
use borrow.Author.Differences.{up}
use Rattle.lin_rows.specs.declared.row.Row.{Row}
use Rattle.lin_rows.specs.Terms.{coef_at}
use Rattle.lin_rows.specs.Rows.{IsSum, MixFits}
use Rattle.lin_rows.specs.Lowest.{IsLowest}
use Rattle.lin_rows.specs.Derived.{Derived, Occurs, given, kept, summed}
use Rattle.lin_rows.specs.WidePoints.{IsWidePair}
use Rattle.lin_rows.specs.TermLaws.{at_or_not}
use Rattle.lin_rows.specs.Ring.{mixed-none}
use Rattle.lin_solver.specs.Narrow.{IsWithin, AreAmong}
use Rattle.lin_solver.proofs.LowestLemmas.{neg-times}

pub zero_or_not : {P : Type 0} (z : ℤ) → (z ≡ pos 0 → P) → (z ≢ pos 0 → P) → P
zero_or_not {P} (pos n) here elsewhere = at_or_not n 0 (λ e. here (ap pos e)) (λ h. elsewhere (λ e. h (ap up e)))
zero_or_not {P} (negsuc n) here elsewhere = elsewhere (λ e. absurd (cc))

-- a variable of a derived row stands in one of the rows
pub occurs : (rows : List Row) (u : ℕ) (r : Row) → Derived rows u r → (v : ℕ) → coef_at r.coefs v ≢ pos 0 → Occurs rows v
occurs rows _ r (given _ there) v some = (r, there, some)
occurs rows _ r (kept u _ d none) v some = occurs rows u r d v some
occurs rows _ r (summed u a b _ d e above below (k, l, low, sum)) v some =
    zero_or_not (coef_at a.coefs v)
    (λ za. zero_or_not (coef_at b.coefs v)
    (λ zb. absurd (some (sum.coefs v ∙ mixed-none k l (coef_at a.coefs v) (coef_at b.coefs v) za zb)))
    (λ nb. occurs rows u b e v nb))
    (λ na. occurs rows u a d v na)

mul_both : (a b m n : ℕ) → a ≤ m → b ≤ n → a * b ≤ m * n
mul_both a b m n p q = grind arith

pub abs_sum : (a b : ℤ) → unsigned_abs (a +ℤ b) ≤ unsigned_abs a + unsigned_abs b
abs_sum a b = omega (arith, ints)

pub product_within : (a b : ℤ) (m n : ℕ) → unsigned_abs a ≤ m → unsigned_abs b ≤ n → unsigned_abs (a *ℤ b) ≤ m * n
product_within a b m n p q = subst (λ z. z ≤ m * n) (sym (unsigned_abs-mul a b)) (mul_both _ _ m n p q)

sum_within : (k a l b : ℤ) (m : ℕ) → unsigned_abs k ≤ m → unsigned_abs a ≤ m → unsigned_abs l ≤ m → unsigned_abs b ≤ m → unsigned_abs (k *ℤ a +ℤ l *ℤ b) ≤ 2 * (m * m)
sum_within k a l b m p q r s =
    let x = product_within k a m m p q in
    let y = product_within l b m m r s in
    let z = abs_sum (k *ℤ a) (l *ℤ b) in
    omega arith

-- the lowest multipliers are at most the other coefficient in size
pub lowest_within : (x y k l : ℤ) → pos 0 <ℤ x → y <ℤ pos 0 → IsLowest x y k l → (unsigned_abs k ≤ unsigned_abs y) × (unsigned_abs l ≤ unsigned_abs x)
lowest_within x y k l above below low =
    let (p, q) = low.least (neg_ℤ y) x (record { left = turned y below; right = above; none = ap (λ z. z +ℤ x *ℤ y) (neg-times y x ∙ ap neg_ℤ (*ℤ_comm y x)) ∙ gone (x *ℤ y) }) in
    (sizes_below k y low.cancels.left p, sizes_above l x low.cancels.right q)
  where
    turned : (z : ℤ) → z <ℤ pos 0 → pos 0 <ℤ neg_ℤ z
    turned z h = omega (arith, ints)

    gone : (z : ℤ) → neg_ℤ z +ℤ z ≡ pos 0
    gone z = omega (arith, ints)

    sizes_below : (k y : ℤ) → pos 0 <ℤ k → k ≤ℤ neg_ℤ y → unsigned_abs k ≤ unsigned_abs y
    sizes_below k y p q = omega (arith, ints)

    sizes_above : (l x : ℤ) → pos 0 <ℤ l → l ≤ℤ x → unsigned_abs l ≤ unsigned_abs x
    sizes_above l x p q = omega (arith, ints)

sum_row_within : (v : ℕ) (a b r : Row) (k l : ℤ) (m n : ℕ) → pos 0 <ℤ coef_at a.coefs v → coef_at b.coefs v <ℤ pos 0 → IsLowest (coef_at a.coefs v) (coef_at b.coefs v) k l → IsSum k l a b r → IsWithin m a → IsWithin m b → 2 * (m * m) ≤ n → IsWithin n r
sum_row_within v a b r k l m n above below low sum p q le =
    let (kk, ll) = lowest_within (coef_at a.coefs v) (coef_at b.coefs v) k l above below low in
    let k_le = trans (unsigned_abs k) (unsigned_abs (coef_at b.coefs v)) m kk (q.coefs v) in
    let l_le = trans (unsigned_abs l) (unsigned_abs (coef_at a.coefs v)) m ll (p.coefs v) in record {
      coefs = λ w. subst (λ z. unsigned_abs z ≤ n) (sym (sum.coefs w)) (trans _ (2 * (m * m)) n (sum_within k (coef_at a.coefs w) l (coef_at b.coefs w) m k_le (p.coefs w) l_le (q.coefs w)) le);
      bound = subst (λ z. unsigned_abs z ≤ n) (sym sum.bound) (trans _ (2 * (m * m)) n (sum_within k a.bound l b.bound m k_le p.bound l_le q.bound) le);
    }
  where
    trans : (a b c : ℕ) → a ≤ b → b ≤ c → a ≤ c
    trans a b c p q = omega arith

-- the bounds after no variable, after one and after two
pub record Tiers (a b c u : ℕ) (r : Row) : Type 0 where
  pub none : u ≤ a → IsWithin (2 ^ 11) r
  pub one : u ≤ b → IsWithin (2 ^ 23) r
  pub two : u ≤ c → IsWithin (2 ^ 47) r

weaker : (m n : ℕ) (r : Row) → m ≤ n → IsWithin m r → IsWithin n r
weaker m n r le p = record {
  coefs = λ v. trans (unsigned_abs (coef_at r.coefs v)) m n (p.coefs v) le;
  bound = trans (unsigned_abs r.bound) m n p.bound le;
}
  where
    trans : (a b c : ℕ) → a ≤ b → b ≤ c → a ≤ c
    trans a b c p q = omega arith

less_one : (u a : ℕ) → u + 1 ≤ a → u ≤ a
less_one u a le = omega arith

pub tiers : (rows : List Row) (a b c : ℕ) → a < b → b < c → AreAmong rows a b c → All (IsWithin (2 ^ 11)) rows → (u : ℕ) (r : Row) → Derived rows u r → Tiers a b c u r
tiers rows a b c ab bc among small _ r (given _ there) =
    let here = All-contains (IsWithin (2 ^ 11)) rows r small there in record {
      none = λ le. here;
      one = λ le. weaker (2 ^ 11) (2 ^ 23) r (omega arith) here;
      two = λ le. weaker (2 ^ 11) (2 ^ 47) r (omega arith) here;
    }
tiers rows a b c ab bc among small _ r (kept u _ d no_term) =
    let before = tiers rows a b c ab bc among small u r d in record {
      none = λ le. before.none (less_one u a le);
      one = λ le. before.one (less_one u b le);
      two = λ le. before.two (less_one u c le);
    }
tiers rows a b c ab bc among small _ r (summed u x y _ d e above below (k, l, low, sum)) =
    let left = tiers rows a b c ab bc among small u x d in
    let right = tiers rows a b c ab bc among small u y e in
    let grown = λ (m n : ℕ) (p : IsWithin m x) (q : IsWithin m y) (le : 2 * (m * m) ≤ n). sum_row_within u x y r k l m n above below low sum p q le in
    elim (among u (occurs rows u x d u (not_none (coef_at x.coefs u) above))) [
      | inl at_a ↦ record {
        none = λ le. absurd (omega arith);
        one = λ le. grown (2 ^ 11) (2 ^ 23) (left.none (omega arith)) (right.none (omega arith)) (omega arith);
        two = λ le. weaker (2 ^ 23) (2 ^ 47) r (omega arith) (grown (2 ^ 11) (2 ^ 23) (left.none (omega arith)) (right.none (omega arith)) (omega arith));
      }
      | inr other ↦ elim other [
        | inl at_b ↦ record {
          none = λ le. absurd (omega arith);
          one = λ le. absurd (omega arith);
          two = λ le. grown (2 ^ 23) (2 ^ 47) (left.one (omega arith)) (right.one (omega arith)) (omega arith);
        }
        | inr at_c ↦ record {
          none = λ le. absurd (omega arith);
          one = λ le. absurd (omega arith);
          two = λ le. absurd (omega arith);
        }
      ]
    ]
  where
    not_none : (z : ℤ) → pos 0 <ℤ z → z ≢ pos 0
    not_none z h e = omega (arith, ints)

-- a derived row before one of the three is within the last of these
pub before_three : (rows : List Row) (a b c : ℕ) → a < b → b < c → AreAmong rows a b c → All (IsWithin (2 ^ 11)) rows → (v : ℕ) (r : Row) → Occurs rows v → Derived rows v r → IsWithin (2 ^ 47) r
before_three rows a b c ab bc among small v r there d =
    (tiers rows a b c ab bc among small v r d).two (elim (among v there) [
      | inl e ↦ omega arith
      | inr other ↦ elim other [ inl e ↦ omega arith | inr e ↦ omega arith ]
    ])

pub number_fits : (z : ℤ) (n : ℕ) → unsigned_abs z ≤ n → n < 2 ^ 127 → FitsSigned w128 z
number_fits z n le lt = fits_signed_from_abs w128 z (below (unsigned_abs z) n le lt)
  where
    below : (k n : ℕ) → k ≤ n → n < 2 ^ 127 → k < 2 ^ 127
    below k n le lt = omega arith

-- no elimination is too wide
pub no_wide_pair : (rows : List Row) (a b c : ℕ) → a < b → b < c → AreAmong rows a b c → All (IsWithin (2 ^ 11)) rows → (x y : Row) (v : ℕ) → IsWidePair rows x y v → ⊥
no_wide_pair rows a b c ab bc among small x y v pair =
    let (k, l, low, wide) = pair.wide in
    let there = occurs rows v x pair.left v (not_none (coef_at x.coefs v) pair.positive) in
    let p = before_three rows a b c ab bc among small v x there pair.left in
    let q = before_three rows a b c ab bc among small v y there pair.right in
    let (kk, ll) = lowest_within (coef_at x.coefs v) (coef_at y.coefs v) k l pair.positive pair.negative low in
    let k_le = trans (unsigned_abs k) (unsigned_abs (coef_at y.coefs v)) (2 ^ 47) kk (q.coefs v) in
    let l_le = trans (unsigned_abs l) (unsigned_abs (coef_at x.coefs v)) (2 ^ 47) ll (p.coefs v) in
    wide (record {
      left = number_fits k (2 ^ 47) k_le (omega arith);
      right = number_fits l (2 ^ 47) l_le (omega arith);
      sum = record {
        coefs = λ w. mix k (coef_at x.coefs w) l (coef_at y.coefs w) k_le (p.coefs w) l_le (q.coefs w);
        bound = mix k x.bound l y.bound k_le p.bound l_le q.bound;
      };
    })
  where
    not_none : (z : ℤ) → pos 0 <ℤ z → z ≢ pos 0
    not_none z h e = omega (arith, ints)

    trans : (a b c : ℕ) → a ≤ b → b ≤ c → a ≤ c
    trans a b c p q = omega arith

    mix : (k a l b : ℤ) → unsigned_abs k ≤ 2 ^ 47 → unsigned_abs a ≤ 2 ^ 47 → unsigned_abs l ≤ 2 ^ 47 → unsigned_abs b ≤ 2 ^ 47 → MixFits k a l b
    mix k a l b p q r s = (
      number_fits (k *ℤ a) (2 ^ 47 * 2 ^ 47) (product_within k a (2 ^ 47) (2 ^ 47) p q) (omega arith),
      number_fits (l *ℤ b) (2 ^ 47 * 2 ^ 47) (product_within l b (2 ^ 47) (2 ^ 47) r s) (omega arith),
      number_fits (k *ℤ a +ℤ l *ℤ b) (2 * (2 ^ 47 * 2 ^ 47)) (sum_within k a l b (2 ^ 47) p q r s) (omega arith),
    )
