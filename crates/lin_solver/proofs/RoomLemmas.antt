-- Laws of rooms: what a row leaves for its term with a variable.
use Rattle.std.specs.Prelude.{◌≡◌, ℕ, ◌+◌, ◌≤◌, ◌<◌, nat_lt, true, false, ℤ, pos, ◌+ℤ◌, ◌-ℤ◌, ◌*ℤ◌, ◌≤ℤ◌, List, [], ◌∷◌, filter, refl}
use Rattle.std.proofs.Common.{sym, ap, ◌∙◌, subst, arith, ⊎_elim}
use Rattle.std.proofs.Math.IntN.{*ℤ_comm}
use Rattle.std.proofs.lemmas.Int.{ints}
use Rattle.std.proofs.lemmas.Bool.{cases_lt}
use Rattle.std.proofs.lemmas.Bool.Decides.{nat_tests}
use Rattle.lin_rows.specs.declared.row.Row.{Row}
use Rattle.lin_rows.specs.Terms.{coef_at, value_at}
use Rattle.lin_rows.specs.Rows.{Meets, IsSum}
use Rattle.lin_rows.specs.Ring.{+ℤ-*ℤ, -ℤ-*ℤ, *ℤ_assoc, spread, mixed-none}
use Rattle.lin_rows.specs.TermLaws.{at_or_not, coef-hit, coef-miss, value-same, value-mixed}
use Rattle.lin_solver.specs.WayBack.{HasNoneBelow}

-- the terms after a variable
abbrev pub after : ℕ → List (ℕ × ℤ) → List (ℕ × ℤ)
after v ts = filter (λ t. nat_lt v t.0) ts

pub by_order : {P : Type 0} (v w : ℕ) → (v < w → P) → (w ≤ v → P) → P
by_order {P} v w less more = ⊎_elim (λ (lt : v < w). less lt) (λ (le : w ≤ v). more le) (cases_lt v w)

pub after_more : (v : ℕ) (t : ℕ × ℤ) (ts : List (ℕ × ℤ)) → v < t.0 → after v (t ∷ ts) ≡ t ∷ after v ts
after_more v t ts lt = let b : nat_lt v t.0 ≡ true = grind (arith, nat_tests) in rw b refl

pub after_less : (v : ℕ) (t : ℕ × ℤ) (ts : List (ℕ × ℤ)) → t.0 ≤ v → after v (t ∷ ts) ≡ after v ts
after_less v t ts le = let b : nat_lt v t.0 ≡ false = grind (arith, nat_tests) in rw b refl

pub coef_after : (v w : ℕ) (ts : List (ℕ × ℤ)) → v < w → coef_at (after v ts) w ≡ coef_at ts w
coef_after v w [] lt = refl
coef_after v w (t ∷ ts) lt = by_order v t.0
    (λ more. ap (λ us. coef_at us w) (after_more v t ts more) ∙ at_or_not w t.0
    (λ e. coef-hit w t.0 t.1 (after v ts) e ∙ ap (λ z. t.1 +ℤ z) (coef_after v w ts lt) ∙ sym (coef-hit w t.0 t.1 ts e))
    (λ n. coef-miss w t.0 t.1 (after v ts) n ∙ coef_after v w ts lt ∙ sym (coef-miss w t.0 t.1 ts n)))
    (λ less. ap (λ us. coef_at us w) (after_less v t ts less) ∙ coef_after v w ts lt ∙ sym (coef-miss w t.0 t.1 ts (λ e. omega arith)))

pub none_after : (v w : ℕ) (ts : List (ℕ × ℤ)) → w ≤ v → coef_at (after v ts) w ≡ pos 0
none_after v w [] le = refl
none_after v w (t ∷ ts) le = by_order v t.0
    (λ more. ap (λ us. coef_at us w) (after_more v t ts more) ∙ coef-miss w t.0 t.1 (after v ts) (λ e. omega arith) ∙ none_after v w ts le)
    (λ less. ap (λ us. coef_at us w) (after_less v t ts less) ∙ none_after v w ts le)

-- the term with `v` and those after it are all
pub value_split : (x : ℕ → ℤ) (v : ℕ) (ts : List (ℕ × ℤ)) → ((w : ℕ) → w < v → coef_at ts w ≡ pos 0) → value_at x ts ≡ coef_at ts v *ℤ x v +ℤ value_at x (after v ts)
value_split x v ts none = value-same x ts ((v, coef_at ts v) ∷ after v ts) (λ w. at_or_not w v
    (λ e. ap (coef_at ts) e ∙ plus_none (coef_at ts v) ∙ ap (λ z. coef_at ts v +ℤ z) (sym (none_after v w ts (omega arith))) ∙ sym (coef-hit w v (coef_at ts v) (after v ts) e))
    (λ n. by_order v w
    (λ lt. sym (coef_after v w ts lt) ∙ sym (coef-miss w v (coef_at ts v) (after v ts) n))
    (λ le. none w (omega arith) ∙ sym (none_after v w ts le) ∙ sym (coef-miss w v (coef_at ts v) (after v ts) n))))
  where
    plus_none : (z : ℤ) → z ≡ z +ℤ pos 0
    plus_none z = omega (arith, ints)

-- numbers `s` times as large after `v`
pub value_scaled : (x y : ℕ → ℤ) (s : ℤ) (v : ℕ) (ts : List (ℕ × ℤ)) → ((w : ℕ) → v < w → y w ≡ x w *ℤ s) → value_at y (after v ts) ≡ value_at x (after v ts) *ℤ s
value_scaled x y s v [] same = none s
  where
    none : (s : ℤ) → pos 0 ≡ pos 0 *ℤ s
    none s = omega (arith, ints)
value_scaled x y s v (t ∷ ts) same = by_order v t.0
    (λ more. ap (value_at y) (after_more v t ts more) ∙ ap (λ z. t.1 *ℤ z +ℤ value_at y (after v ts)) (same t.0 more) ∙ ap (λ z. t.1 *ℤ (x t.0 *ℤ s) +ℤ z) (value_scaled x y s v ts same) ∙ out t.1 (x t.0) s (value_at x (after v ts)) ∙ ap (λ us. value_at x us *ℤ s) (sym (after_more v t ts more)))
    (λ less. ap (value_at y) (after_less v t ts less) ∙ value_scaled x y s v ts same ∙ ap (λ us. value_at x us *ℤ s) (sym (after_less v t ts less)))
  where
    out : (c a s b : ℤ) → c *ℤ (a *ℤ s) +ℤ b *ℤ s ≡ (c *ℤ a +ℤ b) *ℤ s
    out c a s b = ap (λ z. z +ℤ b *ℤ s) (sym (*ℤ_assoc c a s)) ∙ sym (+ℤ-*ℤ (c *ℤ a) b s)

-- a row of later variables alone
pub value_of_later : (x y : ℕ → ℤ) (s : ℤ) (v : ℕ) (r : Row) → HasNoneBelow (v + 1) r → ((w : ℕ) → v < w → y w ≡ x w *ℤ s) → value_at y r.coefs ≡ value_at x r.coefs *ℤ s
value_of_later x y s v r none same =
    alone y ∙ value_scaled x y s v r.coefs same ∙ ap (λ z. z *ℤ s) (sym (alone x))
  where
    no_term : (c z w : ℤ) → c ≡ pos 0 → c *ℤ z +ℤ w ≡ w
    no_term c z w e = ap (λ k. k *ℤ z +ℤ w) e ∙ zero_term z w
      where
        zero_term : (z w : ℤ) → pos 0 *ℤ z +ℤ w ≡ w
        zero_term z w = omega (arith, ints)

    alone : (x : ℕ → ℤ) → value_at x r.coefs ≡ value_at x (after v r.coefs)
    alone x = value_split x v r.coefs (λ w lt. none w (omega arith)) ∙ no_term (coef_at r.coefs v) (x v) (value_at x (after v r.coefs)) (none v (omega arith))

-- what a row leaves, by a unit and numbers
abbrev pub room_in : ℤ → (ℕ → ℤ) → Row → ℕ → ℤ
room_in q x r v = r.bound *ℤ q -ℤ value_at x (after v r.coefs)

-- a row is met where its term is at most its room
pub met_from_room : (q : ℤ) (x : ℕ → ℤ) (v : ℕ) (r : Row) → HasNoneBelow v r → (coef_at r.coefs v *ℤ x v) ≤ℤ room_in q x r v → Meets q x r
met_from_room q x v r none le =
    sum_le _ _ _ _ (value_split x v r.coefs none) le
  where
    sum_le : (a c w b : ℤ) → a ≡ c +ℤ w → c ≤ℤ (b -ℤ w) → a ≤ℤ b
    sum_le a c w b e le = omega (arith, ints)

pub room_from_met : (q : ℤ) (x : ℕ → ℤ) (v : ℕ) (r : Row) → HasNoneBelow v r → Meets q x r → (coef_at r.coefs v *ℤ x v) ≤ℤ room_in q x r v
room_from_met q x v r none le =
    sum_le _ _ _ _ (value_split x v r.coefs none) le
  where
    sum_le : (a c w b : ℤ) → a ≡ c +ℤ w → a ≤ℤ b → c ≤ℤ (b -ℤ w)
    sum_le a c w b e le = omega (arith, ints)

-- it holds with equality where the term is the room
pub tight_from_room : (q : ℤ) (x : ℕ → ℤ) (v : ℕ) (r : Row) → HasNoneBelow v r → coef_at r.coefs v *ℤ x v ≡ room_in q x r v → value_at x r.coefs ≡ r.bound *ℤ q
tight_from_room q x v r none e =
    value_split x v r.coefs none ∙ ap (λ z. z +ℤ value_at x (after v r.coefs)) e ∙ back (r.bound *ℤ q) (value_at x (after v r.coefs))
  where
    back : (a b : ℤ) → a -ℤ b +ℤ b ≡ a
    back a b = omega (arith, ints)

-- a row without the variable that is met leaves room
pub some_room : (q : ℤ) (x : ℕ → ℤ) (v : ℕ) (r : Row) → HasNoneBelow (v + 1) r → Meets q x r → pos 0 ≤ℤ room_in q x r v
some_room q x v r none met =
    subst (λ z. z ≤ℤ room_in q x r v) (ap (λ c. c *ℤ x v) (none v (omega arith)) ∙ no_times (x v)) (room_from_met q x v r (λ w lt. none w (omega arith)) met)
  where
    no_times : (z : ℤ) → pos 0 *ℤ z ≡ pos 0
    no_times z = omega (arith, ints)

-- the room in a finer unit
pub room_scaled : (q s : ℤ) (x y : ℕ → ℤ) (v : ℕ) (r : Row) → ((w : ℕ) → v < w → y w ≡ x w *ℤ s) → room_in (q *ℤ s) y r v ≡ room_in q x r v *ℤ s
room_scaled q s x y v r same =
    ap (λ z. r.bound *ℤ (q *ℤ s) -ℤ z) (value_scaled x y s v r.coefs same) ∙ ap (λ z. z -ℤ value_at x (after v r.coefs) *ℤ s) (sym (*ℤ_assoc r.bound q s)) ∙ sym (-ℤ-*ℤ (r.bound *ℤ q) (value_at x (after v r.coefs)) s)

pub *ℤ--ℤ : (k a b : ℤ) → k *ℤ (a -ℤ b) ≡ k *ℤ a -ℤ k *ℤ b
*ℤ--ℤ k a b =
    *ℤ_comm k (a -ℤ b) ∙ -ℤ-*ℤ a b k ∙ ap (λ z. z -ℤ b *ℤ k) (*ℤ_comm a k) ∙ ap (λ z. k *ℤ a -ℤ z) (*ℤ_comm b k)

-- the room of a sum
pub room_sum : (q : ℤ) (x : ℕ → ℤ) (v : ℕ) (k l : ℤ) (a b r : Row) → IsSum k l a b r → room_in q x r v ≡ k *ℤ room_in q x a v +ℤ l *ℤ room_in q x b v
room_sum q x v k l a b r sum =
    apart (r.bound *ℤ q) (value_at x (after v r.coefs)) (k *ℤ (a.bound *ℤ q)) (k *ℤ value_at x (after v a.coefs)) (l *ℤ (b.bound *ℤ q)) (l *ℤ value_at x (after v b.coefs)) (k *ℤ room_in q x a v) (l *ℤ room_in q x b v)
    (ap (λ z. z *ℤ q) sum.bound ∙ spread k l a.bound b.bound q)
    (value-mixed k l x (after v a.coefs) (after v b.coefs) (after v r.coefs) terms)
    (*ℤ--ℤ k (a.bound *ℤ q) (value_at x (after v a.coefs)))
    (*ℤ--ℤ l (b.bound *ℤ q) (value_at x (after v b.coefs)))
  where
    apart : (m n ka kb la lb c d : ℤ) → m ≡ ka +ℤ la → n ≡ kb +ℤ lb → c ≡ ka -ℤ kb → d ≡ la -ℤ lb → m -ℤ n ≡ c +ℤ d
    apart m n ka kb la lb c d e f g h = omega (arith, ints)

    terms : (w : ℕ) → coef_at (after v r.coefs) w ≡ k *ℤ coef_at (after v a.coefs) w +ℤ l *ℤ coef_at (after v b.coefs) w
    terms w = by_order v w
        (λ lt. coef_after v w r.coefs lt ∙ sum.coefs w ∙ ap (λ z. k *ℤ z +ℤ l *ℤ coef_at b.coefs w) (sym (coef_after v w a.coefs lt)) ∙ ap (λ z. k *ℤ coef_at (after v a.coefs) w +ℤ l *ℤ z) (sym (coef_after v w b.coefs lt)))
        (λ le. none_after v w r.coefs le ∙ sym (mixed-none k l (coef_at (after v a.coefs) w) (coef_at (after v b.coefs) w) (none_after v w a.coefs le) (none_after v w b.coefs le)))
