-- Laws of linear forms.
use Rattle.std.specs.Prelude.{◌≡◌, ◌≢◌, ℕ, zero, suc, ◌+◌, ◌<◌, ◌≤◌, eqb, cond, true, false, ℤ, pos, ◌+ℤ◌, ◌*ℤ◌, List, [], ◌∷◌, ◌++◌, All, refl}
use Rattle.std.proofs.Common.{sym, ap, ◌∙◌, arith}
use Rattle.std.proofs.Math.IntN.{+ℤ_assoc}
use Rattle.std.proofs.lemmas.Int.{ints}
use Rattle.std.proofs.lemmas.Bool.Decides.{nat_tests}
use Rattle.std.proofs.lemmas.List.Elements.{All-head, All-tail}
use Rattle.lin_rows.specs.Terms.{IsAbove, IsNormal, coef_at, value_at}
use Rattle.lin_rows.specs.Ring.{+ℤ-*ℤ, +ℤ-none, regroup, spread}

-- a number is another or not
pub at_or_not : {P : Type 0} (w v : ℕ) → (w ≡ v → P) → (w ≢ v → P) → P
at_or_not {P} w v here elsewhere = elim (eqb w v) as (λ b. eqb w v ≡ b → P) [
  | true ↦ λ e. let p : w ≡ v = grind (arith, nat_tests) in here p
  | false ↦ λ e. elsewhere (λ p. let f : eqb w v ≡ true = grind (arith, nat_tests) in absurd (cc))
] refl

hit : (v w : ℕ) (x y : ℤ) → v ≡ w → cond (eqb v w) x y ≡ x
hit v w x y e = let b : eqb v w ≡ true = grind (arith, nat_tests) in rw b refl

miss : (v w : ℕ) (x y : ℤ) → v ≢ w → cond (eqb v w) x y ≡ y
miss v w x y n = let b : eqb v w ≡ false = grind (arith, nat_tests) in rw b refl

pub coef-hit : (v w : ℕ) (x : ℤ) (ts : List (ℕ × ℤ)) → v ≡ w → coef_at ((w, x) ∷ ts) v ≡ x +ℤ coef_at ts v
coef-hit v w x ts e = hit v w (x +ℤ coef_at ts v) (coef_at ts v) e

pub coef-miss : (v w : ℕ) (x : ℤ) (ts : List (ℕ × ℤ)) → v ≢ w → coef_at ((w, x) ∷ ts) v ≡ coef_at ts v
coef-miss v w x ts n = miss v w (x +ℤ coef_at ts v) (coef_at ts v) n

-- the coefficients of terms after others are added
pub coef-append : (ts us : List (ℕ × ℤ)) (v : ℕ) → coef_at (ts ++ us) v ≡ coef_at ts v +ℤ coef_at us v
coef-append [] us v = omega (arith, ints)
coef-append (t ∷ ts) us v = at_or_not v t.0
    (λ e. coef-hit v t.0 t.1 (ts ++ us) e ∙ ap (λ z. t.1 +ℤ z) (coef-append ts us v) ∙ sym (+ℤ_assoc t.1 (coef_at ts v) (coef_at us v)) ∙ ap (λ z. z +ℤ coef_at us v) (sym (coef-hit v t.0 t.1 ts e)))
    (λ n. coef-miss v t.0 t.1 (ts ++ us) n ∙ coef-append ts us v ∙ ap (λ z. z +ℤ coef_at us v) (sym (coef-miss v t.0 t.1 ts n)))

-- a variable below all of those of the terms
pub coef-below : (n : ℕ) (ts : List (ℕ × ℤ)) (v : ℕ) → IsAbove n ts → v < n → coef_at ts v ≡ pos 0
coef-below n [] v h lt = refl
coef-below n (t ∷ ts) v h lt =
    let le : n ≤ t.0 = h.0 in
    coef-miss v t.0 t.1 ts (λ e. omega arith) ∙ coef-below (t.0 + 1) ts v h.2 (omega arith)

-- the first variable
pub coef-first : (v w : ℕ) (x : ℤ) (ts : List (ℕ × ℤ)) → v ≡ w → IsAbove (w + 1) ts → coef_at ((w, x) ∷ ts) v ≡ x
coef-first v w x ts e h =
    coef-hit v w x ts e ∙ +ℤ-none x (coef_at ts v) (coef-below (w + 1) ts v h (omega arith))

pub above_less : (m n : ℕ) (ts : List (ℕ × ℤ)) → m ≤ n → IsAbove n ts → IsAbove m ts
above_less m n [] le h = tt
above_less m n (t ∷ ts) le h = let p : n ≤ t.0 = h.0 in (omega arith, h.1, h.2)

-- a term after the others
pub above-push : (n : ℕ) (ts : List (ℕ × ℤ)) (v : ℕ) (x : ℤ) → IsAbove n ts → n ≤ v → All (λ t. t.0 < v) ts → x ≢ pos 0 → IsAbove n (ts ++ (v, x) ∷ [])
above-push n [] v x h le below some = (le, some, tt)
above-push n (t ∷ ts) v x h le below some =
    let lt : t.0 < v = All-head (λ t. t.0 < v) t ts below in
    (h.0, h.1, above-push (t.0 + 1) ts v x h.2 (omega arith) (All-tail (λ t. t.0 < v) t ts below) some)

pub normal-push : (ts : List (ℕ × ℤ)) (v : ℕ) (x : ℤ) → IsNormal ts → All (λ t. t.0 < v) ts → x ≢ pos 0 → IsNormal (ts ++ (v, x) ∷ [])
normal-push ts v x h below some = above-push 0 ts v x h (omega arith) below some

-- the coefficients determine the terms
pub same_above : (n : ℕ) (ts us : List (ℕ × ℤ)) → IsAbove n ts → IsAbove n us → ((v : ℕ) → coef_at ts v ≡ coef_at us v) → ts ≡ us
same_above n [] [] p q same = refl
same_above n [] ((w, y) ∷ us) p q same = absurd (q.1 (sym (same w ∙ coef-first w w y us refl q.2)))
same_above n ((v, x) ∷ ts) [] p q same = absurd (p.1 (sym (coef-first v v x ts refl p.2) ∙ same v))
same_above n ((v, x) ∷ ts) ((w, y) ∷ us) p q same =
    at_or_not v w
    (λ e.
    let one : x ≡ y = sym (coef-first v v x ts refl p.2) ∙ same v ∙ coef-first v w y us e q.2 in
    let rest : ts ≡ us = same_above (v + 1) ts us p.2 (above_less (v + 1) (w + 1) us (omega arith) q.2) (λ u. at_or_not u v
    (λ f. coef-below (v + 1) ts u p.2 (omega arith) ∙ sym (coef-below (w + 1) us u q.2 (omega arith)))
    (λ g. sym (coef-miss u v x ts g) ∙ same u ∙ coef-miss u w y us (λ f. g (f ∙ sym e)))) in
    cc)
    (λ g. absurd (apart (v + 1) (w + 1) (λ lt. p.1 (sym (coef-first v v x ts refl p.2) ∙ same v ∙ coef-miss v w y us g ∙ coef-below (w + 1) us v q.2 (omega arith)))
    (λ lt. q.1 (sym (coef-first w w y us refl q.2) ∙ sym (same w) ∙ coef-miss w v x ts (λ f. g (sym f)) ∙ coef-below (v + 1) ts w p.2 (omega arith))) (λ e. g (omega arith))))
  where
    apart : (m n : ℕ) → (m < n → ⊥) → (n < m → ⊥) → (m ≡ n → ⊥) → ⊥
    apart m n p q r = r (omega arith)

pub same_terms : (ts us : List (ℕ × ℤ)) → IsNormal ts → IsNormal us → ((v : ℕ) → coef_at ts v ≡ coef_at us v) → ts ≡ us
same_terms ts us p q same = same_above 0 ts us p q same

-- the sum over the variables below `n`
abbrev sum_below : ℕ → (ℕ → ℤ) → (ℕ → ℤ) → ℤ
sum_below zero x f = pos 0
sum_below (suc n) x f = f n *ℤ x n +ℤ sum_below n x f

sum-same : (n : ℕ) (x f g : ℕ → ℤ) → ((v : ℕ) → v < n → f v ≡ g v) → sum_below n x f ≡ sum_below n x g
sum-same zero x f g h = refl
sum-same (suc n) x f g h =
    ap (λ z. z *ℤ x n +ℤ sum_below n x f) (h n (omega arith)) ∙ ap (λ z. g n *ℤ x n +ℤ z) (sum-same n x f g (λ v lt. h v (omega arith)))

-- one coefficient is greater by `c`
sum-one : (n : ℕ) (x f g : ℕ → ℤ) (v : ℕ) (c : ℤ) → v < n → f v ≡ c +ℤ g v → ((w : ℕ) → w ≢ v → f w ≡ g w) → sum_below n x f ≡ c *ℤ x v +ℤ sum_below n x g
sum-one zero x f g v c lt more same = absurd (omega arith)
sum-one (suc n) x f g v c lt more same = at_or_not n v
    (λ e.
    let rest = sum-same n x f g (λ w below. same w (λ q. absurd (omega arith))) in
    let here : f n ≡ c +ℤ g n = ap f e ∙ more ∙ ap (λ w. c +ℤ g w) (sym e) in
    ap (λ z. z *ℤ x n +ℤ sum_below n x f) here ∙ ap (λ z. (c +ℤ g n) *ℤ x n +ℤ z) rest ∙ ap (λ z. z +ℤ sum_below n x g) (+ℤ-*ℤ c (g n) (x n)) ∙ +ℤ_assoc (c *ℤ x n) (g n *ℤ x n) (sum_below n x g) ∙ ap (λ w. c *ℤ x w +ℤ (g n *ℤ x n +ℤ sum_below n x g)) e)
    (λ h.
    let rest = sum-one n x f g v c (below n v lt h) more same in
    ap (λ z. z *ℤ x n +ℤ sum_below n x f) (same n h) ∙ ap (λ z. g n *ℤ x n +ℤ z) rest ∙ swap_in (g n *ℤ x n) (c *ℤ x v) (sum_below n x g))
  where
    below : (n v : ℕ) → v < suc n → n ≢ v → v < n
    below n v lt h = omega arith

    swap_in : (a b c : ℤ) → a +ℤ (b +ℤ c) ≡ b +ℤ (a +ℤ c)
    swap_in a b c = omega (arith, ints)

sum-zero : (n : ℕ) (x : ℕ → ℤ) → sum_below n x (λ v. pos 0) ≡ pos 0
sum-zero zero x = refl
sum-zero (suc n) x = ap (λ z. pos 0 *ℤ x n +ℤ z) (sum-zero n x) ∙ none (x n)
  where
    none : (a : ℤ) → pos 0 *ℤ a +ℤ pos 0 ≡ pos 0
    none a = omega (arith, ints)

-- a number above every variable
abbrev above_all : List (ℕ × ℤ) → ℕ
above_all [] = 0
above_all (t ∷ ts) = t.0 + 1 + above_all ts

value_is_sum : (n : ℕ) (x : ℕ → ℤ) (ts : List (ℕ × ℤ)) → above_all ts ≤ n → value_at x ts ≡ sum_below n x (coef_at ts)
value_is_sum n x [] le = sym (sum-zero n x)
value_is_sum n x (t ∷ ts) le =
    ap (λ z. t.1 *ℤ x t.0 +ℤ z) (value_is_sum n x ts (omega arith)) ∙ sym (sum-one n x (coef_at (t ∷ ts)) (coef_at ts) t.0 t.1 (omega arith) (coef-hit t.0 t.0 t.1 ts refl) (λ w h. coef-miss w t.0 t.1 ts h))

sum-mixed : (n : ℕ) (x f g : ℕ → ℤ) (k l : ℤ) → sum_below n x (λ v. k *ℤ f v +ℤ l *ℤ g v) ≡ k *ℤ sum_below n x f +ℤ l *ℤ sum_below n x g
sum-mixed zero x f g k l = omega (arith, ints)
sum-mixed (suc n) x f g k l =
    ap (λ z. z +ℤ sum_below n x (λ v. k *ℤ f v +ℤ l *ℤ g v)) (spread k l (f n) (g n) (x n)) ∙ ap (λ z. (k *ℤ (f n *ℤ x n) +ℤ l *ℤ (g n *ℤ x n)) +ℤ z) (sum-mixed n x f g k l) ∙ regroup k l (f n *ℤ x n) (g n *ℤ x n) (sum_below n x f) (sum_below n x g)

-- the coefficients determine the value
pub value-same : (x : ℕ → ℤ) (ts us : List (ℕ × ℤ)) → ((v : ℕ) → coef_at ts v ≡ coef_at us v) → value_at x ts ≡ value_at x us
value-same x ts us same =
    let n = above_all ts + above_all us in
    value_is_sum n x ts (omega arith) ∙ sum-same n x (coef_at ts) (coef_at us) (λ v lt. same v) ∙ sym (value_is_sum n x us (omega arith))

-- the value of a sum
pub value-mixed : (k l : ℤ) (x : ℕ → ℤ) (ls rs ts : List (ℕ × ℤ)) → ((v : ℕ) → coef_at ts v ≡ k *ℤ coef_at ls v +ℤ l *ℤ coef_at rs v) → value_at x ts ≡ k *ℤ value_at x ls +ℤ l *ℤ value_at x rs
value-mixed k l x ls rs ts is =
    let n = above_all ls + above_all rs + above_all ts in
    let left = value_is_sum n x ls (omega arith) in
    let right = value_is_sum n x rs (omega arith) in
    value_is_sum n x ts (omega arith) ∙ sum-same n x (coef_at ts) (λ v. k *ℤ coef_at ls v +ℤ l *ℤ coef_at rs v) (λ v lt. is v) ∙ sum-mixed n x (coef_at ls) (coef_at rs) k l ∙ ap (λ z. k *ℤ z +ℤ l *ℤ sum_below n x (coef_at rs)) (sym left) ∙ ap (λ z. k *ℤ value_at x ls +ℤ l *ℤ z) (sym right)
