-- Laws of the numbers on the way to a room.
use Rattle.std.specs.Prelude.{◌≡◌, ℕ, ◌≤◌, ◌<◌, ℤ, ◌+ℤ◌, ◌-ℤ◌, ◌*ℤ◌, List, [], ◌∷◌, ◌++◌, map, Any, Contains, refl}
use Rattle.std.proofs.Common.{sym, ap, ◌∙◌, subst, arith, inl, inr}
use Rattle.std.proofs.lemmas.Int.{ints}
use Rattle.std.proofs.lemmas.List.Elements.{Contains-append_left, Contains-append_right, Contains-append_cases}
use Rattle.lin_rows.specs.Terms.{value_at}
use Rattle.lin_rows.specs.WidePoints.{rests_of}
use Rattle.lin_solver.proofs.RoomLemmas.{after, after_more, after_less}

-- the products of the terms after `v` and what is left of a number as they are taken away
abbrev pub products_of : ℕ → List (ℕ × ℤ) → (ℕ → ℤ) → List ℤ
products_of v ts x = map (λ t. t.1 *ℤ x t.0) (after v ts)

abbrev pub numbers_from : ℤ → ℕ → List (ℕ × ℤ) → (ℕ → ℤ) → List ℤ
numbers_from z v ts x = products_of v ts x ++ rests_of z (products_of v ts x)

any_of : (P : ℤ → Type 0) (xs : List ℤ) (z : ℤ) → Contains xs z → P z → Any P xs
any_of P xs z (k, lt, e) p = (k, z, lt, e, p)

any_by : {Q : Type 0} (P : ℤ → Type 0) (xs : List ℤ) → Any P xs → ((z : ℤ) → Contains xs z → P z → Q) → Q
any_by {Q} P xs (k, z, lt, e, p) f = f z (k, lt, e) p

contains_head : (x : ℤ) (xs : List ℤ) → Contains (x ∷ xs) x
contains_head x xs = Contains-append_left (x ∷ []) xs x (0, omega arith, refl)

contains_tail : (x y : ℤ) (xs : List ℤ) → Contains xs y → Contains (x ∷ xs) y
contains_tail x y xs h = Contains-append_right (x ∷ []) xs y h

-- the first of the rests is the number itself
first_rest : (z : ℤ) (ys : List ℤ) → Contains (rests_of z ys) z
first_rest z [] = contains_head z []
first_rest z (y ∷ ys) = contains_head z (rests_of (z -ℤ y) ys)

pub wide_start : (P : ℤ → Type 0) (z : ℤ) (v : ℕ) (ts : List (ℕ × ℤ)) (x : ℕ → ℤ) → P z → Any P (numbers_from z v ts x)
wide_start P z v ts x p =
    any_of P (numbers_from z v ts x) z (Contains-append_right (products_of v ts x) (rests_of z (products_of v ts x)) z (first_rest z (products_of v ts x))) p

-- numbers after one more product
pub wide_later : (P : ℤ → Type 0) (z : ℤ) (v : ℕ) (rest ts : List (ℕ × ℤ)) (t : ℕ × ℤ) (x : ℕ → ℤ) → rest ≡ t ∷ ts → v < t.0 → Any P (numbers_from (z -ℤ t.1 *ℤ x t.0) v ts x) → Any P (numbers_from z v rest x)
wide_later P z v rest ts t x is lt any =
    let y : ℤ = t.1 *ℤ x t.0 in
    let ys : List ℤ = products_of v ts x in
    let same : products_of v rest x ≡ y ∷ ys = ap (λ us. products_of v us x) is ∙ ap (map (λ u. u.1 *ℤ x u.0)) (after_more v t ts lt) in
    subst (λ us. Any P (us ++ rests_of z us)) (sym same) (any_by P (numbers_from (z -ℤ y) v ts x) any (λ w there p. any_of P ((y ∷ ys) ++ rests_of z (y ∷ ys)) w (elim (Contains-append_cases ys (rests_of (z -ℤ y) ys) w there) [
      | inl h ↦ Contains-append_left (y ∷ ys) (rests_of z (y ∷ ys)) w (contains_tail y w ys h)
      | inr h ↦ Contains-append_right (y ∷ ys) (rests_of z (y ∷ ys)) w (contains_tail z w (rests_of (z -ℤ y) ys) h)
    ]) p))

-- the product itself
pub wide_product : (P : ℤ → Type 0) (z : ℤ) (v : ℕ) (rest ts : List (ℕ × ℤ)) (t : ℕ × ℤ) (x : ℕ → ℤ) → rest ≡ t ∷ ts → v < t.0 → P (t.1 *ℤ x t.0) → Any P (numbers_from z v rest x)
wide_product P z v rest ts t x is lt p =
    let y : ℤ = t.1 *ℤ x t.0 in
    let ys : List ℤ = products_of v ts x in
    let same : products_of v rest x ≡ y ∷ ys = ap (λ us. products_of v us x) is ∙ ap (map (λ u. u.1 *ℤ x u.0)) (after_more v t ts lt) in
    subst (λ us. Any P (us ++ rests_of z us)) (sym same) (any_of P ((y ∷ ys) ++ rests_of z (y ∷ ys)) y (Contains-append_left (y ∷ ys) (rests_of z (y ∷ ys)) y (contains_head y ys)) p)

-- a term that isn't after `v` changes nothing
pub numbers_skip : (z : ℤ) (v : ℕ) (rest ts : List (ℕ × ℤ)) (t : ℕ × ℤ) (x : ℕ → ℤ) → rest ≡ t ∷ ts → t.0 ≤ v → numbers_from z v rest x ≡ numbers_from z v ts x
numbers_skip z v rest ts t x is le =
    let same : products_of v rest x ≡ products_of v ts x = ap (λ us. products_of v us x) is ∙ ap (map (λ u. u.1 *ℤ x u.0)) (after_less v t ts le) in
    ap (λ us. us ++ rests_of z us) same

-- what is left after one more product, and after a term that isn't after `v`
pub rest_more : (z w : ℤ) (v : ℕ) (rest ts : List (ℕ × ℤ)) (t : ℕ × ℤ) (x : ℕ → ℤ) → rest ≡ t ∷ ts → v < t.0 → z -ℤ value_at x (after v rest) ≡ w → (z -ℤ t.1 *ℤ x t.0) -ℤ value_at x (after v ts) ≡ w
rest_more z w v rest ts t x is lt e =
    apart z (value_at x (after v rest)) (t.1 *ℤ x t.0) (value_at x (after v ts)) w (ap (λ us. value_at x (after v us)) is ∙ ap (value_at x) (after_more v t ts lt)) e
  where
    apart : (z a b c w : ℤ) → a ≡ b +ℤ c → z -ℤ a ≡ w → (z -ℤ b) -ℤ c ≡ w
    apart z a b c w e f = omega (arith, ints)

pub rest_skip : (z w : ℤ) (v : ℕ) (rest ts : List (ℕ × ℤ)) (t : ℕ × ℤ) (x : ℕ → ℤ) → rest ≡ t ∷ ts → t.0 ≤ v → z -ℤ value_at x (after v rest) ≡ w → z -ℤ value_at x (after v ts) ≡ w
rest_skip z w v rest ts t x is le e =
    ap (λ a. z -ℤ a) (sym (ap (λ us. value_at x (after v us)) is ∙ ap (value_at x) (after_less v t ts le))) ∙ e
