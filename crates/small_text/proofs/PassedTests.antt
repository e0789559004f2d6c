-- Tests that are passed together, by one number and by each of a list.
use Rattle.std.specs.Prelude.{nat_le}
use Rattle.std.specs.List.{list_all}
use Rattle.std.proofs.Common.{ℕ, ◌≡◌, ◌≤◌, ◌&&◌, Bool, true, arith, tests, refl, ◌∙◌, List, [], ◌∷◌, ◌++◌}
use Rattle.std.proofs.lemmas.Bool.{and_parts, and_from}
use Rattle.std.proofs.lemmas.List.Folds.{list_all-append}

pub three : (a b c : Bool) → (a && b && c) ≡ true → (a ≡ true) × (b ≡ true) × (c ≡ true)
three a b c h =
    let (front, last) = and_parts (a && b) c h in
    let (first, second) = and_parts a b front in
    (first, second, last)

pub four : (a b c d : Bool) → (a && b && c && d) ≡ true → (a ≡ true) × (b ≡ true) × (c ≡ true) × (d ≡ true)
four a b c d h =
    let (front, last) = and_parts (a && b && c) d h in
    let (first, second, third) = three a b c front in
    (first, second, third, last)

pub all_append : (p : ℕ → Bool) (xs ys : List ℕ) → list_all p xs ≡ true → list_all p ys ≡ true → list_all p (xs ++ ys) ≡ true
all_append p xs ys h k = list_all-append p xs ys ∙ and_from (list_all p xs) (list_all p ys) h k

-- what passes one test passes another
pub all_weaker : (p q : ℕ → Bool) → ((x : ℕ) → p x ≡ true → q x ≡ true) → (xs : List ℕ) → list_all p xs ≡ true → list_all q xs ≡ true
all_weaker p q w [] h = refl
all_weaker p q w (x ∷ xs) h =
    let (first, more) = and_parts (p x) (list_all p xs) h in
    and_from (q x) (list_all q xs) (w x first) (all_weaker p q w xs more)

pub bounds : (low high c : ℕ) → (nat_le low c && nat_le c high) ≡ true → (low ≤ c) × (c ≤ high)
bounds low high c h =
    let (from, to) = and_parts (nat_le low c) (nat_le c high) h in
    (omega (arith, tests, from), omega (arith, tests, to))
