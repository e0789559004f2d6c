-- A list, its first member and the others.
use Rattle.std.specs.Prelude.{◌≡◌, ℕ, ◌-◌, ◌<◌, ◌≤◌, List, [], ◌∷◌, length, take, drop, slice_index_or}
use Rattle.std.proofs.Common.{refl, ap, sym, ◌∙◌, arith}

pub take_all : {X : Type 0} (xs : List X) (n : ℕ) → n ≡ length xs → take n xs ≡ xs
take_all [] n e = ap (λ (k : ℕ). take k []) e
take_all (x ∷ xs) n e = ap (λ (k : ℕ). take k (x ∷ xs)) e ∙ ap (λ ys. x ∷ ys) (take_all xs (length xs) refl)

pub front : {X : Type 0} (d : X) (xs : List X) → 1 ≤ length xs → xs ≡ slice_index_or xs 0 d ∷ take (length xs - 1) (drop 1 xs)
front d [] h = absurd (omega arith)
front d (x ∷ xs) h = ap (λ ys. x ∷ ys) (sym (take_all xs (length (x ∷ xs) - 1) (omega arith)))

pub none_there : {X : Type 0} (xs : List X) → length xs < 1 → xs ≡ []
none_there [] h = refl
none_there (x ∷ xs) h = absurd (omega arith)

pub front_is : {X : Type 0} (x : X) (xs : List X) → 1 ≤ length xs → x ≡ slice_index_or xs 0 x → xs ≡ x ∷ take (length xs - 1) (drop 1 xs)
front_is x xs h is = front x xs h ∙ ap (λ y. y ∷ take (length xs - 1) (drop 1 xs)) (sym is)
