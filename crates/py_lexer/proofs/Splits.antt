-- One list with a member picked out in two ways.
use Rattle.std.proofs.Common.{◌≡◌, ◌⊎◌, inl, inr, List, [], ◌∷◌, ◌++◌, refl, ap}

-- x stands in front of y, is y, or stands behind it
abbrev pub Apart : {X : Type 0} → List X → X → List X → List X → X → List X → Type 0
Apart {X} a x b c y d = ((k : List X) × (c ≡ a ++ x ∷ k) × (b ≡ k ++ y ∷ d)) ⊎ (((a ≡ c) × (x ≡ y) × (b ≡ d)) ⊎ ((k : List X) × (a ≡ c ++ y ∷ k) × (d ≡ k ++ x ∷ b)))

apart_more : {X : Type 0} (h g : X) (a : List X) (x : X) (b c : List X) (y : X) (d : List X) → h ≡ g → Apart a x b c y d → Apart (h ∷ a) x b (g ∷ c) y d
apart_more h g a x b c y d e (inl (k, m, n)) = inl (k, cc, n)
apart_more h g a x b c y d e (inr (inl (m, n, o))) = inr (inl (cc, n, o))
apart_more h g a x b c y d e (inr (inr (k, m, n))) = inr (inr (k, cc, n))

pub apart : {X : Type 0} (a : List X) (x : X) (b c : List X) (y : X) (d : List X) → a ++ x ∷ b ≡ c ++ y ∷ d → Apart a x b c y d
apart [] x b [] y d e = inr (inl (refl, cc, cc))
apart [] x b (g ∷ c) y d e = inl (c, cc, cc)
apart (h ∷ a) x b [] y d e = inr (inr (a, cc, cc))
apart (h ∷ a) x b (g ∷ c) y d e = apart_more h g a x b c y d (cc) (apart a x b c y d (cc))

-- a list is empty, or has a last member
pub with_last : {X : Type 0} (xs : List X) → (xs ≡ []) ⊎ ((front : List X) × (last : X) × (xs ≡ front ++ last ∷ []))
with_last [] = inl refl
with_last (x ∷ xs) = inr (grows x xs (with_last xs))
  where
    grows : {X : Type 0} (x : X) (xs : List X) → (xs ≡ []) ⊎ ((front : List X) × (last : X) × (xs ≡ front ++ last ∷ [])) → (front : List X) × (last : X) × (x ∷ xs ≡ front ++ last ∷ [])
    grows x xs (inl e) = ([], x, ap (λ r. x ∷ r) e)
    grows x xs (inr (front, last, e)) = (x ∷ front, last, ap (λ r. x ∷ r) e)
