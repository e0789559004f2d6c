-- Members of a stack by their depth.
use Rattle.std.proofs.Common.{◌≡◌, ◌+◌, ℕ, zero, suc, List, [], ◌∷◌, drop, Some, None, refl, ap, ◌∙◌, arith, slice_get}

there : {X : Type 0} (xs : List X) (depth : ℕ) (x : X) → slice_get xs depth ≡ Some x → drop depth xs ≡ x ∷ drop (suc depth) xs
there [] depth x found = cc
there (y ∷ ys) zero x found = cc
there (y ∷ ys) (suc depth) x found = there ys depth x found

pub drop_there : {X : Type 0} (xs : List X) (depth : ℕ) (x : X) → slice_get xs depth ≡ Some x → drop depth xs ≡ x ∷ drop (depth + 1) xs
drop_there xs depth x found =
    let next : suc depth ≡ depth + 1 = omega arith in
    there xs depth x found ∙ ap (λ k. x ∷ drop k xs) next

pub drop_past : {X : Type 0} (xs : List X) (depth : ℕ) → slice_get xs depth ≡ None → drop depth xs ≡ []
drop_past [] zero past = refl
drop_past [] (suc depth) past = refl
drop_past (y ∷ ys) zero past = cc
drop_past (y ∷ ys) (suc depth) past = drop_past ys depth past
