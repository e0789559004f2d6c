-- Members of a list that is seen the other way round.
use Rattle.std.proofs.Common.{◌≡◌, ◌<◌, ◌≤◌, ◌-◌, ℕ, zero, suc, List, [], ◌∷◌, ◌++◌, length, reverse, take, drop, set, get_or, min, Some, None, refl, ap, sym, ◌∙◌, arith, slice_get}
use Rattle.std.proofs.lemmas.Bool.{cases_eq}
use Rattle.std.proofs.lemmas.List.{get_or-reverse, length-reverse, reverse-append, take-append-drop, drop_at, drop_all, drop_min, length-drop, length-set, get_or-set_same, get_or-set_other, same_lists}
use Rattle.std.proofs.lemmas.Option.{slice_get-get_or, slice_get_past}

pub length_reverse : {X : Type 0} (xs : List X) → length (reverse xs) ≡ length xs
length_reverse xs = length-reverse xs

pub get_reverse : {X : Type 0} (xs : List X) (depth : ℕ) (d : X) → depth < length xs → slice_get (reverse xs) depth ≡ Some (get_or xs (length xs - 1 - depth) d)
get_reverse xs depth d within =
    let inside : depth < length (reverse xs) = omega (arith, length-reverse xs) in
    slice_get-get_or (reverse xs) depth d inside ∙ ap (λ x. Some x) (get_or-reverse xs depth d within)

pub past_reverse : {X : Type 0} (xs : List X) (depth : ℕ) → length xs ≤ depth → slice_get (reverse xs) depth ≡ None
past_reverse xs depth past = slice_get_past (reverse xs) depth (omega (arith, length-reverse xs))

reverse_parts : {X : Type 0} (xs : List X) (k : ℕ) → reverse (drop k xs) ++ reverse (take k xs) ≡ reverse xs
reverse_parts xs k = sym (reverse-append (take k xs) (drop k xs)) ∙ ap reverse (take-append-drop k xs)

pub drop_reverse : {X : Type 0} (xs : List X) (count : ℕ) → reverse (take (length xs - count) xs) ≡ drop count (reverse xs)
drop_reverse xs count =
    let k : ℕ = length xs - count in
    let most : ℕ = min count (length xs) in
    let dropped : length (reverse (drop k xs)) ≡ most = omega (arith, length-reverse (drop k xs), length-drop k xs) in
    sym (drop_at (reverse (drop k xs)) (reverse (take k xs)) most dropped)
    ∙ ap (drop most) (reverse_parts xs k)
    ∙ ap (λ n. drop (min count n) (reverse xs)) (sym (length-reverse xs))
    ∙ drop_min count (reverse xs)

set_there : {X : Type 0} (xs : List X) (depth : ℕ) (x : X) (k : ℕ) (d : X) → depth < length xs → k < length xs
    → get_or (set xs (length xs - 1 - depth) x) (length xs - 1 - k) d ≡ get_or (set (reverse xs) depth x) k d
set_there {X} xs depth x k d within inside = grind (arith, cases_eq k depth, length-reverse xs, get_or-set_same {A = X}, get_or-set_other {A = X}, get_or-reverse xs k d)

pub set_reverse : {X : Type 0} (xs : List X) (depth : ℕ) (x : X) → depth < length xs → reverse (set xs (length xs - 1 - depth) x) ≡ set (reverse xs) depth x
set_reverse {X} xs depth x within =
    let written : List X = set xs (length xs - 1 - depth) x in
    let long : length written ≡ length xs = length-set xs (length xs - 1 - depth) x in
    let same : length (reverse written) ≡ length (set (reverse xs) depth x) = length-reverse written ∙ long ∙ sym (length-reverse xs) ∙ sym (length-set (reverse xs) depth x) in
    same_lists (reverse written) (set (reverse xs) depth x) same (λ k d inside.
    let here : k < length written = omega (arith, length-reverse written) in
    get_or-reverse written k d here
    ∙ ap (λ n. get_or written (n - 1 - k) d) long
    ∙ set_there xs depth x k d within (omega arith))

set_front : {X : Type 0} (xs : List X) (n : ℕ) (x : X) → n < length xs → set (drop n xs) 0 x ≡ x ∷ drop (suc n) xs
set_front [] n x within = absurd (omega arith)
set_front (y ∷ ys) zero x within = refl
set_front (y ∷ ys) (suc n) x within = set_front ys n x (omega arith)

pub set_dropped : {X : Type 0} (xs : List X) (count : ℕ) (x : X) → 0 < count → count ≤ length xs → set (drop (count - 1) xs) 0 x ≡ x ∷ drop count xs
set_dropped xs count x more most =
    let next : suc (count - 1) ≡ count = omega arith in
    set_front xs (count - 1) x (omega arith) ∙ ap (λ k. x ∷ drop k xs) next

pub nothing_dropped : {X : Type 0} (xs : List X) (count : ℕ) → length xs ≡ 0 → drop count xs ≡ xs
nothing_dropped [] zero none = refl
nothing_dropped [] (suc n) none = refl
nothing_dropped (y ∷ ys) count none = absurd (omega (arith, none))

pub all_dropped : {X : Type 0} (xs : List X) (count : ℕ) → length xs ≤ count → drop (length xs) xs ≡ drop count xs
all_dropped xs count all = drop_all (length xs) xs (omega arith) ∙ sym (drop_all count xs all)
