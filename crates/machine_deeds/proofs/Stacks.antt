-- A list whose first members give way to others.
use Rattle.std.proofs.Common.{◌≡◌, ◌≤◌, ◌<◌, ◌+◌, ◌-◌, ℕ, zero, suc, List, [], ◌∷◌, ◌++◌, length, drop, set, replicate, refl, ap, sym, ◌∙◌, arith}
use Rattle.std.proofs.lemmas.List.{append_assoc, drop_all, drop-drop, length-drop, length-replicate}
use Rattle.std.proofs.Math.Nat.{add_comm}
use Rattle.std.proofs.Math.Seq.{drop-append_seam, set-append_seam}

-- members that take the places of those from a depth on, one by one
abbrev pub placed : {X : Type 0} → List X → ℕ → List X → List X
placed [] depth st = st
placed (x ∷ xs) depth st = placed xs (suc depth) (set st depth x)

placed_below : {X : Type 0} (front xs st : List X) → length xs ≤ length st → placed xs (length front) (front ++ st) ≡ front ++ (xs ++ drop (length xs) st)
placed_below front [] st fits = refl
placed_below front (x ∷ xs) [] fits = absurd (omega arith)
placed_below {X} front (x ∷ xs) (y ∷ st) fits =
    let next : List X = front ++ x ∷ [] in
    let long : suc (length front) ≡ length next = one_longer front x in
    let same : front ++ x ∷ st ≡ next ++ st = sym (append_assoc front (x ∷ []) st) in
    ap (placed xs (suc (length front))) (set-append_seam front y st x ∙ same)
    ∙ ap (λ k. placed xs k (next ++ st)) long
    ∙ placed_below next xs st (omega arith)
    ∙ append_assoc front (x ∷ []) (xs ++ drop (length xs) st)
  where
    one_longer : {X : Type 0} (front : List X) (x : X) → suc (length front) ≡ length (front ++ x ∷ [])
    one_longer [] x = refl
    one_longer (y ∷ ys) x = ap suc (one_longer ys x)

pub all_placed : {X : Type 0} (xs st : List X) → length xs ≤ length st → placed xs 0 st ≡ xs ++ drop (length xs) st
all_placed xs st fits = placed_below [] xs st fits

pub one_more : {X : Type 0} (n : ℕ) (x : X) (xs : List X) → x ∷ (replicate n x ++ xs) ≡ replicate (n + 1) x ++ xs
one_more n x xs = let more : n + 1 ≡ suc n = omega arith in ap (λ k. replicate k x ++ xs) (sym more)

drop_by : {X : Type 0} (xs ys : List X) (n : ℕ) → length xs ≡ n → drop n (xs ++ ys) ≡ ys
drop_by xs ys n long = ap (λ k. drop k (xs ++ ys)) (sym long) ∙ drop-append_seam xs ys

pub filled_away : {X : Type 0} (n : ℕ) (x : X) (xs : List X) → drop n (replicate n x ++ xs) ≡ xs
filled_away n x xs = drop_by (replicate n x) xs n (length-replicate n x)

pub filled_long : {X : Type 0} (n : ℕ) (x : X) (xs : List X) → n ≤ length (replicate n x ++ xs)
filled_long zero x xs = omega arith
filled_long (suc n) x xs = let more : n ≤ length (replicate n x ++ xs) = filled_long n x xs in omega arith

-- dropping no more than stands below the first k members is dropping there
pub dropped_below : {X : Type 0} (k n : ℕ) (xs : List X) → n < length xs - k → drop k (drop n xs) ≡ drop n (drop k xs)
dropped_below k n xs less = drop-drop k n xs ∙ ap (λ j. drop j xs) (add_comm n k) ∙ sym (drop-drop n k xs)

pub all_below : {X : Type 0} (k n : ℕ) (xs : List X) → length xs - k ≤ n → drop k (drop (length xs - k) xs) ≡ drop n (drop k xs)
all_below k n xs more =
    drop-drop k (length xs - k) xs
    ∙ drop_all (length xs - k + k) xs (omega arith)
    ∙ sym (drop_all (k + n) xs (omega arith))
    ∙ sym (drop-drop n k xs)

pub room_left : {X : Type 0} (k n : ℕ) (xs : List X) → k ≤ length xs → n ≤ length xs - k → k ≤ length (drop n xs)
room_left k n xs fits less = omega (arith, length-drop n xs)

pub none_left : {X : Type 0} (xs st : List X) (depth : ℕ) → length xs ≡ 0 → st ≡ placed xs depth st
none_left [] st depth none = refl
none_left (x ∷ xs) st depth none = absurd (omega (arith, none))
