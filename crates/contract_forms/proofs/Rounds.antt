-- Rounds: where one more changes nothing, none does.
use Rattle.std.proofs.Common.{◌≡◌, refl, sym, ap, ◌∙◌, ◌≤◌, ◌+◌, ◌-◌, ℕ, zero, suc, Bool, true, false, List, [], ◌∷◌, map, arith}
use Rattle.std.specs.Cmp.Lexicographic.{pointwise}
use Rattle.std.proofs.Math.Bool.{beq}
use Rattle.contract_forms.specs.Pures.{calls_toward, reaching}

-- k rounds, and so many more
pub more : (rs : List (List ℕ)) (b k n : ℕ) → reaching rs b (suc k) ≡ reaching rs b k → reaching rs b (n + k) ≡ reaching rs b k
more rs b k zero same = let e : 0 + k ≡ k = omega arith in ap (reaching rs b) e
more rs b k (suc n) same = let e : suc n + k ≡ suc (n + k) = omega arith in ap (reaching rs b) e ∙ (ap (λ (reached : List Bool). map (calls_toward b reached) rs) (more rs b k n same) ∙ same)

settled : (rs : List (List ℕ)) (b k n : ℕ) (before next : List Bool) → k ≤ n → before ≡ reaching rs b k → next ≡ map (calls_toward b before) rs → next ≡ before → next ≡ reaching rs b n
settled rs b k n before next h e f same =
    let again : reaching rs b (suc k) ≡ reaching rs b k = sym (ap (λ (reached : List Bool). map (calls_toward b reached) rs) e) ∙ (sym f ∙ (same ∙ e)) in
    let counted : (n - k) + k ≡ n = omega (arith, h) in
    same ∙ (e ∙ (sym (more rs b k (n - k) again) ∙ ap (reaching rs b) counted))

-- what a test of two lists of marks has told
same_marks : (xs ys : List Bool) → true ≡ pointwise beq xs ys → xs ≡ ys
same_marks [] [] e = refl
same_marks [] (y ∷ ys) e = absurd (cc)
same_marks (x ∷ xs) [] e = absurd (cc)
same_marks (true ∷ xs) (true ∷ ys) e = ap (λ (t : List Bool). true ∷ t) (same_marks xs ys e)
same_marks (false ∷ xs) (false ∷ ys) e = ap (λ (t : List Bool). false ∷ t) (same_marks xs ys e)
same_marks (true ∷ xs) (false ∷ ys) e = absurd (cc)
same_marks (false ∷ xs) (true ∷ ys) e = absurd (cc)

-- the lists are seen by three views of them
pub enough : (rs : List (List ℕ)) (b k n : ℕ) (before next a x y : List Bool) → k ≤ n → before ≡ reaching rs b k → a ≡ before → next ≡ map (calls_toward b a) rs
    → x ≡ next → y ≡ before → true ≡ pointwise beq x y → next ≡ reaching rs b n
enough rs b k n before next a x y h e i f p q same =
    settled rs b k n before next h e (f ∙ ap (λ (reached : List Bool). map (calls_toward b reached) rs) i) (sym p ∙ (same_marks x y same ∙ q))
