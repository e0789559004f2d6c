-- What is read of a number is the longest front that is one, and its value.
use Rattle.std.proofs.Common.{ℕ, zero, suc, ◌≡◌, ◌≤◌, ◌+◌, ◌*◌, ◌-◌, ◌==◌, ◌&&◌, not, Bool, true, false, cond, arith, refl, sym, ap, ◌∙◌, subst, List, [], ◌∷◌, ◌++◌, length, take, drop, get_or, fold, filter}
use Rattle.std.proofs.lemmas.Bool.{eqb-true}
use Rattle.py_tokens.specs.TextPieces.{Longest}
use Rattle.py_tokens.specs.WordForms.{is_digit, begins_with_digit, are_more_digits}
use Rattle.py_lexer.specs.LongestForms.{AreMoreDigits}
use Rattle.py_lexer.proofs.LongestWord.{both}

begins_still : (cs ds : List ℕ) → begins_with_digit cs ≡ true → begins_with_digit (cs ++ ds) ≡ true
begins_still [] ds h = cc
begins_still (c ∷ cs) ds h = h

pub one_still : (b : Bool) (c : ℕ) (cs ds : List ℕ) → cond b (begins_with_digit cs) (is_digit c) ≡ true → cond b (begins_with_digit (cs ++ ds)) (is_digit c) ≡ true
one_still true c cs ds h = begins_still cs ds h
one_still false c cs ds h = h

pub both_are : (a b : Bool) → a ≡ true → b ≡ true → (a && b) ≡ true
both_are true b h k = k
both_are false b h k = cc

digits_append : (cs ds : List ℕ) → AreMoreDigits cs → AreMoreDigits ds → AreMoreDigits (cs ++ ds)
digits_append [] ds h k = k
digits_append (c ∷ cs) ds h k =
    let (first, more) : (cond (c == 95) (begins_with_digit cs) (is_digit c) ≡ true) × (are_more_digits cs ≡ true) = both (cond (c == 95) (begins_with_digit cs) (is_digit c)) (are_more_digits cs) h in
    both_are (cond (c == 95) (begins_with_digit (cs ++ ds)) (is_digit c)) (are_more_digits (cs ++ ds)) (one_still (c == 95) c cs ds first) (digits_append cs ds more k)

pub digits_behind : (cs ds : List ℕ) → AreMoreDigits (cs ++ ds) → AreMoreDigits ds
digits_behind [] ds h = h
digits_behind (c ∷ cs) ds h = digits_behind cs ds (both (cond (c == 95) (begins_with_digit (cs ++ ds)) (is_digit c)) (are_more_digits (cs ++ ds)) h).1

take_nothing : (n : ℕ) → take {A = ℕ} n [] ≡ []
take_nothing zero = refl
take_nothing (suc n) = refl

take_sum : (cs : List ℕ) (n k : ℕ) → take (n + k) cs ≡ take n cs ++ take k (drop n cs)
take_sum cs zero k = grind arith
take_sum [] (suc n) k = take_nothing (suc n + k) ∙ sym (take_nothing k)
take_sum (c ∷ cs) (suc n) k = let e : suc n + k ≡ suc (n + k) = omega arith in ap (λ m. take m (c ∷ cs)) e ∙ ap (λ x. c ∷ x) (take_sum cs n k)

pub digits_grow : (cs : List ℕ) (n k : ℕ) → AreMoreDigits (take n cs) → AreMoreDigits (take k (drop n cs)) → AreMoreDigits (take (n + k) cs)
digits_grow cs n k h i = subst AreMoreDigits (sym (take_sum cs n k)) (digits_append (take n cs) (take k (drop n cs)) h i)

pub digits_end : (cs : List ℕ) (n : ℕ) → AreMoreDigits (take n cs) → Longest AreMoreDigits [] (drop n cs) → Longest AreMoreDigits (take n cs) (drop n cs)
digits_end cs n h (_, stop) = (h, λ more behind e k. stop more behind e (digits_behind (take n cs) more k))

-- what the digits write behind a number
abbrev pub value_from : ℕ → List ℕ → ℕ
value_from n cs = fold (λ n c. n * 10 + (c - 48)) n (filter (λ c. not (c == 95)) cs)

grows_by : (b : Bool) (n c : ℕ) (cs : List ℕ) → (c == 95) ≡ b → n ≤ value_from n cs → n * 10 + (c - 48) ≤ value_from (n * 10 + (c - 48)) cs → n ≤ value_from n (c ∷ cs)
grows_by true n c cs h i k = rw h i
grows_by false n c cs h i k = rw h (omega arith)

pub value_grows : (n : ℕ) (cs : List ℕ) → n ≤ value_from n cs
value_grows n [] = omega arith
value_grows n (c ∷ cs) = grows_by (c == 95) n c cs refl (value_grows n cs) (value_grows (n * 10 + (c - 48)) cs)

above_by : (b : Bool) (v limit d : ℕ) (cs : List ℕ) → (d == 95) ≡ b → ¬ (d ≡ 95) → limit ≤ v * 10 + (d - 48) → limit ≤ value_from v (d ∷ cs)
above_by true v limit d cs h k l = absurd (k (eqb-true d 95 h))
above_by false v limit d cs h k l = let g = value_grows (v * 10 + (d - 48)) cs in rw h (omega arith)

pub value_above : (cs : List ℕ) (v total limit d : ℕ) → 1 ≤ length cs → d ≡ get_or cs 0 d → ¬ (d ≡ 95) → limit ≤ v * 10 + (d - 48) → value_from v cs ≡ total → limit ≤ total
value_above [] v total limit d w e h l k = absurd (omega arith)
value_above (c ∷ cs) v total limit d w e h l k = subst (λ (n : ℕ). limit ≤ n) k (subst (λ (x : ℕ). limit ≤ value_from v (x ∷ cs)) e (above_by (d == 95) v limit d cs refl h l))
