-- Rows of assumptions, read one assumption after another.
use Rattle.std.specs.Prelude.{◌≡◌, ℕ, zero, suc, ◌+◌, ◌*◌, ◌<◌, Bool, true, false, ◌&&◌, List, [], ◌∷◌, ◌++◌, length, take, get_or, Option, Some, None}
use Rattle.std.proofs.Common.{refl, ap, sym, subst, ◌∙◌, arith}
use Rattle.std.proofs.lemmas.List.{take_more}
use Rattle.lin_rows.specs.declared.Row.{Row}
use Rattle.terms.specs.declared.Term.{Term}
use Rattle.terms.specs.declared.Literal.{Literal}
use Rattle.terms.specs.declared.Literal.TheVariants as lit
use Rattle.terms.specs.Sorts.{of_numbers}
use Rattle.proof_checker.specs.Rows.{IsRowIf, AreRows, AreAllRows}
use Rattle.cond_facts.specs.FactRows.{IsThereIf, AreThere, AreAllThere, present, places, AreRead}

-- rows that are there are those that the checker gives
row_if_there : (t : Bool) (a b : Term) (r : Option Row) → IsThereIf t a b r → IsRowIf t a b r
row_if_there true a b (Some r) is = is
row_if_there true a b None is = absurd is
row_if_there false a b r is = is

rows_there : (l : Literal) (r s : Option Row) → AreThere l r s → AreRows l r s
rows_there (lit.AtMost a b) r s is = (row_if_there (of_numbers a && of_numbers b) a b r is.0, is.1)
rows_there (lit.Same a b) r s is = (row_if_there (of_numbers a && of_numbers b) a b r is.0, row_if_there (of_numbers a && of_numbers b) b a s is.1)
rows_there (lit.Apart a b) r s is = is
rows_there (lit.Flag n held) r s is = is

pub all_rows_there : (fs : List Literal) (all : List (Option Row)) → AreAllThere fs all → AreAllRows fs all
all_rows_there [] [] are = tt
all_rows_there [] (x ∷ all) are = absurd are
all_rows_there (l ∷ fs) [] are = absurd are
all_rows_there (l ∷ fs) (x ∷ []) are = absurd are
all_rows_there (l ∷ fs) (x ∷ y ∷ all) are = (rows_there l x y are.0, all_rows_there fs all are.1)

-- each assumption has two numbers
pub all_length : (fs : List Literal) (all : List (Option Row)) → AreAllThere fs all → length all ≡ 2 * length fs
all_length [] [] are = refl
all_length [] (x ∷ all) are = absurd are
all_length (l ∷ fs) [] are = absurd are
all_length (l ∷ fs) (x ∷ []) are = absurd are
all_length (l ∷ fs) (x ∷ y ∷ all) are = let e = all_length fs all are.1 in omega (arith, e)

there_more : (fs : List Literal) (all : List (Option Row)) (l : Literal) (r s : Option Row) → AreAllThere fs all → AreThere l r s → AreAllThere (fs ++ l ∷ []) (all ++ r ∷ s ∷ [])
there_more [] [] l r s are is = (is, tt)
there_more [] (x ∷ all) l r s are is = absurd are
there_more (k ∷ fs) [] l r s are is = absurd are
there_more (k ∷ fs) (x ∷ []) l r s are is = absurd are
there_more (k ∷ fs) (x ∷ y ∷ all) l r s are is = (are.0, there_more fs all l r s are.1 is)

pub present-append : (xs ys : List (Option Row)) → present (xs ++ ys) ≡ present xs ++ present ys
present-append [] ys = refl
present-append (Some r ∷ xs) ys = ap (λ rs. r ∷ rs) (present-append xs ys)
present-append (None ∷ xs) ys = present-append xs ys

pub places-append : (n : ℕ) (xs ys : List (Option Row)) → places n (xs ++ ys) ≡ places n xs ++ places (n + length xs) ys
places-append n [] ys = ap (λ m. places m ys) (none n)
  where
    none : (n : ℕ) → n ≡ n + 0
    none n = omega arith
places-append n (Some r ∷ xs) ys =
    ap (λ ns. n ∷ ns) (places-append (n + 1) xs ys ∙ ap (λ m. places (n + 1) xs ++ places m ys) (next n (length xs)))
  where
    next : (n k : ℕ) → n + 1 + k ≡ n + suc k
    next n k = omega arith
places-append n (None ∷ xs) ys =
    places-append (n + 1) xs ys ∙ ap (λ m. places (n + 1) xs ++ places m ys) (next n (length xs))
  where
    next : (n k : ℕ) → n + 1 + k ≡ n + suc k
    next n k = omega arith

abbrev two : Option Row → Option Row → List (Option Row)
two r s = r ∷ s ∷ []

-- before the first nothing is read
pub read_none : AreRead [] [] []
read_none = record { all = []; are = tt; rows_are = refl; numbers_are = refl }

pub read_next : (fs : List Literal) (l : Literal) (rows more : List Row) (numbers places_ : List ℕ) (r s : Option Row) (n : ℕ) → AreRead fs rows numbers → n ≡ 2 * length fs → AreThere l r s → more ≡ rows ++ present (two r s) → places_ ≡ numbers ++ places n (two r s) → AreRead (fs ++ l ∷ []) more places_
read_next fs l rows more numbers places_ r s n is at there e f = record {
  all = is.all ++ two r s;
  are = there_more fs is.all l r s is.are there;
  rows_are = e ∙ ap (λ z. z ++ present (two r s)) is.rows_are ∙ sym (present-append is.all (two r s));
  numbers_are = f ∙ ap (λ z. z ++ places n (two r s)) is.numbers_are ∙ ap (λ m. places 0 is.all ++ places m (two r s)) (at ∙ sym (all_length fs is.all is.are)) ∙ sym (places-append 0 is.all (two r s) ∙ ap (λ m. places 0 is.all ++ places m (two r s)) (from_none (length is.all)));
}
  where
    from_none : (k : ℕ) → 0 + k ≡ k
    from_none k = omega arith

-- the same for the assumptions up to a place
pub read_more : (fs : List Literal) (i : ℕ) (d : Literal) (rows more : List Row) (numbers places_ : List ℕ) (r s : Option Row) (n : ℕ) → i < length fs → AreRead (take i fs) rows numbers → AreThere (get_or fs i d) r s → more ≡ rows ++ present (two r s) → places_ ≡ numbers ++ places n (two r s) → n ≡ 2 * i → AreRead (take (i + 1) fs) more places_
read_more fs i d rows more numbers places_ r s n lt is there e f at =
    subst (λ ls. AreRead ls more places_) (sym (take_more fs i d lt)) (read_next (take i fs) (get_or fs i d) rows more numbers places_ r s n is (at ∙ ap (λ m. 2 * m) (sym (taken fs i lt))) there e f)
  where
    taken : (ls : List Literal) (i : ℕ) → i < length ls → length (take i ls) ≡ i
    taken [] i lt = absurd (omega arith)
    taken (l ∷ ls) zero lt = refl
    taken (l ∷ ls) (suc i) lt = ap suc (taken ls i (omega arith))
