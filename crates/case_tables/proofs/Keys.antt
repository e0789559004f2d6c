-- What the search for a key that stands twice shows, and that the row of a key is all its rows.
use Rattle.std.proofs.Common.{◌≡◌, ◌≤◌, ◌<◌, ◌+◌, ℕ, Bool, true, false, cond, ◌||◌, nat_eq, nat_lt, List, [], ◌∷◌, Some, filter, find, count_by, Any, refl, sym, ap, ◌∙◌, arith}
use Rattle.std.specs.List.{list_any}
use Rattle.std.specs.Option.{option_to_list}
use Rattle.std.proofs.lemmas.Bool.{eqb-true, ltb-true, ltb-false, lt-ltb, true≢false}
use Rattle.std.proofs.lemmas.List.Folds.{Any-from_list_any}
use Rattle.std.proofs.lemmas.List.Sums.{sum_by-cons}
use Rattle.case_tables.specs.declared.row.CaseRow.{CaseRow}
use Rattle.case_tables.specs.Keys.{has_key, HasKeyTwice, HaveDistinctKeys}

-- how many pass, from the first element on
counted : {X : Type 0} (p : X → Bool) (x : X) (xs : List X) → count_by p (x ∷ xs) ≡ cond (p x) 1 0 + count_by p xs
counted p x xs = sum_by-cons (λ y. cond (p y) 1 0) x xs

at_most : (a b n : ℕ) → a ≡ b → a ≤ n → b ≤ n
at_most a b n same low = omega arith

at_least : (a b n : ℕ) → a ≡ b → n ≤ a → n ≤ b
at_least a b n same low = omega arith

-- where no element passes, none is kept
none-kept : {X : Type 0} (p : X → Bool) (xs : List X) → count_by p xs ≤ 0 → filter p xs ≡ []
none-kept p [] low = refl
none-kept {X} p (x ∷ xs) low = by (p x) (at_most _ _ 0 (counted p x xs) low) (none-kept p xs) where
  by : (b : Bool) → cond b 1 0 + count_by p xs ≤ 0 → (count_by p xs ≤ 0 → filter p xs ≡ []) → cond b (x ∷ filter p xs) (filter p xs) ≡ []
  by true low rest = absurd (omega arith)
  by false low rest = rest (omega arith)

-- where one element passes at most, the first that does is all that are kept
pub find-only : {X : Type 0} (p : X → Bool) (xs : List X) → count_by p xs ≤ 1 → option_to_list (find p xs) ≡ filter p xs
find-only p [] low = refl
find-only {X} p (x ∷ xs) low = by (p x) (at_most _ _ 1 (counted p x xs) low) (find-only p xs) where
  by : (b : Bool) → cond b 1 0 + count_by p xs ≤ 1 → (count_by p xs ≤ 1 → option_to_list (find p xs) ≡ filter p xs) → option_to_list (cond b (Some x) (find p xs)) ≡ cond b (x ∷ filter p xs) (filter p xs)
  by true low rest = ap (λ ys. x ∷ ys) (sym (none-kept p xs (omega arith)))
  by false low rest = rest (omega arith)

-- a test that every row with the key passes finds one, where there is one
finds : (p : CaseRow → Bool) (key : ℕ) (rows : List CaseRow) → 1 ≤ count_by (has_key key) rows → ((row : CaseRow) → nat_eq row.key key ≡ true → p row ≡ true) → list_any p rows ≡ true
finds p key [] low passes = absurd (omega arith)
finds p key (row ∷ rows) low passes = by (nat_eq row.key key) (p row) (at_least _ _ 1 (counted (has_key key) row rows) low) (passes row) (λ some. finds p key rows some passes) where
  by : (b c : Bool) → 1 ≤ cond b 1 0 + count_by (has_key key) rows → (b ≡ true → c ≡ true) → (1 ≤ count_by (has_key key) rows → list_any p rows ≡ true) → (c || list_any p rows) ≡ true
  by b true low here rest = refl
  by true false low here rest = absurd (true≢false (sym (here refl)))
  by false false low here rest = rest (omega arith)

-- some row has a key that stands twice, as the code tests it
abbrev is_twice : List CaseRow → Bool
is_twice rows = list_any (λ row. nat_lt 1 (count_by (has_key row.key) rows)) rows

pub twice-found : (rows : List CaseRow) → HasKeyTwice rows → is_twice rows ≡ true
twice-found rows twice = finds (λ row. nat_lt 1 (count_by (has_key row.key) rows)) twice.0 rows (above _ twice.1) (λ row same. by row.key (eqb-true row.key twice.0 same)) where
  by : (key : ℕ) → key ≡ twice.0 → nat_lt 1 (count_by (has_key key) rows) ≡ true
  by key same = rw same (lt-ltb 1 (count_by (has_key twice.0) rows) twice.1)

  above : (n : ℕ) → 1 < n → 1 ≤ n
  above n more = omega arith

pub found-twice : (rows : List CaseRow) → is_twice rows ≡ true → HasKeyTwice rows
found-twice rows found = by (Any-from_list_any (λ row. nat_lt 1 (count_by (has_key row.key) rows)) rows found) where
  by : Any (λ row. nat_lt 1 (count_by (has_key row.key) rows) ≡ true) rows → HasKeyTwice rows
  by (k, row, low, at, more) = (row.key, ltb-true 1 _ more)

pub not-twice : (rows : List CaseRow) → is_twice rows ≡ false → HaveDistinctKeys rows
not-twice rows none key = by (nat_lt 1 (count_by (has_key key) rows)) refl where
  by : (b : Bool) → nat_lt 1 (count_by (has_key key) rows) ≡ b → count_by (has_key key) rows ≤ 1
  by true more = absurd (true≢false (sym (twice-found rows (key, ltb-true 1 _ more)) ∙ none))
  by false most = ltb-false 1 _ most
