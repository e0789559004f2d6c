-- A number of at most eighteen digits fits 64 bits, and is what `decimal` writes.
use Rattle.std.proofs.Common.{ℕ, ◌≡◌, ◌<◌, ◌≤◌, ◌+◌, ◌*◌, ◌^◌, ◌-◌, List, [], ◌∷◌, length, get_or, take, Bool, true, false, cond, Option, Some, None, refl, sym, ap, subst, ◌∙◌, arith, rules, lit<, fold, ◌==◌, suc, zero}
use Rattle.std.specs.List.{list_all}
use Rattle.std.proofs.Math.Nat.{pow-le-pow_right}
use Rattle.std.proofs.lemmas.List.Folds.{list_all_at}
use Rattle.std.proofs.lemmas.List.Sums.{fold_more}
use Rattle.std.proofs.lemmas.Option.{cond_some, none-some}
use Rattle.std.proofs.lemmas.Grind.{common_steps}
use Rattle.std.proofs.lemmas.Str.Parse.{IsNumeralModel, IsDigitsTest, numerals_by_fold, digits_value_short}
use Rattle.std.proofs.lemmas.Fmt.{digits_decimal, digits_value-decimal, decimal-digits_value, decimal_digit, decimal_nonempty, length-decimal-le, first_decimal}
use Rattle.std.specs.Fmt.{decimal}
use Rattle.schedule_runner.specs.ScheduleText.{IsNumber, IsCount}
use Rattle.schedule_runner.specs.Reading.{◌>>=◌, is_number, is_digit, number_value, number_of, count_of}

pub number_length : (bytes : List ℕ) → is_number bytes ≡ true → length bytes ≤ 18
unfolding is_number
number_length bytes is = grind (arith, common_steps)

pub number_digits : (bytes : List ℕ) (i : ℕ) → is_number bytes ≡ true → i < length bytes → (48 ≤ get_or bytes i 0) × (get_or bytes i 0 ≤ 57)
unfolding is_number
number_digits bytes i is within = (grind (arith, common_steps, list_all_at is_digit bytes i 0 within), grind (arith, common_steps, list_all_at is_digit bytes i 0 within))

pub room : (bytes : List ℕ) (n i : ℕ) → is_number bytes ≡ true → i < length bytes → n < 10 ^ i → n * 10 + 10 ≤ 10 ^ 18
room bytes n i is within small =
    let le : i ≤ 17 = omega (arith, number_length bytes is) in
    let most : 10 ^ i ≤ 10 ^ 17 = pow-le-pow_right (omega arith) le in
    omega arith

pub value_more : (bytes : List ℕ) (i : ℕ) → i < length bytes → number_value (take (i + 1) bytes) ≡ number_value (take i bytes) * 10 + (get_or bytes i 0 - 48)
unfolding number_value
value_more bytes i within = fold_more (λ n b. n * 10 + (b - 48)) 0 bytes i 0 within

abbrev pub AreDigits : List ℕ → Type 0
AreDigits ds = list_all is_digit ds ≡ true

digits_test : IsDigitsTest AreDigits
digits_test = search rules

own : IsNumeralModel AreDigits number_value
unfolding number_value
own = numerals_by_fold AreDigits digits_test (fold (λ n b. n * 10 + (b - 48))) (search rules)

is_number_from : (bytes : List ℕ) → AreDigits bytes → 0 < length bytes → length bytes ≤ 18 → (get_or bytes 0 0 ≡ 48 → length bytes ≡ 1) → is_number bytes ≡ true
unfolding is_number
is_number_from bytes digits some few lone = grind (arith, common_steps)

lone_zero : (n : ℕ) → n < 2 ^ 64 → get_or (decimal n) 0 0 ≡ 48 → length (decimal n) ≡ 1
lone_zero zero small e = ap length (decimal_digit 0 (lit< tt))
lone_zero (suc n) small e = let no : ⊥ = omega (arith, first_decimal (suc n) (omega arith) small, e) in absurd no

pub number_is : (bytes : List ℕ) (n : ℕ) → IsNumber bytes n → number_of bytes ≡ Some n
unfolding number_of
number_is bytes n is =
    let small : n < 2 ^ 64 = omega (arith, is.short) in
    let tested : is_number (decimal n) ≡ true = is_number_from (decimal n) (digits_decimal own n small) (decimal_nonempty n small) (length-decimal-le 18 n (omega arith) is.short small) (lone_zero n small) in
    let value : number_value (decimal n) ≡ n = digits_value-decimal own n small in
    ap number_of is.written ∙ ap (λ t. cond t (Some (number_value (decimal n))) None) tested ∙ ap (λ v. Some v) value

number_test : (bytes : List ℕ) (n : ℕ) → IsNumber bytes n → is_number bytes ≡ true
unfolding number_of
number_test bytes n is = (cond_some (is_number bytes) (number_value bytes) n (number_is bytes n is)).0

parts_of : (bytes : List ℕ) → is_number bytes ≡ true → AreDigits bytes × (0 < length bytes) × (get_or bytes 0 0 ≡ 48 → length bytes ≡ 1)
unfolding is_number
parts_of bytes is = (grind (arith, common_steps), grind (arith, common_steps), λ e. grind (arith, common_steps, e))

pub number_found : (bytes : List ℕ) (n : ℕ) → number_of bytes ≡ Some n → IsNumber bytes n
unfolding number_of
number_found bytes n e =
    let g = cond_some (is_number bytes) (number_value bytes) n e in
    let parts = parts_of bytes g.0 in
    let short : number_value bytes < 10 ^ 18 = digits_value_short own bytes 18 parts.0 (number_length bytes g.0) in
    let written : decimal (number_value bytes) ≡ bytes = decimal-digits_value own bytes parts.0 parts.1 parts.2 (omega (arith, short)) in
    record { written = subst (λ v. bytes ≡ decimal v) g.1 (sym written); short = subst (λ v. v < 10 ^ 18) g.1 short }

some_count : (k : ℕ) → 1 ≤ k → cond (k == 0) None (Some k) ≡ Some k
some_count k some = grind (arith, common_steps)

pub count_is : (bytes : List ℕ) (k : ℕ) → IsCount bytes k → count_of bytes ≡ Some k
unfolding count_of
count_is bytes k is = ap (λ o. o >>= λ k. cond (k == 0) None (Some k)) (number_is bytes k is.number) ∙ some_count k is.some

pub count_found : (bytes : List ℕ) (k : ℕ) → count_of bytes ≡ Some k → IsCount bytes k
unfolding count_of
count_found bytes k e = by (number_of bytes) refl e where
  by : (o : Option ℕ) → number_of bytes ≡ o → (o >>= λ k. cond (k == 0) None (Some k)) ≡ Some k → IsCount bytes k
  by None is e = absurd (none-some k e)
  by (Some n) is e =
      let same : n ≡ k = grind (arith, common_steps, e) in
      let some : 1 ≤ n = grind (arith, common_steps, e) in
      record { number = number_found bytes k (is ∙ ap (λ n. Some n) same); some = omega (arith, same, some) }

pub digits_of : (bytes : List ℕ) (n : ℕ) → IsNumber bytes n → AreDigits bytes
digits_of bytes n is = subst AreDigits (sym is.written) (digits_decimal own n (omega (arith, is.short)))

pub some_digit : (bytes : List ℕ) (n : ℕ) → IsNumber bytes n → (0 < length bytes) × (48 ≤ get_or bytes 0 0) × (get_or bytes 0 0 ≤ 57)
some_digit bytes n is =
    let g = number_test bytes n is in
    let some : 0 < length bytes = (parts_of bytes g).1 in
    (some, (number_digits bytes 0 g some).0, (number_digits bytes 0 g some).1)
