-- Where the rows of assumptions and of steps stand, and what a step's row is the sum of.
use Rattle.std.specs.Prelude.{◌≡◌, ◌≢◌, ℕ, zero, suc, ◌+◌, ◌*◌, ◌/◌, ◌%◌, ◌<◌, ◌≤◌, ◌==◌, if◌then◌else◌, Bool, true, false, ℤ, pos, ◌+ℤ◌, ◌*ℤ◌, ◌<ℤ◌, ◌≤ℤ◌, IsTrue, IfSome, nat_lt, List, [], ◌∷◌, ◌++◌, map, length, Option, Some, None, slice_get, FitsSigned}
use Rattle.std.specs.Int.{w128}
use Rattle.std.proofs.Common.{refl, sym, ap, subst, ◌∙◌, arith, append-nil, append_assoc}
use Rattle.std.proofs.lemmas.Bool.Decides.{nat_tests}
use Rattle.std.proofs.lemmas.Int.{ints}
use Rattle.lin_rows.specs.declared.Row.{Row}
use Rattle.lin_rows.specs.declared.ComboStep.{ComboStep}
use Rattle.lin_rows.specs.Terms.{coef_at}
use Rattle.lin_rows.specs.Steps.{all_rows, StepHolds, StepsHold}
use Rattle.terms.specs.declared.Literal.{Literal}
use Rattle.proof_checker.specs.declared.replies.Figure.TheVariants.{Coefficient, Units}
use Rattle.proof_checker.specs.declared.summands.Summand.{Summand}
use Rattle.proof_checker.specs.Rows.{AreRows, AreAllRows}
use Rattle.proof_checker.specs.Combos.{StandsFor, StandsAt, IsSumAt, AddsUp, IsBelow, IsClear, lesser_of}

-- ---- places
get-front : {X : Type 0} (xs ys : List X) (x : X) (n : ℕ) → slice_get xs n ≡ Some x → slice_get (xs ++ ys) n ≡ Some x
get-front [] ys x n e = absurd (cc)
get-front (y ∷ xs) ys x zero e = e
get-front (y ∷ xs) ys x (suc n) e = get-front xs ys x n e

get-back : {X : Type 0} (xs ys : List X) (n k : ℕ) → n ≡ length xs + k → slice_get (xs ++ ys) n ≡ slice_get ys k
get-back [] ys n k e = let same : n ≡ k = omega (arith, e) in ap (slice_get ys) same
get-back (x ∷ xs) ys zero k e = absurd (omega arith)
get-back (x ∷ xs) ys (suc n) k e = get-back xs ys n k (omega arith)

length-rows : (fs : List Literal) (rows : List (Option Row)) → AreAllRows fs rows → length rows ≡ 2 * length fs
length-rows [] [] are = refl
length-rows [] (r ∷ rows) are = absurd are
length-rows (l ∷ fs) [] are = absurd are
length-rows (l ∷ fs) (r ∷ []) are = absurd are
length-rows (l ∷ fs) (r ∷ s ∷ rows) are = let e = length-rows fs rows are.1 in omega (arith, e)

-- the two rows of an assumption
record Pair (l : Literal) (rows : List (Option Row)) (i : ℕ) : Type 0 where
  first : Option Row
  second : Option Row
  are : AreRows l first second
  at_first : slice_get rows (i + i) ≡ Some first
  at_second : slice_get rows (i + i + 1) ≡ Some second

pair_of : (fs : List Literal) (rows : List (Option Row)) (i : ℕ) (l : Literal) → AreAllRows fs rows → slice_get fs i ≡ Some l → Pair l rows i
pair_of [] rows i l are e = absurd (cc)
pair_of (k ∷ fs) [] i l are e = absurd are
pair_of (k ∷ fs) (r ∷ []) i l are e = absurd are
pair_of (k ∷ fs) (r ∷ s ∷ rows) zero l are e =
    let same : k ≡ l = cc in
    record { first = r; second = s; are = subst (λ z. AreRows z r s) same are.0; at_first = refl; at_second = refl }
pair_of (k ∷ fs) (r ∷ s ∷ rows) (suc i) l are e =
    let p = pair_of fs rows i l are.1 e in
    record {
      first = p.first;
      second = p.second;
      are = p.are;
      at_first = get-back (r ∷ s ∷ []) rows (suc i + suc i) (i + i) (omega arith) ∙ p.at_first;
      at_second = get-back (r ∷ s ∷ []) rows (suc i + suc i + 1) (i + i + 1) (omega arith) ∙ p.at_second;
    }

-- what stands for a row stands at its number
stands_at : (o : Option Summand) (x : Option Row) (y : Option (Option Row)) → y ≡ Some x → StandsFor o x → StandsAt o y
stands_at None x y e none = λ r h. absurd (cc (e, none, h))
stands_at (Some s) x y e (r, is, row) = (r, e ∙ ap Some is, row)

-- the number of a row of an assumption
pub row_of_assumption : (fs : List Literal) (rows more : List (Option Row)) (n : ℕ) (l : Literal) (o : Option Summand) → AreAllRows fs rows → slice_get fs (n / 2) ≡ Some l →
    ((r s : Option Row) → AreRows l r s → StandsFor o (if n % 2 == 1 then s else r)) → StandsAt o (slice_get (rows ++ more) n)
row_of_assumption fs rows more n l o are e stands =
    let p = pair_of fs rows (n / 2) l are e in
    by_test p (n % 2 == 1) refl (stands p.first p.second p.are)
  where
    odd : (n : ℕ) → (n % 2 == 1) ≡ true → n ≡ n / 2 + n / 2 + 1
    odd n h = let one : n % 2 ≡ 1 = grind (arith, nat_tests) in omega arith

    even : (n : ℕ) → (n % 2 == 1) ≡ false → n ≡ n / 2 + n / 2
    even n h = let other : n % 2 ≢ 1 = grind (arith, nat_tests) in omega arith

    by_test : (p : Pair l rows (n / 2)) (b : Bool) → (n % 2 == 1) ≡ b → StandsFor o (if b then p.second else p.first) → StandsAt o (slice_get (rows ++ more) n)
    by_test p true h s = stands_at o p.second (slice_get (rows ++ more) n) (get-front rows more p.second n (ap (slice_get rows) (odd n h) ∙ p.at_second)) s
    by_test p false h s = stands_at o p.first (slice_get (rows ++ more) n) (get-front rows more p.first n (ap (slice_get rows) (even n h) ∙ p.at_first)) s

-- the number of a row of a step
pub row_of_step : (fs : List Literal) (rows more : List (Option Row)) (n k : ℕ) → AreAllRows fs rows → n / 2 ≡ length fs + k → slice_get (rows ++ more) n ≡ slice_get more (2 * k + n % 2)
row_of_step fs rows more n k are e = let long = length-rows fs rows are in get-back rows more n (2 * k + n % 2) (place n (length fs) k (length rows) long e)
  where
    place : (n f k m : ℕ) → m ≡ 2 * f → n / 2 ≡ f + k → n ≡ m + (2 * k + n % 2)
    place n f k m p q = omega arith

-- ---- sums
pub sums_nowhere_else : (a b : Row) (s : ComboStep) (v : ℕ) → coef_at a.coefs v ≡ pos 0 → coef_at b.coefs v ≡ pos 0 → coef_at s.row.coefs v ≡ pos 0 → IsSumAt (Coefficient v) a b s
sums_nowhere_else a b s v e f g = record {
  fits = (zero_fits (product s.by_left (coef_at a.coefs v) e), zero_fits (product s.by_right (coef_at b.coefs v) f), zero_fits (total s.by_left (coef_at a.coefs v) s.by_right (coef_at b.coefs v) e f));
  sum = g ∙ sym (total s.by_left (coef_at a.coefs v) s.by_right (coef_at b.coefs v) e f);
}
  where
    zero_fits : {z : ℤ} → z ≡ pos 0 → FitsSigned w128 z
    zero_fits {z} e = subst (λ y. FitsSigned w128 y) (sym e) (omega (arith, ints))

    product : (k x : ℤ) → x ≡ pos 0 → k *ℤ x ≡ pos 0
    product k x e = ap (λ y. k *ℤ y) e ∙ none k
      where
        none : (k : ℤ) → k *ℤ pos 0 ≡ pos 0
        none k = omega (arith, ints)

    total : (k x l y : ℤ) → x ≡ pos 0 → y ≡ pos 0 → k *ℤ x +ℤ l *ℤ y ≡ pos 0
    total k x l y e f = ap (λ z. z +ℤ l *ℤ y) (product k x e) ∙ ap (λ z. pos 0 +ℤ z) (product l y f)

pub adds_up_from : (a b : Row) (s : ComboStep) → FitsSigned w128 s.by_left → FitsSigned w128 s.by_right → pos 0 <ℤ s.by_left → pos 0 ≤ℤ s.by_right → IsSumAt Units a b s → ((v : ℕ) → IsSumAt (Coefficient v) a b s) → AddsUp a b s
adds_up_from a b s f g p q bound coefs = record {
  by_left = p;
  by_right = q;
  fits = record { left = f; right = g; sum = record { coefs = λ v. (coefs v).fits; bound = bound.fits } };
  sum = record { coefs = λ v. (coefs v).sum; bound = bound.sum };
}

pub sum_of_bounds : (a b : Row) (s : ComboStep) → AddsUp a b s → IsSumAt Units a b s
sum_of_bounds a b s h = record { fits = h.fits.sum.bound; sum = h.sum.bound }

pub sum_of_coefs : (a b : Row) (s : ComboStep) → AddsUp a b s → (v : ℕ) → IsSumAt (Coefficient v) a b s
sum_of_coefs a b s h v = record { fits = h.fits.sum.coefs v; sum = h.sum.coefs v }

-- ---- steps
same_row : (x : Option (Option Row)) (a b : Row) → x ≡ Some (Some a) → x ≡ Some (Some b) → a ≡ b
same_row x a b e f = cc

-- a step holds whose rows are known
pub step_from : (lower : List (Option Row)) (s : ComboStep) (a b : Row) → slice_get lower s.left ≡ Some (Some a) → slice_get lower s.right ≡ Some (Some b) → AddsUp a b s → StepHolds lower s
step_from lower s a b e f h = record { left = a; right = b; at_left = e; at_right = f; by_left = h.by_left; by_right = h.by_right; fits = h.fits; sum = h.sum }

pub step_adds_up : (lower : List (Option Row)) (s : ComboStep) (a b : Row) → slice_get lower s.left ≡ Some (Some a) → slice_get lower s.right ≡ Some (Some b) → StepHolds lower s → AddsUp a b s
step_adds_up lower s a b e f h =
    subst (λ r. AddsUp r b s) (same_row (slice_get lower s.left) h.left a h.at_left e)
    (subst (λ r. AddsUp h.left r s) (same_row (slice_get lower s.right) h.right b h.at_right f) (record { by_left = h.by_left; by_right = h.by_right; fits = h.fits; sum = h.sum }))

pub no_left : (lower : List (Option Row)) (s : ComboStep) → StandsAt None (slice_get lower s.left) → StepHolds lower s → ⊥
no_left lower s none h = none h.left h.at_left

pub no_right : (lower : List (Option Row)) (s : ComboStep) → StandsAt None (slice_get lower s.right) → StepHolds lower s → ⊥
no_right lower s none h = none h.right h.at_right

-- each step holds after those before it
pub step_within : (rows : List (Option Row)) (first : List ComboStep) (s : ComboStep) (rest : List ComboStep) → StepsHold rows (first ++ s ∷ rest) → StepHolds (all_rows rows first) s
step_within rows [] s rest h = subst (λ z. StepHolds z s) (sym (append-nil rows)) h.0
step_within rows (x ∷ first) s rest h = subst (λ z. StepHolds z s) (append_assoc rows (Some x.row ∷ []) (map (λ z. Some z.row) first)) (step_within (rows ++ Some x.row ∷ []) first s rest h.1)

-- ---- variables
pub below_lesser : (x y : Option ℕ) (w : ℕ) → IsBelow w (lesser_of x y) → IsBelow w x × IsBelow w y
below_lesser None None w h = (tt, tt)
below_lesser None (Some n) w h = (tt, h)
below_lesser (Some m) None w h = (h, tt)
below_lesser (Some m) (Some n) w h = by_test (nat_lt m n) refl h
  where
    less : nat_lt m n ≡ true → m < n
    less e = grind (arith, nat_tests)

    not_less : nat_lt m n ≡ false → n ≤ m
    not_less e = grind (arith, nat_tests)

    by_test : (b : Bool) → nat_lt m n ≡ b → IsBelow w (if b then Some m else Some n) → (w < m) × (w < n)
    by_test true e k = let lt = less e in (k, omega (arith, k, lt))
    by_test false e k = let le = not_less e in (omega (arith, k, le), k)

pub lesser_has : (P : ℕ → Type 0) (x y : Option ℕ) → IfSome x P → IfSome y P → IfSome (lesser_of x y) P
lesser_has P None y p q = q
lesser_has P (Some m) None p q = p
lesser_has P (Some m) (Some n) p q = by_test (nat_lt m n)
  where
    by_test : (b : Bool) → IfSome (if b then Some m else Some n) P
    by_test true = p
    by_test false = q

pub clear_first : (last : ℕ) (x y : Option ℕ) (ts : List (ℕ × ℤ)) → IsClear last x ts → IsClear last (lesser_of x y) ts
clear_first last x y ts h w lt below = h w lt (below_lesser x y w below).0

pub clear_second : (last : ℕ) (x y : Option ℕ) (ts : List (ℕ × ℤ)) → IsClear last y ts → IsClear last (lesser_of x y) ts
clear_second last x y ts h w lt below = h w lt (below_lesser x y w below).1

-- a test that failed
pub refused : (r : Bool) (P Q : Type 0) → r ≡ false → (Q → P) → (P → IsTrue r) → (IsTrue false → Q) × (Q → IsTrue false)
refused r P Q e f g = (λ h. let k : false ≡ true = h in absurd (cc), λ q. sym e ∙ g (f q))
