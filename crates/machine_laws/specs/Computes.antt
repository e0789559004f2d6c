-- Results for every width that compute numbers in turn, as their parts do.
use Rattle.std.specs.Prelude.{◌≡◌, Bool, true, false, List, [], ◌∷◌, ◌++◌, Option, Some, None, if◌then◌else◌, refl}
use Rattle.std.proofs.Common.{sym, ap, ◌∙◌, subst}
use Rattle.py_base.specs.declared.Place.{Place}
use Rattle.py_base.specs.declared.Kind.{Kind}
use Rattle.py_syntax.specs.declared.Value.{Value}
use Rattle.py_syntax.specs.declared.Value.TheVariants.{Num, Truth, Nil, Ref}
use Rattle.machine_model.specs.declared.halt.Halt.{Halt}
use Rattle.machine_model.specs.declared.halt.Halt.TheVariants.{Wide, Failed, Waits, NoOperand}
use Rattle.machine_model.specs.Results.{Res, Got, Stops, then_do, of_option, tested, Width, sized}
use Rattle.machine_model.specs.Steps.{whole}
use Rattle.machine_laws.specs.Widths.{Computed, first_too_large}

-- what a result over whole numbers is within a width, where the first number that is too large stands there
abbrev pub limited : {A : Type 0} → Option Place → Res A → Res A
limited None r = r
limited (Some p) r = Stops (Wide p)

-- a result that doesn't say that a number is too large
abbrev pub IsOtherHalt : Halt → Type 0
IsOtherHalt (Wide p) = ⊥
IsOtherHalt (Failed kind_of p) = Unit {0}
IsOtherHalt Waits = Unit {0}
IsOtherHalt NoOperand = Unit {0}

abbrev pub IsNotWide : {A : Type 0} → Res A → Type 0
IsNotWide (Got a) = Unit {0}
IsNotWide (Stops h) = IsOtherHalt h

-- A result for every width computes these numbers in turn, and over whole numbers none is too large.
pub record Computes {A : Type 0} (r : Width → Res A) : Type 0 where
  pub numbers : List Computed
  pub within : (fits : Width) → r fits ≡ limited (first_too_large fits numbers) (r whole)
  pub all_fit : IsNotWide (r whole)

abbrev or_else : Option Place → Option Place → Option Place
or_else None o = o
or_else (Some p) o = Some p

in_turn : (fits : Width) (xs ys : List Computed) → or_else (first_too_large fits xs) (first_too_large fits ys) ≡ first_too_large fits (xs ++ ys)
in_turn fits [] ys = refl
in_turn fits (n ∷ xs) ys = if_fits (fits n.1) n.0 _ _ _ (in_turn fits xs ys)
  where
    if_fits : (b : Bool) (p : Place) (o u v : Option Place) → or_else o u ≡ v → or_else (if b then o else Some p) u ≡ (if b then v else Some p)
    if_fits true p o u v is = is
    if_fits false p o u v is = refl

-- a result that the width has no part in
pub same : {A : Type 0} (r : Res A) → IsNotWide r → Computes {A = A} (λ fits. r)
same r n = record { numbers = []; within = λ fits. refl; all_fit = n }

went_on : {A B : Type 0} (o u : Option Place) (q : Res A) (a : A) (g : A → Res B) (w : Res B) → q ≡ limited o (Got a) → g a ≡ limited u w → then_do q g ≡ limited (or_else o u) w
went_on None u q a g w is next = ap (λ x. then_do x g) is ∙ next
went_on (Some p) u q a g w is next = ap (λ x. then_do x g) is

stopped : {A B : Type 0} (o : Option Place) (q : Res A) (h : Halt) (g : A → Res B) → q ≡ limited o (Stops h) → then_do q g ≡ limited o (Stops h)
stopped None q h g is = ap (λ x. then_do x g) is
stopped (Some p) q h g is = ap (λ x. then_do x g) is

by_first : {A B : Type 0} (r : Width → Res A) (f : Width → A → Res B) → Computes r → ((a : A) → Computes (λ fits. f fits a)) → (q : Res A) → r whole ≡ q → Computes (λ fits. then_do (r fits) (f fits))
by_first r f h k (Got a) is = record {
  numbers = h.numbers ++ (k a).numbers;
  within = λ fits.
      went_on (first_too_large fits h.numbers) (first_too_large fits (k a).numbers) (r fits) a (f fits) (f whole a) (h.within fits ∙ ap (limited (first_too_large fits h.numbers)) is) ((k a).within fits)
      ∙ ap (λ o. limited o (f whole a)) (in_turn fits h.numbers (k a).numbers)
      ∙ ap (λ q. limited (first_too_large fits (h.numbers ++ (k a).numbers)) (then_do q (f whole))) (sym is);
  all_fit = subst (λ q. IsNotWide (then_do q (f whole))) (sym is) (k a).all_fit;
}
by_first r f h k (Stops halt) is = record {
  numbers = h.numbers;
  within = λ fits.
      stopped (first_too_large fits h.numbers) (r fits) halt (f fits) (h.within fits ∙ ap (limited (first_too_large fits h.numbers)) is)
      ∙ ap (λ q. limited (first_too_large fits h.numbers) (then_do q (f whole))) (sym is);
  all_fit = subst (λ q. IsNotWide (then_do q (f whole))) (sym is) (subst IsNotWide is h.all_fit);
}

-- one after another
pub then_computes : {A B : Type 0} (r : Width → Res A) (f : Width → A → Res B) → Computes r → ((a : A) → Computes (λ fits. f fits a)) → Computes (λ fits. then_do (r fits) (f fits))
then_computes r f h k = by_first r f h k (r whole) refl

-- the same by other words
pub computes_as : {A : Type 0} (r q : Width → Res A) → ((fits : Width) → r fits ≡ q fits) → Computes r → Computes q
computes_as r q is h = record { numbers = h.numbers; within = λ fits. sym (is fits) ∙ h.within fits ∙ ap (limited (first_too_large fits h.numbers)) (is whole); all_fit = subst IsNotWide (is whole) h.all_fit }

pub sized_computes : (p : Place) (v : Value) → Computes (λ fits. sized fits p v)
sized_computes p (Num z) = record { numbers = (p, z) ∷ []; within = λ fits. of_number (fits z); all_fit = tt }
  where
    of_number : (b : Bool) → (if b then Got (Num z) else Stops (Wide p)) ≡ limited (if b then None else Some p) (Got (Num z))
    of_number true = refl
    of_number false = refl
sized_computes p (Truth b) = same (Got (Truth b)) tt
sized_computes p Nil = same (Got Nil) tt
sized_computes p (Ref r) = same (Got (Ref r)) tt

pub if_computes : {A : Type 0} (b : Bool) (r q : Width → Res A) → Computes r → Computes q → Computes (λ fits. if b then r fits else q fits)
if_computes true r q h k = h
if_computes false r q h k = k

pub option_computes : {A B : Type 0} (r : Width → Res B) (f : Width → A → Res B) → Computes r → ((a : A) → Computes (λ fits. f fits a)) → (v : Option A) → Computes (λ fits. elim v as (λ _. Res B) [ None ↦ r fits | Some a ↦ f fits a ])
option_computes r f h k None = h
option_computes r f h k (Some a) = k a

-- behind a result that the width has no part in
pub behind : {A B : Type 0} (r : Res A) (f : Width → A → Res B) → IsNotWide r → ((a : A) → Computes (λ fits. f fits a)) → Computes (λ fits. then_do r (f fits))
behind (Got a) f n k = k a
behind (Stops h) f n k = same (Stops h) n

-- results that don't say that a number is too large
pub then_is_not : {A B : Type 0} (r : Res A) (f : A → Res B) → IsNotWide r → ((a : A) → IsNotWide (f a)) → IsNotWide (then_do r f)
then_is_not (Got a) f n k = k a
then_is_not (Stops h) f n k = n

pub option_is_not : {A : Type 0} (h : Halt) (o : Option A) → IsOtherHalt h → IsNotWide (of_option h o)
option_is_not h None n = n
option_is_not h (Some a) n = tt

pub if_is_not : {A : Type 0} (b : Bool) (r q : Res A) → IsNotWide r → IsNotWide q → IsNotWide (if b then r else q)
if_is_not true r q n k = n
if_is_not false r q n k = k

pub test_is_not : (kind_of : Kind) (p : Place) (b : Bool) → IsNotWide (tested kind_of p b)
test_is_not kind_of p true = tt
test_is_not kind_of p false = tt
