-- Names that are assigned, none of which has a meaning of its own.
use Rattle.std.proofs.Common.{◌≡◌, refl, sym, ap, subst, ◌∙◌, ℕ, List, [], ◌∷◌, ◌++◌}
use Rattle.std.specs.Prelude.{Bool, true, false, ◌||◌, bytes_eq, if◌then◌else◌}
use Rattle.std.proofs.lemmas.List.Folds.{list_any-append}
use Rattle.std.proofs.lemmas.Slice.Eq.{bytes_eq-Decides}
use Rattle.class_table.specs.Names.{is_built_in}
use Rattle.small_module.specs.SmallTree.{is_known, with_name, is_reserved}
use Rattle.small_trees.proofs.Building.{same_bytes}

true_is_not_false : (b : Bool) → b ≡ true → b ≡ false → ⊥
true_is_not_false b h k = cc

pub equal_bytes : (xs ys : List ℕ) → xs ≡ ys → bytes_eq xs ys ≡ true
equal_bytes xs ys h = (bytes_eq-Decides xs ys).1 h

-- what is not so is false
pub refuted : (b : Bool) → (b ≡ true → ⊥) → b ≡ false
refuted true h = absurd (h refl)
refuted false h = refl

-- one that is reserved, and one that isn't
pub differs : (n w : List ℕ) → is_reserved n ≡ false → is_reserved w ≡ true → bytes_eq n w ≡ false
differs n w free taken = refuted (bytes_eq n w) (λ h. true_is_not_false (is_reserved w) taken (subst (λ (x : List ℕ). is_reserved x ≡ false) (same_bytes n w h) free))

pub differs_back : (n w : List ℕ) → is_reserved n ≡ false → is_reserved w ≡ true → bytes_eq w n ≡ false
differs_back n w free taken = refuted (bytes_eq w n) (λ h. true_is_not_false (is_reserved w) taken (subst (λ (x : List ℕ). is_reserved x ≡ false) (sym (same_bytes w n h)) free))

first_false : (a b : Bool) → (a || b) ≡ false → a ≡ false
first_false false b h = refl
first_false true b h = h

pub not_built_in : (n : List ℕ) → is_reserved n ≡ false → is_built_in n ≡ false
not_built_in n free = first_false (is_built_in n) _ free

abbrev pub AllFree : List (List ℕ) → Type 0
AllFree [] = Unit {0}
AllFree (n ∷ ns) = (is_reserved n ≡ false) × AllFree ns

known_first : (m n : List ℕ) (t rest : Bool) → bytes_eq n m ≡ t → (t || rest) ≡ true → is_reserved m ≡ false → (rest ≡ true → is_reserved n ≡ false) → is_reserved n ≡ false
known_first m n true rest is h free more = subst (λ (x : List ℕ). is_reserved x ≡ false) (sym (same_bytes n m is)) free
known_first m n false rest is h free more = more h

pub known_free : (ns : List (List ℕ)) (n : List ℕ) → AllFree ns → is_known ns n ≡ true → is_reserved n ≡ false
known_free [] n free h = cc
known_free (m ∷ ms) n free h = known_first m n (bytes_eq n m) (is_known ms n) refl h free.0 (known_free ms n free.1)

pub unknown : (ns : List (List ℕ)) (w : List ℕ) → AllFree ns → is_reserved w ≡ true → is_known ns w ≡ false
unknown ns w free taken = refuted (is_known ns w) (λ h. true_is_not_false (is_reserved w) taken (known_free ns w free h))

free_append : (ns : List (List ℕ)) (n : List ℕ) → AllFree ns → is_reserved n ≡ false → AllFree (ns ++ n ∷ [])
free_append [] n free h = (h, tt)
free_append (m ∷ ms) n free h = (free.0, free_append ms n free.1 h)

pub free_with : (ns : List (List ℕ)) (n : List ℕ) → AllFree ns → is_reserved n ≡ false → AllFree (with_name ns n)
free_with ns n free h = by_test (is_known ns n)
  where
    by_test : (t : Bool) → AllFree (if t then ns else ns ++ n ∷ [])
    by_test true = free
    by_test false = free_append ns n free h

pub same_test : (xs ys : List ℕ) → bytes_eq xs ys ≡ bytes_eq ys xs
same_test xs ys = by_test (bytes_eq xs ys) (bytes_eq ys xs) refl refl
  where
    by_test : (a b : Bool) → bytes_eq xs ys ≡ a → bytes_eq ys xs ≡ b → a ≡ b
    by_test true true h k = refl
    by_test false false h k = refl
    by_test true false h k = absurd (true_is_not_false (bytes_eq ys xs) (equal_bytes ys xs (sym (same_bytes xs ys h))) k)
    by_test false true h k = absurd (true_is_not_false (bytes_eq xs ys) (equal_bytes xs ys (sym (same_bytes ys xs k))) h)

-- a name is known behind an assignment where it was before, or is the one that is assigned
or_false : (a : Bool) → (a || false) ≡ a
or_false true = refl
or_false false = refl

or_known : (ns : List (List ℕ)) (m n : List ℕ) (a b : Bool) → is_known ns m ≡ true → is_known ns n ≡ a → bytes_eq m n ≡ b → a ≡ (a || b)
or_known ns m n true b known here same = refl
or_known ns m n false false known here same = refl
or_known ns m n false true known here same = absurd (true_is_not_false (is_known ns n) (subst (λ (x : List ℕ). is_known ns x ≡ true) (same_bytes m n same) known) here)

pub known_behind : (ns : List (List ℕ)) (m n : List ℕ) → is_known (with_name ns m) n ≡ (is_known ns n || bytes_eq m n)
known_behind ns m n = by_test (is_known ns m) refl
  where
    by_test : (t : Bool) → is_known ns m ≡ t → is_known (if t then ns else ns ++ m ∷ []) n ≡ (is_known ns n || bytes_eq m n)
    by_test true known = or_known ns m n (is_known ns n) (bytes_eq m n) known refl refl
    by_test false known = list_any-append (bytes_eq n) ns (m ∷ []) ∙ ap (λ (b : Bool). is_known ns n || b) (or_false (bytes_eq n m) ∙ same_test n m)

pub still_known : (ns : List (List ℕ)) (m n : List ℕ) → is_known ns n ≡ true → is_known (with_name ns m) n ≡ true
still_known ns m n known = known_behind ns m n ∙ ap (λ (b : Bool). b || bytes_eq m n) known

-- a name that isn't known is none that is
pub known_differs : (ns : List (List ℕ)) (m n : List ℕ) → is_known ns m ≡ true → is_known ns n ≡ false → bytes_eq m n ≡ false
known_differs ns m n known not_known = refuted (bytes_eq m n) (λ h. true_is_not_false (is_known ns n) (subst (λ (x : List ℕ). is_known ns x ≡ true) (same_bytes m n h) known) not_known)
