-- Classes of terms, which pairs of them have to be one, and when they are what follows.
use Rattle.std.specs.Prelude.{◌≡◌, ◌↔◌, ℕ, ◌<◌, length, slice_index_or, sum_by, remove, ◌==◌, Bool, true, false, ◌&&◌, ◌||◌, if◌then◌else◌, List, [], ◌∷◌, ◌++◌, Contains, count_by}
use Rattle.std.specs.List.{list_any}
use Rattle.std.specs.Ordering.{int_eq}
use Rattle.terms.specs.declared.Term.{Term, Term-F, out-Term}
use Rattle.terms.specs.declared.Literal.{Literal}
use Rattle.terms.specs.declared.Literal.TheVariants as lit
use Rattle.ref_solver.specs.Following.{Stands, Follows}
use Rattle.terms.specs.Sameness.{same_term}

-- how often a term stands in the classes
abbrev pub count_in : Term → List (List Term) → ℕ
count_in t cs = sum_by (count_by (same_term t)) cs

-- both terms stand in one class
abbrev pub AreTogether : List (List Term) → Term → Term → Type 0
AreTogether cs s t = (c : List Term) × Contains cs c × Contains c s × Contains c t

-- Each term of the literals stands once in the classes, and two stand in one class exactly where
-- their equality follows.
pub record AreClasses (ls : List Literal) (cs : List (List Term)) : Type 0 where
  pub once : (t : Term) → Stands ls t → count_in t cs ≡ 1
  pub exact : (s t : Term) → AreTogether cs s t ↔ Follows ls s t

abbrev pub has : Term → List Term → Bool
has t c = list_any (same_term t) c

abbrev pub has_both : Term → Term → List Term → Bool
has_both s t c = has s c && has t c

abbrev pub together : List (List Term) → Term → Term → Bool
together cs s t = list_any (has_both s t) cs

abbrev pub says : Term → Term → Literal → Bool
says s t (lit.Same a b) = same_term s a && same_term t b
says s t l = false

abbrev pub both_end : List Term → List Term → Bool
both_end [] [] = true
both_end xs ys = false

-- all but the last terms, place by place, are together
abbrev pub fronts_together : List (List Term) → List Term → List Term → Bool
fronts_together cs (x ∷ xs) (y ∷ ys) =
    both_end xs ys || (together cs x y && fronts_together cs xs ys)
fronts_together cs xs ys = false

abbrev pub last_is : Term → List Term → Bool
last_is t [] = false
last_is t (x ∷ xs) = (both_end xs [] && same_term t x) || last_is t xs

abbrev pub congruent : List (List Term) → Term-F Term → Term-F Term → Bool
congruent cs (Term-F.Add a b) (Term-F.Add c d) = together cs a c && together cs b d
congruent cs (Term-F.Scale k a) (Term-F.Scale l b) = int_eq k l && together cs a b
congruent cs (Term-F.App p xs) (Term-F.App q ys) = p == q && fronts_together cs xs ys
congruent cs Term-F.Nil (Term-F.RefLit n) = n == 0
congruent cs x y = false

abbrev pub ends_in : Term → Term-F Term → Bool
ends_in t (Term-F.App p xs) = last_is t xs
ends_in t x = false

-- the two are equal by one step from the literals and the classes
abbrev pub linked : List Literal → List (List Term) → Term → Term → Bool
linked ls cs s t =
    list_any (says s t) ls || (ends_in t (out-Term s) || congruent cs (out-Term s) (out-Term t))

-- a member of one class and one of another are, in either order
abbrev pub linked_to : List Literal → List (List Term) → Term → Term → Bool
linked_to ls cs s t = linked ls cs s t || linked ls cs t s

abbrev pub linked_to_some : List Literal → List (List Term) → List Term → Term → Bool
linked_to_some ls cs d s = list_any (linked_to ls cs s) d

abbrev pub links : List Literal → List (List Term) → List Term → List Term → Bool
links ls cs c d = list_any (linked_to_some ls cs d) c

-- the classes with a class of the term alone, where it stands in none
abbrev pub with_term : Term → List (List Term) → List (List Term)
with_term t cs = if list_any (has t) cs then cs else cs ++ (t ∷ []) ∷ []

abbrev pub with_terms : List Term → List (List Term) → List (List Term)
with_terms [] cs = cs
with_terms (t ∷ ts) cs = with_terms ts (with_term t cs)

-- the class at a place
abbrev pub class_at : List (List Term) → ℕ → List Term
class_at cs i = slice_index_or cs i []

-- two classes made one
abbrev pub merged : List (List Term) → ℕ → ℕ → List (List Term)
merged cs i j = remove (remove cs j) i ++ (class_at cs i ++ class_at cs j) ∷ []

-- of a partition on the way: each term of the literals stands once, and together stand equal terms
-- alone
pub record ArePartial (ls : List Literal) (cs : List (List Term)) : Type 0 where
  pub once : (t : Term) → Stands ls t → count_in t cs ≡ 1
  pub sound : (s t : Term) → AreTogether cs s t → Follows ls s t

-- no two classes are to be one
abbrev pub AreSettled : List Literal → List (List Term) → Type 0
AreSettled ls cs = (i j : ℕ) → i < j → j < length cs → links ls cs (class_at cs i) (class_at cs j) ≡ false

-- a class before another that is to be one with it
pub record IsPartner (ls : List Literal) (cs : List (List Term)) (j i : ℕ) : Type 0 where
  pub below : i < j
  pub linked : links ls cs (class_at cs i) (class_at cs j) ≡ true
