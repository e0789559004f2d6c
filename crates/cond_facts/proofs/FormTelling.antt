-- A term whose linear form is too wide, among those within one where not all fit.
use Rattle.std.specs.Prelude.{◌≡◌, ℕ, zero, suc, ◌+◌, ◌<◌, ◌≤◌, ◌⊎◌, Bool, true, false, ◌&&◌, IsTrue, ℤ, pos, List, [], ◌∷◌, ◌++◌, length, take, get_or, All, MatchOption, Option, Some, None, slice_get, FitsSigned}
use Rattle.std.specs.Int.{w128}
use Rattle.std.proofs.Common.{refl, sym, subst, ◌∙◌, inl, inr, arith}
use Rattle.std.proofs.lemmas.List.{take_all}
use Rattle.std.proofs.lemmas.List.Elements.{All-nil, All-cons, All-head, All-tail, All-append, All-contains, All-more, Contains-append_left, Contains-append_right}
use Rattle.lin_rows.specs.declared.Row.{Row}
use Rattle.lin_rows.specs.Terms.{coef_at}
use Rattle.lin_rows.specs.TermLaws.{at_or_not, coef-miss}
use Rattle.terms.specs.declared.Term.{Term}
use Rattle.terms.specs.declared.Literal.{Literal}
use Rattle.terms.specs.declared.Literal.TheVariants as lit
use Rattle.terms.specs.Sorts.{of_numbers}
use Rattle.terms.specs.Within.{terms_within}
use Rattle.terms.specs.Fitting.{sides_of, within_sides, terms_in}
use Rattle.terms.specs.Meanings.{Valued}
use Rattle.terms.specs.Forms.{FormFits, AllFormsFit, form_of}
use Rattle.terms.specs.FormLaws.{has_form}
use Rattle.proof_checker.specs.declared.Condition.{Condition}
use Rattle.proof_checker.specs.Conditions.{literals_of}
use Rattle.proof_checker.specs.Derivations.{AreNumbers}
use Rattle.proof_checker.specs.Rows.{RowFits}
use Rattle.proof_checker.proofs.Figuring.{zero_fits}
use Rattle.proof_checker.proofs.Narrow.{by_checked}
use Rattle.proof_checker.proofs.Pairing.{and_both}
use Rattle.cond_facts.specs.ConditionPoints.{AreFormsWithin, IsWideForm, of_term, of_row, IsFormWithin, IsNarrow}
use Rattle.cond_facts.specs.Decisions.{AreRowsTold}
use Rattle.cond_facts.specs.Decisions as decided
use Rattle.cond_facts.specs.FactRows.{IsThereIf, AreThere, HasWideRow}
use Rattle.cond_facts.specs.FormsTold.{AreTermsTold, IsLiteralTold, IsWidePlace}
use Rattle.cond_facts.proofs.Fitted.{numbers_of}
use Rattle.cond_facts.proofs.Standing.{at_first, later, in_literal}
use Rattle.cond_facts.proofs.FactLaws.{small_form_fits, narrow_order_fits}

abbrev At : ℤ → Type 0
At z = FitsSigned w128 z

fits_or_not : (z : ℤ) → At z ⊎ ¬ (At z)
fits_or_not z = by_checked (λ r. At z ⊎ ¬ (At z)) z (λ f. inl f) (λ h. inr h)

-- one of the numbers is too wide
abbrev HasWide : (ℕ → ℤ) → Type 0
HasWide f = (v : ℕ) × ¬ (At (f v))

-- those of the variables of terms
told_at : (f : ℕ → ℤ) (ts : List (ℕ × ℤ)) → ((v : ℕ) → At (f v) ⊎ (coef_at ts v ≡ pos 0)) ⊎ HasWide f
told_at f [] = inl (λ v. inr refl)
told_at f (t ∷ ts) = by_first (fits_or_not (f t.0)) (told_at f ts)
  where
    by_first : At (f t.0) ⊎ ¬ (At (f t.0)) → ((v : ℕ) → At (f v) ⊎ (coef_at ts v ≡ pos 0)) ⊎ HasWide f → ((v : ℕ) → At (f v) ⊎ (coef_at (t ∷ ts) v ≡ pos 0)) ⊎ HasWide f
    by_first (inr wide) more = inr (t.0, wide)
    by_first (inl fits) (inr wide) = inr wide
    by_first (inl fits) (inl all) = inl (λ v. at_or_not v t.0
        (λ here. inl (subst (λ u. At (f u)) (sym here) fits))
        (λ other. elim (all v) [
          | inl h ↦ inl h
          | inr zero_ ↦ inr (coef-miss v t.0 t.1 ts other ∙ zero_)
        ]))

anywhere : Valued
anywhere = record { unit = pos 1; numbers = λ n. pos 0; references = λ n. 0; flags = λ n. false }

form_told : (t : Term) → FormFits (form_of t) ⊎ ¬ (FormFits (form_of t))
form_told t = by_both (told_at (form_of t).coefs (has_form anywhere t).terms) (fits_or_not (form_of t).units)
  where
    by_both : ((v : ℕ) → At ((form_of t).coefs v) ⊎ (coef_at (has_form anywhere t).terms v ≡ pos 0)) ⊎ HasWide (form_of t).coefs → At (form_of t).units ⊎ ¬ (At (form_of t).units) → FormFits (form_of t) ⊎ ¬ (FormFits (form_of t))
    by_both (inr wide) units = inr (λ h. wide.1 (h.coefs wide.0))
    by_both (inl all) (inr wide) = inr (λ h. wide h.units)
    by_both (inl all) (inl units) = inl (record {
      coefs = λ v. elim (all v) [
        | inl h ↦ h
        | inr zero_ ↦ subst At (sym (sym ((has_form anywhere t).coefs v) ∙ zero_)) zero_fits
      ];
      units = units;
    })

wide_among : (ts : List Term) → ¬ (All (λ u. FormFits (form_of u)) ts) → AreTermsTold ts true
wide_among [] h = absurd (h (All-nil (λ u. FormFits (form_of u))))
wide_among (t ∷ ts) h = elim (form_told t) [
  | inl fits ↦
      let (u, stands, wide) = wide_among ts (λ all. h (All-cons (λ u. FormFits (form_of u)) t ts fits all)) in
      (u, later t u ts stands, wide)
  | inr wide ↦ (t, at_first t t ts refl, wide)
]

pub wide_within : (t : Term) → ¬ (AllFormsFit t) → AreTermsTold (terms_within t) true
wide_within t h = wide_among (terms_within t) (λ all. h (record { within = all }))

-- of the terms of two sides
pub wide_left : (a b : Term) → AreTermsTold (terms_within a) true → AreTermsTold (terms_within a ++ terms_within b) true
wide_left a b (t, stands, wide) = (t, Contains-append_left (terms_within a) (terms_within b) t stands, wide)

pub told_right : (a b : Term) (r : Bool) → AreTermsTold (terms_within a) false → AreTermsTold (terms_within b) r → AreTermsTold (terms_within a ++ terms_within b) r
told_right a b true all (t, stands, wide) = (t, Contains-append_right (terms_within a) (terms_within b) t stands, wide)
told_right a b false all more = All-append (λ t. FormFits (form_of t)) (terms_within a) (terms_within b) all more

-- of the literals of a condition
-- the literal of a number has a form that is too wide
literal_wide : (c : Condition) (n : ℕ) → IsWidePlace (literals_of c) n → IsWideForm c n
literal_wide c n (l, at, told) =
    let (t, stands, wide) = told in
    of_term l t at (Contains-append_left (within_sides (sides_of l)) [] t stands) wide

hypothesis_place : (hs gs : List Literal) (n : ℕ) → IsWidePlace hs n → IsWidePlace (hs ++ gs) n
hypothesis_place hs gs n (l, at, told) = (l, front hs gs n l at, told)
  where
    front : (hs gs : List Literal) (n : ℕ) (l : Literal) → slice_get hs n ≡ Some l → slice_get (hs ++ gs) n ≡ Some l
    front [] gs n l e = absurd (cc)
    front (h ∷ hs) gs zero l e = e
    front (h ∷ hs) gs (suc n) l e = front hs gs n l e

hypothesis_wide : (c : Condition) (n : ℕ) → IsWidePlace c.hyps n → IsWideForm c n
hypothesis_wide c n h = literal_wide c n (hypothesis_place c.hyps (c.goal ∷ []) n h)

last_place : (hs : List Literal) (g : Literal) → slice_get (hs ++ g ∷ []) (length hs) ≡ Some g
last_place [] g = refl
last_place (h ∷ hs) g = last_place hs g

goal_wide : (c : Condition) → IsLiteralTold true c.goal → IsWideForm c (length c.hyps)
goal_wide c h = literal_wide c (length c.hyps) (c.goal, last_place c.hyps c.goal, h)

all_within : (ls : List Literal) → All (IsLiteralTold false) ls → All (λ t. FormFits (form_of t)) (terms_in ls)
all_within [] all = All-nil (λ t. FormFits (form_of t))
all_within (l ∷ ls) all =
    All-append (λ t. FormFits (form_of t)) (within_sides (sides_of l)) (terms_in ls) (All-head (IsLiteralTold false) l ls all) (all_within ls (All-tail (IsLiteralTold false) l ls all))

forms_within : (c : Condition) → All (IsLiteralTold false) c.hyps → IsLiteralTold false c.goal → AreFormsWithin c
forms_within c all goal =
    all_within (literals_of c) (All-append (IsLiteralTold false) c.hyps (c.goal ∷ []) all (All-cons (IsLiteralTold false) c.goal [] goal (All-nil (IsLiteralTold false))))

-- none of a narrow condition is
none_wide : (c : Condition) (n : ℕ) → IsNarrow c → IsWideForm c n → ⊥
none_wide c n narrow (of_term l t at stands wide) =
    wide (small_form_fits 1000 (form_of t) (omega arith) (All-contains (λ s. IsFormWithin 1000 (form_of s)) (terms_in (literals_of c)) t narrow.numbers (in_literal (literals_of c) n l t at stands)))
none_wide c n narrow (of_row x y within order wide) = wide (narrow_order_fits c n x y narrow order)

pub not_some : (c : Condition) (n : ℕ) → IsWideForm c n → IsNarrow c → Some n ≡ None
not_some c n wide narrow = absurd (none_wide c n narrow wide)

pub wide_some : (c : Condition) (o : Option ℕ) (n : ℕ) → o ≡ Some n → MatchOption o (AreFormsWithin c) (IsWideForm c) → IsWideForm c n
wide_some c o n e told = subst (λ p. MatchOption p (AreFormsWithin c) (IsWideForm c)) e told

-- what is told of the hypotheses and of the goal
abbrev IsPlaceTold : List Literal → Option ℕ → Type 0
IsPlaceTold hs o = MatchOption o (All (IsLiteralTold false) hs) (IsWidePlace hs)

pub hypothesis_told : (c : Condition) (o : Option ℕ) (hs : List Literal) (n : ℕ) → hs ≡ c.hyps → o ≡ Some n → MatchOption o (All (IsLiteralTold false) hs) (IsWidePlace hs) → IsWideForm c n
hypothesis_told c o hs n e some told =
    hypothesis_wide c n (subst (λ ls. IsWidePlace ls n) e (subst (IsPlaceTold hs) some told))

pub goal_told : (c : Condition) (b : Bool) (hs : List Literal) → hs ≡ c.hyps → b ≡ true → IsLiteralTold b c.goal → IsWideForm c (length hs)
goal_told c b hs e t told =
    subst (λ ls. IsWideForm c (length ls)) (sym e) (goal_wide c (subst (λ r. IsLiteralTold r c.goal) t told))

pub none_told : (c : Condition) (o : Option ℕ) (hs : List Literal) (b : Bool) → hs ≡ c.hyps → o ≡ None → MatchOption o (All (IsLiteralTold false) hs) (IsWidePlace hs) → b ≡ false → IsLiteralTold b c.goal → AreFormsWithin c
none_told c o hs b e none told f goal =
    forms_within c (subst (λ ls. All (IsLiteralTold false) ls) e (subst (IsPlaceTold hs) none told)) (subst (λ r. IsLiteralTold r c.goal) f goal)

-- the literals up to a place
pub told_more : (ls : List Literal) (i : ℕ) (d l : Literal) (b : Bool) → i < length ls → All (IsLiteralTold false) (take i ls) → l ≡ get_or ls i d → IsLiteralTold b l → b ≡ false → All (IsLiteralTold false) (take (i + 1) ls)
told_more ls i d l b lt all e told f =
    All-more (IsLiteralTold false) ls i d lt all (subst (IsLiteralTold false) e (subst (λ r. IsLiteralTold r l) f told))

pub told_all : (ls : List Literal) (i : ℕ) → length ls ≤ i → All (IsLiteralTold false) (take i ls) → All (IsLiteralTold false) ls
told_all ls i le all = subst (All (IsLiteralTold false)) (take_all i ls le) all

-- ---- the rows of a literal
there_fits : (t : Bool) (a b : Term) (r : Option Row) → IsThereIf t a b r → IsTrue t → RowFits a b
there_fits true a b (Some r) is h = is.fits
there_fits true a b None is h = absurd is
there_fits false a b r is h = absurd (cc)

numbers_true : (a b : Term) → AreNumbers a b → IsTrue (of_numbers a && of_numbers b)
numbers_true a b h = and_both (of_numbers a) (of_numbers b) h.left h.right

pub rows_told : (l : Literal) (r s : Option Row) → AreThere l r s → AreRowsTold l true
rows_told l r s is x y (decided.at_most a b h) = there_fits (of_numbers a && of_numbers b) a b r is.0 (numbers_true a b h)
rows_told l r s is x y (decided.forth a b h) = there_fits (of_numbers a && of_numbers b) a b r is.0 (numbers_true a b h)
rows_told l r s is x y (decided.back a b h) = there_fits (of_numbers a && of_numbers b) b a s is.1 (numbers_true a b h)

pub wide_told : (l : Literal) → HasWideRow l → AreRowsTold l false
wide_told (lit.AtMost a b) (t, wide) = (a, b, decided.at_most a b (numbers_of a b t), wide)
wide_told (lit.Same a b) (t, inl wide) = (a, b, decided.forth a b (numbers_of a b t), wide)
wide_told (lit.Same a b) (t, inr wide) = (b, a, decided.back a b (numbers_of a b t), wide)
wide_told (lit.Apart a b) h = absurd h
wide_told (lit.Flag n held) h = absurd h
