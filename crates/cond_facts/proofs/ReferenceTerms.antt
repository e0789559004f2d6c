-- References, and the terms and literals that they stand for.
use Rattle.std.specs.Prelude.{◌≡◌, ◌≢◌, ◌⊎◌, ℕ, zero, suc, ◌<◌, Bool, true, false, ◌||◌, if◌then◌else◌, List, [], ◌∷◌, ◌++◌, slice_index_or, Contains, Option, Some}
use Rattle.std.proofs.Common.{refl, ap, sym, subst, ◌∙◌, inl, inr, arith, rules}
use Rattle.terms.specs.declared.Term.{Term, Term-F, RefSym, RefLit, roll-Term, out-Term, roll-out-Term, para-roll-Term, the_lemmas}
use Rattle.terms.specs.declared.Literal.TheVariants as lit
use Rattle.terms.specs.Within.{terms_within, within_step}
use Rattle.terms.specs.Fitting.{terms_in}
use Rattle.terms.specs.Sameness.{same_term}
use Rattle.terms.specs.SamenessLaws.{nat_same, nat_itself, same_is_equal, equal_is_same}
use Rattle.proof_checker.specs.Replacing.{put, put_in, put_step}
use Rattle.proof_checker.specs.Derivations.{StandsIn, Replaced, forth, back}
use Rattle.cond_facts.specs.declared.reference_pairs.Reference.{Reference}
use Rattle.cond_facts.specs.declared.reference_pairs.Reference.TheVariants.{Symbol, Number}
use Rattle.cond_facts.specs.declared.reference_pairs.Pair.{Pair}
use Rattle.cond_facts.specs.ReferencePairs.{same_reference, has, put_for, put_in_pair, replaced, term_of, literal_of, reference_in, reference_of}

pub same_is : (a b : Reference) → same_reference a b ≡ true → a ≡ b
same_is (Symbol m) (Symbol n) h = ap (λ (k : ℕ). Symbol k) (nat_same m n h)
same_is (Symbol m) (Number n) h = absurd (cc)
same_is (Number m) (Symbol n) h = absurd (cc)
same_is (Number m) (Number n) h = ap (λ (k : ℕ). Number k) (nat_same m n h)

pub same_itself : (a : Reference) → same_reference a a ≡ true
same_itself (Symbol n) = nat_itself n
same_itself (Number n) = nat_itself n

pub is_same : (a b : Reference) → a ≡ b → same_reference a b ≡ true
is_same a b e = subst (λ z. same_reference a z ≡ true) e (same_itself a)

clashing : (b : Bool) → b ≡ true → b ≡ false → ⊥
clashing b h k = absurd (cc)

pub not_same : (a b : Reference) → same_reference a b ≡ false → a ≢ b
not_same a b h = λ e. clashing (same_reference a b) (is_same a b e) h

or_cases : (b c : Bool) → (b || c) ≡ true → (b ≡ true) ⊎ (c ≡ true)
or_cases true c h = inl refl
or_cases false c h = inr h

pub or_none : (b c : Bool) → (b || c) ≡ false → (b ≡ false) × (c ≡ false)
or_none true c h = absurd (cc)
or_none false c h = (refl, h)

-- a side of a pair
pub has_side : (p : Pair) (x : Reference) → has p x ≡ true → (p.left ≡ x) ⊎ (p.right ≡ x)
has_side p x h = elim (or_cases (same_reference p.left x) (same_reference p.right x) h) [
  | inl k ↦ inl (same_is p.left x k)
  | inr k ↦ inr (same_is p.right x k)
]

pub has_no_side : (p : Pair) (x : Reference) → has p x ≡ false → (p.left ≢ x) × (p.right ≢ x)
has_no_side p x h =
    let (j, k) = or_none (same_reference p.left x) (same_reference p.right x) h in
    (not_same p.left x j, not_same p.right x k)

-- the term of a reference
pub out-RefSym : (n : ℕ) → out-Term (RefSym n) ≡ Term-F.RefSym n
out-RefSym n = search (rules, the_lemmas)

pub out-RefLit : (n : ℕ) → out-Term (RefLit n) ≡ Term-F.RefLit n
out-RefLit n = search (rules, the_lemmas)

reference_back : (a : Reference) → reference_of (term_of a) ≡ Some a
reference_back (Symbol n) = ap reference_in (out-RefSym n)
reference_back (Number n) = ap reference_in (out-RefLit n)

pub one_reference : (a b : Reference) → ◌≡◌ {A = Option Reference} (Some a) (Some b) → a ≡ b
one_reference a b e = cc

pub term_injective : (a b : Reference) → term_of a ≡ term_of b → a ≡ b
term_injective a b e = one_reference a b (sym (reference_back a) ∙ ap reference_of e ∙ reference_back b)

pub rolled : (t : Term) (x : Term-F Term) → out-Term t ≡ x → roll-Term x ≡ t
rolled t x is = ap roll-Term (sym is) ∙ roll-out-Term t

within_reference : (a : Reference) → terms_within (term_of a) ≡ term_of a ∷ []
within_reference (Symbol n) =
    subst (λ t. terms_within t ≡ t ∷ []) (rolled (RefSym n) (Term-F.RefSym n) (out-RefSym n)) (para-roll-Term (List Term) within_step (Term-F.RefSym n))
within_reference (Number n) =
    subst (λ t. terms_within t ≡ t ∷ []) (rolled (RefLit n) (Term-F.RefLit n) (out-RefLit n)) (para-roll-Term (List Term) within_step (Term-F.RefLit n))

put_at_leaf : (from to : Term) (a : Reference) → put from to (term_of a) ≡ (if same_term (term_of a) from then to else term_of a)
put_at_leaf from to (Symbol n) =
    subst (λ t. put from to t ≡ (if same_term t from then to else t)) (rolled (RefSym n) (Term-F.RefSym n) (out-RefSym n)) (para-roll-Term Term (put_step from to) (Term-F.RefSym n))
put_at_leaf from to (Number n) =
    subst (λ t. put from to t ≡ (if same_term t from then to else t)) (rolled (RefLit n) (Term-F.RefLit n) (out-RefLit n)) (para-roll-Term Term (put_step from to) (Term-F.RefLit n))

both_or_none : (b c : Bool) → (b ≡ true → c ≡ true) → (c ≡ true → b ≡ true) → b ≡ c
both_or_none true c h k = sym (h refl)
both_or_none false true h k = k refl
both_or_none false false h k = refl

same_terms : (a b : Reference) → same_term (term_of a) (term_of b) ≡ same_reference a b
same_terms a b =
    both_or_none (same_term (term_of a) (term_of b)) (same_reference a b) (λ h. is_same a b (term_injective a b (same_is_equal (term_of a) (term_of b) h))) (λ h. equal_is_same (term_of a) (term_of b) (ap term_of (same_is a b h)))

chosen : (b : Bool) (to x : Reference) → (if b then term_of to else term_of x) ≡ term_of (if b then to else x)
chosen true to x = refl
chosen false to x = refl

put_term : (from to x : Reference) → put (term_of from) (term_of to) (term_of x) ≡ term_of (put_for from to x)
put_term from to x =
    put_at_leaf (term_of from) (term_of to) x ∙ ap (λ (b : Bool). if b then term_of to else term_of x) (same_terms x from) ∙ chosen (same_reference x from) to x

-- literals
put_literal : (same : Bool) (from to : Reference) (place : ℕ) (p : Pair) → put_in (term_of from) (term_of to) (literal_of same p) ≡ literal_of same (put_in_pair from to place p)
put_literal true from to place p =
    ap (λ t. lit.Same t (put (term_of from) (term_of to) (term_of p.right))) (put_term from to p.left) ∙ ap (λ t. lit.Same (term_of (put_for from to p.left)) t) (put_term from to p.right)
put_literal false from to place p =
    ap (λ t. lit.Apart t (put (term_of from) (term_of to) (term_of p.right))) (put_term from to p.left) ∙ ap (λ t. lit.Apart (term_of (put_for from to p.left)) t) (put_term from to p.right)

two_within : (x y : Reference) → (terms_within (term_of x) ++ terms_within (term_of y)) ++ [] ≡ term_of x ∷ term_of y ∷ []
two_within x y =
    ap (λ ts. (ts ++ terms_within (term_of y)) ++ []) (within_reference x) ∙ ap (λ ts. ((term_of x ∷ []) ++ ts) ++ []) (within_reference y)

literal_terms : (same : Bool) (p : Pair) → terms_in (literal_of same p ∷ []) ≡ term_of p.left ∷ term_of p.right ∷ []
literal_terms true p = two_within p.left p.right
literal_terms false p = two_within p.left p.right

one_of_two : (a b t : Term) → (a ≡ t) ⊎ (b ≡ t) → Contains (a ∷ b ∷ []) t
one_of_two a b t (inl e) = (0, omega arith, e)
one_of_two a b t (inr e) = (1, omega arith, e)

two_at : (a b t : Term) (k : ℕ) → k < 2 → slice_index_or (a ∷ b ∷ []) k t ≡ t → (a ≡ t) ⊎ (b ≡ t)
two_at a b t zero lt is = inl is
two_at a b t (suc zero) lt is = inr is
two_at a b t (suc (suc k)) lt is = absurd (omega arith)

two_cases : (a b t : Term) → Contains (a ∷ b ∷ []) t → (a ≡ t) ⊎ (b ≡ t)
two_cases a b t (k, lt, is) = two_at a b t k lt is

stands : (same : Bool) (p : Pair) (x : Reference) → has p x ≡ true → StandsIn (term_of x) (literal_of same p)
stands same p x h =
    subst (λ ts. Contains ts (term_of x)) (sym (literal_terms same p)) (one_of_two (term_of p.left) (term_of p.right) (term_of x) (elim (has_side p x h) [
      | inl e ↦ inl (ap term_of e)
      | inr e ↦ inr (ap term_of e)
    ]))

stands_not : (same : Bool) (p : Pair) (x : Reference) → has p x ≡ false → ¬ (StandsIn (term_of x) (literal_of same p))
stands_not same p x h = λ there.
    let (j, k) = has_no_side p x h in
    elim (two_cases (term_of p.left) (term_of p.right) (term_of x) (subst (λ ts. Contains ts (term_of x)) (literal_terms same p) there)) [
      | inl e ↦ j (term_injective p.left x e)
      | inr e ↦ k (term_injective p.right x e)
    ]

replaced_by_test : (same : Bool) (e p : Pair) (place : ℕ) (b : Bool) → has p e.left ≡ b → Replaced (term_of e.left) (term_of e.right) (literal_of same p) (literal_of same (if b then put_in_pair e.left e.right place p else put_in_pair e.right e.left place p))
replaced_by_test same e p place true h =
    subst (Replaced (term_of e.left) (term_of e.right) (literal_of same p)) (put_literal same e.left e.right place p) (forth (stands same p e.left h))
replaced_by_test same e p place false h =
    subst (Replaced (term_of e.left) (term_of e.right) (literal_of same p)) (put_literal same e.right e.left place p) (back (stands_not same p e.left h))

-- the replaced pair's literal is the literal with the equality put into it
pub replaced_is : (same : Bool) (e p : Pair) (place : ℕ) → Replaced (term_of e.left) (term_of e.right) (literal_of same p) (literal_of same (replaced e place p))
replaced_is same e p place = replaced_by_test same e p place (has p e.left) refl

place_by_test : (e p : Pair) (place : ℕ) (b : Bool) → (if b then put_in_pair e.left e.right place p else put_in_pair e.right e.left place p).place ≡ place
place_by_test e p place true = refl
place_by_test e p place false = refl

pub replaced_place : (e p : Pair) (place : ℕ) → (replaced e place p).place ≡ place
replaced_place e p place = place_by_test e p place (has p e.left)
