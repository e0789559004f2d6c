-- The pairs that literals compare.
use Rattle.std.specs.Prelude.{◌≡◌, ◌≢◌, ℕ, suc, ◌+◌, ℤ, Bool, true, false, IsTrue, List, [], ◌∷◌, length, All, Option, Some, None, slice_get}
use Rattle.std.proofs.Common.{refl, ap, sym, subst, ◌∙◌, arith}
use Rattle.std.proofs.lemmas.List.Elements.{All-nil, All-cons, All-head, All-tail}
use Rattle.terms.specs.declared.Term.{Term, Term-F, RefSym, RefLit, map-Term, out-Term, fold_out-Term}
use Rattle.terms.specs.declared.Literal.{Literal}
use Rattle.terms.specs.declared.Literal.TheVariants as lit
use Rattle.terms.specs.Sorts.{of_references, reference_form}
use Rattle.terms.specs.Meanings.{Valued, Meaning, Reference as Referred, meaning_at, meaning_step, AreApart, Holds}
use Rattle.proof_checker.specs.declared.Condition.{Condition}
use Rattle.proof_checker.specs.declared.Derivation.{Derivation}
use Rattle.proof_checker.specs.Conditions.{plain, plain_form, plain_literal}
use Rattle.proof_checker.specs.Derivations.{DerivesFrom}
use Rattle.proof_checker.specs.Valuations.{reference_in as number_in}
use Rattle.cond_facts.specs.declared.reference_pairs.Reference.{Reference}
use Rattle.cond_facts.specs.declared.reference_pairs.Reference.TheVariants.{Symbol, Number}
use Rattle.cond_facts.specs.declared.reference_pairs.Pair.{Pair}
use Rattle.cond_facts.specs.ReferencePairs.{term_of, literal_of, IsAssumed, value_of, AreEqualAt, DifferAt, AreRefuted, reference_in, reference_of, paired, equal_pair, different_pair, with_pair, equal_pairs, different_pairs, ComparesReferences}
use Rattle.cond_facts.specs.Decisions.{DoReferencesHold}
use Rattle.cond_facts.specs.ReferenceValues.{AreMet}
use Rattle.cond_facts.specs.FlagFacts.{StandFrom}
use Rattle.cond_facts.proofs.ReferenceTerms.{out-RefSym, out-RefLit, one_reference, rolled}

-- the meaning of a term by its form
meant : (m : Valued) (t : Term) (x : Term-F Term) → out-Term t ≡ x → meaning_at m t ≡ meaning_step m (map-Term Term Meaning (meaning_at m) x)
meant m t x e =
    fold_out-Term Meaning (meaning_step m) t ∙ ap (λ y. meaning_step m (map-Term Term Meaning (meaning_at m) y)) e

-- what a term of references is
pub record IsReference (m : Valued) (t : Term) : Type 0 where
  pub is : Reference
  pub told : reference_of t ≡ Some is
  pub meant : meaning_at m t ≡ Referred (value_of m.references is)

reference_by : (m : Valued) (t : Term) (x : Term-F Term) → out-Term t ≡ x → reference_form x ≡ true → IsReference m t
reference_by m t (Term-F.RefSym n) e h =
    record { is = Symbol n; told = ap reference_in e; meant = meant m t (Term-F.RefSym n) e }
reference_by m t (Term-F.RefLit n) e h =
    record { is = Number n; told = ap reference_in e; meant = meant m t (Term-F.RefLit n) e }
reference_by m t Term-F.Nil e h =
    record { is = Number 0; told = ap reference_in e; meant = meant m t Term-F.Nil e }
reference_by m t x e h = absurd (cc)

reference_is : (m : Valued) (t : Term) → IsTrue (of_references t) → IsReference m t
reference_is m t h = reference_by m t (out-Term t) refl h

paired_is : (place : ℕ) (x y : Option Reference) (a b : Reference) → x ≡ Some a → y ≡ Some b → paired place x y ≡ Some (record { place = place; left = a; right = b })
paired_is place x y a b e f = ap (λ z. paired place z y) e ∙ ap (λ z. paired place (Some a) z) f

all_rest : (P : Pair → Type 0) (o : Option Pair) (ps : List Pair) → All P (with_pair o ps) → All P ps
all_rest P (Some p) ps all = All-tail P p ps all
all_rest P None ps all = all

first_of : (P : Pair → Type 0) (o : Option Pair) (p : Pair) (ps : List Pair) → o ≡ Some p → All P (with_pair o ps) → P p
first_of P o p ps e all = All-head P p ps (subst (λ z. All P (with_pair z ps)) e all)

apart_meant : (unit : ℤ) (p q : Meaning) (j k : ℕ) → p ≡ Referred j → q ≡ Referred k → j ≢ k → AreApart unit p q
apart_meant unit p q j k e f other =
    subst (λ z. AreApart unit z q) (sym e) (subst (λ z. AreApart unit (Referred j) z) (sym f) (λ h. other (cc)))

module _ (m : Valued) where
  literal_holds : (place : ℕ) (l : Literal) (ps qs : List Pair) → All (AreEqualAt m.references) (with_pair (equal_pair place l) ps) → All (DifferAt m.references) (with_pair (different_pair place l) qs) → ComparesReferences l → Holds m l
  literal_holds place (lit.Same a b) ps qs all apart h =
      let x = reference_is m a h.left in
      let y = reference_is m b h.right in
      let e = first_of (AreEqualAt m.references) (equal_pair place (lit.Same a b)) (record { place = place; left = x.is; right = y.is }) ps (paired_is place (reference_of a) (reference_of b) x.is y.is x.told y.told) all in
      x.meant ∙ ap Referred e ∙ sym y.meant
  literal_holds place (lit.Apart a b) ps qs all apart h =
      let x = reference_is m a h.left in
      let y = reference_is m b h.right in
      let e = first_of (DifferAt m.references) (different_pair place (lit.Apart a b)) (record { place = place; left = x.is; right = y.is }) qs (paired_is place (reference_of a) (reference_of b) x.is y.is x.told y.told) apart in
      apart_meant m.unit (meaning_at m a) (meaning_at m b) (value_of m.references x.is) (value_of m.references y.is) x.meant y.meant e
  literal_holds place (lit.AtMost a b) ps qs all apart h = absurd h
  literal_holds place (lit.Flag n held) ps qs all apart h = absurd h

  literals_hold : (place : ℕ) (ls : List Literal) → All (AreEqualAt m.references) (equal_pairs place ls) → All (DifferAt m.references) (different_pairs place ls) → All (λ l. ComparesReferences l → Holds m l) ls
  literals_hold place [] all apart = All-nil (λ l. ComparesReferences l → Holds m l)
  literals_hold place (l ∷ ls) all apart =
      All-cons (λ l. ComparesReferences l → Holds m l) l ls (literal_holds place l (equal_pairs (place + 1) ls) (different_pairs (place + 1) ls) all apart) (literals_hold (place + 1) ls (all_rest (AreEqualAt m.references) (equal_pair place l) (equal_pairs (place + 1) ls) all) (all_rest (DifferAt m.references) (different_pair place l) (different_pairs (place + 1) ls) apart))

-- where the pairs are met, the literals that compare references hold
pub references_hold : (fs : List Literal) (rs : List (ℕ × ℕ)) → AreMet (number_in rs) (equal_pairs 0 fs) (different_pairs 0 fs) → DoReferencesHold fs rs
references_hold fs rs h = λ m e. literals_hold m 0 fs (subst (λ f. All (AreEqualAt f) (equal_pairs 0 fs)) (sym e) h.equal) (subst (λ f. All (DifferAt f) (different_pairs 0 fs)) (sym e) h.different)

-- the pairs of plain literals are assumed
term_by : (t : Term) (x : Term-F Term) (a : Reference) → out-Term t ≡ x → reference_in x ≡ Some a → term_of a ≡ plain_form t x
term_by t (Term-F.RefSym n) a e h =
    ap term_of (sym (one_reference (Symbol n) a h)) ∙ sym (rolled (RefSym n) (Term-F.RefSym n) (out-RefSym n)) ∙ rolled t (Term-F.RefSym n) e
term_by t (Term-F.RefLit n) a e h =
    ap term_of (sym (one_reference (Number n) a h)) ∙ sym (rolled (RefLit n) (Term-F.RefLit n) (out-RefLit n)) ∙ rolled t (Term-F.RefLit n) e
term_by t Term-F.Nil a e h = ap term_of (sym (one_reference (Number 0) a h))
term_by t x a e h = absurd (cc)

term_is : (t : Term) (a : Reference) → reference_of t ≡ Some a → term_of a ≡ plain t
term_is t a h = term_by t (out-Term t) a refl h

-- the literals from a number on
pub stand_next : (fs : List Literal) (place : ℕ) (l : Literal) (ls : List Literal) → StandFrom fs place (l ∷ ls) → StandFrom fs (place + 1) ls
stand_next fs place l ls h = λ i k e.
    let same : place + suc i ≡ (place + 1) + i = omega arith in
    subst (λ n. slice_get fs n ≡ Some k) same (h (suc i) k e)

pub stand_first : (fs : List Literal) (place : ℕ) (l : Literal) (ls : List Literal) → StandFrom fs place (l ∷ ls) → slice_get fs place ≡ Some l
stand_first fs place l ls h =
    let same : place + 0 ≡ place = omega arith in
    subst (λ n. slice_get fs n ≡ Some l) same (h 0 l refl)

-- a pair of a literal is of its kind and place, and the plain literal compares it
abbrev IsOf : ℕ → Literal → Bool → Pair → Type 0
IsOf place l same p = (p.place ≡ place) × (literal_of same p ≡ plain_literal l)

paired_from : (place : ℕ) (a b : Term) (x y : Option Reference) (P : Pair → Type 0) (ps : List Pair) → reference_of a ≡ x → reference_of b ≡ y → ((p : Pair) → p.place ≡ place → term_of p.left ≡ plain a → term_of p.right ≡ plain b → P p) → All P ps → All P (with_pair (paired place x y) ps)
paired_from place a b (Some x) (Some y) P ps e f first all =
    let p : Pair = record { place = place; left = x; right = y } in
    All-cons P p ps (first p refl (term_is a x e) (term_is b y f)) all
paired_from place a b (Some x) None P ps e f first all = all
paired_from place a b None y P ps e f first all = all

-- an assumption at a place, for a pair of that place
assumed_at : (fs : List Literal) (l : Literal) (same : Bool) (place : ℕ) (p : Pair) → slice_get fs place ≡ Some l → p.place ≡ place → literal_of same p ≡ l → IsAssumed fs same p
assumed_at fs l same place p at e f =
    subst (λ n. slice_get fs n ≡ Some (literal_of same p)) (sym e) (at ∙ ap (λ k. Some k) (sym f))

equal_first : (fs : List Literal) (place : ℕ) (l : Literal) (ps : List Pair) → slice_get fs place ≡ Some l → plain_literal l ≡ l → All (IsAssumed fs true) ps → All (IsAssumed fs true) (with_pair (equal_pair place l) ps)
equal_first fs place (lit.Same a b) ps at is all =
    paired_from place a b (reference_of a) (reference_of b) (IsAssumed fs true) ps refl refl (λ p e f g. assumed_at fs (lit.Same a b) true place p at e (ap (λ t. lit.Same t (term_of p.right)) f ∙ ap (λ t. lit.Same (plain a) t) g ∙ is)) all
equal_first fs place (lit.Apart a b) ps at is all = all
equal_first fs place (lit.AtMost a b) ps at is all = all
equal_first fs place (lit.Flag n held) ps at is all = all

different_first : (fs : List Literal) (place : ℕ) (l : Literal) (ps : List Pair) → slice_get fs place ≡ Some l → plain_literal l ≡ l → All (IsAssumed fs false) ps → All (IsAssumed fs false) (with_pair (different_pair place l) ps)
different_first fs place (lit.Apart a b) ps at is all =
    paired_from place a b (reference_of a) (reference_of b) (IsAssumed fs false) ps refl refl (λ p e f g. assumed_at fs (lit.Apart a b) false place p at e (ap (λ t. lit.Apart t (term_of p.right)) f ∙ ap (λ t. lit.Apart (plain a) t) g ∙ is)) all
different_first fs place (lit.Same a b) ps at is all = all
different_first fs place (lit.AtMost a b) ps at is all = all
different_first fs place (lit.Flag n held) ps at is all = all

abbrev IsPlain : Literal → Type 0
IsPlain l = plain_literal l ≡ l

equal_assumed : (fs : List Literal) (place : ℕ) (ls : List Literal) → StandFrom fs place ls → All IsPlain ls → All (IsAssumed fs true) (equal_pairs place ls)
equal_assumed fs place [] h is = All-nil (IsAssumed fs true)
equal_assumed fs place (l ∷ ls) h is =
    equal_first fs place l (equal_pairs (place + 1) ls) (stand_first fs place l ls h) (All-head IsPlain l ls is) (equal_assumed fs (place + 1) ls (stand_next fs place l ls h) (All-tail IsPlain l ls is))

different_assumed : (fs : List Literal) (place : ℕ) (ls : List Literal) → StandFrom fs place ls → All IsPlain ls → All (IsAssumed fs false) (different_pairs place ls)
different_assumed fs place [] h is = All-nil (IsAssumed fs false)
different_assumed fs place (l ∷ ls) h is =
    different_first fs place l (different_pairs (place + 1) ls) (stand_first fs place l ls h) (All-head IsPlain l ls is) (different_assumed fs (place + 1) ls (stand_next fs place l ls h) (All-tail IsPlain l ls is))

pub stand_here : (fs : List Literal) → StandFrom fs 0 fs
stand_here fs = λ i l e. let same : i ≡ 0 + i = omega arith in subst (λ n. slice_get fs n ≡ Some l) same e

-- where the pairs are refuted, the literals derive any condition
pub references_refuted : (fs : List Literal) (d : Derivation) → All (λ l. plain_literal l ≡ l) fs → AreRefuted (equal_pairs 0 fs) (different_pairs 0 fs) (length fs) d → (c : Condition) → DerivesFrom c fs d
references_refuted fs d is h c =
    h c fs refl (equal_assumed fs 0 fs (stand_here fs) is) (different_assumed fs 0 fs (stand_here fs) is)
