-- What is derived holds.
use Rattle.std.specs.Prelude.{◌≡◌, ℕ, ◌⊎◌, List, [], ◌∷◌, ◌++◌, map, All, Contains, IsTrue}
use Rattle.std.proofs.Common.{refl, ap, sym, ◌∙◌, inl, inr}
use Rattle.std.proofs.lemmas.List.Elements.{All-nil, All-cons, All-head, All-tail, All-contains, Contains-append_left, Contains-append_right, Contains-push}
use Rattle.lin_rows.specs.StepLaws.{refuted}
use Rattle.terms.specs.declared.Term.{Term}
use Rattle.terms.specs.declared.Literal.{Literal}
use Rattle.terms.specs.declared.Literal.TheVariants as lit
use Rattle.terms.specs.Sorts.{sorted}
use Rattle.terms.specs.Meanings.{Valued, meaning_at, Holds}
use Rattle.terms.specs.Fitting.{Application, Applies, AppliedIn, Fits, terms_in}
use Rattle.proof_checker.specs.declared.condition.Condition.{Condition}
use Rattle.proof_checker.specs.declared.derivation.Derivation.{Derivation}
use Rattle.proof_checker.specs.Conditions.{literals_of, opposite, plain, plain_literal, IsSorted, HoldsAt}
use Rattle.proof_checker.specs.Derivations.{Assumed, AreEqual, Replaced, forth, back, Numbered, here, later, again, other, DerivesFrom, split, replace, congruent, clash, false_itself, combine, Derives, first_assumptions}
use Rattle.proof_checker.proofs.Meant.{meant-plain}
use Rattle.proof_checker.proofs.Facts.{holds_at, one_more, holds-plain, assumed_holds, holds-put, opposites_clash, false_fails}
use Rattle.proof_checker.proofs.Splitting.{one_side_holds, holds_or_not}
use Rattle.proof_checker.proofs.Combining.{all_rows_met}

replaced_holds : (m : Valued) (a b : Term) (l k : Literal) → meaning_at m a ≡ meaning_at m b → Holds m l → Replaced a b l k → Holds m k
replaced_holds m a b l _ e h (forth stands) = holds-put m a b l e h
replaced_holds m a b l _ e h (back none) = holds-put m b a l (sym e) h

-- a numbered application stands among the terms
numbered_stands : (before ts : List Term) (n : ℕ) (f : Application) → Numbered before ts n f → (t : Term) × Contains ts t × Applies t f
numbered_stands _ _ _ _ (here before t ts f is none) =
    (t, Contains-append_left (t ∷ []) ts t (Contains-push [] t), is)
numbered_stands _ _ _ _ (later before t ts g n f is none more) =
    let (x, there_, is_) = numbered_stands (before ++ t ∷ []) ts n f more in
    (x, Contains-append_right (t ∷ []) ts x there_, is_)
numbered_stands _ _ _ _ (again before t ts n f there more) =
    let (x, there_, is_) = numbered_stands before ts n f more in
    (x, Contains-append_right (t ∷ []) ts x there_, is_)
numbered_stands _ _ _ _ (other before t ts n f none more) =
    let (x, there_, is_) = numbered_stands before ts n f more in
    (x, Contains-append_right (t ∷ []) ts x there_, is_)

operands_equal : (m : Valued) (fs : List Literal) (as_ bs : List Term) → All (Holds m) fs → AreEqual fs as_ bs → map (meaning_at m) as_ ≡ map (meaning_at m) bs
operands_equal m fs [] [] all are = refl
operands_equal m fs [] (b ∷ bs) all are = absurd are
operands_equal m fs (a ∷ as_) [] all are = absurd are
operands_equal m fs (a ∷ as_) (b ∷ bs) all are =
    ap (λ p. p ∷ map (meaning_at m) as_) (one are.0) ∙ ap (λ ps. meaning_at m b ∷ ps) (operands_equal m fs as_ bs all are.1)
  where
    one : (plain a ≡ plain b) ⊎ Assumed fs (lit.Same a b) → meaning_at m a ≡ meaning_at m b
    one (inl e) = sym (meant-plain m a) ∙ ap (meaning_at m) e ∙ meant-plain m b
    one (inr there) = assumed_holds m fs (lit.Same a b) all there

pub refutes : (m : Valued) (c : Condition) → Fits m (literals_of c) → (fs : List Literal) (d : Derivation) → DerivesFrom c fs d → All (Holds m) fs → ⊥
refutes m c fits _ _ (split fs d held else_ l k is splits left right) all =
    elim (one_side_holds m c fs l k fits all splits) [
      | inl h ↦ refutes m c fits (fs ++ plain_literal l ∷ []) held left (one_more (Holds m) fs (plain_literal l) all (holds-plain m l h))
      | inr h ↦ refutes m c fits (fs ++ plain_literal k ∷ []) else_ right (one_more (Holds m) fs (plain_literal k) all (holds-plain m k h))
    ]
refutes m c fits _ _ (replace fs d rest i j a b l k is at_i at_j replaced more) all =
    let equal = holds_at (Holds m) fs i (lit.Same a b) all at_i in
    let holds = holds_at (Holds m) fs j l all at_j in
    refutes m c fits (fs ++ k ∷ []) rest more (one_more (Holds m) fs k all (replaced_holds m a b l k equal holds replaced))
refutes m c fits _ _ (congruent fs d rest i j f g is at_i at_j operator equal more) all =
    let left : AppliedIn (literals_of c) f = numbered_stands [] (terms_in (literals_of c)) i f at_i in
    let right : AppliedIn (literals_of c) g = numbered_stands [] (terms_in (literals_of c)) j g at_j in
    let same = fits.congruent f g left right operator (operands_equal m fs f.operands g.operands all equal) in
    let l : Literal = lit.Same f.result g.result in
    refutes m c fits (fs ++ plain_literal (lit.Same f.result g.result) ∷ []) rest more (one_more (Holds m) fs (plain_literal (lit.Same f.result g.result)) all (holds-plain m (lit.Same f.result g.result) same))
refutes m c fits _ _ (clash fs d i j l k is at_i at_j (inl opposite_)) all =
    opposites_clash m l k fits.unit opposite_ (holds_at (Holds m) fs i l all at_i) (holds_at (Holds m) fs j k all at_j)
refutes m c fits _ _ (clash fs d i j l k is at_i at_j (inr opposite_)) all =
    opposites_clash m k l fits.unit opposite_ (holds_at (Holds m) fs j k all at_j) (holds_at (Holds m) fs i l all at_i)
refutes m c fits _ _ (false_itself fs d i l is at_i false_) all =
    false_fails m l fits.unit false_ (holds_at (Holds m) fs i l all at_i)
refutes m c fits _ _ (combine fs d steps rows is are combination) all =
    refuted m.unit m.numbers rows steps combination fits.unit (all_rows_met m fs rows are all)

all_plain : (m : Valued) (ls : List Literal) → All (Holds m) ls → All (Holds m) (map plain_literal ls)
all_plain m [] all = All-nil (Holds m)
all_plain m (l ∷ ls) all =
    All-cons (Holds m) (plain_literal l) (map plain_literal ls) (holds-plain m l (All-head (Holds m) l ls all)) (all_plain m ls (All-tail (Holds m) l ls all))

-- a condition that is derived holds
pub derived_holds : (c : Condition) (d : Derivation) → IsSorted c → Derives c d → (m : Valued) → HoldsAt m c
derived_holds c d is derives m fits hyps =
    let there = Contains-push c.hyps c.goal in
    elim (holds_or_not m (literals_of c) c.goal fits there (All-contains (λ l. IsTrue (sorted l)) (literals_of c) c.goal is there)) [
      | inl h ↦ h
      | inr h ↦ absurd (refutes m c fits (first_assumptions c) d derives (all_plain m (c.hyps ++ opposite c.goal ∷ []) (one_more (Holds m) c.hyps (opposite c.goal) hyps h)))
    ]
