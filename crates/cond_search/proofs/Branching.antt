-- What is decided of assumptions, from what is decided of more of them.
use Rattle.std.specs.Prelude.{◌≡◌, IsTrue, List, [], ◌∷◌, ◌++◌, All}
use Rattle.std.proofs.Common.{sym, subst, ap, ◌∙◌, rules}
use Rattle.std.proofs.lemmas.List.Elements.{All-contains, All-push, Contains-append_left}
use Rattle.lin_rows.specs.declared.Point.{Point}
use Rattle.terms.specs.declared.Literal.{Literal}
use Rattle.terms.specs.declared.Literal.TheVariants as lit
use Rattle.proof_checker.specs.declared.Condition.{Condition}
use Rattle.proof_checker.specs.declared.Derivation.{Derivation, Derivation-F, out-Derivation, the_lemmas}
use Rattle.proof_checker.specs.declared.Derivation as derivation
use Rattle.proof_checker.specs.Conditions.{plain_literal}
use Rattle.proof_checker.specs.Derivations.{DerivesFrom, split, congruent}
use Rattle.cond_plan.specs.declared.Plan.{Plan}
use Rattle.cond_plan.specs.PointValues.{HoldsAtPoint}
use Rattle.cond_facts.specs.Decisions.{of_comparison, IsFactOf, IsApartListed, IsFittingPoint}
use Rattle.cond_facts.proofs.Fitted.{of_all}
use Rattle.cond_search.specs.declared.decided.Decided.{Decided}
use Rattle.cond_search.specs.declared.decided.Decided.TheVariants as verdict
use Rattle.cond_search.specs.declared.step.Split.{Split}
use Rattle.cond_search.specs.declared.step.Congruence.{Congruence}
use Rattle.cond_search.specs.Verdicts.{IsDecision}
use Rattle.cond_search.specs.Steps.{IsBegun, IsNext, IsSplit, IsCongruence}

-- the search goes on with an assumption more
pub begun_with : (c : Condition) (p : Plan) (fs gs : List Literal) (l : Literal) → gs ≡ fs ++ l ∷ [] → IsBegun c p fs → IsNext c p fs l → IsBegun c p gs
begun_with c p fs gs l e begun next = record {
  is_sorted = begun.is_sorted;
  plan = begun.plan;
  forms = begun.forms;
  facts = subst (All (IsFactOf c)) (sym e) (All-push (IsFactOf c) fs l begun.facts next.fact);
  apart = subst (All (IsApartListed p)) (sym e) (All-push (IsApartListed p) fs l begun.apart next.listed);
}

-- what fits with more assumptions fits with fewer
fits_before : (c : Condition) (fs gs : List Literal) (p : Point) → IsFittingPoint c (fs ++ gs) p → IsFittingPoint c fs p
fits_before c fs gs p h = record {
  unit = h.unit;
  hold = of_all (λ l. IsTrue (of_comparison l) → HoldsAtPoint p l) fs (λ l there. All-contains (λ k. IsTrue (of_comparison k) → HoldsAtPoint p k) (fs ++ gs) l h.hold (Contains-append_left fs gs l there));
  clear = h.clear;
  congruent = h.congruent;
}

pub fits_decided : (c : Condition) (fs : List Literal) (l : Literal) (d : Decided) (p : Point) → d ≡ verdict.Fits p → IsDecision c (fs ++ l ∷ []) d → IsFittingPoint c fs p
fits_decided c fs l d p e h = fits_before c fs (l ∷ []) p (subst (IsDecision c (fs ++ l ∷ [])) e h)

out-Split : (l : Literal) (held other : Derivation) → out-Derivation (derivation.Split l held other) ≡ Derivation-F.Split l held other
out-Split l held other = search (rules, the_lemmas)

pub split_derives : (c : Condition) (fs : List Literal) (s : Split) (held other : Derivation) → IsSplit c fs s → DerivesFrom c (fs ++ s.first ∷ []) held → DerivesFrom c (fs ++ s.second ∷ []) other → DerivesFrom c fs (derivation.Split s.first held other)
split_derives c fs s held other is h k =
    split fs (derivation.Split s.first held other) held other s.first s.second (out-Split s.first held other) is.splits (subst (λ z. DerivesFrom c (fs ++ z ∷ []) held) (sym is.first_plain) h) (subst (λ z. DerivesFrom c (fs ++ z ∷ []) other) (sym is.second_plain) k)

-- the derivation of a split, from what was decided of its second side
pub split_decided : (c : Condition) (fs : List Literal) (s : Split) (held other d : Derivation) (v : Decided) → v ≡ verdict.Refuted other → d ≡ derivation.Split s.first held other → IsSplit c fs s → DerivesFrom c (fs ++ s.first ∷ []) held → IsDecision c (fs ++ s.second ∷ []) v → DerivesFrom c fs d
split_decided c fs s held other d v e f is h k =
    subst (DerivesFrom c fs) (sym f) (split_derives c fs s held other is h (subst (IsDecision c (fs ++ s.second ∷ [])) e k))

out-Congruent : (k : Congruence) (rest : Derivation) → out-Derivation (derivation.Congruent k.left k.right rest) ≡ Derivation-F.Congruent k.left k.right rest
out-Congruent k rest = search (rules, the_lemmas)

pub congruence_decided : (c : Condition) (fs : List Literal) (k : Congruence) (rest d : Derivation) (v : Decided) → v ≡ verdict.Refuted rest → d ≡ derivation.Congruent k.left k.right rest → IsCongruence c fs k → IsDecision c (fs ++ k.results ∷ []) v → DerivesFrom c fs d
congruence_decided c fs k rest d v e f is h =
    let plain : plain_literal (lit.Same is.left.result is.right.result) ≡ k.results = ap plain_literal (sym is.results) ∙ is.is_plain in
    let derives : DerivesFrom c (fs ++ k.results ∷ []) rest = subst (IsDecision c (fs ++ k.results ∷ [])) e h in
    subst (DerivesFrom c fs) (sym f) (congruent fs (derivation.Congruent k.left k.right rest) rest k.left k.right is.left is.right (out-Congruent k rest) is.at_left is.at_right is.operator is.operands (subst (λ z. DerivesFrom c (fs ++ z ∷ []) rest) (sym plain) derives))
