-- What follows where the rows of a proposed literal are within 128 bits, or aren't.
use Rattle.std.specs.Prelude.{◌≡◌, ℕ, Bool, true, false, List}
use Rattle.std.proofs.Common.{refl, sym, subst, inl, inr}
use Rattle.lin_rows.specs.declared.WidePoint.{WidePoint}
use Rattle.lin_rows.specs.declared.WidePoint.TheVariants as points
use Rattle.terms.specs.declared.Literal.{Literal}
use Rattle.proof_checker.specs.declared.Condition.{Condition}
use Rattle.cond_plan.specs.declared.Plan.{Plan}
use Rattle.cond_facts.specs.ConditionPoints.{AreFormsWithin, IsWideForm, of_row, IsWideIn, IsNarrow}
use Rattle.cond_facts.specs.Decisions.{AreRowsTold}
use Rattle.cond_facts.proofs.FactLaws.{narrow_order_fits}
use Rattle.cond_search.specs.declared.step.Split.{Split}
use Rattle.cond_search.specs.declared.step.Congruence.{Congruence}
use Rattle.cond_search.specs.Steps.{IsBegun, IsProposed, IsNext, IsProposedSplit, IsNextSplit, IsProposedCongruence, IsNextCongruence, AreBothTold}

next_of : (c : Condition) (p : Plan) (fs : List Literal) (n : ℕ) (l : Literal) → IsProposed c p fs n l → AreRowsTold l true → IsNext c p fs l
next_of c p fs n l h told = record {
  fact = record {
    is_sorted = h.is_sorted;
    is_plain = h.is_plain;
    orders = λ x y is. (n, h.orders x y is);
    fit = told;
  };
  listed = h.listed;
  answer = h.answer;
}

wide_of : (c : Condition) (p : Plan) (fs : List Literal) (n : ℕ) (l : Literal) → AreFormsWithin c → IsProposed c p fs n l → AreRowsTold l false → IsWideForm c n
wide_of c p fs n l forms h (x, y, is, wide) = of_row x y forms (h.orders x y is) wide

none_of : (c : Condition) (p : Plan) (fs : List Literal) (n : ℕ) (l : Literal) → IsNarrow c → IsProposed c p fs n l → AreRowsTold l false → ⊥
none_of c p fs n l narrow h (x, y, is, wide) = wide (narrow_order_fits c n x y narrow (h.orders x y is))

-- a split
pub split_told : (c : Condition) (p : Plan) (fs : List Literal) (n : ℕ) (s : Split) (b : Bool) → b ≡ true → IsProposedSplit c p fs n s → AreBothTold s b → IsNextSplit c p fs s
split_told c p fs n s b e h told =
    let both : AreBothTold s true = subst (AreBothTold s) e told in
    record {
      split = h.split;
      first = next_of c p fs n s.first h.first both.0;
      second = next_of c p fs n s.second h.second both.1;
    }

pub split_wide : (c : Condition) (p : Plan) (fs : List Literal) (n : ℕ) (s : Split) (b : Bool) → b ≡ false → IsBegun c p fs → IsProposedSplit c p fs n s → AreBothTold s b → IsWideForm c n
split_wide c p fs n s b e begun h told = elim (subst (AreBothTold s) e told) [
  | inl first ↦ wide_of c p fs n s.first begun.forms h.first first
  | inr second ↦ wide_of c p fs n s.second begun.forms h.second second
]

pub split_narrow : (c : Condition) (p : Plan) (fs : List Literal) (n : ℕ) (s : Split) (b : Bool) → b ≡ false → IsProposedSplit c p fs n s → AreBothTold s b → IsNarrow c → ⊥
split_narrow c p fs n s b e h told narrow = elim (subst (AreBothTold s) e told) [
  | inl first ↦ none_of c p fs n s.first narrow h.first first
  | inr second ↦ none_of c p fs n s.second narrow h.second second
]

-- the equality of two results
pub results_told : (c : Condition) (p : Plan) (fs : List Literal) (n : ℕ) (k : Congruence) (b : Bool) → b ≡ true → IsProposedCongruence c p fs n k → AreRowsTold k.results b → IsNextCongruence c p fs k
results_told c p fs n k b e h told = record {
  congruence = h.congruence;
  results = next_of c p fs n k.results h.results (subst (AreRowsTold k.results) e told);
}

pub results_wide : (c : Condition) (p : Plan) (fs : List Literal) (n : ℕ) (k : Congruence) (b : Bool) → b ≡ false → IsBegun c p fs → IsProposedCongruence c p fs n k → AreRowsTold k.results b → IsWideForm c n
results_wide c p fs n k b e begun h told =
    wide_of c p fs n k.results begun.forms h.results (subst (AreRowsTold k.results) e told)

pub results_narrow : (c : Condition) (p : Plan) (fs : List Literal) (n : ℕ) (k : Congruence) (b : Bool) → b ≡ false → IsProposedCongruence c p fs n k → AreRowsTold k.results b → IsNarrow c → ⊥
results_narrow c p fs n k b e h told narrow =
    none_of c p fs n k.results narrow h.results (subst (AreRowsTold k.results) e told)

-- a wide form is a wide point
pub wide_point : (c : Condition) (n : ℕ) (w : WidePoint) → w ≡ points.Form (record { line = 0; col = n }) → IsWideForm c n → IsWideIn c w
wide_point c n w e h = subst (IsWideIn c) (sym e) (refl, h)
