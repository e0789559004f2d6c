-- What follows from the answers of the prover's parts.
use Rattle.std.specs.Prelude.{◌≡◌, ℕ, ◌+◌, ◌<◌, ◌≤◌, length, take, get_or, Bool, true, false, not, pos, ◌≤ℤ◌, List, All, Option, MatchOption}
use Rattle.std.proofs.Common.{refl, sym, subst}
use Rattle.std.proofs.lemmas.List.{take_all}
use Rattle.std.proofs.lemmas.List.Elements.{All-more}
use Rattle.lin_rows.specs.declared.Point.{Point}
use Rattle.lin_rows.specs.declared.WidePoint.{WidePoint}
use Rattle.lin_rows.specs.declared.WidePoint.TheVariants as points
use Rattle.terms.specs.declared.Literal.{Literal}
use Rattle.terms.specs.Meanings.{Valued}
use Rattle.proof_checker.specs.declared.Condition.{Condition}
use Rattle.proof_checker.specs.declared.Derivation.{Derivation}
use Rattle.proof_checker.specs.declared.Valuation.{Valuation}
use Rattle.proof_checker.specs.Conditions.{IsSorted, HoldsAt}
use Rattle.proof_checker.specs.Derivations.{Derives, DerivesFrom, first_assumptions}
use Rattle.proof_checker.specs.Valuations.{valued_by}
use Rattle.cond_plan.specs.declared.Plan.{Plan}
use Rattle.cond_plan.specs.Plans.{IsPlan}
use Rattle.cond_facts.specs.ConditionPoints.{AreFormsWithin, IsWideForm, IsWideIn, IsNarrow}
use Rattle.cond_facts.specs.Decisions.{IsFactOf, IsApartListed, IsFittingPoint, IsCounterexample, DoReferencesHold, DoFlagsHold, AreRowsTold, IsWideFactAt, valuation_of}
use Rattle.cond_facts.proofs.Firsts.{first_facts_are, wide_first, no_wide_first, first_apart}
use Rattle.cond_prover.specs.declared.prover.Proof.{Proof}
use Rattle.cond_prover.specs.declared.prover.Proof.TheVariants as proofs
use Rattle.cond_prover.specs.declared.settled.Settings.{Settings}
use Rattle.cond_prover.specs.Proofs.{IsProofOf, IsMeant}
use Rattle.cond_prover.specs.Settled.{DoHold}

-- derived conditions hold
abbrev pub AreSound : Type 0
AreSound = (c : Condition) (d : Derivation) → IsSorted c → Derives c d → (m : Valued) → HoldsAt m c

pub excluded : AreSound → (c : Condition) (d : Derivation) (v : Valuation) → IsSorted c → Derives c d → ¬ (IsCounterexample c v)
excluded law c d v s h k = k.goal (law c d s h (valued_by v) k.fits k.hypotheses)

pub meant : AreSound → (c : Condition) (p : Proof) → IsSorted c → IsProofOf c p → IsMeant c p
meant law c (proofs.Proved d) s h = law c d s h
meant law c (proofs.Fails v) s h = (h.1.fits, h.1.hypotheses, h.1.goal)
meant law c (proofs.Wide w) s h = tt

-- points that fit are counterexamples
abbrev pub AreFailing : Type 0
AreFailing =
    (c : Condition) (plan : Plan) (p : Point) (refs : List (ℕ × ℕ)) (flags : List (ℕ × Bool)) → IsSorted c → IsPlan c plan → IsFittingPoint c (first_assumptions c) p → DoReferencesHold (first_assumptions c) refs → DoFlagsHold (first_assumptions c) flags → IsCounterexample c (valuation_of p refs flags)

pub failing : AreFailing → (c : Condition) (plan : Plan) (fs : List Literal) (p : Point) (s : Settings) (v : Valuation) → IsSorted c → IsPlan c plan → fs ≡ first_assumptions c → IsFittingPoint c fs p → DoHold fs s → v ≡ valuation_of p s.refs s.flags → (pos 1 ≤ℤ v.q) × IsCounterexample c v
failing law c plan fs p s v is_sorted is_plan first fit hold is =
    let fits = subst (λ z. IsFittingPoint c z p) first fit in
    let holds = subst (λ z. DoHold z s) first hold in
    subst (λ z. (pos 1 ≤ℤ z.q) × IsCounterexample c z) (sym is) (fits.unit, law c plan p s.refs s.flags is_sorted is_plan fits holds.references holds.flags)

pub derives_first : (c : Condition) (fs : List Literal) (d : Derivation) → fs ≡ first_assumptions c → DerivesFrom c fs d → Derives c d
derives_first c fs d first h = subst (λ z. DerivesFrom c z d) first h

pub facts_are : (c : Condition) (fs : List Literal) → IsSorted c → fs ≡ first_assumptions c → All (λ l. AreRowsTold l true) fs → All (IsFactOf c) fs
facts_are c fs is_sorted first told =
    subst (All (IsFactOf c)) (sym first) (first_facts_are c is_sorted (subst (All (λ l. AreRowsTold l true)) first told))

pub apart_are : (c : Condition) (plan : Plan) (fs : List Literal) → IsPlan c plan → fs ≡ first_assumptions c → All (IsApartListed plan) fs
apart_are c plan fs is first = subst (All (IsApartListed plan)) (sym first) (first_apart c plan is)

pub wide_is : (c : Condition) (fs : List Literal) (i : ℕ) → AreFormsWithin c → fs ≡ first_assumptions c → IsWideFactAt fs i → IsWideForm c i
wide_is c fs i forms first wide = wide_first c i forms (subst (λ z. IsWideFactAt z i) first wide)

pub none_wide : (c : Condition) (fs : List Literal) (i : ℕ) → IsNarrow c → fs ≡ first_assumptions c → IsWideFactAt fs i → ⊥
none_wide c fs i narrow first wide = no_wide_first c i narrow (subst (λ z. IsWideFactAt z i) first wide)

-- what is answered of the first assumption with a row that is too wide
abbrev pub IsFound : List Literal → Option ℕ → Type 0
IsFound fs o = MatchOption o (All (λ l. AreRowsTold l true) fs) (IsWideFactAt fs)

-- the same of the literals of a condition
abbrev pub IsTold : Condition → Option ℕ → Type 0
IsTold c o = MatchOption o (AreFormsWithin c) (IsWideForm c)

-- the rows of all assumptions in front of a place are within 128 bits
abbrev pub DoRowsFit : Literal → Type 0
DoRowsFit l = AreRowsTold l true

pub one_more : (ls : List Literal) (i : ℕ) (d l : Literal) (b : Bool) → i < length ls → All DoRowsFit (take i ls) → l ≡ get_or ls i d → AreRowsTold l (not b) → b ≡ false → All DoRowsFit (take (i + 1) ls)
one_more ls i d l b lt all e told f =
    All-more DoRowsFit ls i d lt all (subst DoRowsFit e (subst (λ r. AreRowsTold l (not r)) f told))

pub all_fit : (ls : List Literal) (i : ℕ) → length ls ≤ i → All DoRowsFit (take i ls) → All DoRowsFit ls
all_fit ls i le all = subst (All DoRowsFit) (take_all i ls le) all

pub wide_form_is : (c : Condition) (w : WidePoint) (n place : ℕ) → w ≡ points.Form (record { line = 0; col = n }) → n ≡ place → IsWideForm c place → IsWideIn c w
wide_form_is c w n place is e h = subst (IsWideIn c) (sym is) (refl, subst (IsWideForm c) (sym e) h)
