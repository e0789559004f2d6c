-- A point where nothing is amiss fits the condition.
use Rattle.std.specs.Prelude.{◌≡◌, List, All, Contains, Option, MatchOption}
use Rattle.std.proofs.Common.{sym, subst}
use Rattle.std.proofs.lemmas.List.Elements.{All-weaker}
use Rattle.lin_rows.specs.declared.Point.{Point}
use Rattle.terms.specs.declared.Literal.{Literal}
use Rattle.terms.specs.declared.Literal.TheVariants as lit
use Rattle.proof_checker.specs.declared.Condition.{Condition}
use Rattle.proof_checker.specs.Derivations.{AreNumbers}
use Rattle.cond_plan.specs.declared.Plan.{Plan}
use Rattle.cond_plan.specs.declared.Applied.{Applied}
use Rattle.cond_plan.specs.declared.Comparison.{Comparison}
use Rattle.cond_plan.specs.declared.Needed.{Needed}
use Rattle.cond_plan.specs.declared.Repair.{Repair}
use Rattle.cond_plan.specs.Plans.{IsComparison, AreOfNumbers}
use Rattle.cond_plan.specs.PointValues.{IsMet, AreApartAt}
use Rattle.cond_plan.specs.Needs.{IsSettled, IsNeededAmong, IsRepair, AreCongruentAt, AreOperandsSettled}
use Rattle.cond_facts.specs.Decisions.{IsFittingPoint}
use Rattle.cond_facts.proofs.Fitted.{listed, fitted}
use Rattle.cond_search.specs.Steps.{IsBegun}

-- ---- what a point is asked for, of slices of a plan
pub compared_numbers : (c : Condition) (p : Plan) (fs : List Literal) (ks : List Comparison) → ks ≡ p.comparisons → IsBegun c p fs → All (λ k. AreNumbers k.left k.right) ks
compared_numbers c p fs ks e begun =
    subst (All (λ k. AreNumbers k.left k.right)) (sym e) (All-weaker (IsComparison c) (λ k. AreNumbers k.left k.right) (λ k h. h.numbers) p.comparisons begun.plan.comparisons.compared)

pub applied_numbers : (c : Condition) (p : Plan) (fs : List Literal) (all : List Applied) → all ≡ p.applications → IsBegun c p fs → AreOfNumbers all
applied_numbers c p fs all e begun = subst AreOfNumbers (sym e) begun.plan.numbers

apart_at : (fs : List Literal) (q : Point) (k : Comparison) → IsSettled q fs k → Contains fs (lit.Apart k.left k.right) → AreApartAt q k.left k.right
apart_at fs q k h = h.apart

-- operands are settled where the comparisons are
settled_operands : (c : Condition) (p : Plan) (fs : List Literal) (q : Point) → IsBegun c p fs → All (IsSettled q fs) p.comparisons → AreOperandsSettled q fs p.applications
settled_operands c p fs q begun settled i j k a b h =
    listed (λ x y. Contains fs (lit.Apart x y) → AreApartAt q x y) p.comparisons a b (All-weaker (IsSettled q fs) (λ k. Contains fs (lit.Apart k.left k.right) → AreApartAt q k.left k.right) (apart_at fs q) p.comparisons settled) (begun.plan.comparisons.operands i j h.first h.second k a b h.pair.order h.pair.at_first h.pair.at_second h.pair.operator h.at_first h.at_second)

pub operands_settled : (c : Condition) (p : Plan) (fs : List Literal) (all : List Applied) (q : Point) → all ≡ p.applications → IsBegun c p fs → All (IsSettled q fs) p.comparisons → AreOperandsSettled q fs all
operands_settled c p fs all q e begun settled =
    subst (AreOperandsSettled q fs) (sym e) (settled_operands c p fs q begun settled)

pub needed_along : (p : Plan) (fs : List Literal) (ks : List Comparison) (q : Point) (o : Option Needed) → ks ≡ p.comparisons → MatchOption o (All (IsSettled q fs) ks) (IsNeededAmong fs ks) → MatchOption o (All (IsSettled q fs) p.comparisons) (IsNeededAmong fs p.comparisons)
needed_along p fs ks q o e h = subst (λ z. MatchOption o (All (IsSettled q fs) z) (IsNeededAmong fs z)) e h

pub repair_along : (p : Plan) (fs : List Literal) (all : List Applied) (q : Point) (o : Option Repair) → all ≡ p.applications → MatchOption o (AreCongruentAt q all) (IsRepair fs all) → MatchOption o (AreCongruentAt q p.applications) (IsRepair fs p.applications)
repair_along p fs all q o e h = subst (λ z. MatchOption o (AreCongruentAt q z) (IsRepair fs z)) e h

pub point_fits : (c : Condition) (p : Plan) (fs : List Literal) (q : Point) → IsBegun c p fs → IsMet fs q → All (IsSettled q fs) p.comparisons → AreCongruentAt q p.applications → IsFittingPoint c fs q
point_fits c p fs q begun met settled congruent =
    fitted c p fs q begun.is_sorted begun.plan begun.facts begun.apart met settled congruent
