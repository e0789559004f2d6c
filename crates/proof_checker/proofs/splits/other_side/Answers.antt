use Rattle.std.proofs.Common.{refl, sym}
use Rattle.terms.specs.declared.Literal.{Literal}
use Rattle.terms.specs.declared.Literal.TheVariants as lit
use Rattle.proof_checker.specs.Chains.{facts}
use Rattle.proof_checker.specs.Additions.{IsOtherSide}
use Rattle.proof_checker.proofs.Sided.{found_at, side_flag, side_same, no_same, side_references, no_references}
use Rattle.proof_checker.proofs.splits.other_side.Goals as goal

pub returns-in-AtMost : goal.returns-in-AtMost
returns-in-AtMost c =
    found_at (λ (l : Literal). IsOtherSide c.args.c.now (facts c.args.chain.now) l) (lit.AtMost c.in-AtMost.a c.in-AtMost.b) c.args.l.now c.other_order.result (sym c.in-AtMost.is) c.other_order.ensures

pub returns-then-may_be_same : goal.returns-then-may_be_same
returns-then-may_be_same c =
    side_same c.args.c.now (facts c.args.chain.now) c.args.l.now c.in-Same.a c.in-Same.b _ c.in-Same.is (c.may_be_same.ensures.0 c.if-may_be_same.true) (cc (c.whole.ensures, c.whole-then-may_be_same.ensures))

pub returns-else-may_be_same : goal.returns-else-may_be_same
returns-else-may_be_same c =
    no_same c.args.c.now (facts c.args.chain.now) c.args.l.now c.in-Same.a c.in-Same.b c.in-Same.is (λ h. let on = c.may_be_same.ensures.1 h in absurd (cc (on, c.if-may_be_same.false)))

pub returns-then-are_references : goal.returns-then-are_references
returns-then-are_references c =
    side_references c.args.c.now (facts c.args.chain.now) c.args.l.now c.in-Apart.a c.in-Apart.b _ c.in-Apart.is (c.are_references.ensures.0 c.if-are_references.true) (cc (c.whole-then-are_references.ensures, c.whole-then-are_references-2.ensures))

pub returns-else-are_references : goal.returns-else-are_references
returns-else-are_references c =
    no_references c.args.c.now (facts c.args.chain.now) c.args.l.now c.in-Apart.a c.in-Apart.b c.in-Apart.is (λ h. let on = c.are_references.ensures.1 h in absurd (cc (on, c.if-are_references.false)))

pub returns-in-Flag : goal.returns-in-Flag
returns-in-Flag c =
    side_flag c.args.c.now (facts c.args.chain.now) c.args.l.now c.in-Flag.n c.in-Flag.held _ c.in-Flag.is refl
