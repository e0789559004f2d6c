use Rattle.std.specs.Prelude.{Contains}
use Rattle.terms.specs.declared.Literal.TheVariants as lit
use Rattle.cond_plan.proofs.Knowing.{apart_settled, equal_settled, none_from}
use Rattle.cond_plan.proofs.need.need_of.Goals as goal

pub returns-then-are_known_apart : goal.returns-then-are_known_apart
returns-then-are_known_apart c = apart_settled c.args.p.now c.args.facts.now c.args.k.now c.if-are_known_apart.ensures

pub returns-then-are_known_equal : goal.returns-then-are_known_equal
returns-then-are_known_equal c =
    equal_settled c.args.p.now c.args.facts.now c.args.k.now c.if-are_known_equal.ensures (none_from c.are_assumed.result (Contains c.args.facts.now (lit.Apart c.args.k.now.left c.args.k.now.right)) c.are_assumed.ensures.1 c.if-are_assumed.false)
