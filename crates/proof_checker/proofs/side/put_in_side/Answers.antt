use Rattle.std.proofs.Common.{sym, ◌∙◌}
use Rattle.proof_checker.specs.Chains.{side_term}
use Rattle.proof_checker.proofs.Reading.{put_here, node-More}
use Rattle.proof_checker.proofs.side.put_in_side.Goals as goal

pub returns-then-same_nodes : goal.returns-then-same_nodes
returns-then-same_nodes c =
    sym (put_here (side_term c.args.from.now) (side_term c.args.to.now) (side_term c.args.s.now) (sym c.same_nodes.ensures ∙ c.if-same_nodes.true))

pub returns-else-same_nodes : goal.returns-else-same_nodes
returns-else-same_nodes c =
    node-More c.args.s.now.origin _ c.args.from.now.origin _ c.args.to.now.origin _ (sym c.same_nodes.ensures ∙ c.if-same_nodes.false)
