use Rattle.proof_checker.proofs.Pairing.{operands_iff}
use Rattle.proof_checker.proofs.pairs.are_operands.Goals as goal

pub returns : goal.returns
returns c = operands_iff c.args.c.now c.args.a.now c.args.b.now c.is_any.result c.is_any.ensures
