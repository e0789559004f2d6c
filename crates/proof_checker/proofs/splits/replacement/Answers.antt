use Rattle.proof_checker.specs.Chains.{facts, view_literal}
use Rattle.proof_checker.proofs.Sided.{found_replacement}
use Rattle.proof_checker.proofs.splits.replacement.Goals as goal

pub returns-in-Is-find : goal.returns-in-Is-find
returns-in-Is-find c =
    found_replacement (facts c.args.chain.now) c.args.i c.args.j (view_literal c.in-Is.equality.now) (view_literal c.in-Is-find.into.now) c.put_equality.result c.in-Is.ensures c.in-Is-find.ensures c.put_equality.ensures
