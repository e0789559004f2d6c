use Rattle.std.proofs.Common.{rules, nat_eq}
use Rattle.proof_checker.specs.Chains.{facts, view_literal}
use Rattle.proof_checker.proofs.Ruled.{clashes_iff, same_places}
use Rattle.proof_checker.proofs.rules.do_clash.Goals as goal

pub returns-in-Is-find : goal.returns-in-Is-find
returns-in-Is-find c =
    clashes_iff (facts c.args.chain.now) c.args.i c.args.j (view_literal c.in-Is.l.now) (view_literal c.in-Is-find.k.now) (nat_eq c.args.i c.args.j) c.are_clashing.result (search rules) (search rules) (same_places c.args.i c.args.j) c.are_clashing.ensures
