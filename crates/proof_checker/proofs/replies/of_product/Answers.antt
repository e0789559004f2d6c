use Rattle.std.specs.Prelude.{◌*ℤ◌}
use Rattle.std.specs.Int.{w128}
use Rattle.std.proofs.Common.{sym}
use Rattle.std.proofs.lemmas.Int.{to_z-of_z}
use Rattle.proof_checker.proofs.Narrow.{checked_wide}
use Rattle.proof_checker.proofs.replies.of_product.Goals as goal

pub returns-in-None : goal.returns-in-None
returns-in-None c =
    sym (checked_wide (c.args.x *ℤ c.args.y) (rw (to_z-of_z w128 c.args.x c.ranges.x, to_z-of_z w128 c.args.y c.ranges.y) at c.in-None.ensures))
