use Rattle.std.proofs.Common.{arith}
use Rattle.std.proofs.KnownBytes.{Consumes-trans}
use Rattle.std.proofs.lemmas.Grind.{common_steps}
use Rattle.io_edge.proofs.real_files.read_to_limit.Goals as goal

pub returns-in_err-extend_from_slice-in-Ok-clause-taken : goal.returns-in_err-extend_from_slice-in-Ok-clause-taken
returns-in_err-extend_from_slice-in-Ok-clause-taken g c = (_, grind (arith, common_steps), Consumes-trans _ _ _ _ _ c.loop-block.invariant.so_far c.in-Ok.ensures.bytes.0)
