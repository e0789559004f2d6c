use Rattle.std.proofs.Common.{ℕ, ◌≡◌, ◌+◌, ◌-◌, ◌≤◌, List, ◌++◌, length, take, drop, subst, arith}
use Rattle.std.specs.Io.KnownBytes.{Appends}
use Rattle.std.proofs.KnownBytes.{Appends-trans}
use Rattle.std.proofs.Math.Seq.{take-add}
use Rattle.std.proofs.lemmas.Grind.{common_steps}
use Rattle.io_edge.proofs.real_sink.write_whole.Goals as goal

-- the front of n + m bytes in two parts, of which the second is a front of what is left
front_in_parts : (n m : ℕ) (piece : List ℕ) → m ≤ length (take (length piece - n) (drop n piece)) → take n piece ++ take m (take (length piece - n) (drop n piece)) ≡ take (n + m) piece
front_in_parts n m piece within = grind (arith, common_steps, take-add n m piece)

pub loop-taken-preserved : goal.loop-taken-preserved
loop-taken-preserved g c = record {
  within = grind (arith, common_steps, c.loop-taken.invariant.within, c.in-Ok.ensures.bound);
  so_far = subst (Appends _ _) (front_in_parts c.loop-taken.taken c.in-Ok.n c.args.piece.now c.in-Ok.ensures.bound) (Appends-trans _ _ _ _ _ c.loop-taken.invariant.so_far c.in-Ok.ensures.bytes);
}
