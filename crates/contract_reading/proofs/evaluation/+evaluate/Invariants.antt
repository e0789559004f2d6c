use Rattle.std.proofs.Common.{◌≡◌, ◌+◌, ◌*◌, ◌-◌, ◌<◌, length, map, drop}
use denote.Param.Weighed.{most}
use Rattle.py_syntax.specs.declared.Expr.{size-Expr}
use Rattle.machine_model.specs.Evaluation.{meaning, chain_from}
use Rattle.machine_values.specs.Bits.{has_128_bits}
use Rattle.contract_reading.specs.Scenes.{scene_in}
use Rattle.contract_reading.proofs.evaluation.+evaluate.Given as goal

-- the depths of the parts: a list has that of the deepest
abbrev pub decreases-evaluate : goal.decreases-evaluate
decreases-evaluate l = 3 * size-Expr l.e.now

abbrev pub decreases-evaluate_links : goal.decreases-evaluate_links
decreases-evaluate_links l = 3 * most size-Expr l.all.now + 1

abbrev pub decreases-evaluate_chain : goal.decreases-evaluate_chain
decreases-evaluate_chain l = 3 * most size-Expr l.all.now + 2

abbrev pub invariant-evaluate_links-loop-at : goal.invariant-evaluate_links-loop-at
invariant-evaluate_links-loop-at l =
    (l.at < length l.all) × (chain_from l.fn.v (map (meaning has_128_bits) (drop 1 l.all)) l.keys (scene_in l.view) ≡ chain_from l.last (map (meaning has_128_bits) (drop (l.at + 1) l.all)) (drop l.at l.keys) (scene_in l.view))

abbrev pub decreases-evaluate_links-loop-at : goal.decreases-evaluate_links-loop-at
decreases-evaluate_links-loop-at l = length l.all - l.at
