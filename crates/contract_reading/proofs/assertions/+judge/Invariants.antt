use Rattle.std.proofs.Common.{◌≡◌, ◌+◌, ◌*◌, ◌-◌, map, drop}
use denote.Param.Weighed.{most}
use Rattle.py_syntax.specs.declared.Assertion.{size-Assertion}
use Rattle.machine_model.specs.Reading.{judgement, all_hold}
use Rattle.machine_values.specs.Bits.{has_128_bits}
use Rattle.contract_reading.specs.Scenes.{scene_in}
use Rattle.contract_reading.specs.Judges.{judge_in}
use Rattle.contract_reading.proofs.Openings.{weight}
use Rattle.contract_reading.proofs.assertions.+judge.Given as goal

-- first the openings that are left, and then the depths of the parts
abbrev pub decreases-judge : goal.decreases-judge
decreases-judge l = weight l.j.module.now l.j.left + 3 * size-Assertion l.a.now

abbrev pub decreases-judge_all : goal.decreases-judge_all
decreases-judge_all l = weight l.j.module.now l.j.left + (3 * most size-Assertion l.all.now + 1)

abbrev pub decreases-judge_where : goal.decreases-judge_where
decreases-judge_where l = weight l.j.module.now l.j.left + (3 * size-Assertion l.a.now + 1)

abbrev pub decreases-judge_instance : goal.decreases-judge_instance
decreases-judge_instance l = weight l.j.module.now l.j.left + 2

abbrev pub decreases-opens : goal.decreases-opens
decreases-opens l = weight l.j.module.now l.j.left + 1

abbrev pub decreases-holds_within : goal.decreases-holds_within
decreases-holds_within l = weight l.j.module.now (l.j.left - 1) + (3 * size-Assertion l.body.now + 1)

abbrev pub invariant-judge_all-loop-a : goal.invariant-judge_all-loop-a
invariant-judge_all-loop-a l = all_hold (map (judgement has_128_bits) (drop l.a-index l.all)) (judge_in l.j l.view) (scene_in l.view) ≡ all_hold (map (judgement has_128_bits) l.all) (judge_in l.j l.view) (scene_in l.view)
