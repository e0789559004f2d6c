use Rattle.std.proofs.Common.{false, ◌∷◌}
use Rattle.py_syntax.specs.declared.Way.TheVariants.{Raise}
use Rattle.machine_model.specs.declared.Halt.TheVariants.{NoOperand}
use Rattle.machine_model.specs.Results.{Stops}
use Rattle.machine_model.specs.Calls.{go_out}
use Rattle.machine_deeds.specs.Deeds.{done}
use Rattle.machine_items.specs.Deeds.{running, waiting_below}
use Rattle.machine_items.specs.Outcomes.{outcome_in}
use Rattle.machine_items.proofs.Landings.{stops_as}
use Rattle.machine_items.proofs.leaving.throw_on.Goals as goal

pub returns-in-Err : goal.returns-in-Err
returns-in-Err c =
    stops_as (go_out false (Raise c.args.class c.args.p) (λ v. Stops NoOperand) c.args.at.heap.now (running c.args.at) (waiting_below c.args.at)) c.in-Err.stop
    (outcome_in (λ v. Stops NoOperand) c.args.at) (λ d. done d c.args.at.heap.now (c.args.at.frame.now ∷ waiting_below c.args.at)) (c.in-Err.ensures (λ v. Stops NoOperand))
