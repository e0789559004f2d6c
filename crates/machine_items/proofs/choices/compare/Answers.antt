use Rattle.std.proofs.Common.{sym, subst}
use Rattle.py_base.specs.declared.Place.{Place}
use Rattle.machine_model.specs.Operators.{binary}
use Rattle.machine_values.specs.Agreement.{Agrees}
use Rattle.machine_values.specs.Bits.{has_128_bits}
use Rattle.machine_items.proofs.Comparing.{compared}
use Rattle.machine_items.proofs.choices.compare.Goals as goal

pub returns-in-Ok : goal.returns-in-Ok
returns-in-Ok c =
    let nowhere : Place = record { line = 0; col = 0 } in
    subst (λ r. Agrees r c.truth_of.result (λ t. t)) (sym (compared has_128_bits nowhere (binary c.args.key c.args.a c.args.b) c.in-Ok.v c.in-Ok.ensures.agrees)) c.truth_of.ensures
