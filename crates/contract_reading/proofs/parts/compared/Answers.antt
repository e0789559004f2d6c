use Rattle.std.proofs.Common.{sym}
use Rattle.machine_model.specs.Operators as operators
use Rattle.contract_reading.proofs.Given.{truth_read}
use Rattle.contract_reading.proofs.parts.compared.Goals as goal

pub returns-in-Ok-Some-Truth : goal.returns-in-Ok-Some-Truth
returns-in-Ok-Some-Truth c =
    sym (truth_read c.args.p _ (operators.binary c.args.key c.args.a c.args.b) c.apply_binary.result c.in-Ok-Some-Truth.field-0 c.in-Ok-Some-Truth.field-0-0 c.apply_binary.ensures c.in-Ok-Some-Truth.is c.in-Ok-Some-Truth.field-0-is c.in-Ok-Some-Truth.field-0-0-is)
