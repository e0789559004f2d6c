use Rattle.machine_model.specs.Operators as operators
use Rattle.contract_reading.proofs.Given.{answered_no_test, answered_no_wait}
use Rattle.contract_reading.proofs.parts.apply_binary.Goals as goal

pub unreachable-requires : goal.unreachable-requires
unreachable-requires c =
    answered_no_test c.args.p (operators.binary c.args.key c.args.a c.args.b) c.binary.result c.in-Err-Halt-Failed.field-0 c.in-Err-Halt-Failed.field-0-0 c.binary.ensures.agrees c.in-Err-Halt-Failed.is c.in-Err-Halt-Failed.field-0-is c.in-Err-Halt-Failed.field-0-0-0 c.in-Err-Halt-Failed.field-0-0-1 c.in-Err-Halt-Failed.field-0-0-is

pub unreachable-requires-in-Err-Halt-Waits : goal.unreachable-requires-in-Err-Halt-Waits
unreachable-requires-in-Err-Halt-Waits c =
    answered_no_wait c.args.p (operators.binary c.args.key c.args.a c.args.b) c.binary.result c.in-Err-Halt-Waits.field-0 c.in-Err-Halt-Waits.field-0-0 c.binary.ensures.agrees c.in-Err-Halt-Waits.is c.in-Err-Halt-Waits.field-0-is c.in-Err-Halt-Waits.field-0-0-is
