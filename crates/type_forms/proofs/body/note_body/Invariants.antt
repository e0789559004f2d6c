use Rattle.std.proofs.Common.{◌≡◌, ◌++◌, drop}
use Rattle.type_forms.specs.Statements.{body_faults}
use Rattle.type_forms.proofs.body.note_body.Given as goal

abbrev pub invariant-statements : goal.invariant-statements
invariant-statements l = l.found ++ body_faults l.classes l.params l.names l.void l.called l.left (drop l.s-index l.body) ≡ l.fn.found ++ body_faults l.classes l.params l.names l.void l.fn.may_call l.fn.makes l.body
