use Rattle.std.proofs.Common.{◌≡◌, drop, find}
use Rattle.type_base.specs.Members.{field_is_called}
use Rattle.type_base.proofs.meaning.find_field.Given as goal

abbrev pub invariant-fields : goal.invariant-fields
invariant-fields l = find (field_is_called l.names l.name) (drop l.field-index l.fields) ≡ find (field_is_called l.names l.name) l.fields
