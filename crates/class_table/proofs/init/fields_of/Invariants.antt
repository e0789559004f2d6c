use Rattle.std.proofs.Common.{◌≡◌, [], drop}
use Rattle.class_table.specs.Declaring.{fields_behind}
use Rattle.class_table.proofs.init.fields_of.Given as goal

abbrev pub invariant-statements : goal.invariant-statements
invariant-statements l = fields_behind l.names l.rows l.params l.fields (drop l.s-index l.body) ≡ fields_behind l.names l.rows l.params [] l.body
