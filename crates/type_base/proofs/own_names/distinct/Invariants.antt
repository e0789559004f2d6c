use Rattle.std.proofs.Common.{◌≡◌, [], drop}
use Rattle.type_base.specs.Locals.{locals_behind}
use Rattle.type_base.proofs.own_names.distinct.Given as goal

abbrev pub invariant-assigned : goal.invariant-assigned
invariant-assigned l = locals_behind l.params l.names (drop l.name-index l.assigned) ≡ locals_behind l.params [] l.assigned
