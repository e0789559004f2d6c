use Rattle.std.proofs.Common.{ap, ◌∙◌}
use Rattle.std.specs.FinMap as map
use Rattle.machine_model.proofs.Maps.{from_entries-insert}
use Rattle.machine_model.proofs.fields.Fields.set.Goals as goal

pub returns-clause-ok : goal.returns-clause-ok
returns-clause-ok c = from_entries-insert c.self.inside.entries.entries c.insert.new.self.entries c.args.name c.args.value c.in_ok-insert.ensures.updates.0 ∙ ap (λ m. map.insert m c.args.name c.args.value) c.self.view_is
