use Rattle.std.proofs.Common.{ap, sym, ◌∙◌}
use Rattle.std.specs.FinMap as map
use Rattle.machine_model.proofs.Maps.{get-from_entries-lookup}
use Rattle.machine_model.proofs.fields.Fields.get.Goals as goal

pub returns : goal.returns
returns c = c.copied.ensures ∙ c.get.ensures.value ∙ sym (get-from_entries-lookup c.self.inside.entries.entries c.args.name) ∙ ap (λ m. map.get m c.args.name) c.self.view_is
