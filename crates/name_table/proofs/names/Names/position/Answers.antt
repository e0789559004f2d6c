use Rattle.std.proofs.Common.{◌∙◌, bytes_eq}
use Rattle.name_table.proofs.Places.{within}
use Rattle.name_table.proofs.names.Names.position.Goals as goal

pub returns-clause-within : goal.returns-clause-within
returns-clause-within c = within (bytes_eq c.args.name.now) c.self.inside.list c.args.self.now c.copied.result (c.copied.ensures ∙ c.get.ensures.value ∙ c.self.invariant c.args.name.now) c.self.view_is
