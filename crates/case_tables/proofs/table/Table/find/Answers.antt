use Rattle.case_tables.specs.Keys.{has_key}
use Rattle.case_tables.proofs.Keys.{find-only}
use Rattle.case_tables.proofs.table.Table.find.Goals as goal

pub returns-clause-only : goal.returns-clause-only
returns-clause-only g c = rw (c.copied.ensures, c.first_with.ensures, ← c.self.view_is) (find-only (has_key c.args.key) c.self.inside.rows (c.self.invariant c.args.key))
