use Rattle.std.proofs.Common.{◌≡◌, ◌≤◌, [], length, drop}
use Rattle.small_module.specs.SmallModule.{body_of}
use Rattle.small_module.proofs.body.body_of.Given as goal

abbrev pub invariant-statements : goal.invariant-statements
invariant-statements l = record { few : length l.names.items ≤ length l.statements.items; same : body_of l.statements.items l.names.items (drop l.s-index l.body) ≡ body_of [] [] l.body }
