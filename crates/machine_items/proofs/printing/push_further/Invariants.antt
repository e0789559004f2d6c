use Rattle.std.proofs.Common.{◌≡◌, ◌++◌, drop}
use Rattle.machine_items.specs.Lines.{further}
use Rattle.machine_items.proofs.printing.push_further.Given as goal

abbrev pub invariant-loop-text : goal.invariant-loop-text
invariant-loop-text l = l.initial.line.items ++ further l.texts ≡ l.line.items ++ further (drop l.text-index l.texts)
