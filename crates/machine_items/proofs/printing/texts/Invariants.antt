use Rattle.std.proofs.Common.{◌≡◌, ◌++◌, drop}
use Rattle.machine_model.specs.Printing.{texts_of}
use Rattle.machine_items.proofs.printing.texts.Given as goal

abbrev pub invariant-loop-arg : goal.invariant-loop-arg
invariant-loop-arg l = texts_of l.args l.initial.values ≡ l.texts.items ++ texts_of (drop l.arg-index l.args) l.values
