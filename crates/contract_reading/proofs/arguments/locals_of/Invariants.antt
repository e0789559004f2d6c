use Rattle.std.proofs.Common.{◌≡◌, map, take, Some}
use Rattle.py_syntax.specs.declared.Value.{Value}
use Rattle.contract_reading.proofs.arguments.locals_of.Given as goal

abbrev pub invariant-loop-v : goal.invariant-loop-v
invariant-loop-v l = l.store ≡ map (λ (v : Value). Some v) (take l.v-index l.vs)
