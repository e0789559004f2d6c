use Rattle.std.proofs.Common.{◌≡◌, drop}
use Rattle.contract_forms.specs.Pures.{calls_toward}
use Rattle.contract_forms.proofs.recursion.calls_toward.Given as goal

abbrev pub invariant-calls : goal.invariant-calls
invariant-calls l = calls_toward l.target l.reached (drop l.number-index l.row) ≡ calls_toward l.target l.reached l.row
