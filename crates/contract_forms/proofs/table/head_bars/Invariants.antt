use Rattle.std.proofs.Common.{◌≡◌, map, drop}
use Rattle.contract_forms.specs.Heads.{line}
use Rattle.contract_forms.specs.Targets.{head_bars}
use Rattle.contract_forms.proofs.table.head_bars.Given as goal

abbrev pub invariant-statements : goal.invariant-statements
invariant-statements l = head_bars (map line (drop l.s-index l.body)) ≡ head_bars (map line l.body)
