use Rattle.std.proofs.Common.{◌≡◌, ◌++◌, map, drop}
use Rattle.contract_forms.specs.Readings.{scope}
use Rattle.contract_forms.specs.Heads.{block_breaches, line}
use Rattle.contract_forms.proofs.statements.note_lines.Given as goal

abbrev pub invariant-statements : goal.invariant-statements
invariant-statements l = l.found ++ block_breaches (map line (drop l.s-index l.body)) (scope l.functions l.method l.locals) l.back l.at ≡ l.fn.found ++ block_breaches (map line l.body) (scope l.functions l.method l.locals) l.back l.fn.first
