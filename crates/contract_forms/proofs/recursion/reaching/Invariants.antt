use Rattle.std.proofs.Common.{◌≡◌}
use Rattle.contract_forms.specs.Pures.{reaching}
use Rattle.contract_forms.proofs.recursion.reaching.Given as goal

abbrev pub invariant-rounds : goal.invariant-rounds
invariant-rounds l = l.reached ≡ reaching l.rows l.target l._round
