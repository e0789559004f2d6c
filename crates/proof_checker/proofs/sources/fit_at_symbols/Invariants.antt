use Rattle.std.specs.Prelude.{◌-◌, ◌^◌}
use Rattle.proof_checker.specs.Chains.{side_term}
use Rattle.proof_checker.proofs.RowFitting.{FitBelow}
use Rattle.proof_checker.proofs.sources.fit_at_symbols.Given as goal

abbrev pub invariant-symbols : goal.invariant-symbols
invariant-symbols l = FitBelow l.from (side_term l.of) (side_term l.a) (side_term l.b)

abbrev pub decreases-symbols : goal.decreases-symbols
decreases-symbols l = 2 ^ 32 - l.from
