use Rattle.std.specs.Prelude.{◌≢◌, get_or}
use Rattle.std.proofs.Common.{arith}
use Rattle.std.proofs.lemmas.Option.{slice_get-get_or}
use Rattle.std.proofs.lemmas.List.{take_all}
use Rattle.std.proofs.lemmas.List.Elements.{All-more}
use Rattle.lin_solver.specs.Numbers.{HasRow, IsAny}
use Rattle.lin_solver.proofs.NumberLemmas.{has_within}
use Rattle.lin_solver.proofs.strongest.place_of_terms.Goals as goal

pub row_at-requires : goal.row_at-requires
row_at-requires c =
    has_within c.args.rows.now c.args.steps.now IsAny _ (c.requires c.loop-at.at 0 c.loop-at-test.true)

pub returns-then-has_same_terms-clause-some : goal.returns-then-has_same_terms-clause-some
returns-then-has_same_terms-clause-some c = (
  get_or c.args.numbers.now c.loop-at.at 0,
  slice_get-get_or c.args.numbers.now c.loop-at.at 0 c.loop-at-test.true,
  (c.row_at.result.now, c.row_at.ensures, c.has_same_terms.ensures.0 c.if-has_same_terms.true),
)

pub loop-at-preserved : goal.loop-at-preserved
loop-at-preserved c =
    All-more (HasRow c.args.rows.now c.args.steps.now (λ s. s.coefs ≢ c.args.row.now.coefs)) c.args.numbers.now c.loop-at.at 0 c.loop-at-test.true c.loop-at.invariant
    (c.row_at.result.now, c.row_at.ensures, λ same. let t = c.has_same_terms.ensures.1 same in absurd (cc))

pub returns-clause-none : goal.returns-clause-none
returns-clause-none c e =
    rw (take_all c.loop-at.at c.args.numbers.now (omega (arith, c.loop-at-test.false))) at c.loop-at.invariant
