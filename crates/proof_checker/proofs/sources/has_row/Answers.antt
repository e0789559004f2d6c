use Rattle.proof_checker.specs.Chains.{side_term}
use Rattle.proof_checker.proofs.RowFitting.{row_fits, symbols_of_row}
use Rattle.proof_checker.proofs.sources.has_row.Goals as goal

pub returns-then-fit_at_symbols : goal.returns-then-fit_at_symbols
returns-then-fit_at_symbols c =
    let a = side_term c.args.a.now in
    let b = side_term c.args.b.now in
    (λ h. row_fits a b (c.both_fit.ensures.0 c.if-both_fit.true) (c.fit_at_symbols.ensures.0 c.if-fit_at_symbols.true) (c.fit_at_symbols-then-fit_at_symbols.ensures.0 h), λ r. c.fit_at_symbols-then-fit_at_symbols.ensures.1 (symbols_of_row b a b r))
