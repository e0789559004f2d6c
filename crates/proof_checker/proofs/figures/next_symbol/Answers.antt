use Rattle.proof_checker.specs.Chains.{side_term}
use Rattle.proof_checker.proofs.Symbols.{next_is, next_none, next_number}
use Rattle.proof_checker.proofs.figures.next_symbol.Goals as goal

pub returns-in-Symbol-clause-some : goal.returns-in-Symbol-clause-some
returns-in-Symbol-clause-some c = next_is c.args.from (side_term c.args.s.now) c.in-Symbol.v c.in-Symbol.ensures

pub returns-in-Number-clause-none : goal.returns-in-Number-clause-none
returns-in-Number-clause-none c = absurd (next_number c.args.from (side_term c.args.s.now) c.in-Number.field-0 c.in-Number.ensures)

pub returns-in-None-clause-none : goal.returns-in-None-clause-none
returns-in-None-clause-none c = next_none c.args.from (side_term c.args.s.now) c.in-None.ensures
