use Rattle.py_tokens.specs.LayoutLaws.{same_lays, same_laid, laid_apart, laid_together, same_ends}
use Rattle.py_tokens.proofs.laws.pieces_are_laid_out_in_one_way.Goals as goal

pub returns-clause-each : goal.returns-clause-each
returns-clause-each c = same_lays

pub returns-clause-all : goal.returns-clause-all
returns-clause-all c = same_laid

pub returns-clause-apart : goal.returns-clause-apart
returns-clause-apart c = laid_apart

pub returns-clause-together : goal.returns-clause-together
returns-clause-together c = laid_together

pub returns-clause-ends : goal.returns-clause-ends
returns-clause-ends c = same_ends
