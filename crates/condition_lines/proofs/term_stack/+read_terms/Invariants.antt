use Rattle.std.proofs.Common.{length}
use Rattle.condition_lines.proofs.term_stack.+read_terms.Given as goal

abbrev pub decreases-read_terms : goal.decreases-read_terms
decreases-read_terms l = length l.words.now
