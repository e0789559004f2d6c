-- The tree of a small text is the answer to its tokens.
use Rattle.std.proofs.Common.{ℕ, ◌+◌, ◌≤◌, List, length, Ok}
use Rattle.py_parser.specs.Parsing.{IsAnswer}
use Rattle.small_text.proofs.LineBits.{Row, small_tokens}
use Rattle.small_text.proofs.SmallTokens.{SaysSome}
use Rattle.small_text.proofs.SmallTrees.{stmts_of, small_tree}
use Rattle.small_text.proofs.SpelledTrees.{spelled}
use Rattle.small_text.proofs.Shallow.{shallow}
use Rattle.small_text.proofs.ShortLines.{no_long_lines}
use Rattle.small_text.proofs.CountedStmts.{few_statements, one_method}

pub answered : (line : ℕ) (rows : List Row) → SaysSome rows → length (stmts_of (line + 1) rows) ≤ 60 → IsAnswer (small_tokens line rows) (Ok (small_tree line rows))
answered line rows some few = (record { lines = no_long_lines line rows; depth = shallow line rows; spelled = spelled line rows some }, few_statements line rows few, one_method line rows)
