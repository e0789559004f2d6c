-- What the front answers to a text.
use Rattle.std.specs.Prelude.{ℕ, List, ◌≡◌, Result, Ok, Err}
use Rattle.py_tokens.specs.declared.Token.{Token}
use Rattle.py_tokens.specs.declared.LexFault.{LexFault}
use Rattle.py_tokens.specs.declared.LexFault.TheVariants as lexing
use Rattle.py_tokens.specs.TextTokens.{Tokens, IsFirstFault}
use Rattle.raw_syntax.specs.declared.Raw.{Raw}
use Rattle.py_parser.specs.declared.fault.ParseFault.{ParseFault}
use Rattle.py_parser.specs.declared.fault.ParseFault.TheVariants as parsing
use Rattle.py_parser.specs.Parsing.{IsAnswer}
use Rattle.py_syntax.specs.declared.Module.{Module}
use Rattle.py_front.specs.TreeAnswers.{IsTreeAnswer}
use Rattle.py_front.specs.declared.fault.FrontFault.{FrontFault}
use Rattle.py_front.specs.declared.fault.FrontFault.TheVariants as faults

abbrev pub of_lex : LexFault → FrontFault
of_lex (lexing.BadUtf8 p) = faults.BadUtf8 p
of_lex (lexing.BadCharacter p) = faults.BadCharacter p
of_lex (lexing.TabInIndent p) = faults.TabInIndent p
of_lex (lexing.BadDedent p) = faults.BadDedent p
of_lex (lexing.OpenString p) = faults.OpenString p
of_lex (lexing.LiteralTooLarge p) = faults.LiteralTooLarge p
of_lex (lexing.NameNotNfkc p) = faults.NameNotNfkc p
of_lex (lexing.NameTooLong p) = faults.NameTooLong p
of_lex lexing.OutOfMemory = faults.OutOfMemory

abbrev pub of_parse : ParseFault → FrontFault
of_parse (parsing.Syntax p) = faults.Syntax p
of_parse (parsing.TooDeep p) = faults.TooDeep p
of_parse parsing.LineTooLong = faults.LineTooLong
of_parse parsing.TooManyStatements = faults.TooManyStatements
of_parse parsing.TooManyMethods = faults.TooManyMethods
of_parse parsing.OutOfMemory = faults.OutOfMemory

-- The first fault of its characters and tokens, or of their tree, or else what the tree gives.
pub data IsFront (text : List ℕ) : Result Module FrontFault → Type 0 where
  not_lexed : (f : LexFault) → IsFirstFault text f → IsFront text (Err (of_lex f))
  not_parsed : (ts : List Token) (f : ParseFault) → ¬ (f ≡ parsing.OutOfMemory) → Tokens text ts → IsAnswer ts (Err f) → IsFront text (Err (of_parse f))
  parsed : (ts : List Token) (tree : Raw) (answer : Result Module FrontFault) → Tokens text ts → IsAnswer ts (Ok tree) → IsTreeAnswer tree answer → IsFront text answer
