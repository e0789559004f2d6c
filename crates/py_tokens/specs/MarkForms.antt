-- The marks by their characters. (Language Reference, "Operators" and "Delimiters".)
use Rattle.std.specs.Prelude.{ℕ, List, codes}
use Rattle.py_tokens.specs.declared.token.Mark.{Mark}
use Rattle.py_tokens.specs.declared.token.Mark.TheVariants as marks

abbrev pub mark_text : Mark → List ℕ
mark_text marks.OpenParen = codes "("
mark_text marks.CloseParen = codes ")"
mark_text marks.OpenBracket = codes "["
mark_text marks.CloseBracket = codes "]"
mark_text marks.Colon = codes ":"
mark_text marks.Comma = codes ","
mark_text marks.Dot = codes "."
mark_text marks.Assign = codes "="
mark_text marks.Arrow = codes "->"
mark_text marks.At = codes "@"
mark_text marks.Plus = codes "+"
mark_text marks.Minus = codes "-"
mark_text marks.Star = codes "*"
mark_text marks.Slash = codes "/"
mark_text marks.TwoSlashes = codes "//"
mark_text marks.Percent = codes "%"
mark_text marks.Less = codes "<"
mark_text marks.LessEqual = codes "<="
mark_text marks.Greater = codes ">"
mark_text marks.GreaterEqual = codes ">="
mark_text marks.Equal = codes "=="
mark_text marks.NotEqual = codes "!="
mark_text marks.PlusAssign = codes "+="
mark_text marks.MinusAssign = codes "-="
mark_text marks.StarAssign = codes "*="
mark_text marks.TwoSlashesAssign = codes "//="
mark_text marks.PercentAssign = codes "%="
