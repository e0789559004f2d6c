use Rattle.py_tokens.specs.StringForms.{backslash, apostrophe, quotation, line_feed, tabulator}
use Rattle.py_lexer.proofs.StringParts.{escapes_as}
use Rattle.py_lexer.proofs.strings.escape_value.Goals as goal

pub returns-in-92 : goal.returns-in-92
returns-in-92 c = escapes_as c.args.c 92 92 backslash c.in-92.is

pub returns-in-39 : goal.returns-in-39
returns-in-39 c = escapes_as c.args.c 39 39 apostrophe c.in-39.is

pub returns-in-34 : goal.returns-in-34
returns-in-34 c = escapes_as c.args.c 34 34 quotation c.in-34.is

pub returns-in-n : goal.returns-in-n
returns-in-n c = escapes_as c.args.c 110 10 line_feed c.in-n.is

pub returns-in-t : goal.returns-in-t
returns-in-t c = escapes_as c.args.c 116 9 tabulator c.in-t.is
