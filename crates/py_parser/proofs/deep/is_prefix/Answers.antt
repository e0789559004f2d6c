use Rattle.std.proofs.Common.{sym, ◌∙◌}
use Rattle.std.specs.Option.{option_map}
use Rattle.py_parser.specs.Depths.{form_of}
use Rattle.py_parser.proofs.DeepTokens.{no_prefix}
use Rattle.py_parser.proofs.deep.is_prefix.Goals as goal

pub returns-else-is_minus : goal.returns-else-is_minus
returns-else-is_minus c = sym (no_prefix (option_map form_of c.args.last) c.args.form.now (sym c.is_word_not.ensures ∙ c.if-is_word_not.false) (sym c.is_minus.ensures ∙ c.if-is_minus.false))
