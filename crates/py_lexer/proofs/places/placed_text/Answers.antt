use Rattle.std.proofs.Common.{arith}
use Rattle.py_lexer.proofs.CharacterCount.{chars_fewer}
use Rattle.py_lexer.proofs.places.placed_text.Goals as goal

pub place_all-requires : goal.place_all-requires
place_all-requires c = grind (arith, chars_fewer c.args.text.now, c.deref.ensures.value, c.in_ok-codes.ensures, c.past_order_mark.ensures.within, c.requires)
