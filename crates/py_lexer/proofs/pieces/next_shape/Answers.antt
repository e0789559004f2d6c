use Rattle.std.proofs.Common.{ℕ, Option, subst, refl}
use Rattle.py_tokens.specs.declared.Shape.{Shape}
use Rattle.py_lexer.specs.StringReading.{StandsInFront}
use Rattle.py_lexer.proofs.PieceInFront.{word_piece, number_piece, mark_piece, comment_piece, single_piece}
use Rattle.py_lexer.proofs.pieces.next_shape.Goals as goal

pub returns-in-Some : goal.returns-in-Some
returns-in-Some c = word_piece c.args.place c.args.codes.now c.in-Some.word.now c.in-Some.field-0-1.now c.in_ok-word_shape.field-0 c.in-Some.ensures.whole c.in-Some.ensures.longest c.in_ok-word_shape.ensures

pub returns-in-Some-split_number : goal.returns-in-Some-split_number
returns-in-Some-split_number c = number_piece c.args.place c.args.codes.now c.in-Some-split_number.number.now c.in-Some-split_number.field-0-1.now c.number_shape.result c.in-Some-split_number.ensures.whole c.in-Some-split_number.ensures.longest c.number_shape.ensures

pub returns-in-Some-split_mark : goal.returns-in-Some-split_mark
returns-in-Some-split_mark c = mark_piece c.args.place c.args.codes.now c.in-Some-split_mark.text.now c.in-Some-split_mark.field-0-2.now c.in-Some-split_mark.mark c.in-Some-split_mark.ensures.whole c.in-Some-split_mark.ensures.mark c.in-Some-split_mark.ensures.longest

pub returns-in-Some-split_comment : goal.returns-in-Some-split_comment
returns-in-Some-split_comment c = comment_piece c.args.place c.args.codes.now c.in-Some-split_comment.comment.now c.in-Some-split_comment.field-0-1.now c.in-Some-split_comment.ensures.whole c.in-Some-split_comment.ensures.longest

pub returns-in-None : goal.returns-in-None
returns-in-None c = single_piece c.args.place c.args.codes.now c.index-codes-0.result c.single_shape.result c.requires.some c.index-codes-0.is (c.in_default.ensures.none refl) (c.in_default-split_number.ensures.none refl) (c.in_default-split_mark.ensures.none refl) (c.in_default-split_comment.ensures.none refl) (subst (λ (o : Option (Shape × ℕ)). StandsInFront c.args.place c.args.codes.now o) c.in-None.is c.in_ok-found.ensures) c.single_shape.ensures
