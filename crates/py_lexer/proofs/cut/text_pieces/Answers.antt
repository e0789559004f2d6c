use Rattle.std.proofs.Common.{◌≡◌, List, ℕ, arith, subst, ap, ◌∙◌, length, map}
use Rattle.py_tokens.specs.declared.Spot.{Spot}
use Rattle.py_tokens.specs.PlacedText.{text_characters, text_start}
use Rattle.py_tokens.specs.TextPieces.{CutInto}
use Rattle.py_lexer.proofs.CutMore.{codes_placed, characters_fewer}
use Rattle.py_lexer.proofs.cut.text_pieces.Goals as goal

pub cut_all-requires : goal.cut_all-requires
cut_all-requires c =
    let e : c.deref-in-Ok.result.now ≡ text_characters c.args.text.now = c.deref-in-Ok.ensures.value ∙ c.in_ok-codes-in-Ok.ensures ∙ ap (λ (x : List Spot). map (λ (spot : Spot). spot.code) x) (c.deref.ensures.value ∙ c.in-Ok.ensures.spots) ∙ codes_placed text_start (text_characters c.args.text.now) in
    let h = characters_fewer c.args.text.now in
    let k : length c.deref-in-Ok.result.now ≡ length (text_characters c.args.text.now) = ap length e in
    omega arith

pub returns-in_ok-pieces-in-Ok-clause-pieces : goal.returns-in_ok-pieces-in-Ok-clause-pieces
returns-in_ok-pieces-in-Ok-clause-pieces c =
    let e : c.deref-in-Ok.result.now ≡ text_characters c.args.text.now = c.deref-in-Ok.ensures.value ∙ c.in_ok-codes-in-Ok.ensures ∙ ap (λ (x : List Spot). map (λ (spot : Spot). spot.code) x) (c.deref.ensures.value ∙ c.in-Ok.ensures.spots) ∙ codes_placed text_start (text_characters c.args.text.now) in
    (c.in-Ok.ensures.utf8, subst (λ (x : List ℕ). CutInto text_start x c.in_ok-pieces-in-Ok.pieces.items) e c.in_ok-pieces-in-Ok.ensures)
