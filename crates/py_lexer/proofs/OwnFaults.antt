-- The faults of a text, each at its piece.
use Rattle.std.specs.Prelude.{All, length}
use Rattle.std.proofs.Common.{ℕ, ◌≡◌, ◌<◌, ◌+◌, List, [], ◌∷◌, ◌++◌, refl, sym, ap, ◌∙◌, subst, append_assoc}
use Rattle.std.specs.Str.{chars}
use Rattle.unicode_normalization.specs.Forms.{IsInForm}
use Rattle.unicode_normalization.specs.declared.Form.TheVariants as normal
use Rattle.py_base.specs.declared.Place.{Place}
use Rattle.py_tokens.specs.declared.TokenForm.TheVariants as forms
use Rattle.py_tokens.specs.declared.Piece.{Piece}
use Rattle.py_tokens.specs.declared.Shape.TheVariants as shapes
use Rattle.py_tokens.specs.declared.LexFault.{LexFault}
use Rattle.py_tokens.specs.declared.LexFault.TheVariants as faults
use Rattle.py_tokens.specs.LineLayout.{Between, width_at}
use Rattle.py_tokens.specs.TextTokens.{PiecesOf, IsNumeral, BeginsAsName, BeginsToken, IsSpace, IsBlank, FreshAfter, IsNewBelow, HasFault, bad_utf8, begins_no_token, after_number, bad_escape, tab_in_indent, bad_dedent, open_string, literal_too_large, name_not_nfkc, name_too_long}
use Rattle.py_tokens.specs.TokenLaws.{same_pieces, no_text_with_bad_byte}

-- the piece behind these has the fault
pub data OwnFault (before : List Piece) (piece : Piece) : LexFault → Type 0 where
  own_stray : piece.shape ≡ shapes.Stray → OwnFault before piece (faults.BadCharacter piece.place)
  own_number : (front : List Piece) (number : Piece) → before ≡ front ++ number ∷ [] → IsNumeral number.shape → BeginsAsName piece.shape → OwnFault before piece (faults.BadCharacter piece.place)
  own_escape : (q : Place) → piece.shape ≡ shapes.BadEscape q → OwnFault before piece (faults.BadCharacter q)
  own_tab : (front spaces blanks : List Piece) (tab : Piece) (b : Between) → before ≡ front ++ spaces ++ tab ∷ blanks → FreshAfter front b → All IsSpace spaces → length spaces + 1 ≡ tab.place.col → tab.shape ≡ shapes.Tab → All IsBlank blanks → BeginsToken piece.shape → OwnFault before piece (faults.TabInIndent tab.place)
  own_dedent : (b : Between) → FreshAfter before b → BeginsToken piece.shape → IsNewBelow (width_at piece.place) b.widths → OwnFault before piece (faults.BadDedent piece.place)
  own_unclosed : piece.shape ≡ shapes.Unclosed → OwnFault before piece (faults.OpenString piece.place)
  own_large : piece.shape ≡ shapes.LargeNumber → OwnFault before piece (faults.LiteralTooLarge piece.place)
  own_other_form : (name : List ℕ) → piece.shape ≡ shapes.Whole (forms.Name name) → ¬ IsInForm normal.Nfkc (chars name) → OwnFault before piece (faults.NameNotNfkc piece.place)
  own_long : (name : List ℕ) → piece.shape ≡ shapes.Whole (forms.Name name) → 255 < length name → OwnFault before piece (faults.NameTooLong piece.place)

-- some piece of these has the fault
abbrev pub Owned : List Piece → LexFault → Type 0
Owned pieces g = (before : List Piece) × (rest : List Piece) × (piece : Piece) × (pieces ≡ before ++ piece ∷ rest) × OwnFault before piece g

behind_one : (front rest : List Piece) (number piece : Piece) → (front ++ number ∷ []) ++ piece ∷ rest ≡ front ++ number ∷ piece ∷ rest
behind_one front rest number piece = append_assoc front (number ∷ []) (piece ∷ rest)

pub owned : (bytes : List ℕ) (pieces : List Piece) (g : LexFault) → PiecesOf bytes pieces → HasFault bytes g → Owned pieces g
owned bytes pieces _ whole (bad_utf8 p bad) = absurd (no_text_with_bad_byte bytes p bad whole.0)
owned bytes pieces _ whole (begins_no_token before rest piece cut shape) = (before, rest, piece, same_pieces bytes pieces (before ++ piece ∷ rest) whole cut, own_stray shape)
owned bytes pieces _ whole (after_number before rest number piece cut numeral begins) =
    (before ++ number ∷ [], rest, piece, same_pieces bytes pieces (before ++ number ∷ piece ∷ rest) whole cut ∙ sym (behind_one before rest number piece), own_number before number refl numeral begins)
owned bytes pieces _ whole (bad_escape before rest piece q cut shape) = (before, rest, piece, same_pieces bytes pieces (before ++ piece ∷ rest) whole cut, own_escape q shape)
owned bytes pieces _ whole (tab_in_indent before spaces blanks rest tab first b cut fresh all col shape blank begins) =
    (before ++ spaces ++ tab ∷ blanks, rest, first, same_pieces bytes pieces (before ++ spaces ++ tab ∷ blanks ++ first ∷ rest) whole cut, own_tab before spaces blanks tab b refl fresh all col shape blank begins)
owned bytes pieces _ whole (bad_dedent before rest first b cut fresh begins new) = (before, rest, first, same_pieces bytes pieces (before ++ first ∷ rest) whole cut, own_dedent b fresh begins new)
owned bytes pieces _ whole (open_string before rest piece cut shape) = (before, rest, piece, same_pieces bytes pieces (before ++ piece ∷ rest) whole cut, own_unclosed shape)
owned bytes pieces _ whole (literal_too_large before rest piece cut shape) = (before, rest, piece, same_pieces bytes pieces (before ++ piece ∷ rest) whole cut, own_large shape)
owned bytes pieces _ whole (name_not_nfkc before rest piece name cut shape other) = (before, rest, piece, same_pieces bytes pieces (before ++ piece ∷ rest) whole cut, own_other_form name shape other)
owned bytes pieces _ whole (name_too_long before rest piece name cut shape long) = (before, rest, piece, same_pieces bytes pieces (before ++ piece ∷ rest) whole cut, own_long name shape long)

pub has_own : (bytes : List ℕ) (before rest : List Piece) (piece : Piece) (g : LexFault) → PiecesOf bytes (before ++ piece ∷ rest) → OwnFault before piece g → HasFault bytes g
has_own bytes before rest piece _ cut (own_stray shape) = begins_no_token before rest piece cut shape
has_own bytes before rest piece _ cut (own_number front number e numeral begins) =
    after_number front rest number piece (subst (PiecesOf bytes) (ap (λ b. b ++ piece ∷ rest) e ∙ behind_one front rest number piece) cut) numeral begins
has_own bytes before rest piece _ cut (own_escape q shape) = bad_escape before rest piece q cut shape
has_own bytes before rest piece _ cut (own_tab front spaces blanks tab b e fresh all col shape blank begins) =
    tab_in_indent front spaces blanks rest tab piece b (subst (PiecesOf bytes) (ap (λ b. b ++ piece ∷ rest) e) cut) fresh all col shape blank begins
has_own bytes before rest piece _ cut (own_dedent b fresh begins new) = bad_dedent before rest piece b cut fresh begins new
has_own bytes before rest piece _ cut (own_unclosed shape) = open_string before rest piece cut shape
has_own bytes before rest piece _ cut (own_large shape) = literal_too_large before rest piece cut shape
has_own bytes before rest piece _ cut (own_other_form name shape other) = name_not_nfkc before rest piece name cut shape other
has_own bytes before rest piece _ cut (own_long name shape long) = name_too_long before rest piece name cut shape long
