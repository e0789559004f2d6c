-- What is read in front is a piece.
use Rattle.std.proofs.Common.{ℕ, ◌≡◌, ◌<◌, inl, inr, refl, sym, ap, subst, arith, List, [], ◌∷◌, ◌++◌, length, get_or, lit<}
use Rattle.py_base.specs.declared.Place.{Place}
use Rattle.py_tokens.specs.declared.Mark.{Mark}
use Rattle.py_tokens.specs.declared.Mark.TheVariants as marks
use Rattle.py_tokens.specs.declared.TokenForm.TheVariants as forms
use Rattle.py_tokens.specs.declared.Shape.{Shape}
use Rattle.py_tokens.specs.declared.Shape.TheVariants as shapes
use Rattle.py_tokens.specs.StringForms.{Quotes, OpensWith}
use Rattle.py_tokens.specs.MarkForms.{mark_text}
use Rattle.py_tokens.specs.TextPieces.{Longest, IsWord, IsNumber, IsMark, IsComment, IsPiece, a_name, a_keyword, a_number, a_large_number, a_mark, a_space, a_tab, a_comment, a_line_end, a_stray}
use Rattle.py_lexer.specs.PieceForms.{IsWordShape, IsNumberShape, StandsAlone, StandsAt}
use Rattle.py_lexer.proofs.StringWhole.{piece_before}

some_word : (cs : List ℕ) → IsWord cs → 0 < length cs
some_word [] h = cc
some_word (c ∷ cs) h = omega arith

some_number : (cs : List ℕ) → IsNumber cs → 0 < length cs
some_number [] h = cc
some_number (c ∷ cs) h = omega arith

some_mark : (cs : List ℕ) (m : Mark) → cs ≡ mark_text m → 0 < length (mark_text m) → 0 < length cs
some_mark cs m e w = subst (λ (x : List ℕ). 0 < length x) (sym e) w

some_comment : (cs : List ℕ) → IsComment cs → 0 < length cs
some_comment [] (text, e, h) = cc
some_comment (c ∷ cs) h = omega arith

shape_of_word : (p : Place) (front rest : List ℕ) (shape : Shape) → Longest IsWord front rest → IsWordShape front shape → IsPiece p front rest shape
shape_of_word p front rest shape l (inl (k, e, s)) = subst (λ (x : Shape). IsPiece p front rest x) (sym s) (a_keyword k l e)
shape_of_word p front rest shape l (inr (k, s)) = subst (λ (x : Shape). IsPiece p front rest x) (sym s) (a_name l k)

pub word_piece : (p : Place) (cs front rest : List ℕ) (shape : Shape) → cs ≡ front ++ rest → Longest IsWord front rest → IsWordShape front shape → StandsAt p cs (length front) shape
word_piece p cs front rest shape e l h = piece_before p cs front rest shape (length front) (some_word front l.0) e refl (shape_of_word p front rest shape l h)

shape_of_number : (p : Place) (front rest : List ℕ) (shape : Shape) → Longest IsNumber front rest → IsNumberShape front shape → IsPiece p front rest shape
shape_of_number p front rest shape l (inl (k, s)) = subst (λ (x : Shape). IsPiece p front rest x) (sym s) (a_number l k)
shape_of_number p front rest shape l (inr (k, s)) = subst (λ (x : Shape). IsPiece p front rest x) (sym s) (a_large_number l k)

pub number_piece : (p : Place) (cs front rest : List ℕ) (shape : Shape) → cs ≡ front ++ rest → Longest IsNumber front rest → IsNumberShape front shape → StandsAt p cs (length front) shape
number_piece p cs front rest shape e l h = piece_before p cs front rest shape (length front) (some_number front l.0) e refl (shape_of_number p front rest shape l h)

mark_length : (m : Mark) → 0 < length (mark_text m)
mark_length marks.OpenParen = lit< tt
mark_length marks.CloseParen = lit< tt
mark_length marks.OpenBracket = lit< tt
mark_length marks.CloseBracket = lit< tt
mark_length marks.Colon = lit< tt
mark_length marks.Comma = lit< tt
mark_length marks.Dot = lit< tt
mark_length marks.Assign = lit< tt
mark_length marks.Arrow = lit< tt
mark_length marks.At = lit< tt
mark_length marks.Plus = lit< tt
mark_length marks.Minus = lit< tt
mark_length marks.Star = lit< tt
mark_length marks.Slash = lit< tt
mark_length marks.TwoSlashes = lit< tt
mark_length marks.Percent = lit< tt
mark_length marks.Less = lit< tt
mark_length marks.LessEqual = lit< tt
mark_length marks.Greater = lit< tt
mark_length marks.GreaterEqual = lit< tt
mark_length marks.Equal = lit< tt
mark_length marks.NotEqual = lit< tt
mark_length marks.PlusAssign = lit< tt
mark_length marks.MinusAssign = lit< tt
mark_length marks.StarAssign = lit< tt
mark_length marks.TwoSlashesAssign = lit< tt
mark_length marks.PercentAssign = lit< tt

pub mark_piece : (p : Place) (cs front rest : List ℕ) (m : Mark) → cs ≡ front ++ rest → front ≡ mark_text m → Longest IsMark front rest → StandsAt p cs (length front) (shapes.Whole (forms.Mark m))
mark_piece p cs front rest m e k l = piece_before p cs front rest (shapes.Whole (forms.Mark m)) (length front) (some_mark front m k (mark_length m)) e refl (a_mark m l k)

pub comment_piece : (p : Place) (cs front rest : List ℕ) → cs ≡ front ++ rest → Longest IsComment front rest → StandsAt p cs (length front) shapes.Comment
comment_piece p cs front rest e l = piece_before p cs front rest shapes.Comment (length front) (some_comment front l.0) e refl (a_comment l)

abbrev pub BeginsNot : (List ℕ → Type 0) → List ℕ → Type 0
BeginsNot Has cs = (front rest : List ℕ) → cs ≡ front ++ rest → ¬ Has front

single_shape : (p : Place) (c : ℕ) (cs : List ℕ) (shape : Shape) → BeginsNot IsWord (c ∷ cs) → BeginsNot IsNumber (c ∷ cs) → BeginsNot IsMark (c ∷ cs) → BeginsNot IsComment (c ∷ cs) → ((quotes : Quotes) → ¬ OpensWith (c ∷ cs) quotes) → StandsAlone c shape → IsPiece p (c ∷ []) cs shape
single_shape p c cs shapes.Space w n m k q h = a_space (ap (λ x. x ∷ []) h)
single_shape p c cs shapes.Tab w n m k q h = a_tab (ap (λ x. x ∷ []) h)
single_shape p c cs shapes.LineEnd w n m k q h = a_line_end (ap (λ x. x ∷ []) h)
single_shape p c cs shapes.Stray w n m k q h = a_stray c refl (record { no_word = w; no_number = n; no_mark = m; no_comment = k; no_string = q; no_separator = h })
single_shape p c cs (shapes.Whole form) w n m k q h = absurd h
single_shape p c cs shapes.LargeNumber w n m k q h = absurd h
single_shape p c cs shapes.Comment w n m k q h = absurd h
single_shape p c cs (shapes.BadEscape e) w n m k q h = absurd h
single_shape p c cs shapes.Unclosed w n m k q h = absurd h

pub single_piece : (p : Place) (cs : List ℕ) (c : ℕ) (shape : Shape) → 0 < length cs → c ≡ get_or cs 0 c → BeginsNot IsWord cs → BeginsNot IsNumber cs → BeginsNot IsMark cs → BeginsNot IsComment cs → ((quotes : Quotes) → ¬ OpensWith cs quotes) → StandsAlone c shape → StandsAt p cs 1 shape
single_piece p [] c shape l e w n m k q h = absurd (omega arith)
single_piece p (x ∷ cs) c shape l e w n m k q h = (omega arith, omega arith, single_shape p x cs shape w n m k q (subst (λ (y : ℕ). StandsAlone y shape) e h))
