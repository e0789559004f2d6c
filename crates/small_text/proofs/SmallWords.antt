-- Names and keywords of small texts are pieces.
use Rattle.std.specs.Prelude.{nat_le, nat_lt, encode_utf8_all}
use Rattle.std.specs.List.{list_all}
use Rattle.std.proofs.Common.{ℕ, ◌≡◌, not, true, false, arith, tests, refl, sym, ap, ◌∙◌, subst, List, [], ◌∷◌, length, codes}
use Rattle.std.proofs.lemmas.Bool.{and_from}
use Rattle.std.proofs.lemmas.Str.{encodes-IsAscii}
use Rattle.py_base.specs.declared.Place.{Place}
use Rattle.py_tokens.specs.declared.piece.Shape.TheVariants as shapes
use Rattle.py_tokens.specs.declared.token.TokenForm.TheVariants as forms
use Rattle.py_tokens.specs.declared.token.Keyword.{Keyword}
use Rattle.py_tokens.specs.declared.token.Keyword.TheVariants as keys
use Rattle.py_tokens.specs.WordForms.{keyword_text}
use Rattle.py_tokens.specs.WordLaws.{keyword_of, keyword_found}
use Rattle.py_tokens.specs.TextPieces.{IsWord, IsKeyword, IsPiece, a_name, a_keyword}
use Rattle.small_text.specs.TextLines.{is_printable}
use Rattle.small_text.specs.SmallForms.{is_letter, is_name, is_reserved}
use Rattle.small_text.proofs.PassedTests.{bounds, all_weaker, four}
use Rattle.small_text.proofs.PlainText.{printable_is_plain, is_plain, plain_is_ascii}
use Rattle.small_text.proofs.LongestFronts.{breaks, longest_word, letters_are_word}

-- a keyword is no name of a small text
no_keyword_is_name : (k : Keyword) → is_name (keyword_text k) ≡ false
unfolding is_name is_reserved
no_keyword_is_name keys.False = refl
no_keyword_is_name keys.None = refl
no_keyword_is_name keys.True = refl
no_keyword_is_name keys.And = refl
no_keyword_is_name keys.As = refl
no_keyword_is_name keys.Assert = refl
no_keyword_is_name keys.Async = refl
no_keyword_is_name keys.Await = refl
no_keyword_is_name keys.Break = refl
no_keyword_is_name keys.Class = refl
no_keyword_is_name keys.Continue = refl
no_keyword_is_name keys.Def = refl
no_keyword_is_name keys.Del = refl
no_keyword_is_name keys.Elif = refl
no_keyword_is_name keys.Else = refl
no_keyword_is_name keys.Except = refl
no_keyword_is_name keys.Finally = refl
no_keyword_is_name keys.For = refl
no_keyword_is_name keys.From = refl
no_keyword_is_name keys.Global = refl
no_keyword_is_name keys.If = refl
no_keyword_is_name keys.Import = refl
no_keyword_is_name keys.In = refl
no_keyword_is_name keys.Is = refl
no_keyword_is_name keys.Lambda = refl
no_keyword_is_name keys.Nonlocal = refl
no_keyword_is_name keys.Not = refl
no_keyword_is_name keys.Or = refl
no_keyword_is_name keys.Pass = refl
no_keyword_is_name keys.Raise = refl
no_keyword_is_name keys.Return = refl
no_keyword_is_name keys.Try = refl
no_keyword_is_name keys.While = refl
no_keyword_is_name keys.With = refl
no_keyword_is_name keys.Yield = refl

name_letters : (w : List ℕ) → is_name w ≡ true → (list_all is_letter w ≡ true) × (nat_lt 0 (length w) ≡ true)
unfolding is_name
name_letters w h =
    let (letters, filled, few, free) = four (list_all is_letter w) (nat_lt 0 (length w)) (nat_le (length w) 20) (not (is_reserved w)) h in
    (letters, filled)

letters_are_printable : (w : List ℕ) → list_all is_letter w ≡ true → list_all is_printable w ≡ true
letters_are_printable w h = all_weaker is_letter is_printable (λ c l. let (from, to) = bounds 97 122 c l in and_from (nat_le 32 c) (nat_le c 126) (grind (arith, tests)) (grind (arith, tests))) w h

filled_word : (w : List ℕ) → list_all is_letter w ≡ true → nat_lt 0 (length w) ≡ true → IsWord w
filled_word [] h k = cc
filled_word (c ∷ cs) h k = letters_are_word c cs h

own_bytes : (w : List ℕ) → list_all is_letter w ≡ true → encode_utf8_all w ≡ w
own_bytes w h = encodes-IsAscii w (plain_is_ascii w (all_weaker is_printable is_plain printable_is_plain w (letters_are_printable w h)))

-- a word of letters that is no keyword
letters_piece : (p : Place) (w rest : List ℕ) → list_all is_letter w ≡ true → nat_lt 0 (length w) ≡ true → ¬ IsKeyword w → breaks rest ≡ true → IsPiece p w rest (shapes.Whole (forms.Name w))
letters_piece p w rest h k n b = subst (λ (v : List ℕ). IsPiece p w rest (shapes.Whole (forms.Name v))) (own_bytes w h) (a_name (longest_word w rest (filled_word w h k) b) n)

pub name_piece : (p : Place) (w rest : List ℕ) → is_name w ≡ true → breaks rest ≡ true → IsPiece p w rest (shapes.Whole (forms.Name w))
name_piece p w rest h b =
    let (letters, filled) = name_letters w h in
    letters_piece p w rest letters filled (λ key. let (k, e) = key in let t : is_name w ≡ false = ap is_name e ∙ no_keyword_is_name k in cc) b

-- a text that isn't that of the keyword that it finds is no keyword
no_keyword : (cs : List ℕ) → (keyword_text (keyword_of cs) ≡ cs → ⊥) → ¬ IsKeyword cs
no_keyword cs n h =
    let (k, e) = h in
    n (ap keyword_text (ap keyword_of e ∙ keyword_found k) ∙ sym e)

pub print_piece : (p : Place) (rest : List ℕ) → breaks rest ≡ true → IsPiece p (codes "print") rest (shapes.Whole (forms.Name (codes "print")))
print_piece p rest b = letters_piece p (codes "print") rest refl refl (no_keyword (codes "print") (λ e. cc)) b

pub main_piece : (p : Place) (rest : List ℕ) → breaks rest ≡ true → IsPiece p (codes "main") rest (shapes.Whole (forms.Name (codes "main")))
main_piece p rest b = letters_piece p (codes "main") rest refl refl (no_keyword (codes "main") (λ e. cc)) b

pub keyword_piece : (p : Place) (k : Keyword) (rest : List ℕ) → IsWord (keyword_text k) → breaks rest ≡ true → IsPiece p (keyword_text k) rest (shapes.Whole (forms.Key k))
keyword_piece p k rest h b = a_keyword k (longest_word (keyword_text k) rest h b) refl

pub name_is_printable : (w : List ℕ) → is_name w ≡ true → list_all is_printable w ≡ true
name_is_printable w h = letters_are_printable w (name_letters w h).0
