-- Where a list of tokens is nested too deep.
use Rattle.std.specs.Prelude.{ℕ, Bool, true, false, ◌<◌, ◌≤◌, List, ◌∷◌, ◌++◌, ◌≡◌}
use Rattle.std.specs.Borrow.{Bor}
use Rattle.py_tokens.specs.declared.Token.{Token}
use Rattle.py_tokens.specs.declared.TokenForm.{TokenForm}
use Rattle.py_tokens.specs.declared.TokenForm.TheVariants as forms
use Rattle.py_tokens.specs.declared.Keyword.TheVariants as keys
use Rattle.py_tokens.specs.declared.Mark.TheVariants as marks
use Rattle.py_grammar.specs.Nesting.{nesting}

-- the form of a token that is borrowed
abbrev pub form_of : Bor Token → TokenForm
form_of k = k.now.form

abbrev pub is_word_is : TokenForm → Bool
is_word_is (forms.Key keys.Is) = true
is_word_is f = false

abbrev pub is_word_not : TokenForm → Bool
is_word_not (forms.Key keys.Not) = true
is_word_not f = false

abbrev pub is_minus : TokenForm → Bool
is_minus (forms.Mark marks.Minus) = true
is_minus f = false

-- no token is nested deeper than the limit
abbrev pub IsNowhereDeep : ℕ → List Token → Type 0
IsNowhereDeep limit ts = (front behind : List Token) (k : Token) → ts ≡ front ++ k ∷ behind → nesting front k ≤ limit

-- The token, with these before it and those behind it, is the first that is nested deeper.
pub record IsDeepAt (limit : ℕ) (ts before : List Token) (k : Token) (after : List Token) : Type 0 where
  pub is : ts ≡ before ++ k ∷ after
  pub deep : limit < nesting before k
  pub first : IsNowhereDeep limit before
