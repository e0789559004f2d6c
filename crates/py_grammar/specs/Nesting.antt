-- How deep a token is nested.
use Rattle.std.specs.Prelude.{ℕ, suc, ◌+◌, ◌-◌, ◌<◌, ◌≤◌, Bool, true, false, List, [], ◌∷◌, ◌++◌, ◌≡◌, Option, Some, None, if◌then◌else◌, not}
use Rattle.py_base.specs.declared.Place.{Place}
use Rattle.py_tokens.specs.declared.Token.{Token}
use Rattle.py_tokens.specs.declared.TokenForm.{TokenForm}
use Rattle.py_tokens.specs.declared.TokenForm.TheVariants as forms
use Rattle.py_tokens.specs.declared.Keyword.TheVariants as keys
use Rattle.py_tokens.specs.declared.Mark.TheVariants as marks

-- The number of open indents and brackets once a token is read.
abbrev pub open_after : ℕ → TokenForm → ℕ
open_after n forms.Indent = suc n
open_after n forms.Dedent = n - 1
open_after n (forms.Mark marks.OpenParen) = suc n
open_after n (forms.Mark marks.CloseParen) = n - 1
open_after n (forms.Mark marks.OpenBracket) = suc n
open_after n (forms.Mark marks.CloseBracket) = n - 1
open_after n f = n

-- An operand may end with this token, so that a `-` behind it stands between two operands.
abbrev pub ends_operand : TokenForm → Bool
ends_operand (forms.Name n) = true
ends_operand (forms.Number n) = true
ends_operand (forms.Str n) = true
ends_operand (forms.Key keys.True) = true
ends_operand (forms.Key keys.False) = true
ends_operand (forms.Key keys.None) = true
ends_operand (forms.Mark marks.CloseParen) = true
ends_operand f = false

-- The token is a `not` or a prefix `-`, by the token before it. The `not` of `is not` is none.
abbrev pub is_prefix : Option TokenForm → TokenForm → Bool
is_prefix (Some (forms.Key keys.Is)) (forms.Key keys.Not) = false
is_prefix before (forms.Key keys.Not) = true
is_prefix (Some f) (forms.Mark marks.Minus) = not (ends_operand f)
is_prefix None (forms.Mark marks.Minus) = true
is_prefix before f = false

-- What the tokens so far leave open: the indents and brackets, the run of prefixes that ends with the last token, and
-- that token.
pub record Depth : Type 0 where
  pub open_ones : ℕ
  pub prefixes : ℕ
  pub last : Option TokenForm

abbrev pub depth_after : Depth → TokenForm → Depth
depth_after d f = record { open_ones = open_after d.open_ones f; prefixes = if is_prefix d.last f then suc d.prefixes else 0; last = Some f }

abbrev pub depth_of : Depth → List Token → Depth
depth_of d [] = d
depth_of d (k ∷ ts) = depth_of (depth_after d k.form) ts

-- The nesting at a token with these before it.
abbrev pub nesting : List Token → Token → ℕ
nesting before k = let d = depth_of (record { open_ones = 0; prefixes = 0; last = None }) before in open_after d.open_ones k.form + d.prefixes

-- The place is that of the first token whose nesting is above the limit.
abbrev pub IsFirstDeep : ℕ → List Token → Place → Type 0
IsFirstDeep limit ts p = (before after : List Token) × (k : Token) × (ts ≡ before ++ k ∷ after) × (k.place ≡ p) × (limit < nesting before k)
    × ((front behind : List Token) (j : Token) → before ≡ front ++ j ∷ behind → nesting front j ≤ limit)
