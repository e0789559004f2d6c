-- The project's own limits on a module: on the tokens of a line, on its statements and on its methods.
use Rattle.std.specs.Prelude.{ℕ, suc, ◌+◌, ◌<◌, Bool, true, false, List, [], ◌∷◌, ◌++◌, ◌≡◌, if◌then◌else◌}
use Rattle.py_tokens.specs.declared.Token.{Token}
use Rattle.py_tokens.specs.declared.TokenForm.{TokenForm}
use Rattle.py_tokens.specs.declared.TokenForm.TheVariants as forms

-- The NEWLINE of a line is counted, INDENT and DEDENT aren't, and the end of a text stands in no line.
abbrev pub is_counted : TokenForm → Bool
is_counted forms.Indent = false
is_counted forms.Dedent = false
is_counted forms.End = false
is_counted f = true

abbrev pub ends_line : TokenForm → Bool
ends_line forms.Newline = true
ends_line f = false

-- The count behind a token, where so many of its line stand before it.
abbrev pub count_behind : ℕ → TokenForm → ℕ
count_behind n f = if ends_line f then 0 else (if is_counted f then suc n else n)

-- how many of these tokens are counted, up to the end of the first line
abbrev pub line_length : List Token → ℕ
line_length [] = 0
line_length (k ∷ ts) = if ends_line k.form then 1 else (if is_counted k.form then suc (line_length ts) else line_length ts)

-- From some token on, more than the limit are counted in its line.
abbrev pub HasLongLine : ℕ → List Token → Type 0
HasLongLine limit ts = (before after : List Token) × (ts ≡ before ++ after) × (limit < line_length after)
