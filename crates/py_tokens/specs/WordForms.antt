-- Names, keywords and numbers by their characters. (Language Reference, "Identifiers and keywords" and "Integer literals"; Unicode Standard Annex 31 for XID_Start and XID_Continue.)
use Rattle.std.specs.Prelude.{ℕ, Bool, true, false, not, ◌&&◌, ◌||◌, List, [], ◌∷◌, ◌+◌, ◌-◌, ◌*◌, ◌==◌, nat_le, codes, fold, filter, if◌then◌else◌}
use Rattle.std.specs.List.{list_all, prefix_len}
use Rattle.unicode_ident.specs.Ident.{is_xid_start, is_xid_continue}
use Rattle.py_tokens.specs.declared.token.Keyword.{Keyword}
use Rattle.py_tokens.specs.declared.token.Keyword.TheVariants as keys

-- A word begins with a character of XID_Start or `_`, and goes on with characters of XID_Continue.
abbrev pub begins_word : ℕ → Bool
begins_word c = is_xid_start c || (c == 95)

abbrev pub is_word : List ℕ → Bool
is_word [] = false
is_word (c ∷ cs) = begins_word c && list_all is_xid_continue cs

-- how many characters the longest word in front has, or 0
abbrev pub word_len : List ℕ → ℕ
word_len [] = 0
word_len (c ∷ cs) = if begins_word c then 1 + prefix_len is_xid_continue cs else 0

abbrev pub keyword_text : Keyword → List ℕ
keyword_text keys.False = codes "False"
keyword_text keys.None = codes "None"
keyword_text keys.True = codes "True"
keyword_text keys.And = codes "and"
keyword_text keys.As = codes "as"
keyword_text keys.Assert = codes "assert"
keyword_text keys.Async = codes "async"
keyword_text keys.Await = codes "await"
keyword_text keys.Break = codes "break"
keyword_text keys.Class = codes "class"
keyword_text keys.Continue = codes "continue"
keyword_text keys.Def = codes "def"
keyword_text keys.Del = codes "del"
keyword_text keys.Elif = codes "elif"
keyword_text keys.Else = codes "else"
keyword_text keys.Except = codes "except"
keyword_text keys.Finally = codes "finally"
keyword_text keys.For = codes "for"
keyword_text keys.From = codes "from"
keyword_text keys.Global = codes "global"
keyword_text keys.If = codes "if"
keyword_text keys.Import = codes "import"
keyword_text keys.In = codes "in"
keyword_text keys.Is = codes "is"
keyword_text keys.Lambda = codes "lambda"
keyword_text keys.Nonlocal = codes "nonlocal"
keyword_text keys.Not = codes "not"
keyword_text keys.Or = codes "or"
keyword_text keys.Pass = codes "pass"
keyword_text keys.Raise = codes "raise"
keyword_text keys.Return = codes "return"
keyword_text keys.Try = codes "try"
keyword_text keys.While = codes "while"
keyword_text keys.With = codes "with"
keyword_text keys.Yield = codes "yield"

abbrev pub is_digit : ℕ → Bool
is_digit c = nat_le 48 c && nat_le c 57

abbrev pub begins_with_digit : List ℕ → Bool
begins_with_digit [] = false
begins_with_digit (c ∷ cs) = is_digit c

-- digits, and underscores that each have a digit straight behind
abbrev pub are_more_digits : List ℕ → Bool
are_more_digits [] = true
are_more_digits (c ∷ cs) = (if c == 95 then begins_with_digit cs else is_digit c) && are_more_digits cs

abbrev pub is_empty : List ℕ → Bool
is_empty [] = true
is_empty (c ∷ cs) = false

-- A number is `0`, or a digit 1 to 9 and then digits, with single underscores between.
abbrev pub is_number : List ℕ → Bool
is_number [] = false
is_number (c ∷ cs) = if c == 48 then is_empty cs else is_digit c && are_more_digits cs

-- what the digits write in base ten
abbrev pub number_value : List ℕ → ℕ
number_value cs = fold (λ n c. n * 10 + (c - 48)) 0 (filter (λ c. not (c == 95)) cs)
