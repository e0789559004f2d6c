-- Every keyword is tried.
use Rattle.std.proofs.Common.{ℕ, ◌≡◌, arith, refl, sym, ◌∙◌, List, [], ◌∷◌, length, All, Option, Some, None, MatchOption, lit<, append-nil}
use Rattle.py_tokens.specs.declared.Keyword.{Keyword}
use Rattle.py_tokens.specs.declared.Keyword.TheVariants as keys
use Rattle.py_tokens.specs.WordForms.{keyword_text}
use Rattle.py_tokens.specs.StringForms.{BeginsWith}
use Rattle.py_tokens.specs.TextPieces.{IsKeyword}
use Rattle.py_lexer.specs.declared.words.TheConstants.{KEYWORDS}

pub every_keyword : (P : Keyword → Type 0) → All P KEYWORDS → (k : Keyword) → P k
every_keyword P h keys.False = h 0 keys.True (lit< tt)
every_keyword P h keys.None = h 1 keys.True (lit< tt)
every_keyword P h keys.True = h 2 keys.True (lit< tt)
every_keyword P h keys.And = h 3 keys.True (lit< tt)
every_keyword P h keys.As = h 4 keys.True (lit< tt)
every_keyword P h keys.Assert = h 5 keys.True (lit< tt)
every_keyword P h keys.Async = h 6 keys.True (lit< tt)
every_keyword P h keys.Await = h 7 keys.True (lit< tt)
every_keyword P h keys.Break = h 8 keys.True (lit< tt)
every_keyword P h keys.Class = h 9 keys.True (lit< tt)
every_keyword P h keys.Continue = h 10 keys.True (lit< tt)
every_keyword P h keys.Def = h 11 keys.True (lit< tt)
every_keyword P h keys.Del = h 12 keys.True (lit< tt)
every_keyword P h keys.Elif = h 13 keys.True (lit< tt)
every_keyword P h keys.Else = h 14 keys.True (lit< tt)
every_keyword P h keys.Except = h 15 keys.True (lit< tt)
every_keyword P h keys.Finally = h 16 keys.True (lit< tt)
every_keyword P h keys.For = h 17 keys.True (lit< tt)
every_keyword P h keys.From = h 18 keys.True (lit< tt)
every_keyword P h keys.Global = h 19 keys.True (lit< tt)
every_keyword P h keys.If = h 20 keys.True (lit< tt)
every_keyword P h keys.Import = h 21 keys.True (lit< tt)
every_keyword P h keys.In = h 22 keys.True (lit< tt)
every_keyword P h keys.Is = h 23 keys.True (lit< tt)
every_keyword P h keys.Lambda = h 24 keys.True (lit< tt)
every_keyword P h keys.Nonlocal = h 25 keys.True (lit< tt)
every_keyword P h keys.Not = h 26 keys.True (lit< tt)
every_keyword P h keys.Or = h 27 keys.True (lit< tt)
every_keyword P h keys.Pass = h 28 keys.True (lit< tt)
every_keyword P h keys.Raise = h 29 keys.True (lit< tt)
every_keyword P h keys.Return = h 30 keys.True (lit< tt)
every_keyword P h keys.Try = h 31 keys.True (lit< tt)
every_keyword P h keys.While = h 32 keys.True (lit< tt)
every_keyword P h keys.With = h 33 keys.True (lit< tt)
every_keyword P h keys.Yield = h 34 keys.True (lit< tt)

pub no_keyword : (word : List ℕ) → All (λ k. ¬ (word ≡ keyword_text k)) KEYWORDS → IsKeyword word → ⊥
no_keyword word h (k, e) = every_keyword (λ k. ¬ (word ≡ keyword_text k)) h k e

pub keyword_or_none : (word : List ℕ) (found : Option Keyword) → MatchOption found (All (λ k. ¬ (word ≡ keyword_text k)) KEYWORDS) (λ k. word ≡ keyword_text k) → MatchOption found (¬ IsKeyword word) (λ k. word ≡ keyword_text k)
keyword_or_none word None h = no_keyword word h
keyword_or_none word (Some k) h = h

-- characters that begin with a text of their length are that text
pub whole_text : (cs text : List ℕ) → length cs ≡ length text → BeginsWith cs text → cs ≡ text
whole_text [] [] l h = refl
whole_text [] (b ∷ text) l h = absurd (omega arith)
whole_text (c ∷ cs) [] l h = absurd (omega arith)
whole_text (c ∷ cs) (b ∷ text) l (rest, h) = let i = whole_text cs text (omega arith) (rest, cc) in let e : c ≡ b = cc in cc

pub text_begins : (cs text : List ℕ) → cs ≡ text → BeginsWith cs text
text_begins cs text e = ([], e ∙ sym (append-nil text))
