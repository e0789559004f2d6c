-- The lines of conditions.
use Rattle.std.specs.Prelude.{◌≡◌, ℕ, List, [], ◌∷◌, codes, string_bytes}
use Rattle.std.specs.List.{join_with_byte}
use Rattle.condition_lines.specs.declared.lines.Line.{Line}
use Rattle.condition_lines.specs.declared.lines.Line.TheVariants as lines
use Rattle.condition_lines.specs.Written.{literal_words}

-- A condition begins with `condition NAME`, its hypotheses are `hyp LITERAL`, and `goal LITERAL` ends it.
abbrev pub AreWordsOf : Line → List (List ℕ) → Type 0
AreWordsOf (lines.Begins name) words = words ≡ codes "condition" ∷ string_bytes name ∷ []
AreWordsOf (lines.Assumes l) words = words ≡ codes "hyp" ∷ literal_words l
AreWordsOf (lines.Asks l) words = words ≡ codes "goal" ∷ literal_words l
AreWordsOf lines.Unreadable words = Unit {0}

-- the line has these words, with a space between two of them
abbrev pub IsLine : List ℕ → Line → Type 0
IsLine text line = (words : List (List ℕ)) × (text ≡ join_with_byte 32 words) × AreWordsOf line words
