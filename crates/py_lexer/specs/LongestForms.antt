-- Words of the contracts of what reads the longest front.
use Rattle.std.specs.Prelude.{ℕ, ◌≤◌, Bool, ◌==◌, not, IsTrue, List, length, Option, MatchOption, All}
use Rattle.py_tokens.specs.declared.Mark.{Mark}
use Rattle.py_tokens.specs.MarkForms.{mark_text}
use Rattle.py_tokens.specs.StringForms.{BeginsWith}
use Rattle.py_tokens.specs.WordForms.{are_more_digits}

-- of these marks the longest that the characters begin with, if they begin with one
abbrev pub IsLongestOf : List ℕ → List Mark → Option Mark → Type 0
IsLongestOf cs marks found = MatchOption found (All (λ mark. ¬ BeginsWith cs (mark_text mark)) marks) (λ best. BeginsWith cs (mark_text best) × All (λ mark. BeginsWith cs (mark_text mark) → length (mark_text mark) ≤ length (mark_text best)) marks)

-- a character of a line
abbrev pub is_in_line : ℕ → Bool
is_in_line c = not (c == 10)

abbrev pub AreMoreDigits : List ℕ → Type 0
AreMoreDigits cs = IsTrue (are_more_digits cs)
