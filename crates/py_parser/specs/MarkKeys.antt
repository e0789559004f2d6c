-- The keys of the operators that marks write, by the table of marks.
use Rattle.std.specs.Prelude.{ℕ, zero, suc, List, [], ◌∷◌, Option, Some, None, if◌then◌else◌, bytes_eq}
use Rattle.case_tables.specs.Marks.{marks}
use Rattle.py_tokens.specs.declared.Mark.{Mark}
use Rattle.py_tokens.specs.MarkForms.{mark_text}

-- the number with the text, and none for 0 or for a text that isn't there
abbrev pub number_of : List (List ℕ × ℕ) → List ℕ → ℕ
number_of [] text = 0
number_of (m ∷ ms) text = if bytes_eq m.0 text then m.1 else number_of ms text

abbrev pub not_zero : ℕ → Option ℕ
not_zero zero = None
not_zero (suc n) = Some (suc n)

-- the key of the operator that the mark writes
abbrev pub key_of : Mark → Option ℕ
key_of m = not_zero (number_of marks (mark_text m))
