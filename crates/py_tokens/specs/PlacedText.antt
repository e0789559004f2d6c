-- The characters of a text and their places. (Language Reference, "Physical lines" and "Encoding declarations".)
use Rattle.std.specs.Prelude.{ℕ, Bool, false, List, [], ◌∷◌, ◌+◌, ◌≡◌, ◌==◌, take, if◌then◌else◌}
use Rattle.std.specs.Str.{IsValidUpTo, chars}
use Rattle.py_base.specs.declared.Place.{Place}
use Rattle.py_tokens.specs.declared.spot.Spot.{Spot}

-- A byte order mark in front is skipped.
abbrev pub without_order_mark : List ℕ → List ℕ
without_order_mark [] = []
without_order_mark (c ∷ cs) = if c == 65279 then cs else c ∷ cs

abbrev pub begins_with_lf : List ℕ → Bool
begins_with_lf [] = false
begins_with_lf (c ∷ cs) = c == 10

-- A line ends at LF, CR LF or CR, and each of these is one LF: a CR in front of an LF is left out, and every other CR is an LF.
abbrev pub with_line_ends : List ℕ → List ℕ
with_line_ends [] = []
with_line_ends (c ∷ cs) = if c == 13 then (if begins_with_lf cs then with_line_ends cs else 10 ∷ with_line_ends cs) else c ∷ with_line_ends cs

-- the characters that bytes in UTF-8 have as a text
abbrev pub text_characters : List ℕ → List ℕ
text_characters bytes = with_line_ends (without_order_mark (chars bytes))

abbrev pub text_start : Place
text_start = record { line = 1; col = 1 }

-- the place just after a character: an LF ends the line, and a column counts characters
abbrev pub after_one : Place → ℕ → Place
after_one p c = if c == 10 then record { line = p.line + 1; col = 1 } else record { line = p.line; col = p.col + 1 }

-- the place just after characters that begin at a place
abbrev pub after : Place → List ℕ → Place
after p [] = p
after p (c ∷ cs) = after (after_one p c) cs

-- characters that begin at a place, each with its own
abbrev pub placed : Place → List ℕ → List Spot
placed p [] = []
placed p (c ∷ cs) = record { code = c; place = p } ∷ placed (after_one p c) cs

-- The first byte that belongs to no whole character stands just after the whole characters in front of it.
abbrev pub IsBadByteAt : List ℕ → Place → Type 0
IsBadByteAt bytes p = (n : ℕ) × IsValidUpTo bytes n × (p ≡ after text_start (text_characters (take n bytes)))
