-- The lines of a text, and the lines that a small text passes over.
use Rattle.std.specs.Prelude.{ℕ, Bool, true, ◌&&◌, List, [], ◌∷◌, drop, nat_le, ◌==◌, if◌then◌else◌}
use Rattle.std.specs.List.{list_all, prefix_len}

-- a byte in front of the first line
abbrev pub onto_first : ℕ → List (List ℕ) → List (List ℕ)
onto_first b [] = (b ∷ []) ∷ []
onto_first b (line ∷ lines) = (b ∷ line) ∷ lines

-- The lines of a text, without their ends. Each ends in LF, which may be missing at the last.
abbrev pub lines_of : List ℕ → List (List ℕ)
lines_of [] = []
lines_of (b ∷ bytes) = if b == 10 then [] ∷ lines_of bytes else onto_first b (lines_of bytes)

-- a byte from the space to the tilde
abbrev pub is_printable : ℕ → Bool
is_printable b = nat_le 32 b && nat_le b 126

-- nothing, or `#` and printable bytes
abbrev pub is_comment : List ℕ → Bool
is_comment [] = true
is_comment (b ∷ bytes) = (b == 35) && list_all is_printable bytes

-- A line is passed over that has spaces alone, or spaces and a comment.
unfoldable pub is_skipped : List ℕ → Bool
is_skipped line = is_comment (drop (prefix_len (λ b. b == 32) line) line)
