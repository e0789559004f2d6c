-- Sessions: what a line does, and what is answered to it.
use Rattle.std.specs.Prelude.{◌≡◌, ℕ, List, [], ◌++◌, Option, Some, None, MatchOption, codes, string_bytes}
use Rattle.type_text.specs.declared.session.Module.{Module}
use Rattle.type_text.specs.Replies.{IsAnswerLine, line_end}

-- `## NAME` begins the module of this name, and no other line begins one
abbrev pub IsName : List ℕ → Option (List ℕ) → Type 0
IsName line (Some name) = line ≡ codes "## " ++ name
IsName line None = (name : List ℕ) → ¬ (line ≡ codes "## " ++ name)

-- a module is answered at its end
abbrev pub IsAnswered : Option Module → List ℕ → Type 0
IsAnswered None reply = reply ≡ []
IsAnswered (Some m) reply = IsAnswerLine (string_bytes m.name) (string_bytes m.text) reply

-- a module of this name and text
abbrev pub IsModule : List ℕ → List ℕ → Option Module → Type 0
IsModule name text None = ⊥
IsModule name text (Some m) = (string_bytes m.name ≡ name) × (string_bytes m.text ≡ text)

-- the line and a line feed behind the text so far; before the first module lines are passed over
abbrev pub HasLine : List ℕ → Option Module → Option Module → Type 0
HasLine line None new = new ≡ None
HasLine line (Some m) new = IsModule (string_bytes m.name) (string_bytes m.text ++ (line ++ line_end)) new

-- What is answered to a line, and the module after it: a line that begins a module ends the one before.
abbrev pub IsStep : List ℕ → Option Module → Option Module → List ℕ → Type 0
IsStep line old new reply =
    (named : Option (List ℕ)) × IsName line named
    × MatchOption named (HasLine line old new × (reply ≡ [])) (λ name. IsModule name [] new × IsAnswered old reply)
