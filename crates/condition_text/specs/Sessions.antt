-- Sessions: what a line does, and what is answered to it.
use Rattle.std.specs.Prelude.{◌≡◌, ℕ, Bool, true, false, List, [], ◌∷◌, ◌++◌, Option, Some, None, MatchOption, string_bytes}
use Rattle.condition_lines.specs.declared.Line.{Line}
use Rattle.condition_lines.specs.declared.Line.TheVariants as lines
use Rattle.condition_text.specs.declared.session.Pending.{Pending}
use Rattle.condition_text.specs.declared.session.Session.{Session}
use Rattle.condition_lines.specs.Lines.{IsLine}
use Rattle.condition_text.specs.Replies.{IsAnswerLine, unreadable_line, is_passed_over}

-- the line of the session's number isn't read, and ends the condition that it stands in
abbrev pub IsRefused : Session → Option Pending → List ℕ → Type 0
IsRefused s after reply = (after ≡ None) × (reply ≡ unreadable_line s.lines)

-- A line that begins a condition stands in none, and the others stand in one. The goal ends it, and is
-- answered. What isn't so is refused.
abbrev pub IsStep : Session → Line → Option Pending → List ℕ → Type 0
IsStep s (lines.Begins name) after reply =
    MatchOption s.pending ((after ≡ Some (record { name = name; hyps = [] })) × (reply ≡ [])) (λ p. IsRefused s after reply)
IsStep s (lines.Assumes l) after reply =
    MatchOption s.pending (IsRefused s after reply) (λ p. (after ≡ Some (record { name = p.name; hyps = p.hyps ++ l ∷ [] })) × (reply ≡ []))
IsStep s (lines.Asks l) after reply =
    MatchOption s.pending (IsRefused s after reply) (λ p. (after ≡ None) × IsAnswerLine s.short (string_bytes p.name) (record { hyps = p.hyps; goal = l }) reply)
IsStep s lines.Unreadable after reply = IsRefused s after reply

abbrev pub IsReplyIf : Bool → Session → List ℕ → Session → List ℕ → Type 0
IsReplyIf true old text new reply = (new.pending ≡ old.pending) × (reply ≡ [])
IsReplyIf false old text new reply =
    (line : Line) × IsLine text line × IsStep (record old { lines = new.lines }) line new.pending reply

-- What is answered to a text: nothing to one that is passed over, and else what its line does, where the
-- line has the number that the session comes to.
abbrev pub IsReply : Session → List ℕ → Session → List ℕ → Type 0
IsReply old text new reply = IsReplyIf (is_passed_over text) old text new reply
