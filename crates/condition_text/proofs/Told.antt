-- What is told of conditions.
use Rattle.std.specs.Prelude.{◌≡◌, ◌↔◌, ℕ, Bool, false, IsTrue, List, ◌++◌, codes, Result, Ok, Err, IfOk}
use Rattle.std.proofs.Common.{sym, subst}
use Rattle.proof_checker.specs.declared.Condition.{Condition}
use Rattle.proof_checker.specs.Conditions.{IsSorted}
use Rattle.cond_prover.specs.declared.Proof.{Proof}
use Rattle.cond_prover.specs.Proofs.{IsProofOf}
use Rattle.condition_lines.specs.declared.Line.{Line}
use Rattle.condition_lines.specs.Lines.{IsLine}
use Rattle.condition_text.specs.declared.session.Session.{Session}
use Rattle.condition_text.specs.Sessions.{IsStep, IsReply, IsReplyIf}
use Rattle.condition_text.specs.Replies.{told, IsTold, unsorted, answered, IsAnswerLine, line_end, is_passed_over}

pub answer_is : {T E : Type 0} (bytes : T → List ℕ) (r : Result T E) (short : Bool) (c : Condition) (p : Proof) → IsSorted c → IsProofOf c p → IfOk r (λ text. bytes text ≡ told short p) → IfOk r (λ text. IsTold short c (bytes text))
answer_is bytes (Ok text) short c p s h e = subst (IsTold short c) (sym e) (answered p s h)
answer_is bytes (Err x) short c p s h e = tt

pub unsorted_is : (short : Bool) (c : Condition) (text : List ℕ) → ¬ (IsSorted c) → text ≡ codes "unsorted" → IsTold short c text
unsorted_is short c text h e = subst (IsTold short c) (sym e) (unsorted h)

pub line_is : (short : Bool) (name reply line : List ℕ) (c : Condition) → IsTold short c reply → line ≡ name ++ (codes " " ++ (reply ++ line_end)) → IsAnswerLine short name c line
line_is short name reply line c h e = record { reply = reply; is_told = h; line_is = e }

pub not_sorted : (b : Bool) (c : Condition) → (IsTrue b ↔ IsSorted c) → b ≡ false → ¬ (IsSorted c)
not_sorted b c e f h = let g = e.1 h in absurd (cc (f, g))

pub replied : (text : List ℕ) (old new : Session) (line : Line) (reply : List ℕ) → is_passed_over text ≡ false → IsLine text line → IsStep (record old { lines = new.lines }) line new.pending reply → IsReply old text new reply
replied text old new line reply e h k = subst (λ b. IsReplyIf b old text new reply) (sym e) (line, h, k)
