-- What is written of a run and of its end.
use Rattle.std.proofs.Common.{◌≡◌, ℕ, List, ◌++◌, Option, Result, Ok, Err, IfOk, IsErr, refl, sym, ap, subst, ◌∙◌}
use Rattle.std.specs.Io.KnownBytes.{Appends}
use Rattle.io_edge.specs.Outside.{AppendsPart}
use Rattle.py_base.specs.declared.OutOfMemory.{OutOfMemory}
use Rattle.schedule_runner.specs.declared.ending.RunEnd.{RunEnd}
use Rattle.schedule_runner.specs.Output as output
use Rattle.schedule_runner.specs.Output.{Outcome}
use Rattle.nagini_cli.specs.declared.reply.Reply.{Reply}
use Rattle.nagini_cli.specs.Replies.{Says, text_of}
use Rattle.nagini_cli.specs.RunAnswers.{status_of, end_text}
use Rattle.nagini_cli.proofs.Written.{AppendsPart-behind, AppendsPart-none}

-- a run is told up to its end, of which a part is written
pub part_of_end : (reply : Result Reply OutOfMemory) (o : Outcome) (e : RunEnd) (old mid new : Option (List ℕ)) → o.ends ≡ e → Appends old mid (output.text_of o.lines) → IfOk reply (λ r. Says r (status_of e) (end_text e)) → IfOk reply (λ r. AppendsPart mid new (text_of r)) → (IsErr reply → new ≡ mid) → AppendsPart old new (output.text_of o.lines ++ end_text o.ends)
part_of_end (Ok r) o e old mid new is before says part nothing =
    let text : text_of r ≡ end_text o.ends = says.text_is ∙ ap end_text (sym is) in
    AppendsPart-behind old mid new (output.text_of o.lines) (end_text o.ends) before (subst (λ (x : List ℕ). AppendsPart mid new x) text part)
part_of_end (Err none) o e old mid new is before says part nothing = AppendsPart-none old mid new (output.text_of o.lines) (end_text o.ends) before (nothing refl)
