-- What a run that has played all its grants came to.
use Rattle.std.proofs.Common.{◌≡◌, ◌∙◌, sym, ap, subst, ℕ, Option, Some, None, Result, Ok, Err, IfOk, OnOk, OnErr, List, [], ◌++◌, append-nil}
use Rattle.std.specs.Option.{option_map_or}
use Rattle.std.specs.Io.KnownBytes.{Appends}
use Rattle.io_edge.specs.Outside.{AppendsPart}
use Rattle.py_syntax.specs.declared.Module.{Module}
use Rattle.schedule_runner.specs.declared.grant.Grant.{Grant}
use Rattle.schedule_runner.specs.declared.ending.RunEnd.{RunEnd}
use Rattle.schedule_runner.specs.declared.ending.RunEnd.TheVariants as ending
use Rattle.schedule_runner.specs.declared.ending.RunFault.{RunFault}
use Rattle.schedule_runner.specs.declared.running.Running.{Running}
use Rattle.schedule_runner.specs.declared.running.Turn.{Turn}
use Rattle.schedule_runner.specs.declared.running.Turn.TheVariants.{Goes, Ends}
use Rattle.schedule_runner.specs.Output.{Outcome, before, ended, text_of, unfinished}
use Rattle.schedule_runner.specs.Playing.{output_from, GoesOn, HasEnded, IsCut, Plays}
use Rattle.schedule_runner.proofs.Pieces.{part_whole}
use Rattle.schedule_runner.proofs.Played.{plays_goes, plays_ends}

-- the run ended so, and its text is written
pub record IsOver (m : Module) (grants : List Grant) (r : Running) (e : RunEnd) (old new : Option (List ℕ)) : Type 0 where
  pub ends : (output_from m grants r).ends ≡ e
  pub whole : Appends old new (text_of (output_from m grants r).lines)

over_from : (m : Module) (grants : List Grant) (r : Running) (lines : List (List ℕ)) (e : RunEnd) (old new : Option (List ℕ)) → output_from m (grants ++ []) r ≡ record { lines = lines; ends = e } → Appends old new (text_of lines) → IsOver m grants r e old new
over_from m grants r lines e old new is written =
    let known : output_from m grants r ≡ record { lines = lines; ends = e } = ap (λ gs. output_from m gs r) (sym (append-nil grants)) ∙ is in
    record { ends = ap (λ (o : Outcome). o.ends) known; whole = subst (λ (o : Outcome). Appends old new (text_of o.lines)) (sym known) written }

pub spent_is : (m : Module) (grants : List Grant) (r now : Running) (x : Turn) (old new : Option (List ℕ)) → x ≡ Goes → Plays m grants r (Ok x) now old new → IsOver m grants r (ending.Spent (unfinished now.state)) old new
spent_is m grants r now x old new is plays =
    let g : GoesOn m grants r now old new = plays_goes m grants r now x old new is plays in
    let spent : RunEnd = ending.Spent (unfinished now.state) in
    let last : output_from m [] now ≡ ended spent = ap (λ o. option_map_or ended o (ended spent)) g.goes in
    over_from m grants r g.lines spent old new (g.played [] ∙ ap (before g.lines) last ∙ ap (λ (ls : List (List ℕ)). record { lines = ls; ends = spent }) (append-nil g.lines)) g.written

pub ended_is : (m : Module) (grants : List Grant) (r now : Running) (x : Turn) (e : RunEnd) (old new : Option (List ℕ)) → x ≡ Ends e → Plays m grants r (Ok x) now old new → IsOver m grants r e old new
ended_is m grants r now x e old new is plays =
    let h : HasEnded m grants r e old new = plays_ends m grants r now x e old new is plays in
    over_from m grants r h.lines e old new (h.played []) h.written

pub cut_is : (m : Module) (grants : List Grant) (r : Running) (old new : Option (List ℕ)) → IsCut m grants r old new → AppendsPart old new (text_of (output_from m grants r).lines)
cut_is m grants r old new cut = subst (λ gs. AppendsPart old new (text_of (output_from m gs r).lines)) (append-nil grants) (cut [])

pub spent_ends : (m : Module) (grants : List Grant) (r : Running) (e : RunEnd) (old new : Option (List ℕ)) (res : Result RunEnd RunFault) → IsOver m grants r e old new → IfOk res (λ x. x ≡ e) → IfOk res (λ x. (output_from m grants r).ends ≡ x)
spent_ends m grants r e old new (Ok x) over is = over.ends ∙ sym is
spent_ends m grants r e old new (Err fault) over is = tt

pub spent_whole : (m : Module) (grants : List Grant) (r : Running) (e : RunEnd) (old new : Option (List ℕ)) (res : Result RunEnd RunFault) → IsOver m grants r e old new → OnOk res (Appends old new (text_of (output_from m grants r).lines))
spent_whole m grants r e old new (Ok x) over = over.whole
spent_whole m grants r e old new (Err fault) over = tt

pub spent_part : (m : Module) (grants : List Grant) (r : Running) (e : RunEnd) (old new : Option (List ℕ)) (res : Result RunEnd RunFault) → IsOver m grants r e old new → OnErr res (AppendsPart old new (text_of (output_from m grants r).lines))
spent_part m grants r e old new (Ok x) over = tt
spent_part m grants r e old new (Err fault) over = part_whole old new (text_of (output_from m grants r).lines) over.whole
