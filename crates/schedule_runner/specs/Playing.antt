-- What a part of a run does: the grants that it plays, what it writes, and whether the run goes on.
use Rattle.std.specs.Prelude.{◌≡◌, ℕ, List, ◌++◌, Option, Some, None, Result, Ok, Err}
use Rattle.std.specs.Io.KnownBytes.{Appends}
use Rattle.io_edge.specs.Outside.{AppendsPart}
use Rattle.py_syntax.specs.declared.Module.{Module}
use Rattle.machine_model.specs.declared.state.State.{State}
use Rattle.machine_model.specs.Steps.{one_of}
use Rattle.machine_values.specs.Bits.{has_128_bits}
use Rattle.schedule_runner.specs.declared.grant.Grant.{Grant}
use Rattle.schedule_runner.specs.declared.ending.RunEnd.{RunEnd}
use Rattle.schedule_runner.specs.declared.ending.RunFault.{RunFault}
use Rattle.schedule_runner.specs.declared.running.Running.{Running}
use Rattle.schedule_runner.specs.declared.running.Turn.{Turn}
use Rattle.schedule_runner.specs.declared.running.Turn.TheVariants.{Goes, Ends}
use Rattle.schedule_runner.specs.Output.{Outcome, output, before, end_in, text_of}

-- what comes of a run that goes on, under these grants
abbrev pub output_from : Module → List Grant → Running → Outcome
output_from m grants r = output has_128_bits m grants r.last r.state

-- The run goes on as it did: its lines are written, and what comes later comes from where it stands now.
pub record GoesOn (m : Module) (grants : List Grant) (r now : Running) (old new : Option (List ℕ)) : Type 0 where
  pub lines : List (List ℕ)
  pub goes : end_in now.state ≡ None
  pub played : (more : List Grant) → output_from m (grants ++ more) r ≡ before lines (output_from m more now)
  pub written : Appends old new (text_of lines)

-- The run has ended: its lines are written.
pub record HasEnded (m : Module) (grants : List Grant) (r : Running) (e : RunEnd) (old new : Option (List ℕ)) : Type 0 where
  pub lines : List (List ℕ)
  pub played : (more : List Grant) → output_from m (grants ++ more) r ≡ record { lines = lines; ends = e }
  pub written : Appends old new (text_of lines)

-- The run is cut short: a front of its text is written.
abbrev pub IsCut : Module → List Grant → Running → Option (List ℕ) → Option (List ℕ) → Type 0
IsCut m grants r old new = (more : List Grant) → AppendsPart old new (text_of (output_from m (grants ++ more) r).lines)

-- The grants were played, whatever further ones may come.
abbrev pub Plays : Module → List Grant → Running → Result Turn RunFault → Running → Option (List ℕ) → Option (List ℕ) → Type 0
Plays m grants r (Ok Goes) now old new = GoesOn m grants r now old new
Plays m grants r (Ok (Ends e)) now old new = HasEnded m grants r e old new
Plays m grants r (Err fault) now old new = IsCut m grants r old new

-- whether a run goes on in a state
abbrev pub turn_at : Option RunEnd → Turn
turn_at None = Goes
turn_at (Some e) = Ends e

abbrev pub turn_in : State → Turn
turn_in s = turn_at (end_in s)

-- a step has shown its line, and the run goes on in its state or ends
abbrev pub IsShown : State → Option (List ℕ) → Result Turn RunFault → Option (List ℕ) → Option (List ℕ) → Type 0
IsShown s line (Ok turn) old new = (turn ≡ turn_in s) × Appends old new (text_of (one_of line))
IsShown s line (Err fault) old new = AppendsPart old new (text_of (one_of line))
