-- Predicates as the code opens them: within so many openings, and with the path of open instances.
use Rattle.std.specs.Prelude.{ℕ, zero, suc, Bool, true, false, List, [], ◌∷◌, Some, None, Result, Ok, Err, slice_get, if◌then◌else◌}
use Rattle.py_syntax.specs.declared.Value.{Value}
use Rattle.py_syntax.specs.declared.Assertion.{Assertion}
use Rattle.py_syntax.specs.declared.Module.{Module}
use Rattle.machine_model.specs.declared.Halt.TheVariants.{Waits}
use Rattle.machine_model.specs.Results.{Res, Got, Stops, then_do, Width}
use Rattle.machine_model.specs.Evaluation.{Scene}
use Rattle.machine_model.specs.Reading.{Opened, judgement, is_open, within, is_none}
use Rattle.machine_values.specs.declared.Stop.{Stop}
use Rattle.machine_values.specs.declared.Stop.TheVariants as stop
use Rattle.contract_reading.specs.declared.path.Path.{Path, Path-F, fold-Path}

abbrev pub path_step : Path-F (List Opened) → List Opened
path_step Path-F.Empty = []
path_step (Path-F.More before q vs) = (q, vs.now) ∷ before.now

-- the open instances, the innermost one first
abbrev pub opened_in : Path → List Opened
opened_in = fold-Path (List Opened) path_step

-- whether the body of a predicate holds at these arguments, where the instances in it hold as told
abbrev pub body_marked : Width → (ℕ → List Value → Res Bool) → Scene → List Value → Assertion → Res Bool
body_marked fits opens s vs body = then_do (judgement fits body (record { opens = opens; holds_duty = λ v. true }) (within s vs)) (λ miss. Got (is_none miss))

-- Whether an instance holds, as the definition reads it, but that the reading stops as one that waits where it would need more than so many openings within one another.
abbrev pub opens_marked : Width → Module → Scene → ℕ → List Opened → ℕ → List Value → Res Bool
opens_marked fits m s zero path q vs = Stops Waits
opens_marked fits m s (suc n) path q vs =
    if is_open path q vs then Got false else
    elim (slice_get m.predicates q) as (λ _. Res Bool) [
      | None ↦ Got false
      | Some pred ↦ body_marked fits (opens_marked fits m (within s vs) n ((q, vs) ∷ path)) s vs pred.body
    ]

-- what the code answers in place of the mark
abbrev pub unmark : {T : Type 0} → Result T Stop → Result T Stop
unmark (Ok x) = Ok x
unmark (Err (stop.Halt Waits)) = Err stop.OutOfMemory
unmark (Err h) = Err h
