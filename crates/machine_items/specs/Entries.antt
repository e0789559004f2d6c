-- The frame of a method as it is entered, with a measure and caps that were read.
use Rattle.std.specs.Prelude.{ℕ, ℤ, List, [], ◌++◌, map, replicate, length, Option, Some, None, nat_eq, if◌then◌else◌}
use Rattle.py_base.specs.declared.Place.{Place}
use Rattle.py_syntax.specs.declared.Value.{Value}
use Rattle.py_syntax.specs.declared.Method.{Method}
use Rattle.py_syntax.specs.declared.Module.{Module}
use Rattle.py_syntax.specs.StmtItems.{method_items}
use Rattle.machine_model.specs.declared.Object.{Object}
use Rattle.machine_model.specs.declared.Frame.{Frame}
use Rattle.machine_model.specs.Results.{Res, Got, then_do, Width}
use Rattle.machine_model.specs.Duties.{measure_of, caps_of}
use Rattle.machine_model.specs.Calls.{method_at, call_tests}

abbrev pub entered_with : ℕ → Method → List Object → List Value → Option ℤ → List (ℕ × ℤ) → Frame
entered_with number method heap args measure caps = record {
  method = number;
  control = method_items method;
  stack = [];
  store = map (λ v. Some v) args ++ replicate (length method.locals) None;
  before = heap;
  measure = measure;
  caps = caps;
  turns = [];
}

-- The tests of both contracts at a call, the one that the text names first, and the measure and caps that the run method's own contract gives.
abbrev pub duties_read : Width → Module → ℕ → List Object → Place → ℕ → ℕ → List Value → Frame → Res (Option ℤ × List (ℕ × ℤ))
duties_read fits m t heap p static target args caller =
    then_do (method_at m static) (λ seen.
    then_do (method_at m target) (λ run.
    then_do (call_tests fits m t heap p caller args seen) (λ first.
    then_do (if nat_eq static target then Got first else call_tests fits m t heap p caller args run) (λ own.
    Got (measure_of own, caps_of own)))))
