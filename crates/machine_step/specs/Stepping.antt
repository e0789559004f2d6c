-- What a call of `step` answers, and the state that it leaves, by the step that is defined for numbers of 128 bits.
use Rattle.std.specs.Prelude.{◌≡◌, ℕ, Result, Ok, Err}
use Rattle.std.specs.Option.{option_map}
use Rattle.py_syntax.specs.declared.Module.{Module}
use Rattle.machine_model.specs.declared.state.State.{State}
use Rattle.machine_model.specs.declared.event.EventForm.{EventForm}
use Rattle.machine_model.specs.declared.event.Trace.{Trace}
use Rattle.machine_model.specs.declared.moved.Moved.{Moved}
use Rattle.machine_model.specs.declared.moved.Moved.TheVariants as moved
use Rattle.machine_model.specs.Frames.{After}
use Rattle.machine_model.specs.Steps.{step, Same, Went, Fails, TooLarge}
use Rattle.machine_step.specs.declared.fault.StepFault.{StepFault}
use Rattle.machine_step.specs.declared.fault.StepFault.TheVariants.{IntTooLarge, OutOfMemory}
use Rattle.machine_values.specs.Bits.{has_128_bits}

-- what thread t shows of an item that left this
abbrev pub trace_of : ℕ → After → Trace
trace_of t a = record { event = option_map (λ (form : EventForm). record { thread = t; form = form }) a.event; line = a.line }

-- The answer is that of the defined step of thread t, and the state is what that step leaves. Without memory the state is as it was.
abbrev pub IsStep : Module → State → ℕ → Result Moved StepFault → State → Type 0
IsStep m s t (Ok moved.Same) new = (step has_128_bits m s t ≡ Same) × (new ≡ s)
IsStep m s t (Ok (moved.Went trace)) new = (a : After) × (step has_128_bits m s t ≡ Went a new) × (trace ≡ trace_of t a)
IsStep m s t (Ok (moved.Failed kind p)) new = (step has_128_bits m s t ≡ Fails kind p) × (new ≡ s)
IsStep m s t (Err (IntTooLarge p)) new = (step has_128_bits m s t ≡ TooLarge p) × (new ≡ s)
IsStep m s t (Err OutOfMemory) new = new ≡ s
