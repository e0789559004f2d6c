-- Measures and caps as the code lists them.
use Rattle.std.specs.Prelude.{Bool, List, ◌++◌, map}
use Rattle.py_base.specs.declared.Place.{Place}
use Rattle.py_base.specs.declared.Kind.TheVariants.{NoMeasure}
use Rattle.py_syntax.specs.declared.Assertion.{Assertion, fold-Assertion}
use Rattle.machine_model.specs.Results.{Res, Got, then_do, tested}
use Rattle.machine_model.specs.Duties.{Duty, Bound, Capped, lower_than}
use Rattle.machine_model.specs.Frames.{atom_terminates}
use Rattle.contract_reading.specs.Verdicts.{placed}
use Rattle.contract_duties.specs.declared.duty.Bounds.{Bounds}
use Rattle.contract_duties.specs.declared.duty.Duty.{Duty as Listed}
use Rattle.contract_duties.specs.declared.duty.Duty.TheVariants as listed

abbrev pub duty_in : Listed → Duty
duty_in (listed.Bound p n) = Bound p n
duty_in (listed.Capped p r n) = Capped p r n

abbrev pub duties_in : List Listed → List Duty
duties_in ds = map duty_in ds

-- the test of a duty that has these bounds
abbrev pub test_by : Bounds → Duty → Res (Unit {0})
test_by b = lower_than (placed b.at) b.measure b.caps.now

-- these duties, and then those
abbrev pub added : List Duty → Res (List Duty) → Res (List Duty)
added ds r = then_do r (λ es. Got (ds ++ es))

-- whether an assertion has `MustTerminate`
abbrev pub ends : Assertion → Bool
ends = fold-Assertion Bool Bool atom_terminates (λ a. a.form)

-- these duties, where this is so of them
abbrev pub duties_where_bounded : Res (List Duty) → Place → (List Duty → Bool) → Res (List Duty)
duties_where_bounded r p test = then_do r (λ ds. then_do (tested NoMeasure p (test ds)) (λ _. Got ds))
