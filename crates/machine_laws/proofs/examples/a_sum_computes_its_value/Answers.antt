use Rattle.std.specs.Prelude.{◌≡◌, pos, Bool, true, false, [], None, Some, refl, if◌then◌else◌}
use Rattle.py_syntax.specs.declared.Value.TheVariants.{Num}
use Rattle.machine_model.specs.declared.halt.Halt.TheVariants as halt
use Rattle.machine_model.specs.Results.{Got, Stops, then_do}
use Rattle.machine_model.specs.Items.{pushed, with_stack}
use Rattle.machine_model.specs.Frames.{stays}
use Rattle.machine_model.specs.Smallest.{at, smallest}
use Rattle.machine_model.specs.Steps.{settle, step, whole}
use Rattle.machine_laws.specs.Widths.{unless_too_large}
use Rattle.machine_laws.specs.Examples.{summing, behind_the_sum, at_the_sum}
use Rattle.machine_laws.proofs.examples.a_sum_computes_its_value.Goals as goal

by_test : (fits_five : Bool) → settle at_the_sum 0 (then_do (if fits_five then Got (Num (pos 5)) else Stops (halt.Wide (at 3 14))) (λ v. stays [] (pushed v (with_stack [] (record summing { control = behind_the_sum }))) [])) ≡ unless_too_large (if fits_five then None else Some (at 3 14)) (step whole smallest at_the_sum 0)
by_test true = refl
by_test false = refl

pub returns : goal.returns
returns c fits = by_test (fits (pos 5))
