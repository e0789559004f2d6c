-- The entry of a call, once the tests of both contracts were made.
use Rattle.std.proofs.Common.{◌≡◌, ℕ, ℤ, List, ◌∷◌, Option, slice_get, Err, refl, ap, ◌∙◌}
use Rattle.std.specs.Prelude.{nat_eq, if◌then◌else◌}
use Rattle.py_base.specs.declared.Place.{Place}
use Rattle.py_syntax.specs.declared.Value.{Value}
use Rattle.py_syntax.specs.declared.Method.{Method}
use Rattle.py_syntax.specs.declared.Module.{Module}
use Rattle.py_syntax.specs.declared.Gives.{Gives}
use Rattle.machine_model.specs.declared.Object.{Object}
use Rattle.machine_model.specs.declared.Frame.{Frame}
use Rattle.machine_model.specs.declared.Halt.{Halt}
use Rattle.machine_model.specs.Results.{Res, Got, Stops, then_do, Width}
use Rattle.machine_model.specs.Duties.{measure_of, caps_of}
use Rattle.machine_model.specs.Frames.{After, operand, goes_on}
use Rattle.machine_model.specs.Calls.{method_at, call_tests, waiting, enter}
use Rattle.machine_values.specs.declared.Stop.{Stop}
use Rattle.machine_values.specs.Agreement.{Agrees}
use Rattle.machine_items.specs.Entries.{entered_with, duties_read}

one_by_one : {A B C : Type 0} (r : Res A) (own : A → Res B) (g : B → C) (last : C → Res After)
    → then_do r (λ a. then_do (own a) (λ b. last (g b))) ≡ then_do (then_do r (λ a. then_do (own a) (λ b. Got (g b)))) last
one_by_one (Stops h) own g last = refl
one_by_one (Got a) own g last = ending (own a) g last
  where
    ending : {B C : Type 0} (r : Res B) (g : B → C) (last : C → Res After) → then_do r (λ b. last (g b)) ≡ then_do (then_do r (λ b. Got (g b))) last
    ending (Stops h) g last = refl
    ending (Got b) g last = refl

methods_first : {A B C : Type 0} (seen run : Res Method) (first : Method → Res A) (own : Method → A → Res B) (g : B → C) (last : Method → C → Res After)
    → then_do seen (λ s. then_do run (λ r. then_do (first s) (λ a. then_do (own r a) (λ b. last r (g b)))))
    ≡ then_do (then_do seen (λ s. then_do run (λ r. then_do (first s) (λ a. then_do (own r a) (λ b. Got (g b)))))) (λ c. then_do run (λ r. last r c))
methods_first (Stops h) run first own g last = refl
methods_first (Got s) (Stops h) first own g last = refl
methods_first (Got s) (Got r) first own g last = one_by_one (first s) (own r) g (last r)

abbrev last_of : List Object → Place → ℕ → ℕ → Gives Value → List Value → Frame → List Frame → Method → Option ℤ × List (ℕ × ℤ) → Res After
last_of heap p static target gives args caller below run d = goes_on heap (entered_with target run heap args d.0 d.1 ∷ waiting p static gives caller ∷ below)

enter_is : (fits : Width) (m : Module) (t : ℕ) (heap : List Object) (p : Place) (static target : ℕ) (gives : Gives Value) (args : List Value) (caller : Frame) (below : List Frame)
    → enter fits m t heap p static target gives args caller below
    ≡ then_do (duties_read fits m t heap p static target args caller) (λ d. then_do (method_at m target) (λ run. last_of heap p static target gives args caller below run d))
enter_is fits m t heap p static target gives args caller below =
    methods_first (method_at m static) (method_at m target) (λ seen. call_tests fits m t heap p caller args seen)
    (λ run first. if nat_eq static target then Got first else call_tests fits m t heap p caller args run)
    (λ own. (measure_of own, caps_of own)) (last_of heap p static target gives args caller below)

pub enters : (fits : Width) (m : Module) (t : ℕ) (heap : List Object) (p : Place) (static target : ℕ) (gives : Gives Value) (args : List Value) (caller : Frame) (below : List Frame) (measure : Option ℤ) (caps : List (ℕ × ℤ))
    → duties_read fits m t heap p static target args caller ≡ Got (measure, caps)
    → enter fits m t heap p static target gives args caller below
    ≡ then_do (operand (slice_get m.methods target)) (λ run. goes_on heap (entered_with target run heap args measure caps ∷ waiting p static gives caller ∷ below))
enters fits m t heap p static target gives args caller below measure caps read =
    enter_is fits m t heap p static target gives args caller below
    ∙ ap (λ r. then_do r (λ d. then_do (method_at m target) (λ run. last_of heap p static target gives args caller below run d))) read

pub tests_stop : (fits : Width) (m : Module) (t : ℕ) (heap : List Object) (p : Place) (static target : ℕ) (gives : Gives Value) (args : List Value) (caller : Frame) (below : List Frame) (h : Halt)
    → duties_read fits m t heap p static target args caller ≡ Stops h → enter fits m t heap p static target gives args caller below ≡ Stops h
tests_stop fits m t heap p static target gives args caller below h read =
    enter_is fits m t heap p static target gives args caller below
    ∙ ap (λ r. then_do r (λ d. then_do (method_at m target) (λ run. last_of heap p static target gives args caller below run d))) read

pub enter_stops : {T U : Type 0} (fits : Width) (m : Module) (t : ℕ) (heap : List Object) (p : Place) (static target : ℕ) (gives : Gives Value) (args : List Value) (caller : Frame) (below : List Frame) (e : Stop)
    (seen : T → Option ℤ × List (ℕ × ℤ)) (left : U → After)
    → Agrees (duties_read fits m t heap p static target args caller) (Err e) seen → Agrees (enter fits m t heap p static target gives args caller below) (Err e) left
enter_stops fits m t heap p static target gives args caller below (Stop.Halt h) seen left is = tests_stop fits m t heap p static target gives args caller below h is
enter_stops fits m t heap p static target gives args caller below Stop.OutOfMemory seen left is = tt
