-- A caller that goes on behind its call.
use Rattle.std.proofs.Common.{◌≡◌, ℕ, List, [], ◌∷◌, drop, Some, None, refl, ap}
use Rattle.py_base.specs.declared.Place.{Place}
use Rattle.py_syntax.specs.declared.Value.{Value}
use Rattle.py_syntax.specs.declared.Module.{Module}
use Rattle.py_syntax.specs.declared.Gives.{Gives}
use Rattle.py_syntax.specs.declared.Gives.TheVariants.{Result, Made, Nothing}
use Rattle.py_syntax.specs.declared.Item.{Item}
use Rattle.py_syntax.specs.declared.Item.TheVariants as item
use Rattle.py_syntax.specs.WaysOut.{Normal}
use Rattle.machine_model.specs.declared.Object.{Object}
use Rattle.machine_model.specs.declared.Frame.{Frame}
use Rattle.machine_model.specs.declared.Halt.TheVariants.{NoOperand}
use Rattle.machine_model.specs.Results.{Res, Stops, then_do, Width}
use Rattle.machine_model.specs.Frames.{After, stays}
use Rattle.machine_model.specs.Calls.{call_ended, given_back, resumed, return_to}
use Rattle.machine_deeds.specs.Deeds.{on_stack}
use Rattle.machine_items.specs.Callers.{called_of, gain_of, caller_tests}

pub given_is : (gives : Gives Value) (v : Value) (st : List Value) → given_back gives v st ≡ on_stack (gain_of gives v) st
given_is Result v st = refl
given_is (Made r) v st = refl
given_is Nothing v st = refl

-- what a caller goes on with
abbrev pub goes_back : ℕ → List Object → Frame → Value → Gives Value → Frame → List Frame → Res After
goes_back t heap f v gives caller below =
    call_ended f.method (Normal v) (stays heap (record (resumed t heap (drop 1 caller.control) caller) { stack = given_back gives v caller.stack }) below)

back_with : (fits : Width) (m : Module) (t : ℕ) (heap : List Object) (f : Frame) (v : Value) (caller : Frame) (below : List Frame) (control : List (Item Value)) (p : Place) (static : ℕ) (gives : Gives Value)
    → called_of control ≡ Some (p, static, gives)
    → return_to fits m t heap f v caller below control
    ≡ then_do (caller_tests fits m t heap f (Normal v) control) (λ _. call_ended f.method (Normal v) (stays heap (record (resumed t heap (drop 1 control) caller) { stack = given_back gives v caller.stack }) below))
back_with fits m t heap f v caller below [] p static gives is = cc
back_with fits m t heap f v caller below (item.Called q seen g ∷ rest) p static gives is =
    let triple : (q, seen, g) ≡ (p, static, gives) = cc in
    let same : g ≡ gives = ap (λ (x : Place × ℕ × Gives Value). x.2) triple in
    ap (λ x. then_do (caller_tests fits m t heap f (Normal v) (item.Called q seen g ∷ rest)) (λ _. call_ended f.method (Normal v) (stays heap (record (resumed t heap rest caller) { stack = given_back x v caller.stack }) below))) same
back_with fits m t heap f v caller below (i ∷ rest) p static gives is = cc

pub returns_to : (fits : Width) (m : Module) (t : ℕ) (heap : List Object) (f : Frame) (v : Value) (caller : Frame) (below : List Frame) (p : Place) (static : ℕ) (gives : Gives Value)
    → called_of caller.control ≡ Some (p, static, gives)
    → return_to fits m t heap f v caller below caller.control ≡ then_do (caller_tests fits m t heap f (Normal v) caller.control) (λ _. goes_back t heap f v gives caller below)
returns_to fits m t heap f v caller below p static gives is = back_with fits m t heap f v caller below caller.control p static gives is

nowhere : (fits : Width) (m : Module) (t : ℕ) (heap : List Object) (f : Frame) (v : Value) (caller : Frame) (below : List Frame) (control : List (Item Value))
    → called_of control ≡ None → return_to fits m t heap f v caller below control ≡ Stops NoOperand
nowhere fits m t heap f v caller below [] is = refl
nowhere fits m t heap f v caller below (item.Called q seen g ∷ rest) is = cc
nowhere fits m t heap f v caller below (i ∷ rest) is = refl

pub returns_nowhere : (fits : Width) (m : Module) (t : ℕ) (heap : List Object) (f : Frame) (v : Value) (caller : Frame) (below : List Frame)
    → called_of caller.control ≡ None → return_to fits m t heap f v caller below caller.control ≡ Stops NoOperand
returns_nowhere fits m t heap f v caller below is = nowhere fits m t heap f v caller below caller.control is
