-- How calls begin and end, and how a way out leads through the frames of a thread. A call is tested by the contract of the method that its class in the text gives, first at the entry and last at the exit, and by that of the method that runs, where it is another.
use Rattle.std.specs.Prelude.{ℕ, ℤ, Bool, true, false, not, ◌||◌, List, [], ◌∷◌, map, Option, Some, None, slice_get, nat_eq, if◌then◌else◌}
use Rattle.py_base.specs.declared.Place.{Place}
use Rattle.py_base.specs.declared.Kind.{Kind}
use Rattle.py_base.specs.declared.Kind.TheVariants as kind
use Rattle.py_syntax.specs.declared.Value.{Value}
use Rattle.py_syntax.specs.declared.Method.{Method}
use Rattle.py_syntax.specs.declared.Module.{Module}
use Rattle.py_syntax.specs.declared.Way.{Way}
use Rattle.py_syntax.specs.declared.Way.TheVariants.{Break, Continue, Raise, Return}
use Rattle.py_syntax.specs.declared.Gives.{Gives}
use Rattle.py_syntax.specs.declared.Gives.TheVariants.{Result, Made, Nothing}
use Rattle.py_syntax.specs.declared.Item.{Item}
use Rattle.py_syntax.specs.declared.Item.TheVariants as item
use Rattle.py_syntax.specs.Control.{Unwound, On, Out, unwind}
use Rattle.py_syntax.specs.WaysOut.{Ending, Normal, Raised, way_of}
use Rattle.machine_model.specs.declared.state.Object.{Object}
use Rattle.machine_model.specs.declared.state.Frame.{Frame}
use Rattle.machine_model.specs.declared.event.EventForm.TheVariants as event
use Rattle.machine_model.specs.declared.halt.Halt.TheVariants as halt
use Rattle.machine_model.specs.Results.{Res, Got, Stops, then_do, of_option, tested, Width}
use Rattle.machine_model.specs.Evaluation.{Scene}
use Rattle.machine_model.specs.Duties.{Duty, duties_of, lower_than}
use Rattle.machine_model.specs.Moments.{Placing, at_atom, at_call, scene_of, atoms_hold, owns_beside, owns_any, is_bound_by}
use Rattle.machine_model.specs.Frames.{After, operand, entered, goes_on, stays, must_terminate, drop_turns, kept_caps}

-- a method by its number
abbrev pub method_at : Module → ℕ → Res Method
method_at m i = operand (slice_get m.methods i)

-- The entry tests of one contract, seen from a method with this measure and these caps: its atoms, then its measures and caps. They give the duties that the contract names.
abbrev pub entry_duties : Width → Module → ℕ → List Object → Placing → Option ℤ → List (ℕ × ℤ) → Scene → Method → Res (List Duty)
entry_duties fits m t heap at measure caps s method =
    then_do (atoms_hold fits m t heap s kind.PreValue at method.pre) (λ _. duties_of fits method.pre (lower_than at measure caps) s)

-- a call from a bound method, or while the thread owns a lock that the contract doesn't name, asks for `MustTerminate`
abbrev pub is_bounded : List Object → ℕ → Option ℤ → List Duty → Method → Bool
is_bounded heap t measure ds method = not (is_bound_by measure || owns_beside ds heap t) || must_terminate method.pre

-- the entry tests of a contract at a call
abbrev pub call_tests : Width → Module → ℕ → List Object → Place → Frame → List Value → Method → Res (List Duty)
call_tests fits m t heap p caller args method =
    then_do (entry_duties fits m t heap (at_call p) caller.measure caller.caps (scene_of m heap heap (map (λ v. Some v) args) None) method) (λ ds.
    then_do (tested kind.NoMeasure p (is_bounded heap t caller.measure ds method)) (λ _. Got ds))

-- the caller as it waits
abbrev pub waiting : Place → ℕ → Gives Value → Frame → Frame
waiting p static gives caller = record caller { control = item.Called p static gives ∷ caller.control }

-- Enters a method with arguments, where the text names the method `static`.
abbrev pub enter : Width → Module → ℕ → List Object → Place → ℕ → ℕ → Gives Value → List Value → Frame → List Frame → Res After
enter fits m t heap p static target gives args caller below =
    then_do (method_at m static) (λ seen.
    then_do (method_at m target) (λ run.
    then_do (call_tests fits m t heap p caller args seen) (λ first.
    then_do (if nat_eq static target then Got first else call_tests fits m t heap p caller args run) (λ own.
    goes_on heap (entered target run heap args own ∷ waiting p static gives caller ∷ below)))))

-- what a call that ended normally leaves on its caller's stack
abbrev pub given_back : Gives Value → Value → List Value → List Value
given_back Result v st = v ∷ st
given_back (Made r) v st = r ∷ st
given_back Nothing v st = st

abbrev pub result_of : Ending Value → Option Value
result_of (Normal v) = Some v
result_of (Raised c) = None

-- the kind of a false atom at an end
abbrev pub end_kind : Ending Value → Kind
end_kind (Normal v) = kind.PostValue
end_kind (Raised c) = kind.Exceptional

-- The tests of one contract at the end of a call, where an exception came from this place.
abbrev pub exit_tests : Width → Module → ℕ → List Object → Frame → Ending Value → Place → Method → Res (Unit {0})
exit_tests fits m t heap f ending p method =
    then_do (of_option (halt.Failed kind.Undeclared p) (way_of m method ending)) (λ all.
    atoms_hold fits m t heap (scene_of m heap f.before f.store (result_of ending)) (end_kind ending) at_atom all)

-- the tests of the method that ran, and then of the one that the caller sees
abbrev pub both_exit_tests : Width → Module → ℕ → List Object → Frame → Ending Value → Place → ℕ → Res (Unit {0})
both_exit_tests fits m t heap f ending p static =
    then_do (method_at m f.method) (λ run.
    then_do (exit_tests fits m t heap f ending p run) (λ _.
    if nat_eq static f.method then Got tt else then_do (method_at m static) (exit_tests fits m t heap f ending p)))

-- a thread ends with its first method, and owns no lock then
abbrev pub end_thread : Width → Module → ℕ → List Object → Frame → Ending Value → Place → Res After
end_thread fits m t heap f ending p =
    then_do (method_at m f.method) (λ run.
    then_do (exit_tests fits m t heap f ending p run) (λ _.
    then_do (tested kind.Leak run.place (not (owns_any heap t))) (λ _.
    Got (record { heap = heap; frames = []; ended = true; started = None; event = Some event.Ended; line = None; call = Some (f.method, ending) }))))

-- where a way out has left all blocks of a method, an exception leaves the method by an item of its own, and so does a `return` from within a `with`
abbrev pub way_left : Bool → Way Value → (Value → Res After) → List Object → Frame → List Frame → Res After
way_left from_with (Raise c p) ends heap f below = goes_on heap (record f { control = item.Throw c p ∷ [] } ∷ below)
way_left from_with (Return v) ends heap f below = if from_with then goes_on heap (record f { control = item.Exit v ∷ [] } ∷ below) else ends v
way_left from_with Break ends heap f below = Stops halt.NoOperand
way_left from_with Continue ends heap f below = Stops halt.NoOperand

abbrev pub unwound : Bool → Unwound Value → (Value → Res After) → List Object → Frame → List Frame → Res After
unwound from_with (On control left) ends heap f below = goes_on heap (record f { control = control; stack = []; turns = drop_turns left f.turns } ∷ below)
unwound from_with (Out w left) ends heap f below = way_left from_with w ends heap (record f { stack = []; turns = drop_turns left f.turns }) below

-- Goes a way out of the running frame; the values that wait for an operator are dropped.
abbrev pub go_out : Bool → Way Value → (Value → Res After) → List Object → Frame → List Frame → Res After
go_out from_with w ends heap f below = unwound from_with (unwind w f.control) ends heap f below

-- a caller once its call has ended, with the control behind the call
abbrev pub resumed : ℕ → List Object → List (Item Value) → Frame → Frame
resumed t heap control caller = record caller { control = control; caps = kept_caps heap t caller.caps }

abbrev pub call_ended : ℕ → Ending Value → Res After → Res After
call_ended method ending r = then_do r (λ a. Got (record a { call = Some (method, ending) }))

-- a caller that waits goes on with the result
abbrev pub return_to : Width → Module → ℕ → List Object → Frame → Value → Frame → List Frame → List (Item Value) → Res After
return_to fits m t heap f v caller below (item.Called p static gives ∷ control) =
    then_do (both_exit_tests fits m t heap f (Normal v) p static) (λ _.
    call_ended f.method (Normal v) (stays heap (record (resumed t heap control caller) { stack = given_back gives v caller.stack }) below))
return_to fits m t heap f v caller below control = Stops halt.NoOperand

-- Leaves a method normally with a value.
abbrev pub leave : Width → Module → ℕ → List Object → Frame → List Frame → Value → Res After
leave fits m t heap f [] v = then_do (method_at m f.method) (λ run. end_thread fits m t heap f (Normal v) run.place)
leave fits m t heap f (caller ∷ below) v = return_to fits m t heap f v caller below caller.control

-- a caller that waits gets the exception, which comes from its call there
abbrev pub throw_to : Width → Module → ℕ → List Object → Frame → ℕ → Place → Frame → List Frame → List (Item Value) → Res After
throw_to fits m t heap f c p caller below (item.Called q static gives ∷ control) =
    then_do (both_exit_tests fits m t heap f (Raised c) p static) (λ _.
    call_ended f.method (Raised c) (go_out false (Raise c q) (λ v. Stops halt.NoOperand) heap (resumed t heap control caller) below))
throw_to fits m t heap f c p caller below control = Stops halt.NoOperand

-- Leaves a method by an exception of a class from a place.
abbrev pub throw : Width → Module → ℕ → List Object → Frame → List Frame → ℕ → Place → Res After
throw fits m t heap f [] c p = end_thread fits m t heap f (Raised c) p
throw fits m t heap f (caller ∷ below) c p = throw_to fits m t heap f c p caller below caller.control
