-- What the width has to do with a step: it computes numbers in turn, and stops at the first that is too large.
use Rattle.std.specs.Prelude.{◌≡◌, ℕ, ℤ, Bool, true, false, not, ◌&&◌, List, [], ◌∷◌, length, Option, Some, None, slice_get, nat_eq, refl, zero, suc, nat_lt, if◌then◌else◌}
use Rattle.std.proofs.Common.{ap, ◌∙◌}
use Rattle.py_base.specs.declared.Place.{Place}
use Rattle.py_base.specs.declared.Kind.TheVariants as kind
use Rattle.py_syntax.specs.declared.Value.{Value}
use Rattle.py_syntax.specs.declared.Value.TheVariants.{Nil, Ref, Num, Truth}
use Rattle.py_syntax.specs.declared.Expr.{Expr}
use Rattle.py_syntax.specs.declared.Stmt.{Stmt}
use Rattle.py_syntax.specs.declared.Assertion.{Assertion}
use Rattle.py_syntax.specs.declared.Method.{Method}
use Rattle.py_syntax.specs.declared.Module.{Module}
use Rattle.py_syntax.specs.declared.Way.{Way}
use Rattle.py_syntax.specs.declared.Way.TheVariants.{Break, Continue, Raise, Return}
use Rattle.py_syntax.specs.declared.Gives.{Gives}
use Rattle.py_syntax.specs.declared.Gives.TheVariants.{Result, Made, Nothing}
use Rattle.py_syntax.specs.declared.Item.{Item}
use Rattle.py_syntax.specs.declared.Item.TheVariants as item
use Rattle.py_syntax.specs.Classes.{base_of, lookup, is_subclass}
use Rattle.py_syntax.specs.Control.{Unwound, On, Out, unwind}
use Rattle.py_syntax.specs.WaysOut.{Ending, Normal, Raised, way_of}
use Rattle.machine_model.specs.declared.state.Object.{Object}
use Rattle.machine_model.specs.declared.state.Frame.{Frame}
use Rattle.machine_model.specs.declared.state.ThreadState.{ThreadState}
use Rattle.machine_model.specs.declared.state.State.{State}
use Rattle.machine_model.specs.declared.halt.Halt.TheVariants as halt
use Rattle.machine_model.specs.Results.{Res, of_option, tested, Width, Got, Stops}
use Rattle.machine_model.specs.Operators.{binary, unary, divides_by_zero}
use Rattle.machine_model.specs.Heap.{owns, has_target, field_of, with_field, with_owner, locked_of, is_held, argument_name}
use Rattle.machine_model.specs.Evaluation.{Scene}
use Rattle.machine_model.specs.Moments.{Placing, at_atom, at_call, scene_of, owns_any, is_bound_by}
use Rattle.machine_model.specs.Frames.{After, operand, pop_value, pop_number, pop_receiver, pop_arguments, local_at, pop_truth, pop_onto, stored, stays, must_terminate}
use Rattle.machine_model.specs.Calls.{method_at, entry_duties, call_tests, enter, exit_tests, both_exit_tests, end_thread, way_left, unwound, go_out, return_to, leave, throw_to, throw, is_bounded, resumed}
use Rattle.machine_model.specs.Sharing.{invariant_of, is_started, arguments_from, released, lock_made, started, acquired, invariant_in, thread_of, join_is_bounded, joined_thread, joined}
use Rattle.machine_model.specs.Items.{with_stack, class_at, applies_unary, applies_binary, calls, sends, init_name, makes_object, calls_super, makes_lock, heads, asserts, returns, goes_further, releases, ends_with, starts, act, decides, chain_on, links, reads_field, writes_field, writes_under, writes_back, tests_not_nil, last_turn, handles}
use Rattle.machine_model.specs.Steps.{entry_of_main, control_step, frames_step, state_step, settle, step, whole, TooLarge}
use Rattle.std.specs.Option.{option_map_or, option_and_then}
use Rattle.py_syntax.specs.declared.Class.{Class}
use Rattle.machine_model.specs.Duties.{Bound, Capped, is_lower, cap_for, lower_than}
use Rattle.py_syntax.specs.StmtItems.{values_wanted}
use Rattle.machine_laws.specs.Widths.{Computed, first_too_large, unless_too_large, StepComputes}
use Rattle.machine_laws.specs.Computes.{limited, Computes, same, then_computes, behind, sized_computes, if_computes, option_computes, IsNotWide, then_is_not, option_is_not, if_is_not, test_is_not}
use Rattle.machine_laws.specs.ReadingWidths.{atoms_compute, invariant_computes}
use Rattle.machine_laws.specs.DutyWidths.{duties_compute, AreTests}

-- parts that compute no number
pop_is_not : (st : List Value) → IsNotWide (pop_value st)
pop_is_not [] = tt
pop_is_not (v ∷ st) = tt

truth_is_not : (st : List Value) → IsNotWide (pop_truth st)
truth_is_not [] = tt
truth_is_not (Truth b ∷ st) = tt
truth_is_not (Num z ∷ st) = tt
truth_is_not (Nil ∷ st) = tt
truth_is_not (Ref r ∷ st) = tt

number_is_not : (st : List Value) → IsNotWide (pop_number st)
number_is_not [] = tt
number_is_not (Num z ∷ st) = tt
number_is_not (Truth b ∷ st) = tt
number_is_not (Nil ∷ st) = tt
number_is_not (Ref r ∷ st) = tt

receiver_is_not : (p : Place) (st : List Value) → IsNotWide (pop_receiver p st)
receiver_is_not p [] = tt
receiver_is_not p (Ref r ∷ st) = tt
receiver_is_not p (Nil ∷ st) = tt
receiver_is_not p (Num z ∷ st) = tt
receiver_is_not p (Truth b ∷ st) = tt

onto_is_not : (n : ℕ) (args st : List Value) → IsNotWide (pop_onto n args st)
onto_is_not zero args st = tt
onto_is_not (suc n) args st = then_is_not (pop_value st) _ (pop_is_not st) (λ v. onto_is_not n (v.0 ∷ args) v.1)

local_is_not : (i : ℕ) (store : List (Option Value)) → IsNotWide (local_at i store)
local_is_not i store = option_is_not halt.NoOperand (option_and_then (λ v. v) (slice_get store i)) tt

invariant_is_not : (m : Module) (c : ℕ) → IsNotWide (invariant_of m c)
invariant_is_not m c = then_is_not (operand (slice_get m.classes c)) _ (option_is_not halt.NoOperand (slice_get m.classes c) tt) (λ (class : Class). option_is_not halt.NoOperand (invariant_in class.sort) tt)

arguments_are_not : (m : Module) (heap : List Object) (r i n : ℕ) → IsNotWide (arguments_from m heap r i n)
arguments_are_not m heap r i zero = tt
arguments_are_not m heap r i (suc n) =
    then_is_not (operand (field_of heap r (argument_name m i))) _ (option_is_not halt.NoOperand (field_of heap r (argument_name m i)) tt)
    (λ v. then_is_not (arguments_from m heap r (suc i) n) _ (arguments_are_not m heap r (suc i) n) (λ vs. tt))

duties_are_not : (at : Placing) (measure : Option ℤ) (caps : List (ℕ × ℤ)) → AreTests (lower_than at measure caps)
duties_are_not at measure caps (Bound p n) = test_is_not kind.Measure (at p) (is_lower measure n)
duties_are_not at measure caps (Capped p None n) = test_is_not kind.Measure (at p) (is_lower None n)
duties_are_not at measure caps (Capped p (Some r) n) = test_is_not kind.Measure (at p) (is_lower (cap_for r caps) n)

-- calls
entry_computes : (m : Module) (t : ℕ) (heap : List Object) (at : Placing) (measure : Option ℤ) (caps : List (ℕ × ℤ)) (s : Scene) (method : Method) → Computes (λ fits. entry_duties fits m t heap at measure caps s method)
entry_computes m t heap at measure caps s method = then_computes _ _ (atoms_compute m t heap s kind.PreValue at method.pre) (λ _. duties_compute method.pre (lower_than at measure caps) (duties_are_not at measure caps) s)

tests_compute : (m : Module) (t : ℕ) (heap : List Object) (p : Place) (caller : Frame) (args : List Value) (method : Method) → Computes (λ fits. call_tests fits m t heap p caller args method)
tests_compute m t heap p caller args method = then_computes _ _ (entry_computes m t heap (at_call p) caller.measure caller.caps _ method) (λ ds. same _ (then_is_not (tested kind.NoMeasure p (is_bounded heap t caller.measure ds method)) _ (test_is_not kind.NoMeasure p (is_bounded heap t caller.measure ds method)) (λ _. tt)))

enter_computes : (m : Module) (t : ℕ) (heap : List Object) (p : Place) (static target : ℕ) (gives : Gives Value) (args : List Value) (caller : Frame) (below : List Frame) → Computes (λ fits. enter fits m t heap p static target gives args caller below)
enter_computes m t heap p static target gives args caller below =
    behind (method_at m static) _ (option_is_not halt.NoOperand (slice_get m.methods static) tt) (λ seen.
    behind (method_at m target) _ (option_is_not halt.NoOperand (slice_get m.methods target) tt) (λ run.
    then_computes _ _ (tests_compute m t heap p caller args seen) (λ first.
    then_computes _ _ (if_computes (nat_eq static target) _ _ (same _ tt) (tests_compute m t heap p caller args run)) (λ own. same _ tt))))

exit_computes : (m : Module) (t : ℕ) (heap : List Object) (f : Frame) (ending : Ending Value) (p : Place) (method : Method) → Computes (λ fits. exit_tests fits m t heap f ending p method)
exit_computes m t heap f ending p method = behind (of_option (halt.Failed kind.Undeclared p) (way_of m method ending)) _ (option_is_not (halt.Failed kind.Undeclared p) (way_of m method ending) tt) (λ all. atoms_compute m t heap _ _ _ all)

both_compute : (m : Module) (t : ℕ) (heap : List Object) (f : Frame) (ending : Ending Value) (p : Place) (static : ℕ) → Computes (λ fits. both_exit_tests fits m t heap f ending p static)
both_compute m t heap f ending p static =
    behind (method_at m f.method) _ (option_is_not halt.NoOperand (slice_get m.methods f.method) tt) (λ run.
    then_computes _ _ (exit_computes m t heap f ending p run) (λ _.
    if_computes (nat_eq static f.method) _ _ (same _ tt) (behind (method_at m static) _ (option_is_not halt.NoOperand (slice_get m.methods static) tt) (λ method. exit_computes m t heap f ending p method))))

end_computes : (m : Module) (t : ℕ) (heap : List Object) (f : Frame) (ending : Ending Value) (p : Place) → Computes (λ fits. end_thread fits m t heap f ending p)
end_computes m t heap f ending p = behind (method_at m f.method) _ (option_is_not halt.NoOperand (slice_get m.methods f.method) tt) (λ run. then_computes _ _ (exit_computes m t heap f ending p run) (λ _. same _ (then_is_not (tested kind.Leak run.place (not (owns_any heap t))) _ (test_is_not kind.Leak run.place (not (owns_any heap t))) (λ _. tt))))

-- ways out, where what ends the method computes
left_computes : (from_with : Bool) (w : Way Value) (ends : Width → Value → Res After) → ((v : Value) → Computes (λ fits. ends fits v)) → (heap : List Object) (f : Frame) (below : List Frame) → Computes (λ fits. way_left from_with w (ends fits) heap f below)
left_computes from_with (Raise c p) ends h heap f below = same _ tt
left_computes from_with (Return v) ends h heap f below = if_computes from_with _ _ (same _ tt) (h v)
left_computes from_with Break ends h heap f below = same _ tt
left_computes from_with Continue ends h heap f below = same _ tt

unwound_computes : (from_with : Bool) (to : Unwound Value) (ends : Width → Value → Res After) → ((v : Value) → Computes (λ fits. ends fits v)) → (heap : List Object) (f : Frame) (below : List Frame) → Computes (λ fits. unwound from_with to (ends fits) heap f below)
unwound_computes from_with (On control left) ends h heap f below = same _ tt
unwound_computes from_with (Out w left) ends h heap f below = left_computes from_with w ends h heap _ below

out_computes : (from_with : Bool) (w : Way Value) (ends : Width → Value → Res After) → ((v : Value) → Computes (λ fits. ends fits v)) → (heap : List Object) (f : Frame) (below : List Frame) → Computes (λ fits. go_out from_with w (ends fits) heap f below)
out_computes from_with w ends h heap f below = unwound_computes from_with (unwind w f.control) ends h heap f below

return_computes : (m : Module) (t : ℕ) (heap : List Object) (f : Frame) (v : Value) (caller : Frame) (below : List Frame) (control : List (Item Value)) → Computes (λ fits. return_to fits m t heap f v caller below control)
return_computes m t heap f v caller below (item.Called p static gives ∷ control) = then_computes _ _ (both_compute m t heap f (Normal v) p static) (λ _. same _ tt)
return_computes m t heap f v caller below control = same _ tt

leave_computes : (m : Module) (t : ℕ) (heap : List Object) (f : Frame) (below : List Frame) (v : Value) → Computes (λ fits. leave fits m t heap f below v)
leave_computes m t heap f [] v = behind (method_at m f.method) _ (option_is_not halt.NoOperand (slice_get m.methods f.method) tt) (λ run. end_computes m t heap f (Normal v) run.place)
leave_computes m t heap f (caller ∷ below) v = return_computes m t heap f v caller below caller.control

throw_to_computes : (m : Module) (t : ℕ) (heap : List Object) (f : Frame) (c : ℕ) (p : Place) (caller : Frame) (below : List Frame) (control : List (Item Value)) → Computes (λ fits. throw_to fits m t heap f c p caller below control)
throw_to_computes m t heap f c p caller below (item.Called q static gives ∷ control) = then_computes _ _ (both_compute m t heap f (Raised c) p static) (λ _. then_computes _ _ (out_computes false (Raise c q) (λ fits v. Stops halt.NoOperand) (λ v. same _ tt) heap (resumed t heap control caller) below) (λ a. same _ tt))
throw_to_computes m t heap f c p caller below control = same _ tt

throw_computes : (m : Module) (t : ℕ) (heap : List Object) (f : Frame) (below : List Frame) (c : ℕ) (p : Place) → Computes (λ fits. throw fits m t heap f below c p)
throw_computes m t heap f [] c p = end_computes m t heap f (Raised c) p
throw_computes m t heap f (caller ∷ below) c p = throw_to_computes m t heap f c p caller below caller.control

-- locks and threads
released_computes : (m : Module) (t : ℕ) (heap : List Object) (r : ℕ) (p : Place) → Computes (λ fits. released fits m t heap r p)
released_computes m t heap r p =
    behind (tested kind.NotHeld p (owns heap t r)) _ (test_is_not kind.NotHeld p (owns heap t r)) (λ _.
    behind (operand (slice_get heap r)) _ (option_is_not halt.NoOperand (slice_get heap r) tt) (λ (o : Object).
    behind (invariant_of m o.class) _ (invariant_is_not m o.class) (λ pred.
    then_computes _ _ (invariant_computes m heap pred r p) (λ _. same _ (option_is_not halt.NoOperand (with_owner heap r None) tt)))))

made_computes : (m : Module) (heap : List Object) (c locked : ℕ) (level : ℤ) (p : Place) → Computes (λ fits. lock_made fits m heap c locked level p)
made_computes m heap c locked level p = behind (invariant_of m c) _ (invariant_is_not m c) (λ pred. then_computes _ _ (invariant_computes m _ pred (length heap) p) (λ _. same _ tt))

started_computes : (m : Module) (t : ℕ) (heap : List Object) (threads : List ThreadState) (r target : ℕ) (p : Place) (f : Frame) (below : List Frame) → Computes (λ fits. started fits m t heap threads r target p f below)
started_computes m t heap threads r target p f below =
    behind (tested kind.NotStartable p (not (is_started r threads) && has_target m heap r target)) _ (test_is_not kind.NotStartable p (not (is_started r threads) && has_target m heap r target)) (λ _.
    behind (method_at m target) _ (option_is_not halt.NoOperand (slice_get m.methods target) tt) (λ (method : Method).
    behind (arguments_from m heap r 0 (length method.params)) _ (arguments_are_not m heap r 0 (length method.params)) (λ args.
    then_computes _ _ (entry_computes m t heap (at_call p) None [] _ method) (λ ds. same _ tt))))

-- items
unary_computes : (p : Place) (key : ℕ) (heap : List Object) (f : Frame) (below : List Frame) → Computes (λ fits. applies_unary fits p key heap f below)
unary_computes p key heap f below = behind (pop_value f.stack) _ (pop_is_not f.stack) (λ a. then_computes _ _ (behind (operand (unary key a.0)) _ (option_is_not halt.NoOperand (unary key a.0) tt) (sized_computes p)) (λ v. same _ tt))

binary_computes : (p : Place) (key : ℕ) (heap : List Object) (f : Frame) (below : List Frame) → Computes (λ fits. applies_binary fits p key heap f below)
binary_computes p key heap f below =
    behind (pop_value f.stack) _ (pop_is_not f.stack) (λ b.
    behind (pop_value b.1) _ (pop_is_not b.1) (λ a.
    behind (tested kind.ZeroDivisor p (not (divides_by_zero key b.0))) _ (test_is_not kind.ZeroDivisor p (not (divides_by_zero key b.0))) (λ _.
    then_computes _ _ (behind (operand (binary key a.0 b.0)) _ (option_is_not halt.NoOperand (binary key a.0 b.0) tt) (sized_computes p)) (λ v. same _ tt))))

calls_compute : (m : Module) (t : ℕ) (p : Place) (function n : ℕ) (heap : List Object) (f : Frame) (below : List Frame) → Computes (λ fits. calls fits m t p function n heap f below)
calls_compute m t p function n heap f below = behind (pop_arguments n f.stack) _ (onto_is_not n [] f.stack) (λ args. enter_computes m t heap p function function Result args.0 (with_stack args.1 f) below)

sends_compute : (m : Module) (t : ℕ) (p : Place) (c name n : ℕ) (heap : List Object) (f : Frame) (below : List Frame) → Computes (λ fits. sends fits m t p c name n heap f below)
sends_compute m t p c name n heap f below =
    behind (pop_arguments n f.stack) _ (onto_is_not n [] f.stack) (λ args.
    behind (pop_receiver p args.1) _ (receiver_is_not p args.1) (λ o.
    behind (class_at heap o.0) _ (then_is_not (operand (slice_get heap o.0)) _ (option_is_not halt.NoOperand (slice_get heap o.0) tt) (λ (o : Object). tt)) (λ own.
    behind (operand (lookup m c name)) _ (option_is_not halt.NoOperand (lookup m c name) tt) (λ static.
    behind (operand (lookup m own name)) _ (option_is_not halt.NoOperand (lookup m own name) tt) (λ target. enter_computes m t heap p static target Result (Ref o.0 ∷ args.0) (with_stack o.1 f) below)))))

object_computes : (m : Module) (t : ℕ) (p : Place) (c n : ℕ) (heap : List Object) (f : Frame) (below : List Frame) → Computes (λ fits. makes_object fits m t p c n heap f below)
object_computes m t p c n heap f below = behind (pop_arguments n f.stack) _ (onto_is_not n [] f.stack) (λ args. option_computes _ _ (same _ tt) (λ i. enter_computes m t _ p i i (Made (Ref (length heap))) (Ref (length heap) ∷ args.0) (with_stack args.1 f) below) (lookup m c (init_name m)))

super_computes : (m : Module) (t : ℕ) (p : Place) (n : ℕ) (heap : List Object) (f : Frame) (below : List Frame) → Computes (λ fits. calls_super fits m t p n heap f below)
super_computes m t p n heap f below =
    behind (pop_arguments n f.stack) _ (onto_is_not n [] f.stack) (λ args.
    behind (local_at 0 f.store) _ (local_is_not 0 f.store) (λ receiver.
    behind (method_at m f.method) _ (option_is_not halt.NoOperand (slice_get m.methods f.method) tt) (λ (run : Method).
    behind (operand run.owner) _ (option_is_not halt.NoOperand run.owner tt) (λ owner.
    behind (operand (base_of m owner)) _ (option_is_not halt.NoOperand (base_of m owner) tt) (λ base.
    behind (operand (lookup m base (init_name m))) _ (option_is_not halt.NoOperand (lookup m base (init_name m)) tt) (λ i. enter_computes m t heap p i i Nothing (receiver ∷ args.0) (with_stack args.1 f) below))))))

lock_computes : (m : Module) (p : Place) (c : ℕ) (heap : List Object) (f : Frame) (below : List Frame) → Computes (λ fits. makes_lock fits m p c heap f below)
lock_computes m p c heap f below =
    behind (pop_number f.stack) _ (number_is_not f.stack) (λ level.
    behind (pop_receiver p level.1) _ (receiver_is_not p level.1) (λ o.
    then_computes _ _ (made_computes m heap c _ _ p) (λ made. same _ tt)))

heads_compute : (m : Module) (t : ℕ) (first : Bool) (p : Place) (invariant : List Assertion) (e : Expr) (body : List Stmt) (heap : List Object) (f : Frame) (below : List Frame) → Computes (λ fits. heads fits m t first p invariant e body heap f below)
heads_compute m t first p invariant e body heap f below =
    then_computes _ _ (atoms_compute m t heap _ kind.LoopValue _ invariant) (λ _.
    then_computes _ _ (duties_compute invariant (lower_than at_atom (last_turn first invariant f.turns) []) (duties_are_not at_atom (last_turn first invariant f.turns) []) _) (λ ds. same _ (then_is_not (tested kind.NoMeasure p (if must_terminate invariant then true else (if is_bound_by f.measure then false else not (owns_any heap t)))) _ (test_is_not kind.NoMeasure p (if must_terminate invariant then true else (if is_bound_by f.measure then false else not (owns_any heap t)))) (λ _. tt))))

asserts_compute : (m : Module) (t : ℕ) (p : Place) (a : Assertion) (heap : List Object) (f : Frame) (below : List Frame) → Computes (λ fits. asserts fits m t p a heap f below)
asserts_compute m t p a heap f below = then_computes _ _ (atoms_compute m t heap _ kind.Assert _ (a ∷ [])) (λ _. same _ tt)

returns_compute : (has_value : Bool) (ends : Width → Frame → Value → Res After) → ((g : Frame) (v : Value) → Computes (λ fits. ends fits g v)) → (heap : List Object) (f : Frame) (below : List Frame) → Computes (λ fits. returns has_value (ends fits) heap f below)
returns_compute true ends h heap f below = behind (pop_value f.stack) _ (pop_is_not f.stack) (λ v. out_computes false (Return v.0) (λ fits. ends fits f) (h f) heap f below)
returns_compute false ends h heap f below = out_computes false (Return Nil) (λ fits. ends fits f) (h f) heap f below

further_computes : (from_with : Bool) (w : Option (Way Value)) (ends : Width → Frame → Value → Res After) → ((g : Frame) (v : Value) → Computes (λ fits. ends fits g v)) → (heap : List Object) (f : Frame) (below : List Frame) → Computes (λ fits. goes_further from_with w (ends fits) heap f below)
further_computes from_with None ends h heap f below = same _ tt
further_computes from_with (Some w) ends h heap f below = out_computes from_with w (λ fits. ends fits f) (h f) heap f below

releases_compute : (m : Module) (t : ℕ) (p : Place) (heap : List Object) (f : Frame) (below : List Frame) → Computes (λ fits. releases fits m t p heap f below)
releases_compute m t p heap f below = behind (pop_receiver p f.stack) _ (receiver_is_not p f.stack) (λ l. then_computes _ _ (released_computes m t heap _ p) (λ changed. same _ tt))

with_computes : (m : Module) (t : ℕ) (p : Place) (l : Value) (w : Option (Way Value)) (heap : List Object) (f : Frame) (below : List Frame) → Computes (λ fits. ends_with fits m t p l w heap f below)
with_computes m t p l w heap f below = behind (pop_receiver p (l ∷ [])) _ (receiver_is_not p (l ∷ [])) (λ r. then_computes _ _ (released_computes m t heap _ p) (λ changed. then_computes _ _ (further_computes true w (λ fits g v. Stops halt.NoOperand) (λ g v. same _ tt) changed _ below) (λ a. same _ tt)))

starts_compute : (m : Module) (t : ℕ) (p : Place) (function : ℕ) (heap : List Object) (threads : List ThreadState) (f : Frame) (below : List Frame) → Computes (λ fits. starts fits m t p function heap threads f below)
starts_compute m t p function heap threads f below = behind (pop_receiver p f.stack) _ (receiver_is_not p f.stack) (λ r. started_computes m t heap threads _ function p _ below)

-- items that compute no number
decided_is_not : (on : Bool) (e : Expr) (heap : List Object) (f : Frame) (below : List Frame) → IsNotWide (decides on e heap f below)
decided_is_not on e heap f below = then_is_not (pop_truth f.stack) _ (truth_is_not f.stack) (λ a. if_is_not (if on then a.0 else not a.0) _ _ tt tt)

chain_is_not : (b : Value) (es : List Expr) (keys : List ℕ) (heap : List Object) (f : Frame) (below : List Frame) → IsNotWide (chain_on b es keys heap f below)
chain_is_not b (e ∷ es) (key ∷ keys) heap f below = tt
chain_is_not b (e ∷ es) [] heap f below = tt
chain_is_not b [] keys heap f below = tt

link_is_not : (key : ℕ) (es : List Expr) (keys : List ℕ) (heap : List Object) (f : Frame) (below : List Frame) → IsNotWide (links key es keys heap f below)
link_is_not key es keys heap f below =
    then_is_not (pop_value f.stack) _ (pop_is_not f.stack) (λ b.
    then_is_not (pop_value b.1) _ (pop_is_not b.1) (λ a.
    then_is_not (operand (binary key a.0 b.0)) _ (option_is_not halt.NoOperand (binary key a.0 b.0) tt) (λ c.
    then_is_not (pop_truth (c ∷ a.1)) _ (truth_is_not (c ∷ a.1)) (λ d. if_is_not d.0 _ _ (chain_is_not b.0 es keys heap (with_stack d.1 f) below) tt))))

read_is_not : (kept : Bool) (p : Place) (n : ℕ) (heap : List Object) (f : Frame) (below : List Frame) → IsNotWide (reads_field kept p n heap f below)
read_is_not kept p n heap f below =
    then_is_not (pop_receiver p f.stack) _ (receiver_is_not p f.stack) (λ o.
    then_is_not (of_option (halt.Failed kind.NoneReceiver p) (field_of heap o.0 n)) _ (option_is_not (halt.Failed kind.NoneReceiver p) (field_of heap o.0 n) tt) (λ v. tt))

written_is_not : (makes : Bool) (p : Place) (n o : ℕ) (v : Value) (st : List Value) (heap : List Object) (f : Frame) (below : List Frame) → IsNotWide (writes_field makes p n o v st heap f below)
written_is_not makes p n o v st heap f below =
    then_is_not (tested kind.NoneReceiver p (if makes then true else option_map_or (λ w. true) (field_of heap o n) false)) _ (test_is_not kind.NoneReceiver p (if makes then true else option_map_or (λ w. true) (field_of heap o n) false)) (λ _.
    then_is_not (operand (with_field heap o n v)) _ (option_is_not halt.NoOperand (with_field heap o n v) tt) (λ changed. tt))

under_is_not : (makes : Bool) (p : Place) (n : ℕ) (heap : List Object) (f : Frame) (below : List Frame) → IsNotWide (writes_under makes p n heap f below)
under_is_not makes p n heap f below =
    then_is_not (pop_receiver p f.stack) _ (receiver_is_not p f.stack) (λ o. then_is_not (pop_value o.1) _ (pop_is_not o.1) (λ v. written_is_not makes p n o.0 v.0 v.1 heap f below))

back_is_not : (p : Place) (n : ℕ) (heap : List Object) (f : Frame) (below : List Frame) → IsNotWide (writes_back p n heap f below)
back_is_not p n heap f below =
    then_is_not (pop_value f.stack) _ (pop_is_not f.stack) (λ v. then_is_not (pop_receiver p v.1) _ (receiver_is_not p v.1) (λ o. written_is_not false p n o.0 v.0 o.1 heap f below))

not_nil_is_not : (p : Place) (heap : List Object) (f : Frame) (below : List Frame) → IsNotWide (tests_not_nil p heap f below)
not_nil_is_not p heap f below = then_is_not (pop_value f.stack) _ (pop_is_not f.stack) (λ v. of_value v.0)
  where
    of_value : (v : Value) → IsNotWide (elim v as (λ _. Res After) [ Nil ↦ Stops (halt.Failed kind.NoneValue p) | Num z ↦ stays heap f below | Truth b ↦ stays heap f below | Ref r ↦ stays heap f below ])
    of_value Nil = tt
    of_value (Num z) = tt
    of_value (Truth b) = tt
    of_value (Ref r) = tt

stored_is_not : (i : ℕ) (v : Value) (store : List (Option Value)) → IsNotWide (stored i v store)
stored_is_not i v store = if_is_not (nat_lt i (length store)) _ _ tt tt

handle_is_not : (m : Module) (c : ℕ) (p : Place) (handlers : List (ℕ × List Stmt)) (heap : List Object) (f : Frame) (below : List Frame) → IsNotWide (handles m c p handlers heap f below)
handle_is_not m c p [] heap f below = tt
handle_is_not m c p (handler ∷ []) heap f below = if_is_not (is_subclass m c handler.0) _ _ tt ((out_computes false (Raise c p) (λ fits v. Stops halt.NoOperand) (λ v. same _ tt) heap f below).all_fit)
handle_is_not m c p (handler ∷ h ∷ hs) heap f below = if_is_not (is_subclass m c handler.0) _ _ tt tt

acquired_is_not : (t : ℕ) (heap : List Object) (r : ℕ) → IsNotWide (acquired t heap r)
acquired_is_not t heap r = if_is_not (is_held heap r) _ _ tt (option_is_not halt.NoOperand (with_owner heap r (Some t)) tt)

joined_is_not : (m : Module) (t : ℕ) (heap : List Object) (threads : List ThreadState) (r target : ℕ) (p : Place) (f : Frame) (below : List Frame) → IsNotWide (joined m t heap threads r target p f below)
joined_is_not m t heap threads r target p f below = of_thread (thread_of r threads)
  where
    of_thread : (found : Option (ℕ × ThreadState)) → IsNotWide (elim found as (λ _. Res After) [ None ↦ Stops (halt.Failed kind.NotJoinable p) | Some th ↦ joined_thread m t heap r target p f below th ])
    of_thread None = tt
    of_thread (Some th) = if_is_not (not (th.1).ended) _ _ tt (
        then_is_not (tested kind.NotJoinable p (has_target m heap r target)) _ (test_is_not kind.NotJoinable p (has_target m heap r target)) (λ _.
        then_is_not (method_at m target) _ (option_is_not halt.NoOperand (slice_get m.methods target) tt) (λ (method : Method).
        then_is_not (tested kind.NoMeasure p (join_is_bounded heap t f method)) _ (test_is_not kind.NoMeasure p (join_is_bounded heap t f method)) (λ _. tt))))

act_computes : (m : Module) (t : ℕ) (threads : List ThreadState) (heap : List Object) (f : Frame) (below : List Frame) (i : Item Value) → Computes (λ fits. act fits m t threads heap f below i)
act_computes m t threads heap f below (item.Un p key) = unary_computes p key heap f below
act_computes m t threads heap f below (item.Bin p key) = binary_computes p key heap f below
act_computes m t threads heap f below (item.Call p function n) = calls_compute m t p function n heap f below
act_computes m t threads heap f below (item.Send p c name n) = sends_compute m t p c name n heap f below
act_computes m t threads heap f below (item.New p c n) = object_computes m t p c n heap f below
act_computes m t threads heap f below (item.Super p n) = super_computes m t p n heap f below
act_computes m t threads heap f below (item.NewLock p c) = lock_computes m p c heap f below
act_computes m t threads heap f below (item.Prove p a) = asserts_compute m t p a heap f below
act_computes m t threads heap f below (item.Head p invariant e body) = heads_compute m t true p invariant e body heap f below
act_computes m t threads heap f below (item.Again p invariant e body) = heads_compute m t false p invariant e body heap f below
act_computes m t threads heap f below (item.Leave w) = out_computes false w (λ fits. leave fits m t heap f below) (leave_computes m t heap f below) heap f below
act_computes m t threads heap f below (item.Raise p c) = out_computes false (Raise c p) (λ fits. leave fits m t heap f below) (leave_computes m t heap f below) heap f below
act_computes m t threads heap f below (item.Return has_value) = returns_compute has_value (λ fits g v. leave fits m t heap g below v) (λ g v. leave_computes m t heap g below v) heap f below
act_computes m t threads heap f below (item.FinallyEnd w) = further_computes false w (λ fits g v. leave fits m t heap g below v) (λ g v. leave_computes m t heap g below v) heap f below
act_computes m t threads heap f below (item.WithEnd p l w) = with_computes m t p l w heap f below
act_computes m t threads heap f below (item.Release p) = releases_compute m t p heap f below
act_computes m t threads heap f below (item.Start p function) = starts_compute m t p function heap threads f below
act_computes m t threads heap f below (item.Exit v) = leave_computes m t heap f below v
act_computes m t threads heap f below (item.Throw c p) = throw_computes m t heap f below c p
act_computes m t threads heap f below item.End = leave_computes m t heap f below Nil
act_computes m t threads heap f below (item.Load i) = same _ (then_is_not (local_at i f.store) _ (local_is_not i f.store) (λ v. tt))
act_computes m t threads heap f below (item.AndThen e) = same _ (decided_is_not true e heap f below)
act_computes m t threads heap f below (item.OrElse e) = same _ (decided_is_not false e heap f below)
act_computes m t threads heap f below (item.Link key es keys) = same _ (link_is_not key es keys heap f below)
act_computes m t threads heap f below (item.Read p n) = same _ (read_is_not false p n heap f below)
act_computes m t threads heap f below (item.ReadKept p n) = same _ (read_is_not true p n heap f below)
act_computes m t threads heap f below (item.Locked p) = same _ (then_is_not (pop_receiver p f.stack) _ (receiver_is_not p f.stack) (λ l. then_is_not (operand (locked_of heap l.0)) _ (option_is_not halt.NoOperand (locked_of heap l.0) tt) (λ v. tt)))
act_computes m t threads heap f below (item.NotNil p) = same _ (not_nil_is_not p heap f below)
act_computes m t threads heap f below (item.NewThread p function n) = same _ (then_is_not (pop_number f.stack) _ (number_is_not f.stack) (λ level. then_is_not (pop_arguments n level.1) _ (onto_is_not n [] level.1) (λ args. tt)))
act_computes m t threads heap f below (item.Store i) = same _ (then_is_not (pop_value f.stack) _ (pop_is_not f.stack) (λ v. then_is_not (stored i v.0 f.store) _ (stored_is_not i v.0 f.store) (λ store. tt)))
act_computes m t threads heap f below (item.Write p n) = same _ (under_is_not false p n heap f below)
act_computes m t threads heap f below (item.Make p n) = same _ (under_is_not true p n heap f below)
act_computes m t threads heap f below (item.WriteBack p n) = same _ (back_is_not p n heap f below)
act_computes m t threads heap f below item.Drop = same _ (then_is_not (pop_value f.stack) _ (pop_is_not f.stack) (λ v. tt))
act_computes m t threads heap f below (item.Print args) = same _ (then_is_not (pop_arguments (values_wanted args) f.stack) _ (onto_is_not (values_wanted args) [] f.stack) (λ vs. tt))
act_computes m t threads heap f below (item.Check p) = same _ (then_is_not (pop_truth f.stack) _ (truth_is_not f.stack) (λ b. then_is_not (tested kind.Assert p b.0) _ (test_is_not kind.Assert p b.0) (λ _. tt)))
act_computes m t threads heap f below (item.If a b) = same _ (then_is_not (pop_truth f.stack) _ (truth_is_not f.stack) (λ c. tt))
act_computes m t threads heap f below (item.Turn p invariant e body) = same _ (then_is_not (pop_truth f.stack) _ (truth_is_not f.stack) (λ c. if_is_not c.0 _ _ tt tt))
act_computes m t threads heap f below (item.Handle c p handlers) = same _ (handle_is_not m c p handlers heap f below)
act_computes m t threads heap f below (item.With p body) = same _ (then_is_not (pop_receiver p f.stack) _ (receiver_is_not p f.stack) (λ l. then_is_not (acquired t heap l.0) _ (acquired_is_not t heap l.0) (λ changed. tt)))
act_computes m t threads heap f below (item.Acquire p) = same _ (then_is_not (pop_receiver p f.stack) _ (receiver_is_not p f.stack) (λ l. then_is_not (acquired t heap l.0) _ (acquired_is_not t heap l.0) (λ changed. tt)))
act_computes m t threads heap f below (item.Join p function) = same _ (then_is_not (pop_receiver p f.stack) _ (receiver_is_not p f.stack) (λ r. joined_is_not m t heap threads r.0 function p (with_stack r.1 f) below))
act_computes m t threads heap f below i = same _ tt

-- steps
main_computes : (m : Module) (t : ℕ) (heap : List Object) (f : Frame) → Computes (λ fits. entry_of_main fits m t heap f)
main_computes m t heap f = behind (method_at m f.method) _ (option_is_not halt.NoOperand (slice_get m.methods f.method) tt) (λ method. then_computes _ _ (entry_computes m t heap at_atom None [] (scene_of m heap heap f.store None) method) (λ ds. same _ tt))

control_computes : (m : Module) (t : ℕ) (threads : List ThreadState) (heap : List Object) (f : Frame) (below : List Frame) (control : List (Item Value)) → Computes (λ fits. control_step fits m t threads heap f below control)
control_computes m t threads heap f below [] = same _ tt
control_computes m t threads heap f below (item.Begin ∷ []) = same _ tt
control_computes m t threads heap f below (item.Begin ∷ i ∷ control) = then_computes _ _ (main_computes m t heap f) (λ g. act_computes m t threads heap (record g { control = control }) below i)
control_computes m t threads heap f below (i ∷ control) = act_computes m t threads heap (record f { control = control }) below i

frames_compute : (m : Module) (t : ℕ) (threads : List ThreadState) (heap : List Object) (frames : List Frame) → Computes (λ fits. frames_step fits m t threads heap frames)
frames_compute m t threads heap [] = same _ tt
frames_compute m t threads heap (f ∷ below) = control_computes m t threads heap f below f.control

state_computes : (m : Module) (s : State) (t : ℕ) → Computes (λ fits. state_step fits m s t)
state_computes m s t = behind (of_option halt.Waits (slice_get s.threads t)) _ (option_is_not halt.Waits (slice_get s.threads t) tt) (λ (th : ThreadState). if_computes th.ended _ _ (same _ tt) (frames_compute m t s.threads s.heap th.frames))

settled : (s : State) (t : ℕ) (o : Option Place) (r : Res After) → settle s t (limited o r) ≡ unless_too_large o (settle s t r)
settled s t None r = refl
settled s t (Some p) r = refl

-- each step computes numbers in turn
pub step_computes : (m : Module) (s : State) (t : ℕ) → (numbers : List Computed) × StepComputes m s t numbers
step_computes m s t =
    let h : Computes (λ fits. state_step fits m s t) = state_computes m s t in
    (h.numbers, λ fits. ap (settle s t) (h.within fits) ∙ settled s t (first_too_large fits h.numbers) (state_step whole m s t))

-- over whole numbers no number is too large
pub whole_fits : (m : Module) (s : State) (t : ℕ) (p : Place) → step whole m s t ≡ TooLarge p → ⊥
whole_fits m s t p is = of_result (state_step whole m s t) (state_computes m s t).all_fit is
  where
    of_result : (r : Res After) → IsNotWide r → settle s t r ≡ TooLarge p → ⊥
    of_result (Got a) n h = cc
    of_result (Stops halt.Waits) n h = cc
    of_result (Stops halt.NoOperand) n h = cc
    of_result (Stops (halt.Failed kind_of q)) n h = cc
    of_result (Stops (halt.Wide q)) n h = n
