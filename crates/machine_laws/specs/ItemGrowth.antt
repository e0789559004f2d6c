-- Each item leaves a heap that has grown.
use Rattle.std.specs.Prelude.{ℕ, ℤ, Bool, true, false, not, ◌&&◌, List, [], ◌∷◌, ◌++◌, map as each, length, Option, Some, None, slice_get, nat_eq, if◌then◌else◌}
use Rattle.std.specs.Option.{option_map_or}
use Rattle.std.specs.FinMap as map
use Rattle.py_base.specs.declared.Place.{Place}
use Rattle.py_base.specs.declared.Kind.TheVariants as kind
use Rattle.py_syntax.specs.declared.Value.{Value}
use Rattle.py_syntax.specs.declared.Value.TheVariants.{Num, Truth, Nil, Ref}
use Rattle.py_syntax.specs.declared.Expr.{Expr}
use Rattle.py_syntax.specs.declared.Stmt.{Stmt}
use Rattle.py_syntax.specs.declared.Assertion.{Assertion}
use Rattle.py_syntax.specs.declared.Method.{Method}
use Rattle.py_syntax.specs.declared.Module.{Module}
use Rattle.py_syntax.specs.declared.Way.{Way}
use Rattle.py_syntax.specs.declared.Way.TheVariants.{Break, Continue, Raise, Return}
use Rattle.py_syntax.specs.declared.Gives.{Gives as GivesBack}
use Rattle.py_syntax.specs.declared.Gives.TheVariants.{Result, Made, Nothing}
use Rattle.py_syntax.specs.declared.Item.{Item}
use Rattle.py_syntax.specs.declared.Item.TheVariants as item
use Rattle.py_syntax.specs.Classes.{base_of, lookup, is_subclass}
use Rattle.py_syntax.specs.Control.{Unwound, On, Out, unwind}
use Rattle.py_syntax.specs.WaysOut.{Ending, Normal, Raised}
use Rattle.machine_model.specs.declared.state.Object.{Object}
use Rattle.machine_model.specs.declared.state.Frame.{Frame}
use Rattle.machine_model.specs.declared.state.ThreadState.{ThreadState}
use Rattle.machine_model.specs.declared.halt.Halt.TheVariants as halt
use Rattle.machine_model.specs.Results.{Res, Got, Stops, then_do, of_option, tested, Width, sized}
use Rattle.machine_model.specs.Operators.{binary, unary, divides_by_zero}
use Rattle.machine_model.specs.Heap.{field_of, with_field, locked_of, owns, is_held, has_target}
use Rattle.machine_model.specs.Duties.{duties_of, lower_than}
use Rattle.machine_model.specs.Moments.{at_atom, at_call, scene_of, atoms_hold, lock_invariant_holds, owns_any, is_bound_by}
use Rattle.machine_model.specs.Frames.{After, operand, pop_value, pop_truth, pop_number, pop_receiver, pop_arguments, local_at, stored, stays, must_terminate}
use Rattle.machine_model.specs.Calls.{method_at, entry_duties, call_tests, enter, exit_tests, both_exit_tests, end_thread, way_left, unwound, go_out, resumed, call_ended, return_to, leave, throw_to, throw}
use Rattle.machine_model.specs.Sharing.{acquired, invariant_of, released, without_cap, lock_made, thread_of, is_started, arguments_from, started, join_is_bounded, joined_thread, joined}
use Rattle.py_syntax.specs.StmtItems.{values_wanted}
use Rattle.machine_model.specs.Items.{with_stack, applies_unary, applies_binary, decides, chain_on, links, reads_field, writes_field, writes_under, writes_back, tests_not_nil, calls, class_at, sends, init_name, makes_object, calls_super, makes_lock, makes_thread, last_turn, heads, turns_or_leaves, asserts, returns, goes_further, handles, takes_with, acquires, releases, ends_with, starts, joins, act}
use Rattle.machine_laws.specs.Growth.{HeapGrows}
use Rattle.machine_laws.specs.GrowthParts.{Gives, gives, stops, then_gives, past, if_gives, same_heap, heap_with_more, field_grows, owner_grows, Grows, left_at}

-- calls
enter_grows : (base : List Object) (fits : Width) (m : Module) (t : ℕ) (heap : List Object) (p : Place) (static target : ℕ) (back : GivesBack Value) (args : List Value) (caller : Frame) (below : List Frame) → HeapGrows base heap → Grows base (enter fits m t heap p static target back args caller below)
enter_grows base fits m t heap p static target back args caller below g =
    past _ (method_at m static) _ (λ seen.
    past _ (method_at m target) _ (λ run.
    past _ (call_tests fits m t heap p caller args seen) _ (λ first.
    past _ (if nat_eq static target then Got first else call_tests fits m t heap p caller args run) _ (λ own. left_at base _ g))))

end_grows : (base : List Object) (fits : Width) (m : Module) (t : ℕ) (heap : List Object) (f : Frame) (ending : Ending Value) (p : Place) → HeapGrows base heap → Grows base (end_thread fits m t heap f ending p)
end_grows base fits m t heap f ending p g =
    past _ (method_at m f.method) _ (λ (run : Method).
    past _ (exit_tests fits m t heap f ending p run) _ (λ _.
    past _ (tested kind.Leak run.place (not (owns_any heap t))) _ (λ _. left_at base _ g)))

way_grows : (base : List Object) (from_with : Bool) (w : Way Value) (ends : Value → Res After) → ((v : Value) → Grows base (ends v)) → (heap : List Object) (f : Frame) (below : List Frame) → HeapGrows base heap → Grows base (way_left from_with w ends heap f below)
way_grows base from_with (Raise c p) ends h heap f below g = left_at base _ g
way_grows base from_with (Return v) ends h heap f below g = if_gives _ from_with _ _ (left_at base _ g) (h v)
way_grows base from_with Break ends h heap f below g = stops _ _
way_grows base from_with Continue ends h heap f below g = stops _ _

unwound_grows : (base : List Object) (from_with : Bool) (to : Unwound Value) (ends : Value → Res After) → ((v : Value) → Grows base (ends v)) → (heap : List Object) (f : Frame) (below : List Frame) → HeapGrows base heap → Grows base (unwound from_with to ends heap f below)
unwound_grows base from_with (On control left) ends h heap f below g = left_at base _ g
unwound_grows base from_with (Out w left) ends h heap f below g = way_grows base from_with w ends h heap _ below g

out_grows : (base : List Object) (from_with : Bool) (w : Way Value) (ends : Value → Res After) → ((v : Value) → Grows base (ends v)) → (heap : List Object) (f : Frame) (below : List Frame) → HeapGrows base heap → Grows base (go_out from_with w ends heap f below)
out_grows base from_with w ends h heap f below g = unwound_grows base from_with (unwind w f.control) ends h heap f below g

ended_grows : (base : List Object) (method : ℕ) (ending : Ending Value) (r : Res After) → Grows base r → Grows base (call_ended method ending r)
ended_grows base method ending r h = then_gives (λ (a : After). HeapGrows base a.heap) _ r _ h (λ a g. left_at base _ g)

return_grows : (base : List Object) (fits : Width) (m : Module) (t : ℕ) (heap : List Object) (f : Frame) (v : Value) (caller : Frame) (below : List Frame) (control : List (Item Value)) → HeapGrows base heap → Grows base (return_to fits m t heap f v caller below control)
return_grows base fits m t heap f v caller below (item.Called p static back ∷ control) g = past _ (both_exit_tests fits m t heap f (Normal v) p static) _ (λ _. left_at base _ g)
return_grows base fits m t heap f v caller below control g = stops _ _

leave_grows : (base : List Object) (fits : Width) (m : Module) (t : ℕ) (heap : List Object) (f : Frame) (below : List Frame) (v : Value) → HeapGrows base heap → Grows base (leave fits m t heap f below v)
leave_grows base fits m t heap f [] v g = past _ (method_at m f.method) _ (λ (run : Method). end_grows base fits m t heap f (Normal v) run.place g)
leave_grows base fits m t heap f (caller ∷ below) v g = return_grows base fits m t heap f v caller below caller.control g

throw_to_grows : (base : List Object) (fits : Width) (m : Module) (t : ℕ) (heap : List Object) (f : Frame) (c : ℕ) (p : Place) (caller : Frame) (below : List Frame) (control : List (Item Value)) → HeapGrows base heap → Grows base (throw_to fits m t heap f c p caller below control)
throw_to_grows base fits m t heap f c p caller below (item.Called q static back ∷ control) g =
    past _ (both_exit_tests fits m t heap f (Raised c) p static) _ (λ _.
    ended_grows base f.method (Raised c) (go_out false (Raise c q) (λ v. Stops halt.NoOperand) heap (resumed t heap control caller) below)
    (out_grows base false (Raise c q) (λ v. Stops halt.NoOperand) (λ v. stops _ _) heap (resumed t heap control caller) below g))
throw_to_grows base fits m t heap f c p caller below control g = stops _ _

throw_grows : (base : List Object) (fits : Width) (m : Module) (t : ℕ) (heap : List Object) (f : Frame) (below : List Frame) (c : ℕ) (p : Place) → HeapGrows base heap → Grows base (throw fits m t heap f below c p)
throw_grows base fits m t heap f [] c p g = end_grows base fits m t heap f (Raised c) p g
throw_grows base fits m t heap f (caller ∷ below) c p g = throw_to_grows base fits m t heap f c p caller below caller.control g

-- locks and threads
acquired_grows : (t : ℕ) (heap : List Object) (r : ℕ) → Gives (HeapGrows heap) (acquired t heap r)
acquired_grows t heap r = if_gives _ (is_held heap r) _ _ (stops _ _) (owner_grows heap r (Some t))

released_grows : (fits : Width) (m : Module) (t : ℕ) (heap : List Object) (r : ℕ) (p : Place) → Gives (HeapGrows heap) (released fits m t heap r p)
released_grows fits m t heap r p =
    past _ (tested kind.NotHeld p (owns heap t r)) _ (λ _.
    past _ (operand (slice_get heap r)) _ (λ (o : Object).
    past _ (invariant_of m o.class) _ (λ pred.
    past _ (lock_invariant_holds fits m heap pred r p) _ (λ _. owner_grows heap r None))))

abbrev new_lock : ℕ → ℕ → ℤ → Object
new_lock c locked level = record { class = c; fields = map.empty; lock = Some (record { owner = None; locked = locked; level = level }) }

made_grows : (fits : Width) (m : Module) (heap : List Object) (c locked : ℕ) (level : ℤ) (p : Place) → Gives (HeapGrows heap) (lock_made fits m heap c locked level p)
made_grows fits m heap c locked level p =
    past _ (invariant_of m c) _ (λ pred.
    past _ (lock_invariant_holds fits m (heap ++ new_lock c locked level ∷ []) pred (length heap) p) _ (λ _. gives (HeapGrows heap) (heap ++ new_lock c locked level ∷ []) (heap_with_more heap (new_lock c locked level ∷ []))))

started_grows : (fits : Width) (m : Module) (t : ℕ) (heap : List Object) (threads : List ThreadState) (r target : ℕ) (p : Place) (f : Frame) (below : List Frame) → Grows heap (started fits m t heap threads r target p f below)
started_grows fits m t heap threads r target p f below =
    past _ (tested kind.NotStartable p (not (is_started r threads) && has_target m heap r target)) _ (λ _.
    past _ (method_at m target) _ (λ (method : Method).
    past _ (arguments_from m heap r 0 (length method.params)) _ (λ args.
    past _ (entry_duties fits m t heap (at_call p) None [] (scene_of m heap heap (each (λ v. Some v) args) None) method) _ (λ ds. left_at heap _ (same_heap heap)))))

joined_grows : (m : Module) (t : ℕ) (heap : List Object) (threads : List ThreadState) (r target : ℕ) (p : Place) (f : Frame) (below : List Frame) → Grows heap (joined m t heap threads r target p f below)
joined_grows m t heap threads r target p f below = of_thread (thread_of r threads)
  where
    of_thread : (found : Option (ℕ × ThreadState)) → Grows heap (elim found as (λ _. Res After) [ None ↦ Stops (halt.Failed kind.NotJoinable p) | Some th ↦ joined_thread m t heap r target p f below th ])
    of_thread None = stops _ _
    of_thread (Some th) = if_gives _ (not (th.1).ended) _ _ (stops _ _) (
        past _ (tested kind.NotJoinable p (has_target m heap r target)) _ (λ _.
        past _ (method_at m target) _ (λ (method : Method).
        past _ (tested kind.NoMeasure p (join_is_bounded heap t f method)) _ (λ _. left_at heap _ (same_heap heap)))))

-- items
unary_grows : (fits : Width) (p : Place) (key : ℕ) (heap : List Object) (f : Frame) (below : List Frame) → Grows heap (applies_unary fits p key heap f below)
unary_grows fits p key heap f below =
    past _ (pop_value f.stack) _ (λ a.
    past _ (then_do (operand (unary key a.0)) (sized fits p)) _ (λ v. left_at heap _ (same_heap heap)))

binary_grows : (fits : Width) (p : Place) (key : ℕ) (heap : List Object) (f : Frame) (below : List Frame) → Grows heap (applies_binary fits p key heap f below)
binary_grows fits p key heap f below =
    past _ (pop_value f.stack) _ (λ b.
    past _ (pop_value b.1) _ (λ a.
    past _ (tested kind.ZeroDivisor p (not (divides_by_zero key b.0))) _ (λ _.
    past _ (then_do (operand (binary key a.0 b.0)) (sized fits p)) _ (λ v. left_at heap _ (same_heap heap)))))

decides_grows : (on : Bool) (e : Expr) (heap : List Object) (f : Frame) (below : List Frame) → Grows heap (decides on e heap f below)
decides_grows on e heap f below = past _ (pop_truth f.stack) _ (λ a. if_gives _ (if on then a.0 else not a.0) _ _ (left_at heap _ (same_heap heap)) (left_at heap _ (same_heap heap)))

chain_grows : (b : Value) (es : List Expr) (keys : List ℕ) (heap : List Object) (f : Frame) (below : List Frame) → Grows heap (chain_on b es keys heap f below)
chain_grows b (e ∷ es) (key ∷ keys) heap f below = left_at heap _ (same_heap heap)
chain_grows b (e ∷ es) [] heap f below = stops _ _
chain_grows b [] keys heap f below = left_at heap _ (same_heap heap)

links_grow : (key : ℕ) (es : List Expr) (keys : List ℕ) (heap : List Object) (f : Frame) (below : List Frame) → Grows heap (links key es keys heap f below)
links_grow key es keys heap f below =
    past _ (pop_value f.stack) _ (λ b.
    past _ (pop_value b.1) _ (λ a.
    past _ (operand (binary key a.0 b.0)) _ (λ c.
    past _ (pop_truth (c ∷ a.1)) _ (λ d. if_gives _ d.0 _ _ (chain_grows b.0 es keys heap (with_stack d.1 f) below) (left_at heap _ (same_heap heap))))))

reads_grow : (kept : Bool) (p : Place) (n : ℕ) (heap : List Object) (f : Frame) (below : List Frame) → Grows heap (reads_field kept p n heap f below)
reads_grow kept p n heap f below =
    past _ (pop_receiver p f.stack) _ (λ o.
    past _ (of_option (halt.Failed kind.NoneReceiver p) (field_of heap o.0 n)) _ (λ v. left_at heap _ (same_heap heap)))

field_written : (makes : Bool) (p : Place) (n o : ℕ) (v : Value) (st : List Value) (heap : List Object) (f : Frame) (below : List Frame) → Grows heap (writes_field makes p n o v st heap f below)
field_written makes p n o v st heap f below =
    past _ (tested kind.NoneReceiver p (if makes then true else option_map_or (λ w. true) (field_of heap o n) false)) _ (λ _.
    then_gives (HeapGrows heap) _ (operand (with_field heap o n v)) _ (field_grows heap o n v) (λ changed g. left_at heap _ g))

under_grows : (makes : Bool) (p : Place) (n : ℕ) (heap : List Object) (f : Frame) (below : List Frame) → Grows heap (writes_under makes p n heap f below)
under_grows makes p n heap f below = past _ (pop_receiver p f.stack) _ (λ o. past _ (pop_value o.1) _ (λ v. field_written makes p n o.0 v.0 v.1 heap f below))

back_grows : (p : Place) (n : ℕ) (heap : List Object) (f : Frame) (below : List Frame) → Grows heap (writes_back p n heap f below)
back_grows p n heap f below = past _ (pop_value f.stack) _ (λ v. past _ (pop_receiver p v.1) _ (λ o. field_written false p n o.0 v.0 o.1 heap f below))

not_nil_grows : (p : Place) (heap : List Object) (f : Frame) (below : List Frame) → Grows heap (tests_not_nil p heap f below)
not_nil_grows p heap f below = past _ (pop_value f.stack) _ (λ v. of_value v.0)
  where
    of_value : (v : Value) → Grows heap (elim v as (λ _. Res After) [ Nil ↦ Stops (halt.Failed kind.NoneValue p) | Num z ↦ stays heap f below | Truth b ↦ stays heap f below | Ref r ↦ stays heap f below ])
    of_value Nil = stops _ _
    of_value (Num z) = left_at heap _ (same_heap heap)
    of_value (Truth b) = left_at heap _ (same_heap heap)
    of_value (Ref r) = left_at heap _ (same_heap heap)

calls_grow : (fits : Width) (m : Module) (t : ℕ) (p : Place) (function n : ℕ) (heap : List Object) (f : Frame) (below : List Frame) → Grows heap (calls fits m t p function n heap f below)
calls_grow fits m t p function n heap f below = past _ (pop_arguments n f.stack) _ (λ args. enter_grows heap fits m t heap p function function Result args.0 (with_stack args.1 f) below (same_heap heap))

sends_grow : (fits : Width) (m : Module) (t : ℕ) (p : Place) (c name n : ℕ) (heap : List Object) (f : Frame) (below : List Frame) → Grows heap (sends fits m t p c name n heap f below)
sends_grow fits m t p c name n heap f below =
    past _ (pop_arguments n f.stack) _ (λ args.
    past _ (pop_receiver p args.1) _ (λ o.
    past _ (class_at heap o.0) _ (λ own.
    past _ (operand (lookup m c name)) _ (λ static.
    past _ (operand (lookup m own name)) _ (λ target. enter_grows heap fits m t heap p static target Result (Ref o.0 ∷ args.0) (with_stack o.1 f) below (same_heap heap))))))

abbrev with_new : ℕ → List Object → List Object
with_new c heap = heap ++ record { class = c; fields = map.empty; lock = None } ∷ []

object_grows : (fits : Width) (m : Module) (t : ℕ) (p : Place) (c n : ℕ) (heap : List Object) (f : Frame) (below : List Frame) → Grows heap (makes_object fits m t p c n heap f below)
object_grows fits m t p c n heap f below = past _ (pop_arguments n f.stack) _ (λ args. of_init args (lookup m c (init_name m)))
  where
    of_init : (args : List Value × List Value) (found : Option ℕ) → Grows heap (elim found as (λ _. Res After) [
      | None ↦ stays (with_new c heap) (with_stack (Ref (length heap) ∷ args.1) f) below
      | Some i ↦ enter fits m t (with_new c heap) p i i (Made (Ref (length heap))) (Ref (length heap) ∷ args.0) (with_stack args.1 f) below
    ])
    of_init args None = left_at heap _ (heap_with_more heap _)
    of_init args (Some i) = enter_grows heap fits m t (with_new c heap) p i i (Made (Ref (length heap))) (Ref (length heap) ∷ args.0) (with_stack args.1 f) below (heap_with_more heap _)

super_grows : (fits : Width) (m : Module) (t : ℕ) (p : Place) (n : ℕ) (heap : List Object) (f : Frame) (below : List Frame) → Grows heap (calls_super fits m t p n heap f below)
super_grows fits m t p n heap f below =
    past _ (pop_arguments n f.stack) _ (λ args.
    past _ (local_at 0 f.store) _ (λ receiver.
    past _ (method_at m f.method) _ (λ (run : Method).
    past _ (operand run.owner) _ (λ owner.
    past _ (operand (base_of m owner)) _ (λ base.
    past _ (operand (lookup m base (init_name m))) _ (λ i. enter_grows heap fits m t heap p i i Nothing (receiver ∷ args.0) (with_stack args.1 f) below (same_heap heap)))))))

lock_grows : (fits : Width) (m : Module) (p : Place) (c : ℕ) (heap : List Object) (f : Frame) (below : List Frame) → Grows heap (makes_lock fits m p c heap f below)
lock_grows fits m p c heap f below =
    past _ (pop_number f.stack) _ (λ level.
    past _ (pop_receiver p level.1) _ (λ o.
    then_gives (HeapGrows heap) _ (lock_made fits m heap c o.0 level.0 p) _ (made_grows fits m heap c o.0 level.0 p) (λ made g. left_at heap _ g)))

thread_grows : (m : Module) (function n : ℕ) (heap : List Object) (f : Frame) (below : List Frame) → Grows heap (makes_thread m function n heap f below)
thread_grows m function n heap f below = past _ (pop_number f.stack) _ (λ level. past _ (pop_arguments n level.1) _ (λ args. left_at heap _ (heap_with_more heap _)))

heads_grow : (fits : Width) (m : Module) (t : ℕ) (first : Bool) (p : Place) (invariant : List Assertion) (e : Expr) (body : List Stmt) (heap : List Object) (f : Frame) (below : List Frame) → Grows heap (heads fits m t first p invariant e body heap f below)
heads_grow fits m t first p invariant e body heap f below =
    past _ (atoms_hold fits m t heap (scene_of m heap f.before f.store None) kind.LoopValue at_atom invariant) _ (λ _.
    past _ (duties_of fits invariant (lower_than at_atom (last_turn first invariant f.turns) []) (scene_of m heap f.before f.store None)) _ (λ ds.
    past _ (tested kind.NoMeasure p (if must_terminate invariant then true else (if is_bound_by f.measure then false else not (owns_any heap t)))) _ (λ _. left_at heap _ (same_heap heap))))

turns_grow : (p : Place) (invariant : List Assertion) (e : Expr) (body : List Stmt) (heap : List Object) (f : Frame) (below : List Frame) → Grows heap (turns_or_leaves p invariant e body heap f below)
turns_grow p invariant e body heap f below = past _ (pop_truth f.stack) _ (λ c. if_gives _ c.0 _ _ (left_at heap _ (same_heap heap)) (left_at heap _ (same_heap heap)))

asserts_grow : (fits : Width) (m : Module) (t : ℕ) (p : Place) (a : Assertion) (heap : List Object) (f : Frame) (below : List Frame) → Grows heap (asserts fits m t p a heap f below)
asserts_grow fits m t p a heap f below = past _ (atoms_hold fits m t heap (scene_of m heap f.before f.store None) kind.Assert (λ _. p) (a ∷ [])) _ (λ _. left_at heap _ (same_heap heap))

returns_grow : (has_value : Bool) (ends : Frame → Value → Res After) (heap : List Object) (f : Frame) (below : List Frame) → ((g : Frame) (v : Value) → Grows heap (ends g v)) → Grows heap (returns has_value ends heap f below)
returns_grow true ends heap f below h = past _ (pop_value f.stack) _ (λ v. out_grows heap false (Return v.0) (ends f) (h f) heap f below (same_heap heap))
returns_grow false ends heap f below h = out_grows heap false (Return Nil) (ends f) (h f) heap f below (same_heap heap)

further_grows : (base : List Object) (from_with : Bool) (w : Option (Way Value)) (ends : Frame → Value → Res After) (heap : List Object) (f : Frame) (below : List Frame) → ((g : Frame) (v : Value) → Grows base (ends g v)) → HeapGrows base heap → Grows base (goes_further from_with w ends heap f below)
further_grows base from_with None ends heap f below h g = left_at base _ g
further_grows base from_with (Some w) ends heap f below h g = out_grows base from_with w (ends f) (h f) heap f below g

handles_grow : (m : Module) (c : ℕ) (p : Place) (handlers : List (ℕ × List Stmt)) (heap : List Object) (f : Frame) (below : List Frame) → Grows heap (handles m c p handlers heap f below)
handles_grow m c p [] heap f below = stops _ _
handles_grow m c p (handler ∷ []) heap f below = if_gives _ (is_subclass m c handler.0) _ _ (left_at heap _ (same_heap heap)) (out_grows heap false (Raise c p) (λ v. Stops halt.NoOperand) (λ v. stops _ _) heap f below (same_heap heap))
handles_grow m c p (handler ∷ h ∷ hs) heap f below = if_gives _ (is_subclass m c handler.0) _ _ (left_at heap _ (same_heap heap)) (left_at heap _ (same_heap heap))

takes_grow : (t : ℕ) (p : Place) (body : List Stmt) (heap : List Object) (f : Frame) (below : List Frame) → Grows heap (takes_with t p body heap f below)
takes_grow t p body heap f below = past _ (pop_receiver p f.stack) _ (λ l. then_gives (HeapGrows heap) _ (acquired t heap l.0) _ (acquired_grows t heap l.0) (λ changed g. left_at heap _ g))

acquires_grow : (t : ℕ) (p : Place) (heap : List Object) (f : Frame) (below : List Frame) → Grows heap (acquires t p heap f below)
acquires_grow t p heap f below = past _ (pop_receiver p f.stack) _ (λ l. then_gives (HeapGrows heap) _ (acquired t heap l.0) _ (acquired_grows t heap l.0) (λ changed g. left_at heap _ g))

releases_grow : (fits : Width) (m : Module) (t : ℕ) (p : Place) (heap : List Object) (f : Frame) (below : List Frame) → Grows heap (releases fits m t p heap f below)
releases_grow fits m t p heap f below = past _ (pop_receiver p f.stack) _ (λ l. then_gives (HeapGrows heap) _ (released fits m t heap l.0 p) _ (released_grows fits m t heap l.0 p) (λ changed g. left_at heap _ g))

with_grows : (fits : Width) (m : Module) (t : ℕ) (p : Place) (l : Value) (w : Option (Way Value)) (heap : List Object) (f : Frame) (below : List Frame) → Grows heap (ends_with fits m t p l w heap f below)
with_grows fits m t p l w heap f below =
    past _ (pop_receiver p (l ∷ [])) _ (λ r.
    then_gives (HeapGrows heap) _ (released fits m t heap r.0 p) _ (released_grows fits m t heap r.0 p) (λ changed g.
    then_gives (λ (a : After). HeapGrows heap a.heap) _ (goes_further true w (λ x v. Stops halt.NoOperand) changed (without_cap r.0 f) below) _
    (further_grows heap true w (λ x v. Stops halt.NoOperand) changed (without_cap r.0 f) below (λ x v. stops _ _) g) (λ a h. left_at heap _ h)))

starts_grow : (fits : Width) (m : Module) (t : ℕ) (p : Place) (function : ℕ) (heap : List Object) (threads : List ThreadState) (f : Frame) (below : List Frame) → Grows heap (starts fits m t p function heap threads f below)
starts_grow fits m t p function heap threads f below = past _ (pop_receiver p f.stack) _ (λ r. started_grows fits m t heap threads r.0 function p (with_stack r.1 f) below)

joins_grow : (m : Module) (t : ℕ) (p : Place) (function : ℕ) (heap : List Object) (threads : List ThreadState) (f : Frame) (below : List Frame) → Grows heap (joins m t p function heap threads f below)
joins_grow m t p function heap threads f below = past _ (pop_receiver p f.stack) _ (λ r. joined_grows m t heap threads r.0 function p (with_stack r.1 f) below)

pub act_grows : (fits : Width) (m : Module) (t : ℕ) (threads : List ThreadState) (heap : List Object) (f : Frame) (below : List Frame) (i : Item Value) → Grows heap (act fits m t threads heap f below i)
act_grows fits m t threads heap f below item.Begin = stops _ _
act_grows fits m t threads heap f below (item.Called p static back) = stops _ _
act_grows fits m t threads heap f below (item.Finally block) = stops _ _
act_grows fits m t threads heap f below (item.Load i) = past _ (local_at i f.store) _ (λ v. left_at heap _ (same_heap heap))
act_grows fits m t threads heap f below (item.Un p key) = unary_grows fits p key heap f below
act_grows fits m t threads heap f below (item.Bin p key) = binary_grows fits p key heap f below
act_grows fits m t threads heap f below (item.AndThen e) = decides_grows true e heap f below
act_grows fits m t threads heap f below (item.OrElse e) = decides_grows false e heap f below
act_grows fits m t threads heap f below (item.Link key es keys) = links_grow key es keys heap f below
act_grows fits m t threads heap f below (item.Read p n) = reads_grow false p n heap f below
act_grows fits m t threads heap f below (item.ReadKept p n) = reads_grow true p n heap f below
act_grows fits m t threads heap f below (item.Locked p) = past _ (pop_receiver p f.stack) _ (λ l. past _ (operand (locked_of heap l.0)) _ (λ v. left_at heap _ (same_heap heap)))
act_grows fits m t threads heap f below (item.NotNil p) = not_nil_grows p heap f below
act_grows fits m t threads heap f below (item.Call p function n) = calls_grow fits m t p function n heap f below
act_grows fits m t threads heap f below (item.Send p c name n) = sends_grow fits m t p c name n heap f below
act_grows fits m t threads heap f below (item.New p c n) = object_grows fits m t p c n heap f below
act_grows fits m t threads heap f below (item.Super p n) = super_grows fits m t p n heap f below
act_grows fits m t threads heap f below (item.NewLock p c) = lock_grows fits m p c heap f below
act_grows fits m t threads heap f below (item.NewThread p function n) = thread_grows m function n heap f below
act_grows fits m t threads heap f below (item.Store i) = past _ (pop_value f.stack) _ (λ v. past _ (stored i v.0 f.store) _ (λ store. left_at heap _ (same_heap heap)))
act_grows fits m t threads heap f below (item.Write p n) = under_grows false p n heap f below
act_grows fits m t threads heap f below (item.Make p n) = under_grows true p n heap f below
act_grows fits m t threads heap f below (item.WriteBack p n) = back_grows p n heap f below
act_grows fits m t threads heap f below item.Drop = past _ (pop_value f.stack) _ (λ v. left_at heap _ (same_heap heap))
act_grows fits m t threads heap f below (item.Print args) = past _ (pop_arguments (values_wanted args) f.stack) _ (λ vs. left_at heap _ (same_heap heap))
act_grows fits m t threads heap f below (item.Check p) = past _ (pop_truth f.stack) _ (λ b. past _ (tested kind.Assert p b.0) _ (λ _. left_at heap _ (same_heap heap)))
act_grows fits m t threads heap f below (item.Prove p a) = asserts_grow fits m t p a heap f below
act_grows fits m t threads heap f below (item.If a b) = past _ (pop_truth f.stack) _ (λ c. left_at heap _ (same_heap heap))
act_grows fits m t threads heap f below (item.Head p invariant e body) = heads_grow fits m t true p invariant e body heap f below
act_grows fits m t threads heap f below (item.Again p invariant e body) = heads_grow fits m t false p invariant e body heap f below
act_grows fits m t threads heap f below (item.Turn p invariant e body) = turns_grow p invariant e body heap f below
act_grows fits m t threads heap f below (item.Leave w) = out_grows heap false w (leave fits m t heap f below) (λ v. leave_grows heap fits m t heap f below v (same_heap heap)) heap f below (same_heap heap)
act_grows fits m t threads heap f below (item.Raise p c) = out_grows heap false (Raise c p) (leave fits m t heap f below) (λ v. leave_grows heap fits m t heap f below v (same_heap heap)) heap f below (same_heap heap)
act_grows fits m t threads heap f below (item.Return has_value) = returns_grow has_value (λ g v. leave fits m t heap g below v) heap f below (λ g v. leave_grows heap fits m t heap g below v (same_heap heap))
act_grows fits m t threads heap f below (item.Handle c p handlers) = handles_grow m c p handlers heap f below
act_grows fits m t threads heap f below (item.FinallyEnd w) = further_grows heap false w (λ g v. leave fits m t heap g below v) heap f below (λ g v. leave_grows heap fits m t heap g below v (same_heap heap)) (same_heap heap)
act_grows fits m t threads heap f below (item.With p body) = takes_grow t p body heap f below
act_grows fits m t threads heap f below (item.WithEnd p l w) = with_grows fits m t p l w heap f below
act_grows fits m t threads heap f below (item.Acquire p) = acquires_grow t p heap f below
act_grows fits m t threads heap f below (item.Release p) = releases_grow fits m t p heap f below
act_grows fits m t threads heap f below (item.Start p function) = starts_grow fits m t p function heap threads f below
act_grows fits m t threads heap f below (item.Join p function) = joins_grow m t p function heap threads f below
act_grows fits m t threads heap f below (item.Exit v) = leave_grows heap fits m t heap f below v (same_heap heap)
act_grows fits m t threads heap f below (item.Throw c p) = throw_grows heap fits m t heap f below c p (same_heap heap)
act_grows fits m t threads heap f below item.End = leave_grows heap fits m t heap f below Nil (same_heap heap)
act_grows fits m t threads heap f below i = left_at heap _ (same_heap heap)
