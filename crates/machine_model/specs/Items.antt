-- What each control item does. `f` is the running frame without the item, `below` the frames that wait under it, the nearest first, and `t` the number of the thread. Each item makes its tests in the one order that the project lays down: the receiver or value, a start or a join, the holder of a lock, the contracts in turn, and what is left at a thread's end.
use Rattle.std.specs.Prelude.{ℕ, ℤ, Bool, true, false, not, List, [], ◌∷◌, ◌++◌, length, Option, Some, None, slice_get, codes, bytes_eq, drop, if◌then◌else◌}
use Rattle.std.specs.List.{position_or_len}
use Rattle.std.specs.Option.{option_map_or}
use Rattle.std.specs.FinMap as map
use Rattle.py_base.specs.declared.Place.{Place}
use Rattle.py_base.specs.declared.Kind.TheVariants as kind
use Rattle.py_syntax.specs.declared.Value.{Value}
use Rattle.py_syntax.specs.declared.Value.TheVariants.{Num, Truth, Nil, Ref}
use Rattle.py_syntax.specs.declared.Expr.{Expr}
use Rattle.py_syntax.specs.declared.Assertion.{Assertion}
use Rattle.py_syntax.specs.declared.Stmt.{Stmt}
use Rattle.py_syntax.specs.declared.PrintArg.{PrintArg}
use Rattle.py_syntax.specs.declared.Method.{Method}
use Rattle.py_syntax.specs.declared.Module.{Module}
use Rattle.py_syntax.specs.declared.Way.{Way}
use Rattle.py_syntax.specs.declared.Way.TheVariants.{Raise, Return}
use Rattle.py_syntax.specs.declared.Gives.TheVariants.{Result, Made, Nothing}
use Rattle.py_syntax.specs.declared.Item.{Item}
use Rattle.py_syntax.specs.declared.Item.TheVariants as item
use Rattle.py_syntax.specs.ExprItems.{expr_items}
use Rattle.py_syntax.specs.StmtItems.{block_items, values_wanted}
use Rattle.py_syntax.specs.Classes.{base_of, lookup, is_subclass}
use Rattle.machine_model.specs.declared.state.Object.{Object}
use Rattle.machine_model.specs.declared.state.Frame.{Frame}
use Rattle.machine_model.specs.declared.state.ThreadState.{ThreadState}
use Rattle.machine_model.specs.declared.event.EventForm.TheVariants as event
use Rattle.machine_model.specs.declared.halt.Halt.TheVariants as halt
use Rattle.machine_model.specs.Results.{Res, Got, Stops, then_do, of_option, tested, Width, sized}
use Rattle.machine_model.specs.Operators.{binary, unary, divides_by_zero}
use Rattle.machine_model.specs.Heap.{field_of, with_field, locked_of}
use Rattle.machine_model.specs.Duties.{duties_of, lower_than, measure_of}
use Rattle.machine_model.specs.Moments.{at_atom, scene_of, atoms_hold, owns_any, is_bound_by}
use Rattle.machine_model.specs.Frames.{After, operand, pop_value, pop_truth, pop_number, pop_receiver, pop_arguments, local_at, stored, goes_on, stays, stays_with, must_terminate, drop_turns}
use Rattle.machine_model.specs.Calls.{method_at, enter, go_out, leave, throw}
use Rattle.machine_model.specs.Sharing.{acquired, released, without_cap, lock_made, thread_object, started, joined}
use Rattle.machine_model.specs.Printing.{printed}

abbrev pub pushed : Value → Frame → Frame
pushed v f = record f { stack = v ∷ f.stack }

abbrev pub with_stack : List Value → Frame → Frame
with_stack st f = record f { stack = st }

abbrev pub with_control : List (Item Value) → Frame → Frame
with_control control f = record f { control = control }

-- a value that the running frame pushes
abbrev pub pushes : List Object → List Frame → Frame → Res Value → Res After
pushes heap below f r = then_do r (λ v. stays heap (pushed v f) below)

-- the operators
abbrev pub applies_unary : Width → Place → ℕ → List Object → Frame → List Frame → Res After
applies_unary fits p key heap f below =
    then_do (pop_value f.stack) (λ a. pushes heap below (with_stack a.1 f) (then_do (operand (unary key a.0)) (sized fits p)))

abbrev pub applies_binary : Width → Place → ℕ → List Object → Frame → List Frame → Res After
applies_binary fits p key heap f below =
    then_do (pop_value f.stack) (λ b.
    then_do (pop_value b.1) (λ a.
    then_do (tested kind.ZeroDivisor p (not (divides_by_zero key b.0))) (λ _.
    pushes heap below (with_stack a.1 f) (then_do (operand (binary key a.0 b.0)) (sized fits p)))))

-- `and` and `or` go on with the right side where the left one is `on`, and else give the left one
abbrev pub decides : Bool → Expr → List Object → Frame → List Frame → Res After
decides on e heap f below =
    then_do (pop_truth f.stack) (λ a.
    if (if on then a.0 else not a.0) then goes_on heap (record f { control = expr_items e f.control; stack = a.1 } ∷ below)
    else stays heap (with_stack (Truth a.0 ∷ a.1) f) below)

-- a chain goes on with its next operand, keeping the last one
abbrev pub chain_on : Value → List Expr → List ℕ → List Object → Frame → List Frame → Res After
chain_on b (e ∷ es) (key ∷ keys) heap f below = goes_on heap (record f { control = expr_items e (item.Link key es keys ∷ f.control); stack = b ∷ f.stack } ∷ below)
chain_on b (e ∷ es) [] heap f below = Stops halt.NoOperand
chain_on b [] keys heap f below = stays heap (pushed (Truth true) f) below

abbrev pub links : ℕ → List Expr → List ℕ → List Object → Frame → List Frame → Res After
links key es keys heap f below =
    then_do (pop_value f.stack) (λ b.
    then_do (pop_value b.1) (λ a.
    then_do (operand (binary key a.0 b.0)) (λ c.
    then_do (pop_truth (c ∷ a.1)) (λ d.
    if d.0 then chain_on b.0 es keys heap (with_stack d.1 f) below else stays heap (with_stack (Truth false ∷ d.1) f) below))))

-- reads a field of the topmost object; `kept` says that the object stays below
abbrev pub reads_field : Bool → Place → ℕ → List Object → Frame → List Frame → Res After
reads_field kept p n heap f below =
    then_do (pop_receiver p f.stack) (λ o.
    then_do (of_option (halt.Failed kind.NoneReceiver p) (field_of heap o.0 n)) (λ v.
    stays_with (event.Read o.0 n) heap (with_stack (v ∷ (if kept then Ref o.0 ∷ o.1 else o.1)) f) below))

-- writes a value to a field that is there, or makes it
abbrev pub writes_field : Bool → Place → ℕ → ℕ → Value → List Value → List Object → Frame → List Frame → Res After
writes_field makes p n o v st heap f below =
    then_do (tested kind.NoneReceiver p (if makes then true else option_map_or (λ w. true) (field_of heap o n) false)) (λ _.
    then_do (operand (with_field heap o n v)) (λ changed.
    stays_with (event.Wrote o n) changed (with_stack st f) below))

-- the object on top, the value below it
abbrev pub writes_under : Bool → Place → ℕ → List Object → Frame → List Frame → Res After
writes_under makes p n heap f below =
    then_do (pop_receiver p f.stack) (λ o. then_do (pop_value o.1) (λ v. writes_field makes p n o.0 v.0 v.1 heap f below))

-- the value on top, the object below it
abbrev pub writes_back : Place → ℕ → List Object → Frame → List Frame → Res After
writes_back p n heap f below =
    then_do (pop_value f.stack) (λ v. then_do (pop_receiver p v.1) (λ o. writes_field false p n o.0 v.0 o.1 heap f below))

abbrev pub tests_not_nil : Place → List Object → Frame → List Frame → Res After
tests_not_nil p heap f below = then_do (pop_value f.stack) (λ v. elim v.0 as (λ _. Res After) [
  | Nil ↦ Stops (halt.Failed kind.NoneValue p)
  | Num z ↦ stays heap f below
  | Truth b ↦ stays heap f below
  | Ref r ↦ stays heap f below
])

-- calls
abbrev pub calls : Width → Module → ℕ → Place → ℕ → ℕ → List Object → Frame → List Frame → Res After
calls fits m t p function n heap f below =
    then_do (pop_arguments n f.stack) (λ args. enter fits m t heap p function function Result args.0 (with_stack args.1 f) below)

abbrev pub class_at : List Object → ℕ → Res ℕ
class_at heap r = then_do (operand (slice_get heap r)) (λ (o : Object). Got o.class)

abbrev pub sends : Width → Module → ℕ → Place → ℕ → ℕ → ℕ → List Object → Frame → List Frame → Res After
sends fits m t p c name n heap f below =
    then_do (pop_arguments n f.stack) (λ args.
    then_do (pop_receiver p args.1) (λ o.
    then_do (class_at heap o.0) (λ own.
    then_do (operand (lookup m c name)) (λ static.
    then_do (operand (lookup m own name)) (λ target.
    enter fits m t heap p static target Result (Ref o.0 ∷ args.0) (with_stack o.1 f) below)))))

-- the number of the name `__init__`
abbrev pub init_name : Module → ℕ
init_name m = position_or_len (bytes_eq (codes "__init__")) m.names

-- makes an object without fields and enters its `__init__`, where its class has one
abbrev pub makes_object : Width → Module → ℕ → Place → ℕ → ℕ → List Object → Frame → List Frame → Res After
makes_object fits m t p c n heap f below =
    let made : List Object = heap ++ record { class = c; fields = map.empty; lock = None } ∷ [] in
    let r : Value = Ref (length heap) in
    then_do (pop_arguments n f.stack) (λ args. elim (lookup m c (init_name m)) as (λ _. Res After) [
      | None ↦ stays made (with_stack (r ∷ args.1) f) below
      | Some i ↦ enter fits m t made p i i (Made r) (r ∷ args.0) (with_stack args.1 f) below
    ])

-- enters the `__init__` above that of the running method's class, on its `self`
abbrev pub calls_super : Width → Module → ℕ → Place → ℕ → List Object → Frame → List Frame → Res After
calls_super fits m t p n heap f below =
    then_do (pop_arguments n f.stack) (λ args.
    then_do (local_at 0 f.store) (λ receiver.
    then_do (method_at m f.method) (λ (run : Method).
    then_do (operand run.owner) (λ owner.
    then_do (operand (base_of m owner)) (λ base.
    then_do (operand (lookup m base (init_name m))) (λ i.
    enter fits m t heap p i i Nothing (receiver ∷ args.0) (with_stack args.1 f) below))))))

abbrev pub makes_lock : Width → Module → Place → ℕ → List Object → Frame → List Frame → Res After
makes_lock fits m p c heap f below =
    then_do (pop_number f.stack) (λ level.
    then_do (pop_receiver p level.1) (λ o.
    then_do (lock_made fits m heap c o.0 level.0 p) (λ made. stays made (with_stack (Ref (length heap) ∷ o.1) f) below)))

abbrev pub makes_thread : Module → ℕ → ℕ → List Object → Frame → List Frame → Res After
makes_thread m function n heap f below =
    then_do (pop_number f.stack) (λ level.
    then_do (pop_arguments n level.1) (λ args.
    stays (heap ++ thread_object m function level.0 args.0 ∷ []) (with_stack (Ref (length heap) ∷ args.1) f) below))

-- what a loop's head leaves of the measures of open loops: its own is on top
abbrev pub headed : Bool → List Assertion → Option ℤ → List ℤ → List ℤ
headed first invariant None turns = turns
headed first invariant (Some n) turns = if first then n ∷ turns else n ∷ drop 1 turns

-- the measure at the head before, of a loop that has one
abbrev pub last_turn : Bool → List Assertion → List ℤ → Option ℤ
last_turn true invariant turns = None
last_turn false invariant [] = None
last_turn false invariant (n ∷ turns) = if must_terminate invariant then Some n else None

-- A head of a loop: the invariant holds, its measure is at least 0 and lower than at the head before, and a loop of a bound method or of a thread that owns a lock has one.
abbrev pub heads : Width → Module → ℕ → Bool → Place → List Assertion → Expr → List Stmt → List Object → Frame → List Frame → Res After
heads fits m t first p invariant e body heap f below =
    let s = scene_of m heap f.before f.store None in
    then_do (atoms_hold fits m t heap s kind.LoopValue at_atom invariant) (λ _.
    then_do (duties_of fits invariant (lower_than at_atom (last_turn first invariant f.turns) []) s) (λ ds.
    then_do (tested kind.NoMeasure p (if must_terminate invariant then true else (if is_bound_by f.measure then false else not (owns_any heap t)))) (λ _.
    goes_on heap (record f { control = expr_items e (item.Turn p invariant e body ∷ f.control); turns = headed first invariant (measure_of ds) f.turns } ∷ below))))

-- takes a turn, or leaves the loop
abbrev pub turns_or_leaves : Place → List Assertion → Expr → List Stmt → List Object → Frame → List Frame → Res After
turns_or_leaves p invariant e body heap f below =
    then_do (pop_truth f.stack) (λ c.
    if c.0 then stays heap (record f { control = block_items body (item.Again p invariant e body ∷ f.control); stack = c.1 }) below
    else stays heap (record f { stack = c.1; turns = drop_turns (invariant ∷ []) f.turns }) below)

-- goes on with one of two blocks
abbrev pub branches : List Stmt → List Stmt → List Object → Frame → List Frame → Res After
branches a b heap f below =
    then_do (pop_truth f.stack) (λ c. stays heap (record f { control = block_items (if c.0 then a else b) f.control; stack = c.1 }) below)

-- what stands behind a `try` whose `finally` block is this
abbrev pub before_finally : Option (List Stmt) → List (Item Value) → List (Item Value)
before_finally None rest = rest
before_finally (Some block) rest = item.Finally block ∷ rest

abbrev pub prints : List PrintArg → List Object → Frame → List Frame → Res After
prints args heap f below =
    then_do (pop_arguments (values_wanted args) f.stack) (λ vs.
    then_do (stays heap (with_stack vs.1 f) below) (λ a. Got (record a { line = Some (printed args vs.0) })))

abbrev pub checks : Place → List Object → Frame → List Frame → Res After
checks p heap f below = then_do (pop_truth f.stack) (λ b. then_do (tested kind.Assert p b.0) (λ _. stays heap (with_stack b.1 f) below))

-- an `Assert` reads its assertion, and any fault of it stands at the statement
abbrev pub asserts : Width → Module → ℕ → Place → Assertion → List Object → Frame → List Frame → Res After
asserts fits m t p a heap f below =
    then_do (atoms_hold fits m t heap (scene_of m heap f.before f.store None) kind.Assert (λ _. p) (a ∷ [])) (λ _. stays heap f below)

-- `return` with the topmost value, or with None
abbrev pub returns : Bool → (Frame → Value → Res After) → List Object → Frame → List Frame → Res After
returns true ends heap f below = then_do (pop_value f.stack) (λ v. go_out false (Return v.0) (ends f) heap f below)
returns false ends heap f below = go_out false (Return Nil) (ends f) heap f below

-- goes on behind a `finally` block or a `with`: normally, or on the way out
abbrev pub goes_further : Bool → Option (Way Value) → (Frame → Value → Res After) → List Object → Frame → List Frame → Res After
goes_further from_with None ends heap f below = stays heap f below
goes_further from_with (Some w) ends heap f below = go_out from_with w (ends f) heap f below

-- an exception tries the first of the handlers
abbrev pub handles : Module → ℕ → Place → List (ℕ × List Stmt) → List Object → Frame → List Frame → Res After
handles m c p [] heap f below = Stops halt.NoOperand
handles m c p (handler ∷ handlers) heap f below =
    if is_subclass m c handler.0 then stays heap (with_control (block_items handler.1 f.control) f) below else
    elim handlers as (λ _. Res After) [
      | [] ↦ go_out false (Raise c p) (λ v. Stops halt.NoOperand) heap f below
      | h ∷ hs ↦ goes_on heap (with_control (item.Handle c p (h ∷ hs) ∷ f.control) f ∷ below)
    ]

-- takes a lock and goes on with the body of a `with`
abbrev pub takes_with : ℕ → Place → List Stmt → List Object → Frame → List Frame → Res After
takes_with t p body heap f below =
    then_do (pop_receiver p f.stack) (λ l.
    then_do (acquired t heap l.0) (λ changed.
    stays_with (event.Acquired l.0) changed (record f { control = block_items body (item.WithEnd p (Ref l.0) None ∷ f.control); stack = l.1 }) below))

abbrev pub acquires : ℕ → Place → List Object → Frame → List Frame → Res After
acquires t p heap f below =
    then_do (pop_receiver p f.stack) (λ l. then_do (acquired t heap l.0) (λ changed. stays_with (event.Acquired l.0) changed (with_stack l.1 f) below))

abbrev pub releases : Width → Module → ℕ → Place → List Object → Frame → List Frame → Res After
releases fits m t p heap f below =
    then_do (pop_receiver p f.stack) (λ l.
    then_do (released fits m t heap l.0 p) (λ changed. stays_with (event.Released l.0) changed (without_cap l.0 (with_stack l.1 f)) below))

-- gives the lock of a `with` back and goes further
abbrev pub ends_with : Width → Module → ℕ → Place → Value → Option (Way Value) → List Object → Frame → List Frame → Res After
ends_with fits m t p l w heap f below =
    then_do (pop_receiver p (l ∷ [])) (λ r.
    then_do (released fits m t heap r.0 p) (λ changed.
    then_do (goes_further true w (λ g v. Stops halt.NoOperand) changed (without_cap r.0 f) below) (λ a. Got (record a { event = Some (event.Released r.0) }))))

abbrev pub starts : Width → Module → ℕ → Place → ℕ → List Object → List ThreadState → Frame → List Frame → Res After
starts fits m t p function heap threads f below =
    then_do (pop_receiver p f.stack) (λ r. started fits m t heap threads r.0 function p (with_stack r.1 f) below)

abbrev pub joins : Module → ℕ → Place → ℕ → List Object → List ThreadState → Frame → List Frame → Res After
joins m t p function heap threads f below =
    then_do (pop_receiver p f.stack) (λ r. joined m t heap threads r.0 function p (with_stack r.1 f) below)

-- Thread t does an item.
abbrev pub act : Width → Module → ℕ → List ThreadState → List Object → Frame → List Frame → Item Value → Res After
act fits m t threads heap f below item.Begin = Stops halt.NoOperand
act fits m t threads heap f below (item.Called p static gives) = Stops halt.NoOperand
act fits m t threads heap f below (item.Finally block) = Stops halt.NoOperand
act fits m t threads heap f below (item.Num n) = stays heap (pushed (Num n) f) below
act fits m t threads heap f below (item.Truth b) = stays heap (pushed (Truth b) f) below
act fits m t threads heap f below item.Nil = stays heap (pushed Nil f) below
act fits m t threads heap f below (item.Load i) = pushes heap below f (local_at i f.store)
act fits m t threads heap f below (item.Un p key) = applies_unary fits p key heap f below
act fits m t threads heap f below (item.Bin p key) = applies_binary fits p key heap f below
act fits m t threads heap f below (item.AndThen e) = decides true e heap f below
act fits m t threads heap f below (item.OrElse e) = decides false e heap f below
act fits m t threads heap f below (item.Link key es keys) = links key es keys heap f below
act fits m t threads heap f below (item.Read p n) = reads_field false p n heap f below
act fits m t threads heap f below (item.ReadKept p n) = reads_field true p n heap f below
act fits m t threads heap f below (item.Locked p) = then_do (pop_receiver p f.stack) (λ l. pushes heap below (with_stack l.1 f) (operand (locked_of heap l.0)))
act fits m t threads heap f below (item.NotNil p) = tests_not_nil p heap f below
act fits m t threads heap f below (item.Call p function n) = calls fits m t p function n heap f below
act fits m t threads heap f below (item.Send p c name n) = sends fits m t p c name n heap f below
act fits m t threads heap f below (item.New p c n) = makes_object fits m t p c n heap f below
act fits m t threads heap f below (item.Super p n) = calls_super fits m t p n heap f below
act fits m t threads heap f below (item.NewLock p c) = makes_lock fits m p c heap f below
act fits m t threads heap f below (item.NewThread p function n) = makes_thread m function n heap f below
act fits m t threads heap f below item.Pass = stays heap f below
act fits m t threads heap f below (item.Store i) = then_do (pop_value f.stack) (λ v. then_do (stored i v.0 f.store) (λ store. stays heap (record f { stack = v.1; store = store }) below))
act fits m t threads heap f below (item.Write p n) = writes_under false p n heap f below
act fits m t threads heap f below (item.Make p n) = writes_under true p n heap f below
act fits m t threads heap f below (item.WriteBack p n) = writes_back p n heap f below
act fits m t threads heap f below item.Drop = then_do (pop_value f.stack) (λ v. stays heap (with_stack v.1 f) below)
act fits m t threads heap f below (item.Print args) = prints args heap f below
act fits m t threads heap f below (item.Check p) = checks p heap f below
act fits m t threads heap f below (item.Prove p a) = asserts fits m t p a heap f below
act fits m t threads heap f below (item.Fold p i) = stays heap f below
act fits m t threads heap f below (item.Unfold p i) = stays heap f below
act fits m t threads heap f below (item.If a b) = branches a b heap f below
act fits m t threads heap f below (item.Head p invariant e body) = heads fits m t true p invariant e body heap f below
act fits m t threads heap f below (item.Again p invariant e body) = heads fits m t false p invariant e body heap f below
act fits m t threads heap f below (item.Turn p invariant e body) = turns_or_leaves p invariant e body heap f below
act fits m t threads heap f below (item.Leave w) = go_out false w (leave fits m t heap f below) heap f below
act fits m t threads heap f below (item.Raise p c) = go_out false (Raise c p) (leave fits m t heap f below) heap f below
act fits m t threads heap f below (item.Return has_value) = returns has_value (λ g v. leave fits m t heap g below v) heap f below
act fits m t threads heap f below (item.Try body handlers other last) = stays heap (with_control (block_items body (item.TryEnd handlers other ∷ before_finally last f.control)) f) below
act fits m t threads heap f below (item.TryEnd handlers other) = stays heap (with_control (block_items other f.control) f) below
act fits m t threads heap f below (item.Handle c p handlers) = handles m c p handlers heap f below
act fits m t threads heap f below (item.FinallyEnd w) = goes_further false w (λ g v. leave fits m t heap g below v) heap f below
act fits m t threads heap f below (item.With p body) = takes_with t p body heap f below
act fits m t threads heap f below (item.WithEnd p l w) = ends_with fits m t p l w heap f below
act fits m t threads heap f below (item.Acquire p) = acquires t p heap f below
act fits m t threads heap f below (item.Release p) = releases fits m t p heap f below
act fits m t threads heap f below (item.Start p function) = starts fits m t p function heap threads f below
act fits m t threads heap f below (item.Join p function) = joins m t p function heap threads f below
act fits m t threads heap f below (item.Exit v) = leave fits m t heap f below v
act fits m t threads heap f below (item.Throw c p) = throw fits m t heap f below c p
act fits m t threads heap f below item.End = leave fits m t heap f below Nil
