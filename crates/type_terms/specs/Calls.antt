-- Calls. What is called is a function, a class or a method; in code neither `main` nor `__init__` nor a predicate or pure
-- function, and in a contract only a pure function, or a predicate as an atom (rule 10). Arguments have the count (at the call)
-- and the types (at the argument) of the parameters (rule 9), and those of a contract their own (rule 24). `acquire` and
-- `release` are statements (rule 14), `start` and `join` are statements and name a function (rule 15), `print` is a statement
-- (rule 17), and a call without a result isn't a value (rule 23).
use Rattle.std.specs.Prelude.{ℕ, suc, Bool, true, false, ◌&&◌, ◌||◌, not, nat_eq, nat_le, List, [], ◌∷◌, ◌++◌, length, map, flat_map, slice_get, Option, Some, None, is_some, option_and_then, if◌then◌else◌, codes, bytes_eq}
use Rattle.std.specs.Option.{option_map_or}
use Rattle.py_base.specs.declared.Place.{Place}
use Rattle.py_syntax.specs.declared.Ty.{Ty}
use Rattle.py_syntax.specs.declared.Ty.TheVariants as types
use Rattle.py_syntax.specs.declared.Class.{Class}
use Rattle.class_table.specs.declared.Classes.{Classes}
use Rattle.type_base.specs.declared.Fault.{Fault}
use Rattle.type_base.specs.Types.{is_exception, locked_by}
use Rattle.type_names.specs.declared.Position.{Position}
use Rattle.type_names.specs.declared.Position.TheVariants as positions
use Rattle.type_names.specs.declared.Contract.{Contract}
use Rattle.type_names.specs.declared.Contract.TheVariants as contracts
use Rattle.type_names.specs.declared.Meaning.{Meaning}
use Rattle.type_names.specs.declared.Meaning.TheVariants as meanings
use Rattle.type_names.specs.declared.Want.{Want}
use Rattle.type_names.specs.declared.Want.TheVariants as wants
use Rattle.type_names.specs.declared.Worth.{Worth}
use Rattle.type_names.specs.declared.Given.{Given}
use Rattle.type_names.specs.declared.Label.{Label}
use Rattle.type_names.specs.declared.Label.TheVariants as labels
use Rattle.type_names.specs.declared.FunctionSort.{FunctionSort}
use Rattle.type_names.specs.declared.FunctionSort.TheVariants as sorts
use Rattle.type_names.specs.declared.Signature.{Signature}
use Rattle.type_names.specs.declared.Scope.{Scope}
use Rattle.type_names.specs.Fitting.{is_thread_type, mistyped, mistyped_if, is_void, want_faults, wanted_faults, unless_void}
use Rattle.type_names.specs.Operands.{class_in}
use Rattle.type_names.specs.Names.{method_of, base_of}
use Rattle.type_names.specs.Positions.{inner, is_in_contract, is_statement, is_atom, is_instance}

-- Where the argument of this number stands.
abbrev pub consequent : Position → Position
consequent positions.Atom = positions.Atom
consequent at = positions.Term

abbrev pub first_then : {X : Type 0} → ℕ → X → X → X
first_then k a b = if nat_eq k 0 then a else b

abbrev pub contract_position : Contract → Position → ℕ → Position
contract_position contracts.Requires at k = positions.Atom
contract_position contracts.Ensures at k = positions.Atom
contract_position contracts.Invariant at k = positions.Atom
contract_position contracts.Assert at k = positions.Atom
contract_position contracts.Exsures at k = first_then k positions.Reference positions.Atom
contract_position contracts.Fold at k = positions.Instance
contract_position contracts.Unfold at k = positions.Instance
contract_position contracts.Unfolding at k = first_then k positions.Instance positions.Term
contract_position contracts.Acc at k = first_then k positions.Location positions.Amount
contract_position contracts.Implies at k = first_then k positions.Term (consequent at)
contract_position contracts.MayJoin at k = if nat_eq k 1 then positions.Reference else positions.Term
contract_position c at k = positions.Term

-- the function that a meaning names
abbrev pub function_in : Meaning → Option ℕ
function_in (meanings.Function n) = Some n
function_in m = None

-- a thread's target, its arguments, which are for the target, and its level
abbrev pub thread_position : ℕ → Meaning → Position
thread_position k before = first_then k positions.Reference (if nat_eq k 1 then positions.Passed (function_in before) else positions.Value)

-- where the argument of number k stands, behind one of that meaning
abbrev pub argument_position : Meaning → Position → ℕ → Meaning → Position
argument_position (meanings.Contract c) at k before = contract_position c at k
argument_position meanings.Print at k before = positions.Printed
argument_position meanings.Start at k before = positions.Reference
argument_position meanings.Join at k before = positions.Reference
argument_position meanings.Thread at k before = thread_position k before
argument_position m at k before = inner at

abbrev pub worths : List Given → List Worth
worths = map (λ (g : Given). g.worth)

-- Arguments by their parameters. A parameter whose annotation is no type takes everything.
abbrev pub parameter_at : List (Option Ty) → ℕ → Option Ty
parameter_at params k = option_and_then (λ (ty : Option Ty). ty) (slice_get params k)

-- those from number k on
abbrev pub each_fits : List Class → ℕ → List (Option Ty) → ℕ → List Worth → List Fault
each_fits cs rule params k [] = []
each_fits cs rule params k (w ∷ ws) = wanted_faults cs rule (parameter_at params k) w ++ each_fits cs rule params (suc k) ws

abbrev pub argument_faults : List Class → ℕ → Place → List (Option Ty) → List Worth → List Fault
argument_faults cs rule p params ws = if nat_eq (length params) (length ws) then each_fits cs rule params 0 ws else mistyped p rule

abbrev pub parameters_at : List Signature → ℕ → List (Option Ty)
parameters_at fs n = option_map_or (λ (f : Signature). f.parameters) (slice_get fs n) []

abbrev pub result_at : List Signature → ℕ → Option Ty
result_at fs n = option_and_then (λ (f : Signature). f.result) (slice_get fs n)

-- a call without a result as a value
abbrev pub void_faults : Position → Place → Option Ty → List Fault
void_faults at p None = []
void_faults at p (Some t) = mistyped_if (is_void t && not (is_statement at)) p 23

-- Functions.
abbrev pub may_call : Bool → Bool → FunctionSort → Bool
may_call in_contract atom sorts.Code = not in_contract
may_call in_contract atom sorts.Predicate = atom
may_call in_contract atom sorts.Pure = in_contract

abbrev pub is_function_called : Position → Signature → Bool
is_function_called at f = may_call (is_in_contract at) (is_atom at) f.sort && not (bytes_eq f.name (codes "main"))

abbrev pub is_code : FunctionSort → Bool
is_code sorts.Code = true
is_code s = false

abbrev pub is_method_called : Position → Signature → Bool
is_method_called at f = not (is_in_contract at) && (is_code f.sort && not (bytes_eq f.name (codes "__init__")))

abbrev pub called_faults : Classes → List Signature → Position → Place → ℕ → List Worth → Bool → List Fault
called_faults cs fs at p n ws allowed = mistyped_if (not allowed) p 10 ++ (argument_faults cs.list 9 p (parameters_at fs n) ws ++ void_faults at p (result_at fs n))

abbrev pub passes : (Signature → Bool) → List Signature → ℕ → Bool
passes test fs n = option_map_or test (slice_get fs n) false

-- Classes: an object is made by the arguments of its `__init__`, a lock by its object and its level.
abbrev pub init_parameters : List Signature → Option ℕ → List (Option Ty)
init_parameters fs None = []
init_parameters fs (Some n) = parameters_at fs n

abbrev pub making_parameters : Option ℕ → List (Option Ty) → List (Option Ty)
making_parameters None params = params
making_parameters (Some c) params = Some (types.Obj c) ∷ Some types.Int ∷ []

abbrev pub class_parameters : Classes → List Signature → ℕ → List (Option Ty)
class_parameters cs fs k = making_parameters (locked_by cs k) (init_parameters fs (method_of cs fs (Some k) (codes "__init__")))

abbrev pub class_faults : Classes → List Signature → Position → Place → ℕ → List Worth → List Fault
class_faults cs fs at p k ws = if is_exception cs k || is_in_contract at then mistyped p 10 else argument_faults cs.list 9 p (class_parameters cs fs k) ws

abbrev pub class_type : Classes → ℕ → Option Ty
class_type cs k = if is_exception cs k then None else Some (types.Obj k)

-- the `__init__` above the class of the method
abbrev pub super_faults : Classes → List Signature → Scope → Place → List Worth → List Fault
super_faults cs fs sc p ws = elim (method_of cs fs (base_of cs sc.owner) (codes "__init__")) as (λ _. List Fault) [
  | None ↦ []
  | Some n ↦ argument_faults cs.list 9 p (parameters_at fs n) ws
]

-- Names of functions as arguments.
abbrev pub is_function : Meaning → Bool
is_function (meanings.Function n) = true
is_function m = false

abbrev pub function_fault : ℕ → Worth → List Fault
function_fault rule w = mistyped_if (not (is_function w.meaning)) w.place rule

-- the methods of locks and threads, which stand alone, with so many arguments
abbrev pub lone_faults : List Class → ℕ → Position → Place → List (Option Ty) → List Worth → List Fault
lone_faults cs rule at p params ws = argument_faults cs 9 p params ws ++ mistyped_if (not (is_statement at)) p rule

-- Contracts: their count, what they want of their arguments, and what they give.
abbrev pub is_one_or_two : ℕ → Bool
is_one_or_two n = nat_eq n 1 || nat_eq n 2

abbrev pub contract_takes : Contract → ℕ → Bool
contract_takes contracts.Result n = nat_eq n 0
contract_takes contracts.WaitLevel n = nat_eq n 0
contract_takes contracts.Acc n = is_one_or_two n
contract_takes contracts.MustRelease n = is_one_or_two n
contract_takes contracts.Implies n = nat_eq n 2
contract_takes contracts.Exsures n = nat_eq n 2
contract_takes contracts.Unfolding n = nat_eq n 2
contract_takes contracts.MayJoin n = nat_le 2 n
contract_takes c n = nat_eq n 1

abbrev pub contract_want : Contract → ℕ → Want
contract_want contracts.Implies k = wants.Type types.Bool
contract_want contracts.Level k = wants.LockOrThread
contract_want contracts.MustTerminate k = wants.Type types.Int
contract_want contracts.MustRelease k = first_then k wants.Lock (wants.Type types.Int)
contract_want contracts.MayJoin k = first_then k (wants.Type types.Thr) (if nat_eq k 1 then wants.Function else wants.Anything)
contract_want c k = wants.Anything

abbrev pub is_lock_class : Classes → Option ℕ → Bool
is_lock_class cs None = false
is_lock_class cs (Some c) = is_some (locked_by cs c)

abbrev pub is_lock : Classes → Ty → Bool
is_lock cs t = is_lock_class cs (class_in t)

abbrev pub lock_fault : Classes → ℕ → Place → Option Ty → List Fault
lock_fault cs rule p None = []
lock_fault cs rule p (Some t) = mistyped_if (not (is_lock cs t)) p rule

abbrev pub level_fault : Classes → Place → Option Ty → List Fault
level_fault cs p None = []
level_fault cs p (Some t) = mistyped_if (not (is_lock cs t || is_thread_type t)) p 24

abbrev pub need_faults : Classes → Want → Worth → List Fault
need_faults cs wants.Anything w = []
need_faults cs (wants.Type t) w = want_faults cs.list 24 t w
need_faults cs wants.Lock w = lock_fault cs 24 w.place w.ty
need_faults cs wants.LockOrThread w = level_fault cs w.place w.ty
need_faults cs wants.Function w = function_fault 24 w

abbrev pub needs_faults : Classes → Contract → ℕ → List Worth → List Fault
needs_faults cs c k [] = []
needs_faults cs c k (w ∷ ws) = need_faults cs (contract_want c k) w ++ needs_faults cs c (suc k) ws

-- the arguments of the function that may be joined
abbrev pub target_faults : Classes → List Signature → Place → Meaning → List Worth → List Fault
target_faults cs fs p (meanings.Function n) ws = argument_faults cs.list 24 p (parameters_at fs n) ws
target_faults cs fs p m ws = []

abbrev pub join_faults : Classes → List Signature → Place → Contract → List Worth → List Fault
join_faults cs fs p contracts.MayJoin (t ∷ f ∷ ws) = target_faults cs fs p f.meaning ws
join_faults cs fs p c ws = []

abbrev pub contract_faults : Classes → List Signature → Place → Contract → List Worth → List Fault
contract_faults cs fs p c ws = if contract_takes c (length ws) then needs_faults cs c 0 ws ++ join_faults cs fs p c ws else mistyped p 24

abbrev pub type_at : ℕ → List Worth → Option Ty
type_at k ws = option_and_then (λ (w : Worth). w.ty) (slice_get ws k)

-- the type that a result has as a value
abbrev pub value_type : Option Ty → Option Ty
value_type ty = option_and_then unless_void ty

abbrev pub contract_type : Scope → Contract → List Worth → Option Ty
contract_type sc contracts.Acc ws = Some types.Bool
contract_type sc contracts.Implies ws = Some types.Bool
contract_type sc contracts.MustTerminate ws = Some types.Bool
contract_type sc contracts.MustRelease ws = Some types.Bool
contract_type sc contracts.MayJoin ws = Some types.Bool
contract_type sc contracts.Level ws = Some types.Int
contract_type sc contracts.WaitLevel ws = Some types.Int
contract_type sc contracts.Result ws = value_type sc.result
contract_type sc contracts.Old ws = type_at 0 ws
contract_type sc contracts.Unfolding ws = type_at 1 ws
contract_type sc c ws = None

-- The instance that `Fold`, `Unfold` and `Unfolding` name, where it is one of a predicate.
abbrev pub is_predicate : Signature → Bool
is_predicate f = elim f.sort as (λ _. Bool) [ sorts.Code ↦ false | sorts.Predicate ↦ true | sorts.Pure ↦ false ]

abbrev pub instance_faults : Classes → List Signature → Place → Meaning → List Worth → List Fault
instance_faults cs fs p (meanings.Function n) ws = if passes is_predicate fs n then argument_faults cs.list 9 p (parameters_at fs n) ws else []
instance_faults cs fs p m ws = []

-- The faults of a call of what stands at p.
abbrev pub meaning_faults : Classes → List Signature → Scope → Position → Place → Meaning → List Worth → List Fault
meaning_faults cs fs sc at p meanings.Plain ws = mistyped p 10
meaning_faults cs fs sc at p meanings.Nothing ws = mistyped p 10
meaning_faults cs fs sc at p meanings.Unknown ws = []
meaning_faults cs fs sc at p (meanings.Function n) ws = called_faults cs fs at p n ws (passes (is_function_called at) fs n)
meaning_faults cs fs sc at p (meanings.Method n) ws = called_faults cs fs at p n ws (passes (is_method_called at) fs n)
meaning_faults cs fs sc at p (meanings.Class k) ws = class_faults cs fs at p k ws
meaning_faults cs fs sc at p (meanings.Contract c) ws = contract_faults cs fs p c ws
meaning_faults cs fs sc at p meanings.Print ws = mistyped_if (not (is_statement at)) p 17
meaning_faults cs fs sc at p meanings.Super ws = []
meaning_faults cs fs sc at p meanings.SuperInit ws = super_faults cs fs sc p ws
meaning_faults cs fs sc at p meanings.Thread ws = mistyped p 10
meaning_faults cs fs sc at p (meanings.GetLocked c) ws = argument_faults cs.list 9 p [] ws
meaning_faults cs fs sc at p meanings.Acquire ws = lone_faults cs.list 14 at p [] ws
meaning_faults cs fs sc at p meanings.Release ws = lone_faults cs.list 14 at p [] ws
meaning_faults cs fs sc at p meanings.Start ws = lone_faults cs.list 15 at p (None ∷ []) ws ++ flat_map (function_fault 15) ws
meaning_faults cs fs sc at p meanings.Join ws = lone_faults cs.list 15 at p (None ∷ []) ws ++ flat_map (function_fault 15) ws
meaning_faults cs fs sc at p (meanings.Label l) ws = []

-- Threads, which are made in code alone: exactly a target, which is a name, its arguments and a level, an int (rule 15).
abbrev pub is_thread : Meaning → Bool
is_thread meanings.Thread = true
is_thread m = false

abbrev pub is_label : Label → Meaning → Bool
is_label labels.Target (meanings.Label labels.Target) = true
is_label labels.Arguments (meanings.Label labels.Arguments) = true
is_label labels.Level (meanings.Label labels.Level) = true
is_label l m = false

abbrev pub is_named : Meaning → Bool
is_named meanings.Plain = false
is_named m = true

abbrev pub thread_faults : List Class → Place → List Given → List Fault
thread_faults cs p (target ∷ passed ∷ level ∷ []) =
    if is_label labels.Target target.label && (is_label labels.Arguments passed.label && is_label labels.Level level.label)
    then mistyped_if (not (is_named target.worth.meaning)) target.worth.place 15 ++ want_faults cs 9 types.Int level.worth
    else mistyped p 15
thread_faults cs p gs = mistyped p 15

abbrev pub code_faults : Classes → List Signature → Scope → Position → Worth → List Given → List Fault
code_faults cs fs sc at w gs = if is_thread w.meaning && not (is_in_contract at) then thread_faults cs.list w.place gs else meaning_faults cs fs sc at w.place w.meaning (worths gs)

abbrev pub call_faults : Classes → List Signature → Scope → Position → Worth → List Given → List Fault
call_faults cs fs sc at w gs = if is_instance at then instance_faults cs fs w.place w.meaning (worths gs) else code_faults cs fs sc at w gs

-- The type of a call.
abbrev pub meaning_type : Classes → List Signature → Scope → Meaning → List Worth → Option Ty
meaning_type cs fs sc (meanings.Function n) ws = result_at fs n
meaning_type cs fs sc (meanings.Method n) ws = result_at fs n
meaning_type cs fs sc (meanings.Class k) ws = class_type cs k
meaning_type cs fs sc (meanings.Contract c) ws = contract_type sc c ws
meaning_type cs fs sc (meanings.GetLocked c) ws = Some (types.Obj c)
meaning_type cs fs sc meanings.Thread ws = Some types.Thr
meaning_type cs fs sc m ws = None

-- `super()` is known as such where its `__init__` is called
abbrev pub call_meaning : Meaning → Meaning
call_meaning meanings.Super = meanings.Super
call_meaning m = meanings.Plain
