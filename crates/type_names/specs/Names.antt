-- What names mean. A parameter or local hides a function or class of its name in the whole method; the names that are built in are
-- never hidden. Of the functions and methods of a text each has a number in the list of their signatures.
use Rattle.std.specs.Prelude.{ℕ, Bool, true, false, ◌&&◌, nat_eq, List, length, find, position, Option, Some, None, is_some, option_and_then, if◌then◌else◌, codes, bytes_eq}
use Rattle.std.specs.Option.{option_map, option_or}
use Rattle.py_syntax.specs.declared.Ty.{Ty}
use Rattle.py_syntax.specs.declared.Ty.TheVariants as types
use Rattle.class_table.specs.declared.Classes.{Classes}
use Rattle.class_table.specs.Lookup.{base_in, chain_from}
use Rattle.type_base.specs.Types.{class_named, locked_by}
use Rattle.type_base.specs.Members.{first_in}
use Rattle.type_names.specs.declared.meaning.Contract.{Contract}
use Rattle.type_names.specs.declared.meaning.Contract.TheVariants as contracts
use Rattle.type_names.specs.declared.meaning.Label.TheVariants as labels
use Rattle.type_names.specs.declared.meaning.Meaning.{Meaning}
use Rattle.type_names.specs.declared.meaning.Meaning.TheVariants as meanings
use Rattle.type_names.specs.declared.signature.Signature.{Signature}
use Rattle.type_names.specs.declared.signature.Variable.{Variable}
use Rattle.type_names.specs.declared.signature.Scope.{Scope}

-- The names of a method.
abbrev pub is_variable_called : List ℕ → Variable → Bool
is_variable_called word v = bytes_eq word v.name

abbrev pub variable_in : List Variable → List ℕ → Option Variable
variable_in vs word = find (is_variable_called word) vs

-- The contracts by their names: those that stand as statements, those of instances, those of fields and values, and those of
-- duties, joins and levels.
abbrev pub heading_named : List ℕ → Option Contract
heading_named word =
    if bytes_eq word (codes "Requires") then Some contracts.Requires
    else if bytes_eq word (codes "Ensures") then Some contracts.Ensures
    else if bytes_eq word (codes "Exsures") then Some contracts.Exsures
    else if bytes_eq word (codes "Invariant") then Some contracts.Invariant
    else if bytes_eq word (codes "Assert") then Some contracts.Assert
    else None

abbrev pub instance_named : List ℕ → Option Contract
instance_named word =
    if bytes_eq word (codes "Fold") then Some contracts.Fold
    else if bytes_eq word (codes "Unfold") then Some contracts.Unfold
    else if bytes_eq word (codes "Unfolding") then Some contracts.Unfolding
    else None

abbrev pub term_named : List ℕ → Option Contract
term_named word =
    if bytes_eq word (codes "Acc") then Some contracts.Acc
    else if bytes_eq word (codes "Implies") then Some contracts.Implies
    else if bytes_eq word (codes "Old") then Some contracts.Old
    else if bytes_eq word (codes "Result") then Some contracts.Result
    else None

abbrev pub duty_named : List ℕ → Option Contract
duty_named word =
    if bytes_eq word (codes "Level") then Some contracts.Level
    else if bytes_eq word (codes "MustTerminate") then Some contracts.MustTerminate
    else if bytes_eq word (codes "MustRelease") then Some contracts.MustRelease
    else if bytes_eq word (codes "MayJoin") then Some contracts.MayJoin
    else if bytes_eq word (codes "WaitLevel") then Some contracts.WaitLevel
    else None

abbrev pub contract_named : List ℕ → Option Contract
contract_named word = option_or (heading_named word) (option_or (instance_named word) (option_or (term_named word) (duty_named word)))

abbrev pub contract_meaning : Option Contract → Option Meaning
contract_meaning c = option_map meanings.Contract c

-- the other names that are built in and may be called
abbrev pub built_in_meaning : List ℕ → Option Meaning
built_in_meaning word =
    if bytes_eq word (codes "print") then Some meanings.Print
    else if bytes_eq word (codes "super") then Some meanings.Super
    else if bytes_eq word (codes "Thread") then Some meanings.Thread
    else contract_meaning (contract_named word)

-- A function of the module, by its number.
abbrev pub has_owner : Option ℕ → Option ℕ → Bool
has_owner None None = true
has_owner (Some c) (Some d) = nat_eq c d
has_owner a b = false

abbrev pub is_signature_of : Option ℕ → List ℕ → Signature → Bool
is_signature_of owner word f = has_owner owner f.owner && bytes_eq word f.name

abbrev pub signature_of : List Signature → Option ℕ → List ℕ → Option ℕ
signature_of fs owner word = position (is_signature_of owner word) fs

-- the method of a name in a class, if any, or the nearest class above it
abbrev pub method_of : Classes → List Signature → Option ℕ → List ℕ → Option ℕ
method_of cs fs c word = first_in (λ k. signature_of fs (Some k) word) (chain_from cs.list (length cs.list) c)

-- the class above that of a method
abbrev pub base_of : Classes → Option ℕ → Option ℕ
base_of cs owner = option_and_then (base_in cs.list) owner

abbrev pub function_meaning : Option ℕ → Option Meaning
function_meaning n = option_map meanings.Function n

abbrev pub class_meaning : Option ℕ → Meaning
class_meaning None = meanings.Nothing
class_meaning (Some c) = meanings.Class c

abbrev pub or_meaning : Option Meaning → Meaning → Meaning
or_meaning None m = m
or_meaning (Some m) n = m

-- what a name means that isn't hidden: what is built in, a function, a class, or nothing
abbrev pub declared_meaning : Classes → List Signature → List ℕ → Meaning
declared_meaning cs fs word = or_meaning (built_in_meaning word) (or_meaning (function_meaning (signature_of fs None word)) (class_meaning (class_named cs word)))

-- what a name means where it is called or named
abbrev pub name_meaning : Classes → List Signature → Scope → List ℕ → Meaning
name_meaning cs fs sc word = if is_some (variable_in sc.variables word) then meanings.Nothing else declared_meaning cs fs word

-- The methods of locks, over the class c, and of threads.
abbrev pub lock_meaning : ℕ → List ℕ → Option Meaning
lock_meaning c word =
    if bytes_eq word (codes "get_locked") then Some (meanings.GetLocked c)
    else if bytes_eq word (codes "acquire") then Some meanings.Acquire
    else if bytes_eq word (codes "release") then Some meanings.Release
    else None

abbrev pub thread_meaning : List ℕ → Option Meaning
thread_meaning word =
    if bytes_eq word (codes "start") then Some meanings.Start
    else if bytes_eq word (codes "join") then Some meanings.Join
    else None

abbrev pub own_lock_meaning : Option ℕ → List ℕ → Option Meaning
own_lock_meaning None word = None
own_lock_meaning (Some c) word = lock_meaning c word

-- a method of an object of class c
abbrev pub object_meaning : Classes → List Signature → ℕ → List ℕ → Option Meaning
object_meaning cs fs c word = option_or (own_lock_meaning (locked_by cs c) word) (option_map meanings.Method (method_of cs fs (Some c) word))

-- a method of a receiver of this type
abbrev pub method_meaning : Classes → List Signature → Ty → List ℕ → Option Meaning
method_meaning cs fs types.Thr word = thread_meaning word
method_meaning cs fs (types.Obj c) word = object_meaning cs fs c word
method_meaning cs fs (types.Opt c) word = object_meaning cs fs c word
method_meaning cs fs t word = None

-- the names of the arguments of a thread
abbrev pub label_meaning : List ℕ → Meaning
label_meaning word =
    if bytes_eq word (codes "target") then meanings.Label labels.Target
    else if bytes_eq word (codes "args") then meanings.Label labels.Arguments
    else if bytes_eq word (codes "level") then meanings.Label labels.Level
    else meanings.Nothing
