-- Which types fit where another is wanted (rules 3, 4, 5, 9, 11 and 24). A subclass fits where its base is wanted, a class and
-- its `Optional` fit one another (a test that the value isn't None is inserted), None fits an `Optional`, and a `bool` doesn't
-- fit `int`.
use Rattle.std.specs.Prelude.{ℕ, Bool, true, false, ◌||◌, List, [], ◌∷◌, Option, Some, None, if◌then◌else◌}
use Rattle.py_base.specs.declared.Place.{Place}
use Rattle.py_syntax.specs.declared.Ty.{Ty}
use Rattle.py_syntax.specs.declared.Ty.TheVariants as types
use Rattle.py_syntax.specs.declared.Class.{Class}
use Rattle.class_table.specs.Lookup.{is_subclass}
use Rattle.type_base.specs.declared.Fault.{Fault}
use Rattle.type_base.specs.declared.Rank.TheVariants as ranks
use Rattle.type_base.specs.Faults.{fault}
use Rattle.type_names.specs.declared.meaning.Worth.{Worth}

abbrev pub mistyped : Place → ℕ → List Fault
mistyped p rule = fault p (ranks.Mistyped rule) ∷ []

abbrev pub mistyped_if : Bool → Place → ℕ → List Fault
mistyped_if true p rule = mistyped p rule
mistyped_if false p rule = []

abbrev pub is_int : Ty → Bool
is_int types.Int = true
is_int t = false

abbrev pub is_bool : Ty → Bool
is_bool types.Bool = true
is_bool t = false

abbrev pub is_void : Ty → Bool
is_void types.Void = true
is_void t = false

abbrev pub is_thread_type : Ty → Bool
is_thread_type types.Thr = true
is_thread_type t = false

-- a reference to an object of class d or of one below it
abbrev pub is_below : List Class → ℕ → Ty → Bool
is_below cs d (types.Obj c) = is_subclass cs c d
is_below cs d (types.Opt c) = is_subclass cs c d
is_below cs d t = false

-- whether the second type fits where the first is wanted
abbrev pub fits : List Class → Ty → Ty → Bool
fits cs types.Int t = is_int t
fits cs types.Bool t = is_bool t
fits cs types.Void t = is_void t
fits cs types.Thr t = is_thread_type t
fits cs (types.Obj d) t = is_below cs d t
fits cs (types.Opt d) t = is_void t || is_below cs d t

-- the fault of a value that doesn't fit: a `bool` where an `int` is wanted is told as such
abbrev pub misfit : ℕ → Place → Ty → Ty → List Fault
misfit rule p types.Int types.Bool = fault p ranks.BoolAsInt ∷ []
misfit rule p want t = mistyped p rule

abbrev pub fit_faults : List Class → ℕ → Place → Ty → Ty → List Fault
fit_faults cs rule p want t = if fits cs want t then [] else misfit rule p want t

-- an expression without a type has a fault of its own, and none beside it
abbrev pub known_fit_faults : List Class → ℕ → Place → Ty → Option Ty → List Fault
known_fit_faults cs rule p want None = []
known_fit_faults cs rule p want (Some t) = fit_faults cs rule p want t

-- the fault of an expression where this type is wanted
abbrev pub want_faults : List Class → ℕ → Ty → Worth → List Fault
want_faults cs rule want w = known_fit_faults cs rule w.place want w.ty

-- the same where what is wanted has no type, since its annotation is none
abbrev pub wanted_faults : List Class → ℕ → Option Ty → Worth → List Fault
wanted_faults cs rule None w = []
wanted_faults cs rule (Some want) w = want_faults cs rule want w

-- what is annotated with no type is kept as Void in the table of classes, and no value has this type
abbrev pub unless_void : Ty → Option Ty
unless_void types.Void = None
unless_void t = Some t
