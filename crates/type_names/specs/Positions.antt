-- What is asked of an expression by where it stands. In code its value is used, or it stands alone as a statement; a contract has
-- assertions, whose atoms are bool (rule 24), and terms within them; `print` takes int, bool and strings (rule 17), `Acc` a
-- field (rule 24) and a fraction, in which names alone are looked at (rule 2), and a thread's arguments are a tuple (rule 15).
use Rattle.std.specs.Prelude.{Bool, true, false, ◌||◌, not, List, [], ◌∷◌, Option, Some, None, if◌then◌else◌}
use Rattle.py_base.specs.declared.Place.{Place}
use Rattle.py_syntax.specs.declared.Ty.{Ty}
use Rattle.py_syntax.specs.declared.Ty.TheVariants as types
use Rattle.py_syntax.specs.declared.Class.{Class}
use Rattle.type_base.specs.declared.Fault.{Fault}
use Rattle.type_names.specs.declared.position.Position.{Position}
use Rattle.type_names.specs.declared.position.Position.TheVariants as positions
use Rattle.type_names.specs.declared.meaning.Meaning.{Meaning}
use Rattle.type_names.specs.declared.meaning.Meaning.TheVariants as meanings
use Rattle.type_names.specs.declared.meaning.Worth.{Worth}
use Rattle.type_names.specs.declared.meaning.TypeAt.{TypeAt}
use Rattle.type_names.specs.Fitting.{mistyped, mistyped_if, is_int, is_bool, known_fit_faults}

-- the faults of an expression with those within it, the types of it and of those within it in the order of the text, and what it is
-- worth
pub record Typing : Type 0 where
  pub faults : List Fault
  pub types : List TypeAt
  pub worth : Worth

-- what an expression answers at each position
abbrev pub Question : Type 0
Question = Position → Typing

abbrev pub worth_of : Place → Option Ty → Meaning → Worth
worth_of p ty m = record { place = p; ty = ty; meaning = m }

abbrev pub plainly : Place → Option Ty → Worth
plainly p ty = worth_of p ty meanings.Plain

-- where the parts of an expression stand
abbrev pub inner : Position → Position
inner positions.Value = positions.Value
inner positions.Statement = positions.Value
inner positions.Printed = positions.Value
inner positions.Term = positions.Term
inner positions.Atom = positions.Term
inner positions.CalledInCode = positions.Value
inner positions.CalledInContract = positions.Term
inner positions.Location = positions.Term
inner positions.Amount = positions.Amount
inner positions.Instance = positions.Term
inner positions.Reference = positions.Value
inner positions.Label = positions.Value
inner (positions.Passed n) = positions.Value

abbrev pub is_in_contract : Position → Bool
is_in_contract positions.Term = true
is_in_contract positions.Atom = true
is_in_contract positions.CalledInContract = true
is_in_contract positions.Location = true
is_in_contract positions.Instance = true
is_in_contract at = false

abbrev pub called_in : Bool → Position
called_in true = positions.CalledInContract
called_in false = positions.CalledInCode

-- where what is called stands
abbrev pub called : Position → Position
called positions.Amount = positions.Amount
called at = called_in (is_in_contract at)

-- the parts of an assertion by `and` are assertions
abbrev pub conjunct : Position → Position
conjunct positions.Atom = positions.Atom
conjunct at = inner at

abbrev pub is_statement : Position → Bool
is_statement positions.Statement = true
is_statement at = false

abbrev pub is_atom : Position → Bool
is_atom positions.Atom = true
is_atom at = false

abbrev pub is_instance : Position → Bool
is_instance positions.Instance = true
is_instance at = false

-- what is called, named or a label is read as no value
abbrev pub is_valued : Position → Bool
is_valued positions.CalledInCode = false
is_valued positions.CalledInContract = false
is_valued positions.Reference = false
is_valued positions.Label = false
is_valued at = true

abbrev pub or_void : Option Ty → Ty
or_void None = types.Void
or_void (Some t) = t

-- the type of an expression that is read as a value, by its place, and Void where it has none
abbrev pub own_types : Position → Place → Option Ty → List TypeAt
own_types at p ty = if is_valued at then record { place = p; ty = or_void ty } ∷ [] else []

-- in a fraction nothing but names is looked at
abbrev pub is_told : Position → Bool
is_told positions.Amount = false
is_told at = true

abbrev pub told : Position → List Fault → List Fault
told at fs = if is_told at then fs else []

abbrev pub printed_faults : Place → Option Ty → List Fault
printed_faults p None = []
printed_faults p (Some t) = mistyped_if (not (is_int t || is_bool t)) p 17

-- the fault of an expression of this type that is no field, tuple or string, by its position
abbrev pub position_faults : List Class → Position → Place → Option Ty → List Fault
position_faults cs positions.Atom p ty = known_fit_faults cs 24 p types.Bool ty
position_faults cs positions.Printed p ty = printed_faults p ty
position_faults cs positions.Location p ty = mistyped p 24
position_faults cs (positions.Passed n) p ty = mistyped p 15
position_faults cs at p ty = []
