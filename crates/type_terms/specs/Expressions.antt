-- Expressions: their faults and types, by the position at which they stand. A name is a parameter or local (rule 2), a receiver has
-- the field or method (rule 8, at the name behind the dot), strings, tuples, `/` and `=` in an argument stand only where the
-- language has them (rule 18). An operator's type is that of the table of operators, whatever its operands; names, fields and
-- calls with a fault of their own have none. An expression that is read as a value, and is no string and no tuple, has its type in the list
-- of types: behind its left operand or its receiver, and before its right operand, its arguments or the operand of a prefix.
use Rattle.std.specs.Prelude.{ℕ, suc, List, [], ◌∷◌, ◌++◌, map, flat_map, Option, Some, None, is_none, option_and_then, if◌then◌else◌, codes, bytes_eq}
use Rattle.py_base.specs.declared.Place.{Place}
use Rattle.raw_syntax.specs.declared.RawExpr.{RawExpr, fold-RawExpr}
use Rattle.raw_syntax.specs.declared.RawExprForm.{RawExprForm-F}
use Rattle.raw_syntax.specs.declared.RawArgument.{RawArgument, RawArgument-F, fold-RawArgument}
use Rattle.raw_syntax.specs.declared.RawComparison.{RawComparison, fold-RawComparison}
use Rattle.raw_syntax.specs.declared.Comparison.{Comparison}
use Rattle.py_syntax.specs.declared.Ty.{Ty}
use Rattle.py_syntax.specs.declared.Ty.TheVariants as types
use Rattle.class_table.specs.declared.Classes.{Classes}
use Rattle.type_base.specs.declared.Fault.{Fault}
use Rattle.type_base.specs.Members.{field_of}
use Rattle.type_names.specs.declared.Position.{Position}
use Rattle.type_names.specs.declared.Position.TheVariants as positions
use Rattle.type_names.specs.declared.Meaning.{Meaning}
use Rattle.type_names.specs.declared.Meaning.TheVariants as meanings
use Rattle.type_names.specs.declared.TypeAt.{TypeAt}
use Rattle.type_names.specs.declared.Worth.{Worth}
use Rattle.type_names.specs.declared.Given.{Given}
use Rattle.type_names.specs.declared.Compared.{Compared}
use Rattle.type_names.specs.declared.Signature.{Signature}
use Rattle.type_names.specs.declared.Variable.{Variable}
use Rattle.type_names.specs.declared.Scope.{Scope}
use Rattle.type_names.specs.Fitting.{mistyped, mistyped_if, unless_void}
use Rattle.type_names.specs.Operands.{both_bool_faults, prefix_faults, arithmetic_faults, arithmetic_type, chain_faults, class_in}
use Rattle.type_names.specs.Rows.{out_type}
use Rattle.type_names.specs.Names.{variable_in, name_meaning, label_meaning, method_meaning}
use Rattle.type_names.specs.Positions.{Typing, Question, worth_of, plainly, inner, called, conjunct, is_atom, told, own_types, position_faults}
use Rattle.type_terms.specs.Calls.{argument_position, argument_faults, parameters_at, is_thread, worths, call_faults, meaning_type, call_meaning}

abbrev pub asked : Position → Question → Typing
asked at e = e at

-- several expressions one after another
abbrev pub all_faults : List Typing → List Fault
all_faults = flat_map (λ (t : Typing). t.faults)

abbrev pub all_types : List Typing → List TypeAt
all_types = flat_map (λ (t : Typing). t.types)

abbrev pub parts_worth : List Typing → List Worth
parts_worth = map (λ (t : Typing). t.worth)

-- an expression's own faults, and those by its position
abbrev pub own_faults : Classes → Position → Place → List Fault → Option Ty → List Fault
own_faults cs at p own ty = told at own ++ position_faults cs.list at p ty

-- an expression without parts
abbrev pub lone : Classes → Position → Place → List Fault → Option Ty → Typing
lone cs at p faults ty = record { faults = faults ++ own_faults cs at p [] ty; types = own_types at p ty; worth = plainly p ty }

-- an expression with the faults of its parts and its own, and with the types of its parts in front of it and behind it
abbrev pub settled : Classes → Position → Place → List Fault → List TypeAt → List TypeAt → List Fault → Option Ty → Typing
settled cs at p parts before behind own ty =
    record { faults = parts ++ own_faults cs at p own ty; types = before ++ (own_types at p ty ++ behind); worth = plainly p ty }

-- two parts with an operator between them
abbrev pub between : Classes → Position → Place → Typing → Typing → List Fault → Option Ty → Typing
between cs at p a b own ty = settled cs at p (a.faults ++ b.faults) a.types b.types own ty

-- Names.
abbrev pub meant : Place → Meaning → Typing
meant p m = record { faults = []; types = []; worth = worth_of p None m }

abbrev pub read_name : Classes → Position → Place → Option Variable → Typing
read_name cs at p None = lone cs at p (mistyped p 2) None
read_name cs at p (Some v) = lone cs at p [] v.ty

abbrev pub name_typing : Classes → List Signature → Scope → List ℕ → Place → Position → Typing
name_typing cs fs sc word p positions.CalledInCode = meant p (name_meaning cs fs sc word)
name_typing cs fs sc word p positions.CalledInContract = meant p (name_meaning cs fs sc word)
name_typing cs fs sc word p positions.Reference = meant p (name_meaning cs fs sc word)
name_typing cs fs sc word p positions.Label = meant p (label_meaning word)
name_typing cs fs sc word p at = read_name cs at p (variable_in sc.variables word)

-- Strings stand in `print` alone; docstrings are left out before.
abbrev pub string_faults : Position → Place → List Fault
string_faults positions.Printed p = []
string_faults at p = mistyped p 18

abbrev pub string_typing : Classes → Place → Position → Typing
string_typing cs p at = record { faults = own_faults cs at p (string_faults at p) None; types = []; worth = plainly p None }

-- Tuples stand in the arguments of a thread alone, which fit the parameters of its target.
abbrev pub passed_faults : Classes → List Signature → Option ℕ → Place → List Worth → List Fault
passed_faults cs fs None p ws = []
passed_faults cs fs (Some n) p ws = argument_faults cs.list 9 p (parameters_at fs n) ws

abbrev pub tuple_faults : Classes → List Signature → List Worth → Place → Position → List Fault
tuple_faults cs fs ws p (positions.Passed n) = passed_faults cs fs n p ws
tuple_faults cs fs ws p at = own_faults cs at p (mistyped p 18) None

abbrev pub tuple_typing : Classes → List Signature → List Typing → Place → Position → Typing
tuple_typing cs fs ts p at = record { faults = all_faults ts ++ tuple_faults cs fs (parts_worth ts) p at; types = all_types ts; worth = plainly p None }

-- Fields and methods.
abbrev pub field_by : Classes → List ℕ → Option ℕ → Option Ty
field_by cs word None = None
field_by cs word (Some c) = field_of cs c word

-- the type of a field of a receiver of this type, and Void where its annotation is no type
abbrev pub field_in : Classes → List ℕ → Ty → Option Ty
field_in cs word t = field_by cs word (class_in t)

abbrev pub field_faults : Classes → Place → List ℕ → Option Ty → List Fault
field_faults cs p word None = []
field_faults cs p word (Some t) = mistyped_if (is_none (field_in cs word t)) p 8

abbrev pub field_type : Classes → List ℕ → Option Ty → Option Ty
field_type cs word t = option_and_then unless_void (option_and_then (field_in cs word) t)

-- a field of `Acc` is no value there
abbrev pub field_position : Position → Position
field_position positions.Location = positions.Term
field_position at = at

abbrev pub super_meaning : List ℕ → Meaning
super_meaning word = if bytes_eq word (codes "__init__") then meanings.SuperInit else meanings.Unknown

abbrev pub known_meaning : Option Meaning → Meaning
known_meaning None = meanings.Unknown
known_meaning (Some m) = m

abbrev pub receiver_meaning : Classes → List Signature → List ℕ → Option Ty → Meaning
receiver_meaning cs fs word None = meanings.Unknown
receiver_meaning cs fs word (Some t) = known_meaning (method_meaning cs fs t word)

abbrev pub meaning_behind : Classes → List Signature → List ℕ → Option Ty → Meaning → Meaning
meaning_behind cs fs word t meanings.Super = super_meaning word
meaning_behind cs fs word t m = receiver_meaning cs fs word t

abbrev pub method_name_meaning : Classes → List Signature → List ℕ → Worth → Meaning
method_name_meaning cs fs word w = meaning_behind cs fs word w.ty w.meaning

abbrev pub method_faults : Classes → List Signature → Place → List ℕ → Option Ty → List Fault
method_faults cs fs p word None = []
method_faults cs fs p word (Some t) = elim (method_meaning cs fs t word) as (λ _. List Fault) [
  | None ↦ mistyped p 8
  | Some m ↦ []
]

-- a name behind a dot, as a method where it is called and else as a field
abbrev pub get_faults : Classes → Worth → List ℕ → Place → Position → List Fault
get_faults cs o word p at = own_faults cs (field_position at) p (field_faults cs p word o.ty) (field_type cs word o.ty)

abbrev pub member_faults : Classes → List Signature → Worth → List ℕ → Place → Position → List Fault
member_faults cs fs o word p positions.CalledInCode = method_faults cs fs p word o.ty
member_faults cs fs o word p positions.CalledInContract = method_faults cs fs p word o.ty
member_faults cs fs o word p at = get_faults cs o word p at

abbrev pub member_worth : Classes → List Signature → Worth → List ℕ → Place → Position → Worth
member_worth cs fs o word p positions.CalledInCode = worth_of p None (method_name_meaning cs fs word o)
member_worth cs fs o word p positions.CalledInContract = worth_of p None (method_name_meaning cs fs word o)
member_worth cs fs o word p at = plainly p (field_type cs word o.ty)

abbrev pub field_typing : Classes → List Signature → Typing → List ℕ → Place → Position → Typing
field_typing cs fs o word p at =
    let w = member_worth cs fs o.worth word p at in
    record { faults = o.faults ++ member_faults cs fs o.worth word p at; types = o.types ++ own_types at p w.ty; worth = w }

-- Chains.
pub record Link : Type 0 where
  pub place : Place
  pub operator : Comparison
  pub operand : Question

abbrev pub link_at : Position → Link → Typing
link_at at l = l.operand at

abbrev pub compared : Position → Link → Compared
compared at l = record { place = l.place; operator = l.operator; operand = (l.operand at).worth }

abbrev pub chain_typing : Classes → Question → List Link → Place → Position → Typing
chain_typing cs a links p at =
    settled cs at p ((a (inner at)).faults ++ all_faults (map (link_at (inner at)) links)) (a (inner at)).types (all_types (map (link_at (inner at)) links)) (chain_faults cs.list (a (inner at)).worth (map (compared (inner at)) links)) (Some types.Bool)

-- Arguments.
pub data Argument : Type 0 where
  alone : Question → Argument
  labelled : Question → Question → Argument

-- an argument with the faults and types within it: the name in front of `=`, and what the value is worth
pub record Argued : Type 0 where
  pub faults : List Fault
  pub types : List TypeAt
  pub given : Given

abbrev pub argued : List Fault → List TypeAt → Meaning → Worth → Argued
argued fs ts label w = record { faults = fs; types = ts; given = record { label = label; worth = w } }

-- `=` stands in the arguments of a thread alone (rule 18, at its left side)
abbrev pub label_faults : Meaning → Position → Place → List Fault
label_faults m at p = if is_thread m then [] else told at (mistyped p 18)

abbrev pub named_typing : Meaning → Position → Typing → Typing → Argued
named_typing m at l e = argued (l.faults ++ (label_faults m at l.worth.place ++ e.faults)) (l.types ++ e.types) l.worth.meaning e.worth

abbrev pub argument_typing : Meaning → Position → Argument → Argued
argument_typing m at (alone e) = argued (e at).faults (e at).types meanings.Plain (e at).worth
argument_typing m at (labelled l e) = named_typing m at (l positions.Label) (e at)

-- those from number k on where this is called, behind one of that meaning
abbrev pub arguments_typing : Meaning → Position → ℕ → Meaning → List Argument → List Argued
arguments_typing m at k before [] = []
arguments_typing m at k before (x ∷ xs) =
    let a = argument_typing m (argument_position m at k before) x in
    a ∷ arguments_typing m at (suc k) a.given.worth.meaning xs

abbrev pub argued_faults : List Argued → List Fault
argued_faults = flat_map (λ (a : Argued). a.faults)

abbrev pub argued_types : List Argued → List TypeAt
argued_types = flat_map (λ (a : Argued). a.types)

abbrev pub givens : List Argued → List Given
givens = map (λ (a : Argued). a.given)

-- Calls.
abbrev pub call_typing : Classes → List Signature → Scope → Typing → List Argued → Position → Typing
call_typing cs fs sc c xs at =
    let own = call_faults cs fs sc at c.worth (givens xs) in
    let ty = meaning_type cs fs sc c.worth.meaning (worths (givens xs)) in
    record {
      faults = c.faults ++ (argued_faults xs ++ own_faults cs at c.worth.place own ty);
      types = c.types ++ (own_types at c.worth.place ty ++ argued_types xs);
      worth = worth_of c.worth.place ty (call_meaning c.worth.meaning);
    }

-- An expression, by its form.
abbrev pub form_typing : Classes → List Signature → Scope → RawExprForm-F Argument (Place → Question) Link Question → Place → Question
form_typing cs fs sc (RawExprForm-F.Number n) p at = lone cs at p [] (Some types.Int)
form_typing cs fs sc (RawExprForm-F.Truth b) p at = lone cs at p [] (Some types.Bool)
form_typing cs fs sc RawExprForm-F.Nil p at = lone cs at p [] (Some types.Void)
form_typing cs fs sc (RawExprForm-F.Name n) p at = name_typing cs fs sc n p at
form_typing cs fs sc (RawExprForm-F.Str t) p at = string_typing cs p at
form_typing cs fs sc (RawExprForm-F.Bracket e) p at = e at
form_typing cs fs sc (RawExprForm-F.Tuple es) p at = tuple_typing cs fs (map (asked (inner at)) es) p at
form_typing cs fs sc (RawExprForm-F.Field e n) p at = field_typing cs fs (e (inner at)) n p at
form_typing cs fs sc (RawExprForm-F.Call e xs) p at = let c = e (called at) in call_typing cs fs sc c (arguments_typing c.worth.meaning at 0 meanings.Plain xs) at
form_typing cs fs sc (RawExprForm-F.Negate e) p at = settled cs at p (e (inner at)).faults [] (e (inner at)).types (prefix_faults cs.list 6 (e (inner at)).worth) (out_type 6)
form_typing cs fs sc (RawExprForm-F.Binary o a b) p at =
    between cs at p (a (inner at)) (b (inner at)) (arithmetic_faults cs.list o p (a (inner at)).worth (b (inner at)).worth) (arithmetic_type o)
form_typing cs fs sc (RawExprForm-F.Chain e ls) p at = chain_typing cs e ls p at
form_typing cs fs sc (RawExprForm-F.Not e) p at = settled cs at p (e (inner at)).faults [] (e (inner at)).types (prefix_faults cs.list 17 (e (inner at)).worth) (out_type 17)
form_typing cs fs sc (RawExprForm-F.And a b) p at =
    between cs at p (a (conjunct at)) (b (conjunct at))
    (if is_atom at then [] else both_bool_faults cs.list (a (conjunct at)).worth (b (conjunct at)).worth) (Some types.Bool)
form_typing cs fs sc (RawExprForm-F.Or a b) p at =
    between cs at p (a (inner at)) (b (inner at)) (both_bool_faults cs.list (a (inner at)).worth (b (inner at)).worth) (Some types.Bool)

abbrev pub argument_form : RawArgument-F Argument (Place → Question) Link Question → Argument
argument_form (RawArgument-F.Value e) = alone e
argument_form (RawArgument-F.Named l e) = labelled l e

-- an expression in the scope of a method
abbrev pub typing : Classes → List Signature → Scope → RawExpr → Question
typing cs fs sc = fold-RawExpr Argument (Place → Question) Link Question argument_form (form_typing cs fs sc) (λ l. record { place = l.place; operator = l.operator; operand = l.operand }) (λ e. e.form e.place)

abbrev pub argument_of : Classes → List Signature → Scope → RawArgument → Argument
argument_of cs fs sc = fold-RawArgument Argument (Place → Question) Link Question argument_form (form_typing cs fs sc) (λ l. record { place = l.place; operator = l.operator; operand = l.operand }) (λ e. e.form e.place)

abbrev pub link_of : Classes → List Signature → Scope → RawComparison → Link
link_of cs fs sc = fold-RawComparison Argument (Place → Question) Link Question argument_form (form_typing cs fs sc) (λ l. record { place = l.place; operator = l.operator; operand = l.operand }) (λ e. e.form e.place)
