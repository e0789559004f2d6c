-- What an expression is, and the breaches within it by where it stands. A contract is a call of its name, and each breach stands at
-- that name unless it is said. Brackets count for nothing.
use Rattle.std.specs.Prelude.{ℕ, suc, ℤ, Bool, true, false, ◌&&◌, ◌||◌, not, List, [], ◌∷◌, ◌++◌, length, flat_map, find, position, Option, Some, None, if◌then◌else◌, codes, bytes_eq}
use Rattle.std.specs.List.{list_any}
use Rattle.py_base.specs.declared.Place.{Place}
use Rattle.raw_syntax.specs.declared.RawExpr.{RawExpr, fold-RawExpr}
use Rattle.raw_syntax.specs.declared.RawExprForm.{RawExprForm-F}
use Rattle.raw_syntax.specs.declared.RawArgument.{RawArgument, RawArgument-F, fold-RawArgument}
use Rattle.raw_syntax.specs.declared.RawComparison.{RawComparison, fold-RawComparison}
use Rattle.raw_syntax.specs.declared.Comparison.{Comparison}
use Rattle.raw_syntax.specs.declared.Comparison.TheVariants as comparisons
use Rattle.raw_syntax.specs.declared.RawParam.{RawParam}
use Rattle.raw_syntax.specs.declared.RawFunc.{RawFunc}
use Rattle.class_table.specs.Faults.{is_alone}
use Rattle.type_base.specs.Locals.{is_parameter, is_own_name}
use Rattle.contract_kinds.specs.declared.Rule.TheVariants as rules
use Rattle.contract_kinds.specs.declared.Breach.{Breach}
use Rattle.contract_kinds.specs.declared.Contract.{Contract}
use Rattle.contract_kinds.specs.declared.Contract.TheVariants as contracts
use Rattle.contract_kinds.specs.declared.Spot.{Spot}
use Rattle.contract_forms.specs.declared.function.Sort.{Sort}
use Rattle.contract_forms.specs.declared.function.Sort.TheVariants as sorts
use Rattle.contract_forms.specs.declared.function.Function.{Function}
use Rattle.contract_kinds.specs.Words.{contract_of, is_word}
use Rattle.contract_kinds.specs.Kinds.{breach, breach_if, told, refusal, inner, conjunct, second_conjunct, lower, argument_spot, is_statement}
use Rattle.contract_forms.specs.Fractions.{is_division, are_amount}

-- Where the names of an expression are looked up: the functions of the module, the method, and its locals.
pub record Scope : Type 0 where
  pub functions : List Function
  pub method : RawFunc
  pub locals : List (List ℕ)

abbrev pub scope : List Function → RawFunc → List (List ℕ) → Scope
scope fns f names = record { functions = fns; method = f; locals = names }

pub record Reading : Type 0 where
  pub place : Place  -- its place, and that of what is called where it is a call
  pub first : Place  -- its first token; a bracket is one
  pub word : Option (List ℕ)  -- the name that it is
  pub called : Option (List ℕ)  -- the name that it calls
  pub joins : Bool  -- whether it is the field `start` or `join` of something
  pub number : Option ℤ  -- the number that it is
  pub is_fraction : Bool
  pub binds : Bool  -- whether a `MustTerminate` is a conjunct of it
  pub states : Bool  -- whether one is a conjunct of its first argument
  pub bars : Bool  -- whether `Old` or `MustRelease` is called within it
  pub calls : List Function → List RawParam → List ℕ  -- the pure functions that are called within it, in a function with these parameters
  pub breaches : Scope → Spot → List Breach

pub data Argument : Type 0 where
  alone : Reading → Argument
  labelled : Reading → Reading → Argument

pub record Link : Type 0 where
  pub operator : Comparison
  pub operand : Reading

-- one level of an expression, whose parts are read
abbrev pub Layer : Type 0
Layer = RawExprForm-F Argument (Place → Reading) Link Reading

-- Places.
abbrev pub place_form : Layer → Place → Place
place_form (RawExprForm-F.Bracket e) p = e.place
place_form (RawExprForm-F.Call e xs) p = e.place
place_form form p = p

abbrev pub first_form : Layer → Place → Place
first_form (RawExprForm-F.Field e n) p = e.first
first_form (RawExprForm-F.Call e xs) p = e.first
first_form (RawExprForm-F.Binary o a b) p = a.first
first_form (RawExprForm-F.Chain e ls) p = e.first
first_form (RawExprForm-F.And a b) p = a.first
first_form (RawExprForm-F.Or a b) p = a.first
first_form form p = p

-- Names, calls of names, and the fields that start and join threads.
abbrev pub word_form : Layer → Option (List ℕ)
word_form (RawExprForm-F.Name n) = Some n
word_form (RawExprForm-F.Bracket e) = e.word
word_form form = None

abbrev pub called_form : Layer → Option (List ℕ)
called_form (RawExprForm-F.Call e xs) = e.word
called_form (RawExprForm-F.Bracket e) = e.called
called_form form = None

abbrev pub is_joining : List ℕ → Bool
is_joining n = bytes_eq n (codes "start") || bytes_eq n (codes "join")

abbrev pub joins_form : Layer → Bool
joins_form (RawExprForm-F.Field e n) = is_joining n
joins_form (RawExprForm-F.Bracket e) = e.joins
joins_form form = false

-- Numbers and fractions.
abbrev pub number_form : Layer → Option ℤ
number_form (RawExprForm-F.Number n) = Some n
number_form (RawExprForm-F.Bracket e) = e.number
number_form form = None

abbrev pub fraction_form : Layer → Bool
fraction_form (RawExprForm-F.Binary o a b) = is_division o && are_amount a.number b.number
fraction_form (RawExprForm-F.Bracket e) = e.is_fraction
fraction_form form = false

-- Measures.
abbrev pub is_measure : Option Contract → Bool
is_measure (Some contracts.MustTerminate) = true
is_measure c = false

abbrev pub binds_form : Layer → Bool
binds_form (RawExprForm-F.And a b) = a.binds || b.binds
binds_form (RawExprForm-F.Bracket e) = e.binds
binds_form (RawExprForm-F.Call e xs) = is_measure (contract_of e.word)
binds_form form = false

abbrev pub first_binds : List Argument → Bool
first_binds (alone e ∷ xs) = e.binds
first_binds xs = false

abbrev pub states_form : Layer → Bool
states_form (RawExprForm-F.Call e xs) = first_binds xs
states_form (RawExprForm-F.Bracket e) = e.states
states_form form = false

-- What bars a function from being the target of a thread.
abbrev pub is_barring : Option Contract → Bool
is_barring (Some contracts.Old) = true
is_barring (Some contracts.MustRelease) = true
is_barring c = false

abbrev pub bars : Reading → Bool
bars e = e.bars

abbrev pub argument_bars : Argument → Bool
argument_bars (alone e) = e.bars
argument_bars (labelled l e) = l.bars || e.bars

abbrev pub link_bars : Link → Bool
link_bars l = l.operand.bars

abbrev pub bars_form : Layer → Bool
bars_form (RawExprForm-F.Bracket e) = e.bars
bars_form (RawExprForm-F.Tuple es) = list_any bars es
bars_form (RawExprForm-F.Field e n) = e.bars
bars_form (RawExprForm-F.Call e xs) = is_barring (contract_of e.word) || (e.bars || list_any argument_bars xs)
bars_form (RawExprForm-F.Negate e) = e.bars
bars_form (RawExprForm-F.Binary o a b) = a.bars || b.bars
bars_form (RawExprForm-F.Chain e ls) = e.bars || list_any link_bars ls
bars_form (RawExprForm-F.Not e) = e.bars
bars_form (RawExprForm-F.And a b) = a.bars || b.bars
bars_form (RawExprForm-F.Or a b) = a.bars || b.bars
bars_form form = false

-- The pure functions that are called, by their numbers. A parameter hides a function of its name.
abbrev pub is_pure : Sort → Bool
is_pure sorts.Pure = true
is_pure s = false

abbrev pub is_called : List ℕ → Function → Bool
is_called n f = bytes_eq n f.name

abbrev pub is_pure_called : List ℕ → Function → Bool
is_pure_called n f = is_pure f.sort && bytes_eq n f.name

abbrev pub numbers : Option ℕ → List ℕ
numbers None = []
numbers (Some k) = k ∷ []

abbrev pub named_call : List Function → List RawParam → Option (List ℕ) → List ℕ
named_call fns params None = []
named_call fns params (Some n) = if is_parameter params n then [] else numbers (position (is_pure_called n) fns)

abbrev pub part_calls : List Function → List RawParam → Reading → List ℕ
part_calls fns params e = e.calls fns params

abbrev pub argument_calls : List Function → List RawParam → Argument → List ℕ
argument_calls fns params (alone e) = e.calls fns params
argument_calls fns params (labelled l e) = l.calls fns params ++ e.calls fns params

abbrev pub link_calls : List Function → List RawParam → Link → List ℕ
link_calls fns params l = l.operand.calls fns params

abbrev pub calls_form : Layer → List Function → List RawParam → List ℕ
calls_form (RawExprForm-F.Bracket e) fns params = e.calls fns params
calls_form (RawExprForm-F.Tuple es) fns params = flat_map (part_calls fns params) es
calls_form (RawExprForm-F.Field e n) fns params = e.calls fns params
calls_form (RawExprForm-F.Call e xs) fns params = named_call fns params e.word ++ (e.calls fns params ++ flat_map (argument_calls fns params) xs)
calls_form (RawExprForm-F.Negate e) fns params = e.calls fns params
calls_form (RawExprForm-F.Binary o a b) fns params = a.calls fns params ++ b.calls fns params
calls_form (RawExprForm-F.Chain e ls) fns params = e.calls fns params ++ flat_map (link_calls fns params) ls
calls_form (RawExprForm-F.Not e) fns params = e.calls fns params
calls_form (RawExprForm-F.And a b) fns params = a.calls fns params ++ b.calls fns params
calls_form (RawExprForm-F.Or a b) fns params = a.calls fns params ++ b.calls fns params
calls_form form fns params = []

-- The function of the module that a name means in a method, where nothing of the method hides it.
abbrev pub meant : Scope → List ℕ → Option Function
meant sc n = if is_own_name sc.method.params sc.locals n then None else find (is_called n) sc.functions

abbrev pub is_code : Sort → Bool
is_code sorts.Code = true
is_code s = false

-- Of a thread that is made, the target is a function that may be one; where a thread is started or joined, and where it may be joined,
-- the function has no decorator. The breach stands at the function's name.
abbrev pub bad_target : Option Function → Bool
bad_target None = true
bad_target (Some f) = not f.is_target

abbrev pub bad_join : Option Function → Bool
bad_join None = false
bad_join (Some f) = not (is_code f.sort)

abbrev pub target_breaches : Scope → Place → Option (List ℕ) → List Breach
target_breaches sc p None = []
target_breaches sc p (Some n) = breach_if (bad_target (meant sc n)) p rules.BadTarget

abbrev pub join_breaches : Scope → Place → Option (List ℕ) → List Breach
join_breaches sc p None = []
join_breaches sc p (Some n) = breach_if (bad_join (meant sc n)) p rules.BadTarget

-- `Thread(target=f, ..)`
abbrev pub thread_breaches : Scope → List Argument → List Breach
thread_breaches sc (labelled l e ∷ xs) = if is_word (codes "target") l.word then target_breaches sc e.place e.word else []
thread_breaches sc xs = []

-- `t.start(f)` and `t.join(f)`
abbrev pub lone_join_breaches : Scope → List Argument → List Breach
lone_join_breaches sc (alone e ∷ []) = join_breaches sc e.place e.word
lone_join_breaches sc xs = []

-- `MayJoin(t, f, ..)`
abbrev pub second_join_breaches : Scope → List Argument → List Breach
second_join_breaches sc (x ∷ alone e ∷ xs) = join_breaches sc e.place e.word
second_join_breaches sc xs = []

-- The instance of `Fold`, `Unfold` and `Unfolding` is a call of a predicate; the breach stands at what is called, or at what is no call.
abbrev pub is_predicate : Option Function → Bool
is_predicate None = false
is_predicate (Some f) = elim f.sort as (λ _. Bool) [ sorts.Code ↦ false | sorts.Predicate ↦ true | sorts.Pure ↦ false ]

abbrev pub is_instance : Scope → Option (List ℕ) → Bool
is_instance sc None = false
is_instance sc (Some n) = is_predicate (meant sc n)

abbrev pub instance_breaches : Scope → List Argument → List Breach
instance_breaches sc (alone e ∷ xs) = breach_if (not (is_instance sc e.called)) e.place rules.UnknownPredicate
instance_breaches sc xs = []

-- The second argument of `Acc`; the breach stands at its first token.
abbrev pub amount_breaches : List Argument → List Breach
amount_breaches (x ∷ alone e ∷ xs) = breach_if (not e.is_fraction) e.first rules.BadFraction
amount_breaches (x ∷ labelled l e ∷ xs) = breach l.first rules.BadFraction ∷ []
amount_breaches xs = []

-- what a contract asks of its arguments
abbrev pub asked_breaches : Scope → Contract → List Argument → List Breach
asked_breaches sc contracts.Acc xs = amount_breaches xs
asked_breaches sc contracts.Fold xs = instance_breaches sc xs
asked_breaches sc contracts.Unfold xs = instance_breaches sc xs
asked_breaches sc contracts.Unfolding xs = instance_breaches sc xs
asked_breaches sc contracts.MayJoin xs = second_join_breaches sc xs
asked_breaches sc c xs = []

-- a call of a name: a contract, or perhaps a thread that is made
abbrev pub contract_breaches : Scope → Spot → Place → Option (List ℕ) → Option Contract → List Argument → List Breach
contract_breaches sc at p word (Some c) xs = told (refusal c (length xs) at) p ++ asked_breaches sc c xs
contract_breaches sc at p word None xs = if is_word (codes "Thread") word then thread_breaches sc xs else []

-- the breaches of a call that stand at what is called and at the arguments themselves
abbrev pub call_breaches : Scope → Spot → Reading → List Argument → List Breach
call_breaches sc at e xs =
    contract_breaches sc at e.place e.word (contract_of e.word) xs
    ++ (if e.joins && is_statement at then lone_join_breaches sc xs else [])

-- a method whose result isn't None gives a value
abbrev pub gives : Scope → Bool
gives sc = not (is_alone sc.method.ret (codes "None"))

abbrev pub part_breaches : Scope → Spot → Reading → List Breach
part_breaches sc at e = e.breaches sc at

abbrev pub argument_breaches : Scope → Spot → Argument → List Breach
argument_breaches sc at (alone e) = e.breaches sc at
argument_breaches sc at (labelled l e) = l.breaches sc at ++ e.breaches sc at

-- those of the arguments from number k on
abbrev pub arguments_breaches : Scope → Option Contract → Spot → ℕ → List Argument → List Breach
arguments_breaches sc c at k [] = []
arguments_breaches sc c at k (x ∷ xs) = argument_breaches sc (argument_spot (gives sc) c at k) x ++ arguments_breaches sc c at (suc k) xs

abbrev pub link_breaches : Scope → Spot → Link → List Breach
link_breaches sc at l = l.operand.breaches sc at

abbrev pub is_less : Comparison → Bool
is_less comparisons.Less = true
is_less o = false

-- the left side of a single `<` may be `WaitLevel()`
abbrev pub left_spot : List Link → Spot → Spot
left_spot (l ∷ []) at = if is_less l.operator then lower at else inner at
left_spot ls at = inner at

abbrev pub breaches_form : Layer → Scope → Spot → List Breach
breaches_form (RawExprForm-F.Bracket e) sc at = e.breaches sc at
breaches_form (RawExprForm-F.Tuple es) sc at = flat_map (part_breaches sc (inner at)) es
breaches_form (RawExprForm-F.Field e n) sc at = e.breaches sc (inner at)
breaches_form (RawExprForm-F.Call e xs) sc at = call_breaches sc at e xs ++ (e.breaches sc (inner at) ++ arguments_breaches sc (contract_of e.word) at 0 xs)
breaches_form (RawExprForm-F.Negate e) sc at = e.breaches sc (inner at)
breaches_form (RawExprForm-F.Binary o a b) sc at = a.breaches sc (inner at) ++ b.breaches sc (inner at)
breaches_form (RawExprForm-F.Chain e ls) sc at = e.breaches sc (left_spot ls at) ++ flat_map (link_breaches sc (inner at)) ls
breaches_form (RawExprForm-F.Not e) sc at = e.breaches sc (inner at)
breaches_form (RawExprForm-F.And a b) sc at = a.breaches sc (conjunct at) ++ b.breaches sc (second_conjunct at a.binds)
breaches_form (RawExprForm-F.Or a b) sc at = a.breaches sc (inner at) ++ b.breaches sc (inner at)
breaches_form form sc at = []

abbrev pub form_reading : Layer → Place → Reading
form_reading f p = record {
  place = place_form f p;
  first = first_form f p;
  word = word_form f;
  called = called_form f;
  joins = joins_form f;
  number = number_form f;
  is_fraction = fraction_form f;
  binds = binds_form f;
  states = states_form f;
  bars = bars_form f;
  calls = calls_form f;
  breaches = breaches_form f;
}

abbrev pub argument_form : RawArgument-F Argument (Place → Reading) Link Reading → Argument
argument_form (RawArgument-F.Value e) = alone e
argument_form (RawArgument-F.Named l e) = labelled l e

abbrev pub reading : RawExpr → Reading
reading = fold-RawExpr Argument (Place → Reading) Link Reading argument_form form_reading (λ l. record { operator = l.operator; operand = l.operand }) (λ e. e.form e.place)

abbrev pub argument_of : RawArgument → Argument
argument_of = fold-RawArgument Argument (Place → Reading) Link Reading argument_form form_reading (λ l. record { operator = l.operator; operand = l.operand }) (λ e. e.form e.place)

abbrev pub link_of : RawComparison → Link
link_of = fold-RawComparison Argument (Place → Reading) Link Reading argument_form form_reading (λ l. record { operator = l.operator; operand = l.operand }) (λ e. e.form e.place)
