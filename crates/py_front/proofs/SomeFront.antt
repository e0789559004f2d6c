-- A text has an answer, since its characters have tokens or a first fault, and these tokens a tree or a reason why they have none.
use Rattle.std.proofs.Common.{ℕ, List, [], ◌≡◌, ◌⊎◌, refl, inl, inr, ap, Option, Some, None, MatchOption, Result, Ok, Err}
use Rattle.py_tokens.specs.declared.Token.{Token}
use Rattle.py_tokens.specs.declared.LexFault.{LexFault}
use Rattle.py_tokens.specs.TextTokens.{Tokens, IsFirstFault}
use Rattle.raw_syntax.specs.declared.Raw.{Raw}
use Rattle.py_parser.specs.declared.fault.ParseFault.{ParseFault}
use Rattle.py_parser.specs.declared.fault.ParseFault.TheVariants as parsing
use Rattle.py_parser.specs.Parsing.{IsAnswer}
use Rattle.py_parser.specs.Reading.{IsEnded}
use Rattle.py_syntax.specs.declared.Module.{Module}
use Rattle.class_table.specs.declared.ClassFault.{ClassFault}
use Rattle.class_table.specs.ClassList.{classes_of}
use Rattle.class_table.specs.Faults.{first_fault}
use Rattle.type_base.specs.declared.Fault.{Fault}
use Rattle.py_types.specs.Order as order
use Rattle.py_types.specs.TreeFaults.{type_faults}
use Rattle.contract_kinds.specs.declared.Breach.{Breach}
use Rattle.contract_kinds.specs.Order as contracts
use Rattle.contract_forms.specs.Faults.{contract_faults}
use Rattle.small_module.specs.SmallModule.{module_of}
use Rattle.py_front.specs.TreeAnswers.{of_classes, of_types, of_contracts, built, IsTreeAnswer, not_classed, not_typed, not_contracted, faultless}
use Rattle.py_front.specs.Answers.{IsFront, not_lexed, not_parsed, parsed, of_lex, of_parse}
use Rattle.py_front.specs.declared.fault.FrontFault.{FrontFault}
use Rattle.py_front.proofs.Answering.{tokens_end}

abbrev SomeFront : List ℕ → Type 0
SomeFront text = (answer : Result Module FrontFault) × IsFront text answer

abbrev failed : ParseFault → Result Raw ParseFault
failed f = Err f

-- an answer of the parser, for which memory isn't missing
abbrev pub Parsed : List Token → Type 0
Parsed ts = (r : Result Raw ParseFault) × IsAnswer ts r × ¬ (r ≡ failed parsing.OutOfMemory)

-- a tree has an answer
abbrev SomeTree : Raw → Type 0
SomeTree tree = (answer : Result Module FrontFault) × IsTreeAnswer tree answer

-- of some faults one is first
abbrev pub HasFirst : List Fault → Type 0
HasFirst fs = MatchOption (order.first_of None fs) (fs ≡ []) (order.IsFirstFault fs)

abbrev pub HasFirstBreach : List Breach → Type 0
HasFirstBreach fs = MatchOption (contracts.first_of None fs) (fs ≡ []) (contracts.IsFirstFault fs)

-- what is known of faults
pub record Firsts : Type 0 where
  pub types : (fs : List Fault) → HasFirst fs
  pub contracts : (fs : List Breach) → HasFirstBreach fs

by_contracts : (tree : Raw) → first_fault tree ≡ None → type_faults tree (classes_of tree) ≡ [] → (o : Option Breach) → MatchOption o (contract_faults tree ≡ []) (contracts.IsFirstFault (contract_faults tree)) → SomeTree tree
by_contracts tree h i None k = (built (module_of tree), faultless h i k)
by_contracts tree h i (Some f) k = (Err (of_contracts f), not_contracted f h i k)

by_types : (tree : Raw) → Firsts → first_fault tree ≡ None → (o : Option Fault) → MatchOption o (type_faults tree (classes_of tree) ≡ []) (order.IsFirstFault (type_faults tree (classes_of tree))) → SomeTree tree
by_types tree laws h None k = by_contracts tree h k (contracts.first_of None (contract_faults tree)) (laws.contracts (contract_faults tree))
by_types tree laws h (Some f) k = (Err (of_types f), not_typed f h k)

by_classes : (tree : Raw) → Firsts → (o : Option ClassFault) → first_fault tree ≡ o → SomeTree tree
by_classes tree laws (Some f) h = (Err (of_classes f), not_classed f h)
by_classes tree laws None h = by_types tree laws h (order.first_of None (type_faults tree (classes_of tree))) (laws.types (type_faults tree (classes_of tree)))

of_answer : (text : List ℕ) (ts : List Token) → Firsts → Tokens text ts → (r : Result Raw ParseFault) → IsAnswer ts r → ¬ (r ≡ failed parsing.OutOfMemory) → SomeFront text
of_answer text ts laws t (Ok tree) h n = let (answer, k) = by_classes tree laws (first_fault tree) refl in (answer, parsed ts tree answer t h k)
of_answer text ts laws t (Err f) h n = (Err (of_parse f), not_parsed ts f (λ e. n (ap failed e)) t h)

of_parsed : (text : List ℕ) (ts : List Token) → Firsts → Tokens text ts → Parsed ts → SomeFront text
of_parsed text ts laws t (r, h, n) = of_answer text ts laws t r h n

pub some_front : (text : List ℕ) → ((ts : List Token) × Tokens text ts) ⊎ ((f : LexFault) × IsFirstFault text f) → ((ts : List Token) → IsEnded ts → Parsed ts) → Firsts → SomeFront text
some_front text (inl (ts, t)) parses laws = of_parsed text ts laws t (parses ts (tokens_end text ts t))
some_front text (inr (f, h)) parses laws = (Err (of_lex f), not_lexed f h)
