-- What is found of the types and contracts of a text.
use Rattle.std.specs.Prelude.{◌≡◌, ℕ, List, [], Ok, Err, MatchOption}
use Rattle.py_tokens.specs.declared.Token.{Token}
use Rattle.py_tokens.specs.declared.LexFault.{LexFault}
use Rattle.py_tokens.specs.TextTokens.{Tokens, IsFirstFault}
use Rattle.raw_syntax.specs.declared.Raw.{Raw}
use Rattle.py_parser.specs.declared.fault.ParseFault.{ParseFault}
use Rattle.py_parser.specs.declared.fault.ParseFault.TheVariants as parsing
use Rattle.py_parser.specs.Parsing.{IsAnswer}
use Rattle.class_table.specs.Faults.{first_fault}
use Rattle.class_table.specs.ClassList.{classes_of}
use Rattle.type_base.specs.declared.Fault.{Fault}
use Rattle.py_types.specs.Order.{IsFirstFault as IsFirstTypeFault}
use Rattle.py_types.specs.TreeFaults.{type_faults}
use Rattle.contract_kinds.specs.declared.Breach.{Breach}
use Rattle.contract_kinds.specs.Order.{IsFirstFault as IsFirstBreach}
use Rattle.contract_forms.specs.Faults.{contract_faults}
use Rattle.type_text.specs.declared.verdict.Verdict.{Verdict}
use Rattle.type_text.specs.declared.verdict.Verdict.TheVariants.{NotTyped, Typed, Faulty, Broken}

-- no breach of the rules on contracts, or the first of these
abbrev pub IsSoundBy : List Breach → Verdict → Type 0
IsSoundBy bs NotTyped = ⊥
IsSoundBy bs Typed = bs ≡ []
IsSoundBy bs (Faulty f) = ⊥
IsSoundBy bs (Broken b) = IsFirstBreach bs b

-- the first of these faults of types, or none and what is found of contracts
abbrev pub IsTypedBy : List Fault → List Breach → Verdict → Type 0
IsTypedBy fs bs (Faulty f) = IsFirstTypeFault fs f
IsTypedBy fs bs v = (fs ≡ []) × IsSoundBy bs v

-- not typed where the classes are refused
abbrev pub IsTreeVerdict : Raw → Verdict → Type 0
IsTreeVerdict raw v = MatchOption (first_fault raw) (IsTypedBy (type_faults raw (classes_of raw)) (contract_faults raw) v) (λ _. v ≡ NotTyped)

-- not typed where the tokens have no tree within the limits
pub data IsTokenVerdict (ts : List Token) : Verdict → Type 0 where
  not_parsed : (f : ParseFault) → ¬ (f ≡ parsing.OutOfMemory) → IsAnswer ts (Err f) → IsTokenVerdict ts NotTyped
  parsed : (raw : Raw) (v : Verdict) → IsAnswer ts (Ok raw) → IsTreeVerdict raw v → IsTokenVerdict ts v

-- not typed where the text has no tokens
pub data IsVerdict (text : List ℕ) : Verdict → Type 0 where
  not_lexed : (f : LexFault) → IsFirstFault text f → IsVerdict text NotTyped
  lexed : (ts : List Token) (v : Verdict) → Tokens text ts → IsTokenVerdict ts v → IsVerdict text v
