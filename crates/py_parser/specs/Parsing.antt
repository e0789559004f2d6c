-- The tree of a list of tokens, or why there is none. The limits and the order of refusals are this project's own: a line
-- that is too long comes before all others, what is no module and what is nested too deep go by place, and the numbers of
-- statements and of functions come last.
use Rattle.std.specs.Prelude.{◌<◌, ◌≤◌, List, [], ◌∷◌, ◌++◌, ◌≡◌, Result, Ok, Err}
use Rattle.py_base.specs.declared.Place.{Place}
use Rattle.py_tokens.specs.declared.Token.{Token}
use Rattle.raw_syntax.specs.declared.Raw.{Raw}
use Rattle.py_grammar.specs.Spelling.{Spells, BeginsModule, IsFirstBad}
use Rattle.py_parser.specs.Limits.{HasLongLine}
use Rattle.py_parser.specs.Depths.{IsNowhereDeep, IsDeepAt}
use Rattle.py_parser.specs.Counts.{statements_of, methods_of}
use Rattle.py_parser.specs.declared.fault.ParseFault.{ParseFault}
use Rattle.py_parser.specs.declared.fault.ParseFault.TheVariants as faults

-- The place is that of the first token with which no module goes on. No token up to it is nested too deep, and the first
-- one that is stands elsewhere.
pub record IsSyntaxFault (ts : List Token) (p : Place) : Type 0 where
  pub before : List Token
  pub after : List Token
  pub k : Token
  pub is : ts ≡ before ++ k ∷ after
  pub at : k.place ≡ p
  pub begins : BeginsModule before
  pub stops : ¬ (BeginsModule (before ++ k ∷ []))
  pub shallow : IsNowhereDeep 100 (before ++ k ∷ [])
  pub elsewhere : (front more : List Token) (j : Token) → IsDeepAt 100 ts front j more → ¬ (j.place ≡ p)

-- The place is that of the first token that is nested too deep, and no module's end stands before it elsewhere.
pub record IsDepthFault (ts : List Token) (p : Place) : Type 0 where
  pub before : List Token
  pub after : List Token
  pub k : Token
  pub deep : IsDeepAt 100 ts before k after
  pub at : k.place ≡ p
  pub here : (q : Place) → IsFirstBad before q → q ≡ p

-- The tokens spell the tree, no line is too long, and no token is nested too deep.
pub record IsRead (ts : List Token) (tree : Raw) : Type 0 where
  pub lines : ¬ (HasLongLine 2000 ts)
  pub depth : IsNowhereDeep 100 ts
  pub spelled : Spells ts tree

abbrev pub IsFault : List Token → ParseFault → Type 0
IsFault ts faults.LineTooLong = HasLongLine 2000 ts
IsFault ts (faults.Syntax p) = ¬ (HasLongLine 2000 ts) × IsSyntaxFault ts p
IsFault ts (faults.TooDeep p) = ¬ (HasLongLine 2000 ts) × IsDepthFault ts p
IsFault ts faults.TooManyStatements = (tree : Raw) × IsRead ts tree × (20000 < statements_of tree)
IsFault ts faults.TooManyMethods = (tree : Raw) × IsRead ts tree × (statements_of tree ≤ 20000) × (1000 < methods_of tree)
IsFault ts faults.OutOfMemory = Unit {0}

-- the answer is the tree that is spelled, within the limits, or the fault
abbrev pub IsAnswer : List Token → Result Raw ParseFault → Type 0
IsAnswer ts (Ok tree) = IsRead ts tree × (statements_of tree ≤ 20000) × (methods_of tree ≤ 1000)
IsAnswer ts (Err f) = IsFault ts f
