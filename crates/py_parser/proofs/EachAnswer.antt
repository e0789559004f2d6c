-- Each list of tokens that ends a text has an answer.
use Rattle.std.proofs.Common.{◌<◌, ◌≤◌, ◌≡◌, ◌⊎◌, inl, inr, List, Result, Ok, Err}
use Rattle.py_base.specs.declared.Place.{Place}
use Rattle.py_tokens.specs.declared.Token.{Token}
use Rattle.raw_syntax.specs.declared.Raw.{Raw}
use Rattle.py_grammar.specs.Spelling.{IsFirstBad}
use Rattle.py_parser.specs.Limits.{HasLongLine}
use Rattle.py_parser.specs.Depths.{IsNowhereDeep, IsDeepAt}
use Rattle.py_parser.specs.Counts.{statements_of, methods_of}
use Rattle.py_parser.specs.Reading.{IsEnded}
use Rattle.py_parser.specs.Parsing.{IsRead, IsAnswer}
use Rattle.py_parser.specs.declared.fault.ParseFault.{ParseFault}
use Rattle.py_parser.specs.declared.fault.ParseFault.TheVariants as faults
use Rattle.py_parser.proofs.Cases.{within_or_over, one_place_or_two}
use Rattle.py_parser.proofs.Faults.{deep_fault, deep_fault_here, syntax_in_front, syntax_alone, spelled_begins}
use Rattle.py_parser.proofs.LongLines.{long_or_not}
use Rattle.py_parser.proofs.DeepTokens.{Search, is_nowhere, is_found, search_deep}
use Rattle.py_parser.proofs.Readings.{MachineLaws, Reading, is_spelled, is_refused, is_unfinished, reading}

-- an answer other than that memory ran out
abbrev pub HasAnswer : List Token → Type 0
HasAnswer ts = (r : Result Raw ParseFault) × IsAnswer ts r × (r ≡ Err faults.OutOfMemory → ⊥)

-- a tree is kept where it is within the limits
counted : (ts : List Token) (tree : Raw) → IsRead ts tree → HasAnswer ts
counted ts tree h = by (within_or_over (statements_of tree) 20000) (within_or_over (methods_of tree) 1000)
  where
    by : (statements_of tree ≤ 20000) ⊎ (20000 < statements_of tree) → (methods_of tree ≤ 1000) ⊎ (1000 < methods_of tree) → HasAnswer ts
    by (inr many) d = (Err faults.TooManyStatements, (tree, h, many), λ e. cc)
    by (inl few) (inr many) = (Err faults.TooManyMethods, (tree, h, few, many), λ e. cc)
    by (inl few) (inl fewer) = (Ok tree, (h, few, fewer), λ e. cc)

-- no token is nested too deep
shallow : (ts : List Token) → (HasLongLine 2000 ts → ⊥) → IsEnded ts → IsNowhereDeep 100 ts → Reading ts → HasAnswer ts
shallow ts lines ended low (is_spelled tree s) = counted ts tree (record { lines = lines; depth = low; spelled = s })
shallow ts lines ended low (is_refused p h) = (Err (faults.Syntax p), (lines, syntax_alone ts p low h), λ e. cc)
shallow ts lines ended low (is_unfinished begins going) = absurd (going ended)

-- a token before the one that is nested too deep goes on with no module
refused_before : (ts before after : List Token) (k : Token) (p : Place) → (HasLongLine 2000 ts → ⊥) → IsDeepAt 100 ts before k after → IsFirstBad before p → (p ≡ k.place) ⊎ (p ≡ k.place → ⊥) → HasAnswer ts
refused_before ts before after k p lines deep h (inl same) = (Err (faults.TooDeep p), (lines, deep_fault_here ts before after k p deep h same), λ e. cc)
refused_before ts before after k p lines deep h (inr apart) = (Err (faults.Syntax p), (lines, syntax_in_front ts before after k p deep h apart), λ e. cc)

-- a token is nested too deep
before_deep : (ts before after : List Token) (k : Token) → (HasLongLine 2000 ts → ⊥) → IsDeepAt 100 ts before k after → Reading before → HasAnswer ts
before_deep ts before after k lines deep (is_spelled tree s) = (Err (faults.TooDeep k.place), (lines, deep_fault ts before after k deep (spelled_begins before tree s)), λ e. cc)
before_deep ts before after k lines deep (is_refused p h) = refused_before ts before after k p lines deep h (one_place_or_two p k.place)
before_deep ts before after k lines deep (is_unfinished begins going) = (Err (faults.TooDeep k.place), (lines, deep_fault ts before after k deep begins), λ e. cc)

short_lines : MachineLaws → (ts : List Token) → IsEnded ts → (HasLongLine 2000 ts → ⊥) → Search 100 ts → HasAnswer ts
short_lines m ts ended lines (is_nowhere low) = shallow ts lines ended low (reading m ts)
short_lines m ts ended lines (is_found before k after deep) = before_deep ts before after k lines deep (reading m before)

answered : MachineLaws → (ts : List Token) → IsEnded ts → HasLongLine 2000 ts ⊎ (HasLongLine 2000 ts → ⊥) → HasAnswer ts
answered m ts ended (inl long) = (Err faults.LineTooLong, long, λ e. cc)
answered m ts ended (inr lines) = short_lines m ts ended lines (search_deep 100 ts)

pub each_answer : MachineLaws → (ts : List Token) → IsEnded ts → HasAnswer ts
each_answer m ts ended = answered m ts ended (long_or_not 2000 ts)
