-- What is written of a module. Each line ends with LF, and numbers are decimal.
use Rattle.std.specs.Prelude.{◌≡◌, ℕ, List, [], ◌∷◌, ◌++◌, codes, decimal}
use Rattle.py_base.specs.declared.Place.{Place}
use Rattle.type_base.specs.declared.Fault.{Fault}
use Rattle.type_base.specs.declared.Rank.{Rank}
use Rattle.type_base.specs.declared.Rank.TheVariants as ranks
use Rattle.contract_kinds.specs.declared.Breach.{Breach}
use Rattle.contract_kinds.specs.declared.Rule.{Rule}
use Rattle.contract_kinds.specs.declared.Rule.TheVariants as rules
use Rattle.type_text.specs.declared.verdict.Verdict.{Verdict}
use Rattle.type_text.specs.declared.verdict.Verdict.TheVariants.{NotTyped, Typed, Faulty, Broken}
use Rattle.type_text.specs.Verdicts.{IsVerdict}

abbrev pub line_end : List ℕ
line_end = 10 ∷ []

abbrev pub place_text : Place → List ℕ
place_text p = decimal p.line ++ (codes ":" ++ decimal p.col)

abbrev pub ranked_text : Place → Rank → List ℕ
ranked_text p (ranks.Mistyped rule) = codes "Mistyped " ++ (decimal p.line ++ (codes ":" ++ (decimal p.col ++ (codes " rule " ++ decimal rule))))
ranked_text p ranks.BoolAsInt = codes "BoolAsInt " ++ place_text p
ranked_text p ranks.Unassigned = codes "Unassigned " ++ place_text p

abbrev pub fault_text : Fault → List ℕ
fault_text f = ranked_text f.place f.rank

abbrev pub ruled_text : Place → Rule → List ℕ
ruled_text p rules.ContractPlace = codes "ContractPlace " ++ place_text p
ruled_text p rules.OldInPre = codes "OldInPre " ++ place_text p
ruled_text p rules.DutyPlace = codes "DutyPlace " ++ place_text p
ruled_text p rules.BadFraction = codes "BadFraction " ++ place_text p
ruled_text p rules.RecursivePure = codes "RecursivePure " ++ place_text p
ruled_text p rules.BadTarget = codes "BadTarget " ++ place_text p
ruled_text p rules.UnknownPredicate = codes "UnknownPredicate " ++ place_text p

abbrev pub breach_text : Breach → List ℕ
breach_text b = ruled_text b.place b.rule

abbrev pub verdict_text : Verdict → List ℕ
verdict_text NotTyped = codes "not typed"
verdict_text Typed = codes "ok"
verdict_text (Faulty f) = fault_text f
verdict_text (Broken b) = breach_text b

-- the line of a module: its name, a colon and a space, and what is found of its text
pub record IsAnswerLine (name text line : List ℕ) : Type 0 where
  pub found : Verdict
  pub is_found : IsVerdict text found
  pub line_is : line ≡ name ++ (codes ": " ++ (verdict_text found ++ line_end))
