-- What is answered where the front gives no module.
use Rattle.std.specs.Prelude.{ℕ, List, [], codes}
use Rattle.py_front.specs.declared.FrontFault.{FrontFault}
use Rattle.py_front.specs.declared.FrontFault.TheVariants as faults
use Rattle.nagini_cli.specs.Texts.{limit_line, refusal_line, mistyped_line}
use Rattle.nagini_cli.specs.declared.status.TheConstants.{REFUSED, LIMIT}

-- a limit of the module that is passed has its own status
abbrev pub refusal_status : FrontFault → ℕ
refusal_status faults.LineTooLong = LIMIT
refusal_status faults.TooManyStatements = LIMIT
refusal_status faults.TooManyMethods = LIMIT
refusal_status f = REFUSED

-- the name of the fault and its place, or the limit; of a text no want of memory is a fault
abbrev pub refusal_text : FrontFault → List ℕ
refusal_text (faults.BadUtf8 p) = refusal_line (codes "BadUtf8") p
refusal_text (faults.BadCharacter p) = refusal_line (codes "BadCharacter") p
refusal_text (faults.TabInIndent p) = refusal_line (codes "TabInIndent") p
refusal_text (faults.BadDedent p) = refusal_line (codes "BadDedent") p
refusal_text (faults.OpenString p) = refusal_line (codes "OpenString") p
refusal_text (faults.LiteralTooLarge p) = refusal_line (codes "LiteralTooLarge") p
refusal_text (faults.NameNotNfkc p) = refusal_line (codes "NameNotNfkc") p
refusal_text (faults.NameTooLong p) = refusal_line (codes "NameTooLong") p
refusal_text (faults.Syntax p) = refusal_line (codes "Syntax") p
refusal_text (faults.TooDeep p) = refusal_line (codes "TooDeep") p
refusal_text faults.LineTooLong = limit_line (codes "line")
refusal_text faults.TooManyStatements = limit_line (codes "statements")
refusal_text faults.TooManyMethods = limit_line (codes "methods")
refusal_text (faults.DuplicateName p) = refusal_line (codes "DuplicateName") p
refusal_text (faults.UnknownBase p) = refusal_line (codes "UnknownBase") p
refusal_text (faults.BaseCycle p) = refusal_line (codes "BaseCycle") p
refusal_text (faults.BadInit p) = refusal_line (codes "BadInit") p
refusal_text (faults.NoMain p) = refusal_line (codes "NoMain") p
refusal_text (faults.Mistyped p rule) = mistyped_line p rule
refusal_text (faults.BoolAsInt p) = refusal_line (codes "BoolAsInt") p
refusal_text (faults.Unassigned p) = refusal_line (codes "Unassigned") p
refusal_text (faults.ContractPlace p) = refusal_line (codes "ContractPlace") p
refusal_text (faults.OldInPre p) = refusal_line (codes "OldInPre") p
refusal_text (faults.DutyPlace p) = refusal_line (codes "DutyPlace") p
refusal_text (faults.BadFraction p) = refusal_line (codes "BadFraction") p
refusal_text (faults.RecursivePure p) = refusal_line (codes "RecursivePure") p
refusal_text (faults.BadTarget p) = refusal_line (codes "BadTarget") p
refusal_text (faults.UnknownPredicate p) = refusal_line (codes "UnknownPredicate") p
refusal_text (faults.NotBuilt p) = refusal_line (codes "NotBuilt") p
refusal_text faults.OutOfMemory = []
