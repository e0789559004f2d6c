-- Ends of calls as the code names them.
use Rattle.py_syntax.specs.declared.Value.{Value}
use Rattle.py_syntax.specs.WaysOut.{Ending, Normal, Raised}
use Rattle.contract_duties.specs.declared.exits.End.{End}
use Rattle.contract_duties.specs.declared.exits.End.TheVariants as end

abbrev pub ending_in : End → Ending Value
ending_in (end.Normal v) = Normal v
ending_in (end.Raised c) = Raised c
