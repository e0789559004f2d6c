-- Verdicts on assertions as the code gives them, and who is to hold the locks of duties.
use Rattle.std.specs.Prelude.{Bool, true, List, Option, Some, None}
use Rattle.py_base.specs.declared.Place.{Place}
use Rattle.py_syntax.specs.declared.Value.{Value}
use Rattle.machine_model.specs.declared.Object.{Object}
use Rattle.machine_model.specs.Reading.{Miss, Untrue, Unheld}
use Rattle.machine_model.specs.Moments.{owns_value}
use Rattle.contract_reading.specs.declared.verdict.Miss.{Miss as Missed}
use Rattle.contract_reading.specs.declared.verdict.Miss.TheVariants as miss
use Rattle.contract_reading.specs.declared.contracts.Placing.{Placing}
use Rattle.contract_reading.specs.declared.contracts.Placing.TheVariants.{Atom, At}
use Rattle.contract_reading.specs.declared.verdict.Holder.{Holder}
use Rattle.contract_reading.specs.declared.verdict.Holder.TheVariants.{Anyone, Thread}

abbrev pub missed : Option Missed → Option Miss
missed None = None
missed (Some (miss.Untrue p)) = Some (Untrue p)
missed (Some (miss.Unheld p)) = Some (Unheld p)

-- whether a value is a lock that is held, as one who reads a contract asks
abbrev pub held_by : List Object → Holder → Option Value → Bool
held_by heap Anyone v = true
held_by heap (Thread t) v = owns_value heap t v

-- the place of a fault of an atom at this place
abbrev pub placed : Placing → Place → Place
placed Atom p = p
placed (At q) p = q
