-- How a call of the code agrees with a part of the meaning of a run.
use Rattle.std.specs.Prelude.{◌≡◌, ⊤, Result, Ok, Err}
use Rattle.machine_model.specs.Results.{Res, Got, Stops}
use Rattle.machine_values.specs.declared.stop.Stop.{Stop}
use Rattle.machine_values.specs.declared.stop.Stop.TheVariants.{Halt, OutOfMemory}

-- what the call gave, seen in this way, is what the part gives, unless memory ran out
abbrev pub Agrees : {A : Type 0} → {T : Type 0} → Res A → Result T Stop → (T → A) → Type 0
Agrees r (Ok v) seen = r ≡ Got (seen v)
Agrees r (Err (Halt h)) seen = r ≡ Stops h
Agrees r (Err OutOfMemory) seen = ⊤
