-- The truth value of a comparison.
use Rattle.std.specs.Prelude.{Bool, Option, Some, None}
use Rattle.py_syntax.specs.declared.Value.{Value}
use Rattle.py_syntax.specs.declared.Value.TheVariants.{Truth}

abbrev pub truth_in : Option Value → Option Bool
truth_in (Some (Truth b)) = Some b
truth_in v = None
