use Rattle.std.proofs.Common.{◌≡◌, map, take}
use Rattle.py_tokens.specs.declared.Spot.{Spot}
use Rattle.py_lexer.proofs.cut.codes_of.Given as goal

abbrev pub invariant-loop-spot : goal.invariant-loop-spot
invariant-loop-spot l = l.codes.items ≡ map (λ (spot : Spot). spot.code) (take l.spot-index l.spots)
