use Rattle.std.proofs.Common.{◌≤◌, take, length, ◌-◌}
use Rattle.std.specs.Option.{option_map}
use Rattle.py_parser.specs.Depths.{form_of}
use Rattle.py_parser.proofs.DeepTokens.{Reads}
use Rattle.py_parser.proofs.deep.first_deep.Given as goal

abbrev pub invariant-tokens : goal.invariant-tokens
invariant-tokens l = record { within : l.index ≤ length l.fn.ts; low : l.opened ≤ 100; few : l.prefixes ≤ 101; reads : Reads 100 (take l.index l.fn.ts) l.opened l.prefixes (option_map form_of l.last) }

abbrev pub decreases-tokens : goal.decreases-tokens
decreases-tokens l = length l.fn.ts - l.index
