use Rattle.std.proofs.Common.{◌≡◌, ◌++◌, take, flat_map}
use Rattle.type_terms.specs.Calls.{function_fault}
use Rattle.type_terms.proofs.arguments.note_functions.Given as goal

abbrev pub invariant-arguments : goal.invariant-arguments
invariant-arguments l = l.found ≡ l.fn.found ++ flat_map (function_fault l.rule) (take l.worth-index l.arguments)
