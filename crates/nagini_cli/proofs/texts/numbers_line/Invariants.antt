use Rattle.std.proofs.Common.{◌≡◌, ◌++◌, take, flat_map, string_bytes}
use Rattle.nagini_cli.specs.Texts.{spaced}
use Rattle.nagini_cli.proofs.texts.numbers_line.Given as goal

-- the numbers so far are written
abbrev pub invariant-loop-number : goal.invariant-loop-number
invariant-loop-number l = string_bytes l.line ≡ l.front ++ flat_map spaced (take l.number-index l.numbers)
