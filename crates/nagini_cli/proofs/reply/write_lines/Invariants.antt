use Rattle.std.proofs.Common.{◌≡◌, false, take, flat_map, string_bytes}
use Rattle.std.specs.Io.KnownBytes.{Appends}
use Rattle.nagini_cli.proofs.reply.write_lines.Given as goal

-- the lines so far are written, and no write has failed
abbrev pub invariant-loop-line : goal.invariant-loop-line
invariant-loop-line g l =
    Appends (g.O.Sink.written l.initial.out) (g.O.Sink.written l.out) (flat_map string_bytes (take l.line-index l.lines))
    × (g.O.Sink.faults l.out ≡ g.O.Sink.faults l.initial.out)
    × (g.O.Sink.faults l.initial.out ≡ 0 → g.O.Sink.late l.initial.out ≡ false → g.O.Sink.late l.out ≡ false)
