use Rattle.std.proofs.Common.{sym, subst, List, ℕ, Option, drop, take, ◌+◌, flat_map, string_bytes, arith}
use Rattle.io_edge.specs.Outside.{AppendsPart}
use Rattle.nagini_cli.proofs.Written.{AppendsPart-append, flat_map-at}
use Rattle.nagini_cli.proofs.reply.write_lines.Goals as goal

pub returns-in-Err-clause-part : goal.returns-in-Err-clause-part
returns-in-Err-clause-part g c =
    let old : Option (List ℕ) = g.O.Sink.written c.args.out.now in
    let mid : Option (List ℕ) = g.O.Sink.written c.loop-line.out in
    let new : Option (List ℕ) = g.O.Sink.written c.write.new.self in
    let before : List ℕ = flat_map string_bytes (take c.loop-line.line-index c.args.lines.now) in
    let rest : List ℕ = flat_map string_bytes (drop (c.loop-line.line-index + 1) c.args.lines.now) in
    let piece : AppendsPart mid new (string_bytes c.line-item.result) = subst (λ bytes. AppendsPart mid new bytes) c.as_bytes.ensures.value c.in-Err.ensures.part in
    subst (λ text. AppendsPart old new text)
    (sym (flat_map-at string_bytes c.args.lines.now c.loop-line.line-index c.line-item.result (omega arith) c.line-item.is))
    (AppendsPart-append old mid new before (string_bytes c.line-item.result) rest c.loop-line.invariant.0 piece)
