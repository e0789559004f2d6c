use Rattle.std.proofs.Common.{◌≡◌, ◌≤◌, arith, length, get_or, rules}
use Rattle.std.proofs.lemmas.List.{take_rest}
use Rattle.machine_items.proofs.Arguments.{spaced_from}
use Rattle.machine_items.proofs.printing.spaced.Goals as goal

pub returns-in_ok-push_further-in-len1-up : goal.returns-in_ok-push_further-in-len1-up
returns-in_ok-push_further-in-len1-up c =
    let some : 1 ≤ length c.args.texts.now = omega arith in
    let there : c.first-item.result ≡ get_or c.args.texts.now 0 c.first-item.result = search rules in
    let is = spaced_from c.args.texts.now c.first-item.result some there in
    let line : c.in_ok-line-in-len1-up.line.items ≡ c.first-item.result = search rules in
    let rest = take_rest c.args.texts.now 1 in
    cc (is, line, rest, c.in_ok-push_further-in-len1-up.ensures)
