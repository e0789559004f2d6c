use Rattle.std.proofs.Common.{◌≡◌, true, take, drop, length, ◌-◌}
use Rattle.py_lexer.proofs.StringParts.{headed, opens_with_three, opens_with_one}
use Rattle.py_lexer.proofs.strings.opening_of.Goals as goal

pub returns-then-begins_with_two : goal.returns-then-begins_with_two
returns-then-begins_with_two c = opens_with_three c.args.codes.now (take (length c.args.codes.now - 1) (drop 1 c.args.codes.now)) c.c-item.result (headed c.args.codes.now c.c-item.result c.in-len1-up.len_at_least c.c-item.is) (c.is_quote.ensures.0 (cc)) (c.begins_with_two.ensures.0 c.if-begins_with_two.true)

pub returns-else-begins_with_two : goal.returns-else-begins_with_two
returns-else-begins_with_two c = opens_with_one c.args.codes.now (take (length c.args.codes.now - 1) (drop 1 c.args.codes.now)) c.c-item.result (headed c.args.codes.now c.c-item.result c.in-len1-up.len_at_least c.c-item.is) (c.is_quote.ensures.0 (cc)) (λ b. let e : c.begins_with_two.result ≡ true = c.begins_with_two.ensures.1 b in cc)
