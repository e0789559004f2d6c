use Rattle.std.proofs.Common.{◌≡◌, true, take, drop, length, ◌-◌}
use Rattle.py_lexer.specs.StringReading.{quotes_of}
use Rattle.py_lexer.proofs.StringParts.{headed, next_backslash, next_plain}
use Rattle.py_lexer.proofs.strings.next_part.Goals as goal

pub returns-then-c-eq92 : goal.returns-then-c-eq92
returns-then-c-eq92 c = next_backslash (quotes_of c.args.opening) c.args.codes.now (take (length c.args.codes.now - 1) (drop 1 c.args.codes.now)) c.c-item.result c.behind_backslash.result (headed c.args.codes.now c.c-item.result c.in-len1-up.len_at_least c.c-item.is) c.if-c-eq92.true (λ b. let e : c.closes.result ≡ true = c.closes.ensures.1 b in cc) c.behind_backslash.ensures

pub returns-then-fits_line : goal.returns-then-fits_line
returns-then-fits_line c = next_plain (quotes_of c.args.opening) c.args.codes.now (take (length c.args.codes.now - 1) (drop 1 c.args.codes.now)) c.c-item.result (headed c.args.codes.now c.c-item.result c.in-len1-up.len_at_least c.c-item.is) (λ b. let e : c.closes.result ≡ true = c.closes.ensures.1 b in cc) c.if-c-eq92.false (c.fits_line.ensures.0 c.if-fits_line.true)
