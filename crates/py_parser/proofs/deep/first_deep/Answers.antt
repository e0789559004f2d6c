use Rattle.std.proofs.Common.{arith, ◌+◌, drop, take, rules}
use Rattle.std.specs.Option.{option_map}
use Rattle.py_grammar.specs.Nesting.{is_prefix}
use Rattle.py_parser.specs.Depths.{form_of}
use Rattle.py_parser.proofs.DeepTokens.{begins, picked, goes_on_to, deep_here, one_more}
use Rattle.py_parser.proofs.deep.first_deep.Goals as goal

pub tokens-init : goal.tokens-init
tokens-init c = record { within = search rules; low = search rules; few = search rules; reads = begins 100 }

pub returns-then-opened-prefixes-gt-NESTING_LIMIT : goal.returns-then-opened-prefixes-gt-NESTING_LIMIT
returns-then-opened-prefixes-gt-NESTING_LIMIT c =
    let k = c.index-ts-index.result in
    let i = c.tokens.index in
    let ts = c.args.ts.now in
    let over = c.if-opened-prefixes-gt-NESTING_LIMIT.true in
    let opens = c.open_after-opened.ensures in
    (drop (i + 1) ts, deep_here 100 ts (take i ts) (drop (i + 1) ts) c.tokens.opened c.tokens.prefixes (option_map form_of c.tokens.last) k c.tokens.invariant.reads (picked i ts k c.tokens-test.true c.index-ts-index.is) (omega (arith, over, opens)))

pub tokens-preserved : goal.tokens-preserved
tokens-preserved c =
    let low = c.if-opened-prefixes-gt-NESTING_LIMIT.false in record {
      within = omega (arith, c.tokens-test.true);
      low = omega (arith, low);
      few = one_more (is_prefix (option_map form_of c.tokens.last) c.index-ts-index.result.form) c.tokens.prefixes c.prefixes_behind-prefixes.result c.prefixes_behind-prefixes.ensures (omega (arith, low));
      reads = goes_on_to 100 c.tokens.index c.args.ts.now c.tokens.opened c.tokens.prefixes c.open_after-opened.result c.prefixes_behind-prefixes.result (option_map form_of c.tokens.last) c.index-ts-index.result c.tokens-test.true c.index-ts-index.is c.open_after-opened.ensures c.prefixes_behind-prefixes.ensures c.tokens.invariant.reads low;
    }
