use Rattle.std.proofs.Common.{◌≡◌, ◌-◌, ◌≤◌, [], take, drop, length, arith, List, ℕ, subst, ap, ◌∙◌, length-drop, drop-drop}
use Rattle.py_tokens.specs.TextPieces.{Longest}
use Rattle.py_lexer.specs.LongestForms.{AreMoreDigits}
use Rattle.py_lexer.proofs.LongestNumber.{digits_end, digits_grow}
use Rattle.py_lexer.proofs.numbers.more_digits_len.Goals as goal

pub returns-then-len-eq0-clause-longest : goal.returns-then-len-eq0-clause-longest
returns-then-len-eq0-clause-longest c = digits_end c.args.codes.now c.digits.n c.digits.invariant.so_far (subst (λ (x : List ℕ). Longest AreMoreDigits [] x) c.digits.invariant.behind (c.one_more_len-len.ensures.none c.if-len-eq0.true))

pub digits-preserved : goal.digits-preserved
digits-preserved c =
    let k : length (drop c.digits.n c.args.codes.now) ≡ length c.args.codes.now - c.digits.n = length-drop c.digits.n c.args.codes.now in
    let w : c.one_more_len-len.result ≤ length (drop c.digits.n c.args.codes.now) = subst (λ (x : List ℕ). c.one_more_len-len.result ≤ length x) c.digits.invariant.behind c.one_more_len-len.ensures.within in
    record {
      within = omega arith;
      behind = c.split_at.ensures.back ∙ ap (λ (x : List ℕ). drop c.one_more_len-len.result x) c.digits.invariant.behind ∙ drop-drop c.one_more_len-len.result c.digits.n c.args.codes.now;
      so_far = digits_grow c.args.codes.now c.digits.n c.one_more_len-len.result c.digits.invariant.so_far (subst (λ (x : List ℕ). AreMoreDigits (take c.one_more_len-len.result x)) c.digits.invariant.behind c.one_more_len-len.ensures.digit);
    }
