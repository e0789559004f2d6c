use Rattle.std.proofs.Common.{rules, ◌≡◌, sym, ◌∙◌, subst, []}
use Rattle.std.proofs.lemmas.Bool.{false≢true}
use Rattle.py_parser.proofs.LongLines.{LongFrom, starts, started, goes, none}
use Rattle.py_parser.proofs.long.has_long_line.Goals as goal

pub tokens-init : goal.tokens-init
tokens-init c = record { low = search rules; forth = λ h. starts 2000 c.args.ts.now h; back = λ h. started 2000 c.args.ts.now h }

pub tokens-preserved : goal.tokens-preserved
tokens-preserved c =
    let step = goes 2000 c.tokens.count c.in-Some.token.now c.in-Some.after.now c.tokens.invariant.low (sym c.is_over.ensures ∙ c.if-is_over.false) in
    let is = c.in-Some.ensures in
    let next = c.count_behind-count.ensures in record {
      low = rw next step.low;
      forth = λ h. rw next (step.forth (subst (λ ts. LongFrom 2000 c.tokens.count ts) is (c.tokens.invariant.forth h)));
      back = λ h. c.tokens.invariant.back (subst (λ ts. LongFrom 2000 c.tokens.count ts) (sym is) (step.back (subst (λ n. LongFrom 2000 n c.in-Some.after.now) next h)));
    }

pub returns : goal.returns
returns c =
    let empty : c.tokens.rest.now ≡ [] = search rules in
    (λ f. absurd (false≢true f), λ h. absurd (none 2000 c.tokens.count c.tokens.invariant.low (subst (λ ts. LongFrom 2000 c.tokens.count ts) empty (c.tokens.invariant.forth h))))
