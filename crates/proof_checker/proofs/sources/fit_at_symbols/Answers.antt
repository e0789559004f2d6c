use Rattle.std.proofs.Common.{refl, arith}
use Rattle.proof_checker.specs.Chains.{side_term}
use Rattle.proof_checker.proofs.RowFitting.{fit_further, fit_all}
use Rattle.proof_checker.proofs.sources.fit_at_symbols.Goals as goal

pub symbols-init : goal.symbols-init
symbols-init c w h lt = absurd (omega (arith, lt))

pub returns-then-not-both_fit : goal.returns-then-not-both_fit
returns-then-not-both_fit c = (
  λ h. absurd (cc (h)),
  λ all. let on = c.both_fit.ensures.1 (all c.in-Some.v c.in-Some.ensures.some.0) in absurd (cc (on, c.if-not-both_fit.true)),
)

pub symbols-preserved : goal.symbols-preserved
symbols-preserved c =
    fit_further c.symbols.from c.in-Some.v (side_term c.args.of.now) (side_term c.args.a.now) (side_term c.args.b.now) c.symbols.invariant c.in-Some.ensures.some.2 (c.both_fit.ensures.0 c.if-not-both_fit.false)

pub returns : goal.returns
returns c =
    (λ h. fit_all c.symbols.from (side_term c.args.of.now) (side_term c.args.a.now) (side_term c.args.b.now) c.symbols.invariant c.in_default.ensures.none, λ all. refl)
