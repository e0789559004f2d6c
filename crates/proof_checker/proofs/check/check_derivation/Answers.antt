use Rattle.std.specs.Prelude.{◌≡◌, [], ◌∷◌, ◌++◌, map}
use Rattle.std.proofs.Common.{rules, ◌∙◌, ap, subst}
use Rattle.proof_checker.specs.declared.chain.Chain.{First}
use Rattle.proof_checker.specs.Conditions.{opposite, plain_literal}
use Rattle.proof_checker.specs.Derivations.{Derives, DerivesFrom, first_assumptions}
use Rattle.proof_checker.specs.Chains.{facts}
use Rattle.proof_checker.proofs.Chained.{facts-First}
use Rattle.proof_checker.proofs.Sound.{derived_holds}
use Rattle.proof_checker.proofs.check.check_derivation.Goals as goal

pub returns-then-is_sorted-clause-sound : goal.returns-then-is_sorted-clause-sound
returns-then-is_sorted-clause-sound c told m =
    let whole = c.args.c.now in
    let hyps : c.as_slice.result.now ≡ whole.hyps = search rules in
    let list : facts First ++ map plain_literal (c.as_slice.result.now ++ opposite whole.goal ∷ []) ≡ first_assumptions whole =
    ap (λ hs. facts First ++ map plain_literal (hs ++ opposite whole.goal ∷ [])) hyps ∙ ap (λ fs. fs ++ first_assumptions whole) facts-First in
    let derives : Derives whole c.args.d.now = subst (λ fs. DerivesFrom whole fs c.args.d.now) list (c.derives_after.ensures.0 told) in
    derived_holds whole c.args.d.now (c.is_sorted.ensures.0 c.if-is_sorted.true) derives m
