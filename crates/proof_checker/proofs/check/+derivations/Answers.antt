use Rattle.std.proofs.Common.{rules, ◌≡◌, ◌∙◌, ap}
use Rattle.proof_checker.specs.declared.derivation.Derivation.{Derivation-F, out-Derivation}
use Rattle.proof_checker.specs.Chains.{facts, view_literal}
use Rattle.proof_checker.specs.Additions.{IsOtherSide, IsReplacement}
use Rattle.proof_checker.specs.Uses.{Congruence}
use Rattle.proof_checker.proofs.Derived.{by_only, by_none, split_derives, replace_derives, congruent_derives, combine_derives, out-Split, out-Replace, out-Congruent, out-Clash, out-Combine, told_by, both_told_by}
use Rattle.proof_checker.proofs.Ruled.{clash_derives}
use Rattle.proof_checker.proofs.check.+derivations.Goals as goal

pub derives_applied-returns-in-None : goal.derives_applied-returns-in-None
derives_applied-returns-in-None t c =
    let fs = facts c.args.chain.now in
    by_none c.args.c.now fs (Congruence c.args.c.now fs c.args.i c.args.j) c.args.d.now c.in-None.ensures.none

pub derives_applied-returns-in-Some : goal.derives_applied-returns-in-Some
derives_applied-returns-in-Some t c =
    let fs = facts c.args.chain.now in
    by_only c.args.c.now fs (Congruence c.args.c.now fs c.args.i c.args.j) c.args.d.now (view_literal c.in-Some.k) c.derives_adding.result c.in-Some.ensures.some c.derives_adding.ensures

pub derives_replaced-returns-in-None : goal.derives_replaced-returns-in-None
derives_replaced-returns-in-None t c =
    let fs = facts c.args.chain.now in
    by_none c.args.c.now fs (IsReplacement fs c.args.i c.args.j) c.args.d.now c.in-None.ensures

pub derives_replaced-returns-in-Some : goal.derives_replaced-returns-in-Some
derives_replaced-returns-in-Some t c =
    let fs = facts c.args.chain.now in
    by_only c.args.c.now fs (IsReplacement fs c.args.i c.args.j) c.args.d.now (view_literal c.in-Some.k) c.derives_adding.result c.in-Some.ensures c.derives_adding.ensures

pub derives_without-returns-in-None : goal.derives_without-returns-in-None
derives_without-returns-in-None t c =
    let fs = facts c.args.chain.now in
    by_none c.args.c.now fs (IsOtherSide c.args.c.now fs c.args.l.now) c.args.d.now c.in-None.ensures

pub derives_without-returns-in-Some : goal.derives_without-returns-in-Some
derives_without-returns-in-Some t c =
    let fs = facts c.args.chain.now in
    by_only c.args.c.now fs (IsOtherSide c.args.c.now fs c.args.l.now) c.args.d.now (view_literal c.in-Some.k) c.derives_adding.result c.in-Some.ensures c.derives_adding.ensures

pub derives_from-returns-then-derives_with : goal.derives_from-returns-then-derives_with
derives_from-returns-then-derives_with t c =
    let held = c.get.result.now in
    let other = c.get-then-derives_with.result.now in
    let first : c.in-Split.held ≡ held = search rules in
    let second : c.in-Split.other ≡ other = search rules in
    let form : Derivation-F.Split c.in-Split.l c.in-Split.held c.in-Split.other ≡ Derivation-F.Split c.in-Split.l held other = cc (first, second) in
    let e = ap out-Derivation c.in-Split.is ∙ out-Split c.in-Split.l c.in-Split.held c.in-Split.other ∙ form in
    both_told_by (split_derives c.args.c.now (facts c.args.chain.now) c.args.d.now c.in-Split.l held other e) c.if-derives_with.true c.derives_with.ensures c.derives_without.ensures

pub derives_from-returns-in-Replace : goal.derives_from-returns-in-Replace
derives_from-returns-in-Replace t c =
    let rest = c.get-in-Replace.result.now in
    let same : c.in-Replace.rest ≡ rest = search rules in
    let e = ap out-Derivation c.in-Replace.is ∙ out-Replace c.in-Replace.i c.in-Replace.j c.in-Replace.rest ∙ ap (Derivation-F.Replace c.in-Replace.i c.in-Replace.j) same in
    told_by (replace_derives c.args.c.now (facts c.args.chain.now) c.args.d.now c.in-Replace.i c.in-Replace.j rest e) c.derives_replaced.ensures

pub derives_from-returns-in-Congruent : goal.derives_from-returns-in-Congruent
derives_from-returns-in-Congruent t c =
    let rest = c.get-in-Congruent.result.now in
    let same : c.in-Congruent.rest ≡ rest = search rules in
    let e = ap out-Derivation c.in-Congruent.is ∙ out-Congruent c.in-Congruent.i c.in-Congruent.j c.in-Congruent.rest ∙ ap (Derivation-F.Congruent c.in-Congruent.i c.in-Congruent.j) same in
    told_by (congruent_derives c.args.c.now (facts c.args.chain.now) c.args.d.now c.in-Congruent.i c.in-Congruent.j rest e) c.derives_applied.ensures

pub derives_from-returns-in-Clash : goal.derives_from-returns-in-Clash
derives_from-returns-in-Clash t c =
    let e = ap out-Derivation c.in-Clash.is ∙ out-Clash c.in-Clash.i c.in-Clash.j in
    told_by (clash_derives c.args.c.now (facts c.args.chain.now) c.args.d.now c.in-Clash.i c.in-Clash.j e) c.do_clash.ensures

pub derives_from-returns-in-Combine : goal.derives_from-returns-in-Combine
derives_from-returns-in-Combine t c =
    let steps = c.as_slice.result.now in
    let same : c.in-Combine.steps ≡ steps = search rules in
    let e = ap out-Derivation c.in-Combine.is ∙ out-Combine c.in-Combine.steps ∙ ap (Derivation-F.Combine) same in
    told_by (combine_derives c.args.c.now (facts c.args.chain.now) c.args.d.now steps e) c.is_combination.ensures
