use Rattle.std.specs.Prelude.{pos, ◌<ℤ◌, ◌≤ℤ◌, FitsSigned}
use Rattle.std.specs.Int.{w128}
use Rattle.std.proofs.Common.{rules}
use Rattle.std.proofs.lemmas.Int.{to_z-of_z}
use Rattle.proof_checker.specs.declared.replies.Figure.TheVariants.{Units}
use Rattle.proof_checker.specs.Combos.{IsSumAt, AddsUp}
use Rattle.proof_checker.proofs.Adding.{adds_up_from, sum_of_bounds, sum_of_coefs, refused}
use Rattle.proof_checker.proofs.combos.is_sum.Goals as goal

pub returns-then-not-are_positive : goal.returns-then-not-are_positive
returns-then-not-are_positive c a b left right =
    let s = c.args.s.now in
    let fl : FitsSigned w128 s.by_left = search rules in
    let fr : FitsSigned w128 s.by_right = search rules in
    let signs = rw (to_z-of_z w128 s.by_left fl, to_z-of_z w128 s.by_right fr) at c.are_positive.ensures in
    refused c.are_positive.result ((pos 0 <ℤ s.by_left) × (pos 0 ≤ℤ s.by_right)) (AddsUp a b s) c.if-not-are_positive.true (λ h. (h.by_left, h.by_right)) signs.1

pub returns-then-not-is_sum_at : goal.returns-then-not-is_sum_at
returns-then-not-is_sum_at c a b left right =
    refused c.is_sum_at.result (IsSumAt Units a b c.args.s.now) (AddsUp a b c.args.s.now) c.if-not-is_sum_at.true (λ h. sum_of_bounds a b c.args.s.now h) (c.is_sum_at.ensures a b left right).1

pub returns : goal.returns
returns c a b left right =
    let s = c.args.s.now in
    let fl : FitsSigned w128 s.by_left = search rules in
    let fr : FitsSigned w128 s.by_right = search rules in
    let signs = rw (to_z-of_z w128 s.by_left fl, to_z-of_z w128 s.by_right fr) at c.are_positive.ensures in
    let p = signs.0 c.if-not-are_positive.false in
    let sums = c.are_sums.ensures a b left right in
    (λ h. adds_up_from a b s fl fr p.0 p.1 ((c.is_sum_at.ensures a b left right).0 c.if-not-is_sum_at.false) (sums.0 h), λ h. sums.1 (sum_of_coefs a b s h))
