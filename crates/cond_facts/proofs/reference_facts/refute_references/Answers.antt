use Rattle.std.specs.Prelude.{◌≡◌, length, ◌++◌}
use Rattle.std.proofs.Common.{ap, ◌∙◌, arith}
use Rattle.cond_facts.specs.ReferencePairs.{equal_pairs, different_pairs}
use Rattle.cond_facts.proofs.Rounds.{said_of_facts}
use Rattle.cond_facts.proofs.reference_facts.refute_references.Goals as goal

pub returns : goal.returns
returns c plain =
    let fs = c.args.facts.now in
    let left : c.as_slice.result.now ≡ equal_pairs 0 fs = c.as_slice.ensures ∙ c.in_ok-next.ensures.equal ∙ ap (λ xs. xs ++ equal_pairs 0 fs) c.new-equal.ensures in
    let right : c.as_slice-2.result.now ≡ different_pairs 0 fs = c.as_slice-2.ensures ∙ c.in_ok-next.ensures.different ∙ ap (λ xs. xs ++ different_pairs 0 fs) c.new-different.ensures in
    let next : c.in_ok-next.next ≡ length fs = let e = c.in_ok-next.ensures.next in omega (arith, e) in
    said_of_facts fs c.as_slice.result.now c.as_slice-2.result.now c.in_ok-next.next c.refute_pairs.result plain left right next c.refute_pairs.ensures
