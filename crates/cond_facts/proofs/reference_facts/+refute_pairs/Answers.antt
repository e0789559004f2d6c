use Rattle.std.specs.Prelude.{◌≡◌, IfOk}
use Rattle.std.proofs.Common.{sym, subst, ◌∙◌}
use Rattle.proof_checker.specs.declared.Derivation.{Clash}
use Rattle.proof_checker.specs.Valuations.{reference_in}
use Rattle.cond_facts.specs.ReferencePairs.{AreRefuted}
use Rattle.cond_facts.specs.ReferenceValues.{AreMet, IsAnswerTo}
use Rattle.cond_facts.proofs.Deriving.{itself_refuted, numbers_refuted}
use Rattle.cond_facts.proofs.Fronts.{none_there}
use Rattle.cond_facts.proofs.Rounds.{first, others, first_and_others, more_answered, round_met, round_refuted}
use Rattle.cond_facts.proofs.reference_facts.+refute_pairs.Goals as goal

pub returns-in-Some : goal.returns-in-Some
returns-in-Some t c =
    subst (λ ps. AreRefuted ps c.args.different.now c.args.next (Clash c.in-Some.n c.in-Some.n)) (sym (none_there c.args.equal.now c.in-empty.len_below)) (itself_refuted c.args.different.now c.in-Some.n c.args.next c.in-Some.ensures)

pub returns-then-same_reference : goal.returns-then-same_reference
returns-then-same_reference t c =
    let ps = c.args.equal.now in
    let qs = c.args.different.now in
    subst (λ z. IfOk c.refute_pairs.result (IsAnswerTo z qs c.args.next)) (sym (first_and_others ps c.in-len1-up.len_at_least)) (more_answered (first ps) (others ps) qs c.args.next c.refute_pairs.result (sym c.same_reference.ensures ∙ c.if-same_reference.true) c.refute_pairs.ensures)

pub returns-then-other_numbers : goal.returns-then-other_numbers
returns-then-other_numbers t c =
    let ps = c.args.equal.now in
    let qs = c.args.different.now in
    subst (λ z. AreRefuted z qs c.args.next (Clash (first ps).place (first ps).place)) (sym (first_and_others ps c.in-len1-up.len_at_least)) (numbers_refuted (first ps) (others ps) qs c.args.next (sym c.other_numbers.ensures ∙ c.if-other_numbers.true))

pub returns-in-Values : goal.returns-in-Values
returns-in-Values t c =
    let ps = c.args.equal.now in
    let qs = c.args.different.now in
    let left : c.as_slice.result.now ≡ _ = c.as_slice.ensures ∙ c.in_ok-others-in-len1-up.ensures.pairs in
    let right : c.as_slice-else-other_numbers.result.now ≡ _ = c.as_slice-else-other_numbers.ensures ∙ c.in_ok-apart-in-len1-up.ensures.pairs in
    subst (λ z. AreMet (reference_in c.in_ok-with_equality-in-Values.field-0) z qs) (sym (first_and_others ps c.in-len1-up.len_at_least)) (round_met (first ps) (others ps) qs c.args.next c.as_slice.result.now c.as_slice-else-other_numbers.result.now c.in_ok-others-in-len1-up.others.next c.in_ok-apart-in-len1-up.apart.next c.in_ok-values-in-len1-up.field-0 c.in-Values.values c.in_ok-with_equality-in-Values.field-0 left right (sym c.same_reference.ensures ∙ c.if-same_reference.false) (sym c.other_numbers.ensures ∙ c.if-other_numbers.false) c.in-Values.is c.in_ok-values-in-len1-up.ensures c.in_ok-with_equality-in-Values.ensures)

pub returns : goal.returns
returns t c =
    let ps = c.args.equal.now in
    let qs = c.args.different.now in
    let left : c.as_slice.result.now ≡ _ = c.as_slice.ensures ∙ c.in_ok-others-in-len1-up.ensures.pairs in
    let right : c.as_slice-else-other_numbers.result.now ≡ _ = c.as_slice-else-other_numbers.ensures ∙ c.in_ok-apart-in-len1-up.ensures.pairs in
    subst (λ z. AreRefuted z qs c.args.next c.in_ok-d-in-Refuted-2.d) (sym (first_and_others ps c.in-len1-up.len_at_least)) (round_refuted (first ps) (others ps) qs c.args.next c.as_slice.result.now c.as_slice-else-other_numbers.result.now c.in_ok-others-in-len1-up.others.next c.in_ok-apart-in-len1-up.apart.next c.in_ok-values-in-len1-up.field-0 c.in-Refuted.d c.in_ok-d-in-Refuted.d c.in_ok-d-in-Refuted-2.d left c.in_ok-others-in-len1-up.ensures.next right c.in_ok-apart-in-len1-up.ensures.next c.in-Refuted.is c.in_ok-values-in-len1-up.ensures c.in_ok-d-in-Refuted.ensures c.in_ok-d-in-Refuted-2.ensures)
