use Rattle.std.proofs.Common.{rules, ◌≤◌, length, sym, ◌∙◌}
use Rattle.contract_reading.specs.Scenes.{scene_in, told}
use Rattle.contract_reading.proofs.Chained.{without_keys, linked_end}
use Rattle.contract_reading.proofs.evaluation.+evaluate.Goals as goal

pub evaluate_links-returns-then-at-keys : goal.evaluate_links-returns-then-at-keys
evaluate_links-returns-then-at-keys t c =
    let past : length c.args.keys.now ≤ c.loop-at.at = search rules in
    sym (c.loop-at.invariant.1 ∙ without_keys (scene_in c.args.view) c.loop-at.last _ c.args.keys.now c.loop-at.at past)

pub evaluate_links-returns-in-Ends : goal.evaluate_links-returns-in-Ends
evaluate_links-returns-in-Ends t c =
    sym (c.loop-at.invariant.1 ∙ linked_end (scene_in c.args.view) c.loop-at.last c.args.all.now c.args.keys.now c.loop-at.at c.index-all-at.result _ (told c.evaluate.result) c.link_to.result _ c.loop-at-test.true c.if-at-keys.false c.index-all-at.is c.evaluate.ensures c.link_to.ensures c.in-Ends.is)

pub evaluate_links-loop-at-preserved : goal.evaluate_links-loop-at-preserved
evaluate_links-loop-at-preserved t c =
    (c.loop-at-test.true, c.loop-at.invariant.1 ∙ linked_end (scene_in c.args.view) c.loop-at.last c.args.all.now c.args.keys.now c.loop-at.at c.index-all-at.result _ (told c.evaluate.result) c.link_to.result _ c.loop-at-test.true c.if-at-keys.false c.index-all-at.is c.evaluate.ensures c.link_to.ensures c.in-Next.is)
