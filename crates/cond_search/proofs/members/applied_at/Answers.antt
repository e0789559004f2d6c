use Rattle.cond_search.proofs.Finding.{item_at, within}
use Rattle.cond_search.proofs.members.applied_at.Goals as goal

pub bounds-as_slice-place : goal.bounds-as_slice-place
bounds-as_slice-place c =
    within c.as_slice.result.now c.args.plan.now.applications c.args.place c.as_slice.ensures c.requires

pub returns : goal.returns
returns c =
    item_at c.as_slice.result.now c.args.plan.now.applications c.args.place c.index-as_slice-place.result c.as_slice.ensures c.requires c.index-as_slice-place.is
