use Rattle.cond_search.proofs.Branching.{split_decided, fits_decided}
use Rattle.cond_search.proofs.derived.with_split.Goals as goal

pub returns-in_ok-d-in-Refuted-clause-answer : goal.returns-in_ok-d-in-Refuted-clause-answer
returns-in_ok-d-in-Refuted-clause-answer c =
    split_decided c.args.c.now c.args.facts.now c.args.split.now c.args.held c.in-Refuted.other c.in_ok-d-in-Refuted.d c.args.other c.in-Refuted.is c.in_ok-d-in-Refuted.ensures c.requires.split c.requires.held c.requires.other

pub returns-in-Fits-clause-answer : goal.returns-in-Fits-clause-answer
returns-in-Fits-clause-answer c =
    fits_decided c.args.c.now c.args.facts.now c.args.split.now.second c.args.other c.in-Fits.p c.in-Fits.is c.requires.other
