use Rattle.std.specs.Prelude.{◌≡◌, ◌+◌, ◌*◌, ◌<◌, [], ◌∷◌, ◌++◌, IfOk, ℕ}
use Rattle.std.proofs.Common.{subst, ◌∙◌, arith}
use Rattle.cond_search.specs.Verdicts.{IsDecision}
use Rattle.cond_search.proofs.Branching.{begun_with, fits_decided}
use Rattle.cond_search.proofs.Counts.{goes_down}
use Rattle.cond_search.proofs.search.+search.Goals as goal

below_other : (m t : ℕ) → m * 4 + 2 ≡ t → m * 4 + 1 < t
below_other m t e = omega arith

below_one : (m t : ℕ) → m * 4 + 1 ≡ t → m * 4 < t
below_one m t e = omega arith

below_first : (m t : ℕ) → m * 4 + 2 ≡ t → m * 4 < t
below_first m t e = omega arith

pub search_with-search-decided-requires : goal.search_with-search-decided-requires
search_with-search-decided-requires t c =
    let fs = c.args.facts.now in
    let e : c.as_slice.result.now ≡ fs ++ c.args.l.now ∷ [] = c.as_slice.ensures ∙ c.in_ok-more.ensures in
    (goes_down c.args.plan.now fs c.as_slice.result.now c.args.l.now t e c.requires.next.answer c.decreases, begun_with c.args.c.now c.args.plan.now fs c.as_slice.result.now c.args.l.now e c.requires.begun c.requires.next)

pub search_with-returns-clause-answer : goal.search_with-returns-clause-answer
search_with-returns-clause-answer t c =
    let e : c.as_slice.result.now ≡ c.args.facts.now ++ c.args.l.now ∷ [] = c.as_slice.ensures ∙ c.in_ok-more.ensures in
    subst (λ fs. IfOk c.search-decided.result (IsDecision c.args.c.now fs)) e c.search-decided.ensures.answer

pub search_split-search_with-requires : goal.search_split-search_with-requires
search_split-search_with-requires t c =
    (below_first _ t c.decreases, (c.requires.begun, c.requires.split.first))

pub search_split-search_other-requires : goal.search_split-search_other-requires
search_split-search_other-requires t c =
    (below_other _ t c.decreases, (c.requires.begun, (c.requires.split, subst (IsDecision c.args.c.now (c.args.facts.now ++ c.args.split.now.first ∷ [])) c.in-Refuted.is c.in_ok-held.ensures.answer)))

pub search_other-search_with-requires : goal.search_other-search_with-requires
search_other-search_with-requires t c =
    (below_one _ t c.decreases, (c.requires.begun, c.requires.split.second))

pub search_split-returns-in-Fits-clause-answer : goal.search_split-returns-in-Fits-clause-answer
search_split-returns-in-Fits-clause-answer t c =
    fits_decided c.args.c.now c.args.facts.now c.args.split.now.first _ c.in-Fits.p c.in-Fits.is c.in_ok-held.ensures.answer
