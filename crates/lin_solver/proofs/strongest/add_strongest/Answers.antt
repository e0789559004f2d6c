use Rattle.std.specs.Prelude.{◌≡◌, ◌≢◌, ◌≤ℤ◌, [], ◌∷◌, ◌++◌, Contains, refl}
use Rattle.std.proofs.Common.{sym, subst, arith}
use Rattle.std.proofs.lemmas.Int.{ints}
use Rattle.std.proofs.lemmas.List.Elements.{All-weaker, All-contains_itself, Contains-append_left}
use Rattle.lin_solver.specs.Numbers.{HaveRows, IsAny}
use Rattle.lin_solver.proofs.NumberLemmas.{has_within, get_within}
use Rattle.lin_solver.proofs.StrongestLemmas.{own_follows, all_follow, same_terms, set_there, set_follow, apart_more, apart_set, old_follows}
use Rattle.lin_solver.proofs.strongest.add_strongest.Goals as goal

pub returns-in_default-clause-all : goal.returns-in_default-clause-all
returns-in_default-clause-all c =
    let kept = c.args.kept.now in
    let new = c.push.new.self in
    let more : new ≡ kept ++ c.args.number ∷ [] = c.in_ok-push.ensures.ok in
    all_follow c.args.rows.now c.args.steps.now kept new c.requires.rows (All-weaker (Contains kept) (Contains new) (λ k h. subst (λ z. Contains z k) (sym more) (Contains-append_left kept (c.args.number ∷ []) k h)) kept (All-contains_itself kept))

pub returns-in_default-clause-apart : goal.returns-in_default-clause-apart
returns-in_default-clause-apart c =
    let kept = c.args.kept.now in
    let row = c.row_at-row.result.now in
    let more : c.push.new.self ≡ kept ++ c.args.number ∷ [] = c.in_ok-push.ensures.ok in
    let none : HaveRows c.args.rows.now c.args.steps.now (λ s. s.coefs ≢ row.coefs) kept = rw c.as_slice.ensures at (c.in_default.ensures.none refl) in
    rw more (apart_more c.args.rows.now c.args.steps.now kept c.args.number row c.row_at-row.ensures none c.requires.apart)

pub bounds-as_slice-at : goal.bounds-as_slice-at
bounds-as_slice-at c =
    let (n, there, has) = rw c.as_slice.ensures at c.in-Some.ensures.some in
    rw c.as_slice-2.ensures (get_within c.args.kept.now c.in-Some.at n there)

pub row_at-requires : goal.row_at-requires
row_at-requires c =
    let (n, there, has) = rw c.as_slice.ensures at c.in-Some.ensures.some in
    rw c.as_slice-2.ensures (has_within c.args.rows.now c.args.steps.now IsAny _ (c.requires.rows c.in-Some.at 0 (get_within c.args.kept.now c.in-Some.at n there)))

pub set-requires : goal.set-requires
set-requires c =
    let (n, there, has) = rw c.as_slice.ensures at c.in-Some.ensures.some in
    get_within c.args.kept.now c.in-Some.at n there

pub returns-then-row-row_at-clause-own : goal.returns-then-row-row_at-clause-own
returns-then-row-row_at-clause-own c =
    let (n, there, has) = rw c.as_slice.ensures at c.in-Some.ensures.some in
    own_follows c.args.rows.now c.args.steps.now c.set.new.self c.args.number c.row_at-row.result.now (rw c.set.ensures (set_there c.args.kept.now c.in-Some.at c.args.number n there)) c.row_at-row.ensures

pub returns-then-row-row_at-clause-all : goal.returns-then-row-row_at-clause-all
returns-then-row-row_at-clause-all c =
    let rows = c.args.rows.now in
    let steps = c.args.steps.now in
    let row = c.row_at-row.result.now in
    let (n, there, has) = rw c.as_slice.ensures at c.in-Some.ensures.some in
    let (here, same) = same_terms rows steps c.args.kept.now c.in-Some.at n row c.row_at.result.now there (rw c.as_slice-2.ensures at c.row_at.ensures) has in
    let less : row.bound ≤ℤ c.row_at.result.now.bound = omega (arith, ints, c.if-row-row_at.true) in
    rw c.set.ensures (set_follow rows steps c.args.kept.now c.in-Some.at c.args.number n c.row_at.result.now row c.requires.rows there c.row_at-row.ensures here (sym same, less))

pub returns-then-row-row_at-clause-apart : goal.returns-then-row-row_at-clause-apart
returns-then-row-row_at-clause-apart c =
    let rows = c.args.rows.now in
    let steps = c.args.steps.now in
    let row = c.row_at-row.result.now in
    let (n, there, has) = rw c.as_slice.ensures at c.in-Some.ensures.some in
    let (here, same) = same_terms rows steps c.args.kept.now c.in-Some.at n row c.row_at.result.now there (rw c.as_slice-2.ensures at c.row_at.ensures) has in
    rw c.set.ensures (apart_set rows steps c.args.kept.now c.in-Some.at c.args.number n c.row_at.result.now row there c.row_at-row.ensures here (sym same) c.requires.apart)

pub returns-else-row-row_at-clause-own : goal.returns-else-row-row_at-clause-own
returns-else-row-row_at-clause-own c =
    let rows = c.args.rows.now in
    let steps = c.args.steps.now in
    let row = c.row_at-row.result.now in
    let (n, there, has) = rw c.as_slice.ensures at c.in-Some.ensures.some in
    let (here, same) = same_terms rows steps c.args.kept.now c.in-Some.at n row c.row_at.result.now there (rw c.as_slice-2.ensures at c.row_at.ensures) has in
    let less : c.row_at.result.now.bound ≤ℤ row.bound = omega (arith, ints, c.if-row-row_at.false) in
    old_follows rows steps c.args.kept.now c.in-Some.at n c.args.number c.row_at.result.now row there c.row_at-row.ensures here (same, less)

pub returns-else-row-row_at-clause-all : goal.returns-else-row-row_at-clause-all
returns-else-row-row_at-clause-all c =
    all_follow c.args.rows.now c.args.steps.now c.args.kept.now c.args.kept.now c.requires.rows (All-contains_itself c.args.kept.now)
