use Rattle.std.specs.Prelude.{ℕ, ℤ, pos, get_or, FitsSigned}
use Rattle.std.specs.Int.{w128}
use Rattle.std.proofs.Common.{rules, arith}
use Rattle.std.proofs.lemmas.Int.{to_z-of_z}
use Rattle.lin_rows.proofs.MergeLemmas.{front, no_terms, takes_left, takes_right, takes_before, takes_after, takes_both}
use Rattle.lin_rows.proofs.combination.least.Goals as goal

pub returns-in-len1-up-b-clause-least : goal.returns-in-len1-up-b-clause-least
returns-in-len1-up-b-clause-least c =
    let d : ℕ × ℤ = (0, pos 0) in
    let y : FitsSigned w128 (get_or c.args.b.now 0 d).1 = search rules in
    rw (to_z-of_z w128 (get_or c.args.b.now 0 d).1 y) (takes_right c.args.a.now c.args.b.now _ _ (no_terms c.args.a.now c.in-empty.len_below) (front c.args.b.now d c.in-len1-up-b.len_at_least))

pub returns-in-empty-b-2-clause-least : goal.returns-in-empty-b-2-clause-least
returns-in-empty-b-2-clause-least c =
    let d : ℕ × ℤ = (0, pos 0) in
    let x : FitsSigned w128 (get_or c.args.a.now 0 d).1 = search rules in
    rw (to_z-of_z w128 (get_or c.args.a.now 0 d).1 x) (takes_left c.args.a.now _ _ c.args.b.now (front c.args.a.now d c.in-len1-up.len_at_least) (no_terms c.args.b.now c.in-empty-b-2.len_below))

pub returns-then-v-w-clause-least : goal.returns-then-v-w-clause-least
returns-then-v-w-clause-least c =
    let d : ℕ × ℤ = (0, pos 0) in
    let x : FitsSigned w128 (get_or c.args.a.now 0 d).1 = search rules in
    rw (to_z-of_z w128 (get_or c.args.a.now 0 d).1 x) (takes_before c.args.a.now _ _ c.args.b.now _ _ (front c.args.a.now d c.in-len1-up.len_at_least) (front c.args.b.now d c.in-len1-up-b-2.len_at_least) c.if-v-w.true)

pub returns-then-w-v-clause-least : goal.returns-then-w-v-clause-least
returns-then-w-v-clause-least c =
    let d : ℕ × ℤ = (0, pos 0) in
    let y : FitsSigned w128 (get_or c.args.b.now 0 d).1 = search rules in
    rw (to_z-of_z w128 (get_or c.args.b.now 0 d).1 y) (takes_after c.args.a.now _ _ c.args.b.now _ _ (front c.args.a.now d c.in-len1-up.len_at_least) (front c.args.b.now d c.in-len1-up-b-2.len_at_least) c.if-w-v.true)

pub returns-else-w-v-clause-least : goal.returns-else-w-v-clause-least
returns-else-w-v-clause-least c =
    let d : ℕ × ℤ = (0, pos 0) in
    let x : FitsSigned w128 (get_or c.args.a.now 0 d).1 = search rules in
    let y : FitsSigned w128 (get_or c.args.b.now 0 d).1 = search rules in
    rw (to_z-of_z w128 (get_or c.args.a.now 0 d).1 x, to_z-of_z w128 (get_or c.args.b.now 0 d).1 y) (takes_both c.args.a.now _ _ c.args.b.now _ _ (front c.args.a.now d c.in-len1-up.len_at_least) (front c.args.b.now d c.in-len1-up-b-2.len_at_least) (omega arith))
