use Rattle.std.specs.Prelude.{◌≡◌, pos, ◌<ℤ◌, ◌+◌, [], ◌∷◌, ◌++◌, get_or, take, refl}
use Rattle.std.proofs.Common.{arith, inl, inr, ◌∙◌}
use Rattle.std.proofs.lemmas.Int.{ints}
use Rattle.std.proofs.lemmas.List.{take_all}
use Rattle.std.proofs.lemmas.List.Elements.{All-more, All-push, Contains-push}
use Rattle.lin_rows.specs.Terms.{coef_at}
use Rattle.lin_solver.specs.Numbers.{HasRow, IsLive, BoundsAbove, BoundsBelow}
use Rattle.lin_solver.specs.Levels.{IsInPart}
use Rattle.lin_solver.proofs.NumberLemmas.{has_within, prefix_same}
use Rattle.lin_solver.proofs.PartLemmas.{above_of, below_of, without_of, all_in_part_grow}
use Rattle.lin_solver.proofs.parts.part.Goals as goal
use Rattle.lin_solver.proofs.parts.part.Goals.{then-coef-gt0+in_ok-push, else-coef-gt0+then-coef-lt0+in_ok-push-2, else-coef-gt0+else-coef-lt0+in_ok-push-3}

pub row_at-requires : goal.row_at-requires
row_at-requires c =
    has_within c.args.rows.now c.args.steps.now (IsLive c.args.rows.now c.args.var) _ (c.requires c.loop-number.number-index 0 c.loop-number-test.true)

pub loop-number-preserved : goal.loop-number-preserved
loop-number-preserved c =
    let rows = c.args.rows.now in
    let steps = c.args.steps.now in
    let v = c.args.var in
    let inv = c.loop-number.invariant in
    let k = c.loop-number.number-index in
    let i = get_or c.args.live.now k 0 in
    let a = c.loop-number.above in
    let b = c.loop-number.below in
    let o = c.loop-number.without in
    let row = c.row_at.result.now in
    let at = c.row_at.ensures in
    let live = c.requires k 0 c.loop-number-test.true in
    let coef : c.coef-coef.result ≡ coef_at row.coefs v = c.coef-coef.ensures in
    elim c.if-coef-gt0.branch [
      | then-coef-gt0+in_ok-push w ↦
          let more : c.if-coef-gt0.above ≡ a ++ i ∷ [] = w.above-is ∙ w.in_ok-push.ensures.ok in
          let sign : pos 0 <ℤ coef_at row.coefs v = omega (arith, ints, coef, w.if-coef-gt0.true) in record {
            above = rw more (All-push (HasRow rows steps (BoundsAbove rows v)) a i inv.above (above_of rows steps v i row at live sign));
            below = rw w.below-is inv.below;
            without = rw w.without-is inv.without;
            all = rw (more, w.below-is, w.without-is) (All-more (IsInPart (a ++ i ∷ []) b o) c.args.live.now k 0 c.loop-number-test.true (all_in_part_grow a b o (a ++ i ∷ []) b o (take k c.args.live.now) (i ∷ [], refl) (prefix_same b) (prefix_same o) inv.all) (inl (Contains-push a i)));
          }
      | else-coef-gt0+then-coef-lt0+in_ok-push-2 w ↦
          let more : c.if-coef-gt0.below ≡ b ++ i ∷ [] = w.below-is ∙ w.in_ok-push-2.ensures.ok in
          let sign : coef_at row.coefs v <ℤ pos 0 = omega (arith, ints, coef, w.if-coef-lt0.true) in record {
            above = rw w.above-is inv.above;
            below = rw more (All-push (HasRow rows steps (BoundsBelow rows v)) b i inv.below (below_of rows steps v i row at live sign));
            without = rw w.without-is inv.without;
            all = rw (w.above-is, more, w.without-is) (All-more (IsInPart a (b ++ i ∷ []) o) c.args.live.now k 0 c.loop-number-test.true (all_in_part_grow a b o a (b ++ i ∷ []) o (take k c.args.live.now) (prefix_same a) (i ∷ [], refl) (prefix_same o) inv.all) (inr (inl (Contains-push b i))));
          }
      | else-coef-gt0+else-coef-lt0+in_ok-push-3 w ↦
          let more : c.if-coef-gt0.without ≡ o ++ i ∷ [] = w.without-is ∙ w.in_ok-push-3.ensures.ok in
          let sign : coef_at row.coefs v ≡ pos 0 = omega (arith, ints, coef, w.if-coef-gt0.false, w.if-coef-lt0.false) in record {
            above = rw w.above-is inv.above;
            below = rw w.below-is inv.below;
            without = rw more (All-push (HasRow rows steps (IsLive rows (v + 1))) o i inv.without (without_of rows steps v i row at live sign));
            all = rw (w.above-is, w.below-is, more) (All-more (IsInPart a b (o ++ i ∷ [])) c.args.live.now k 0 c.loop-number-test.true (all_in_part_grow a b o a b (o ++ i ∷ []) (take k c.args.live.now) (prefix_same a) (prefix_same b) (i ∷ [], refl) inv.all) (inr (inr (Contains-push o i))));
          }
    ]

pub returns-clause-all : goal.returns-clause-all
returns-clause-all c =
    rw (take_all c.loop-number.number-index c.args.live.now (omega (arith, c.loop-number-test.false))) at c.loop-number.invariant.all
