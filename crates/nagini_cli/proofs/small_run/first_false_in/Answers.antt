use Rattle.std.proofs.Common.{◌≡◌, ◌+◌, ◌<◌, ◌∙◌, sym, ap, ℕ, List, ◌∷◌, ℤ, Bool, false, cond, Some, length, get_or, drop, arith, rules}
use Rattle.std.proofs.lemmas.List.{at_drop_more}
use Rattle.py_syntax.specs.declared.Stmt.{Stmt, out-Stmt}
use Rattle.nagini_cli.specs.SmallRun.{is_false, after, first_false_in}
use Rattle.small_module.specs.SmallBody.{IsSmallStmt}
use Rattle.nagini_cli.proofs.Reach.{reach-last, reach-after}
use Rattle.nagini_cli.proofs.small_run.first_false_in.Goals as goal

-- a statement that is no false assert is passed
passed : (body : List Stmt) (i : ℕ) (s : Stmt) (locals : List ℤ) → (i < length body) × (s ≡ get_or body i s) → is_false s locals ≡ false → first_false_in (drop i body) locals ≡ first_false_in (drop (i + 1) body) (after s locals)
passed body i s locals at is = at_drop_more (λ ss. first_false_in ss locals) body i s at.0 ∙ ap (λ (t : Stmt). first_false_in (t ∷ drop (i + 1) body) locals) (sym at.1) ∙ ap (λ (b : Bool). cond b (Some (out-Stmt s).place) (first_false_in (drop (i + 1) body) (after s locals))) is

pub is_false-requires-clause-within : goal.is_false-requires-clause-within
is_false-requires-clause-within c = reach-last c.loop-stmt.stmt-index _ (omega arith) c.loop-stmt.invariant.1

pub run-requires-clause-within : goal.run-requires-clause-within
run-requires-clause-within c = reach-last c.loop-stmt.stmt-index _ (omega arith) c.loop-stmt.invariant.1

pub loop-stmt-preserved : goal.loop-stmt-preserved
loop-stmt-preserved c =
    let small : IsSmallStmt c.stmt-item.result = search rules in
    let not_false : is_false c.stmt-item.result c.loop-stmt.locals ≡ false = cc in
    rw c.run.ensures (
      sym (passed c.args.body.now c.loop-stmt.stmt-index c.stmt-item.result c.loop-stmt.locals (omega arith, c.stmt-item.is) not_false) ∙ c.loop-stmt.invariant.0,
      reach-after c.loop-stmt.stmt-index c.loop-stmt.locals c.stmt-item.result small c.loop-stmt.invariant.1,
    )
