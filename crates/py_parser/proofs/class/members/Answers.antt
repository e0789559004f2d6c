use Rattle.std.proofs.Common.{◌∙◌, ◌∷◌, length, ap, sym, arith}
use Rattle.py_grammar.specs.Symbols.{vfuncs, make, members}
use Rattle.py_grammar.specs.Makers.{make_member}
use Rattle.py_grammar.specs.Machine.{run}
use Rattle.py_parser.proofs.ClassRows.{row_func_member, made_member}
use Rattle.py_parser.proofs.class.members.Goals as goal

pub returns-in-Err-begun-clause-leads : goal.returns-in-Err-begun-clause-leads
returns-in-Err-begun-clause-leads c f S V =
    let W = vfuncs c.members.list ∷ V in
    c.members.invariant.leads S V
    ∙ ap (λ ts. run ts (members ∷ S) W) c.in-Some.ensures
    ∙ row_func_member c.in-Some.after.now c.in-Some.first.now S W c.in-Func.start c.in-Func.ensures
    ∙ c.in-Err-begun.ensures.leads f (make make_member ∷ members ∷ S) W

pub members-preserved : goal.members-preserved
members-preserved c =
    let x = c.in-Ok-begun.x in
    let long = ap length c.in-Some.ensures in record {
      shorter = omega (arith, c.members.invariant.shorter, c.in-Ok-begun.ensures.shorter, long);
      leads = λ S V.
          let W = vfuncs c.members.list ∷ V in
          c.members.invariant.leads S V
          ∙ ap (λ ts. run ts (members ∷ S) W) c.in-Some.ensures
          ∙ row_func_member c.in-Some.after.now c.in-Some.first.now S W c.in-Func.start c.in-Func.ensures
          ∙ c.in-Ok-begun.ensures.leads (make make_member ∷ members ∷ S) W
          ∙ made_member x.1.now (members ∷ S) V c.members.list x.0
          ∙ ap (λ fs. run x.1.now (members ∷ S) (vfuncs fs ∷ V)) (sym c.in_ok-push_member-in-Func.ensures.ok);
    }
