use Rattle.std.proofs.Common.{◌∙◌, ◌∷◌, length, ap, sym, arith}
use Rattle.py_grammar.specs.Symbols.{vitems, make, items}
use Rattle.py_grammar.specs.Makers.{make_item}
use Rattle.py_grammar.specs.Machine.{run}
use Rattle.py_parser.proofs.ModuleRows.{row_func_item, made_item}
use Rattle.py_parser.proofs.module.items.Goals as goal

pub returns-in-Err-begun : goal.returns-in-Err-begun
returns-in-Err-begun c = record {
  leads = λ f S V.
      let W = vitems c.items.list ∷ V in
      c.items.invariant.leads S V
      ∙ ap (λ ts. run ts (items ∷ S) W) c.in-Some.ensures
      ∙ row_func_item c.in-Some.after.now c.in-Some.first.now S W c.in-Func.start c.in-Func.ensures
      ∙ c.in-Err-begun.ensures.leads f (make make_item ∷ items ∷ S) W;
}

pub items-preserved : goal.items-preserved
items-preserved c =
    let x = c.in-Ok-begun.x in
    let long = ap length c.in-Some.ensures in record {
      shorter = omega (arith, c.items.invariant.shorter, c.in-Ok-begun.ensures.shorter, long);
      leads = λ S V.
          let W = vitems c.items.list ∷ V in
          c.items.invariant.leads S V
          ∙ ap (λ ts. run ts (items ∷ S) W) c.in-Some.ensures
          ∙ row_func_item c.in-Some.after.now c.in-Some.first.now S W c.in-Func.start c.in-Func.ensures
          ∙ c.in-Ok-begun.ensures.leads (make make_item ∷ items ∷ S) W
          ∙ made_item x.1.now (items ∷ S) V c.items.list x.0
          ∙ ap (λ xs. run x.1.now (items ∷ S) (vitems xs ∷ V)) (sym c.in_ok-push_item-in-Func.ensures.ok);
    }
