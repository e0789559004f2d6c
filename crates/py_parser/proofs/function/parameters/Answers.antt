use Rattle.std.proofs.Common.{◌∷◌, length, ap, subst, ◌∙◌, arith}
use Rattle.py_grammar.specs.Symbols.{vparams, params_tail}
use Rattle.py_grammar.specs.Machine.{run}
use Rattle.py_parser.specs.FunctionFronts.{OpensParams}
use Rattle.py_parser.proofs.FunctionRows.{to_param, row_last_param, row_comma, row_tail_stop, short_tail}
use Rattle.py_parser.proofs.function.parameters.Goals as goal

pub list-preserved : goal.list-preserved
list-preserved c =
    let k = c.in-Some.first.now in
    let new = c.param.new.list in
    let long = ap length c.in-Some.ensures in
    let longer = ap length c.in-Some-split.ensures in record {
      shorter = omega (arith, c.list.invariant.shorter, c.in-Ok.ensures.shorter, long, longer);
      leads = λ S V.
          to_param c.args.ts.now c.list.rest.now c.in-Some.after.now k c.in-Name.word c.list.list c.list.invariant.leads c.in-Some.ensures (subst (λ s. OpensParams s k.place k.form) c.in-Name.is c.in_ok-params_front.ensures) S V
          ∙ c.in-Ok.ensures.leads (params_tail ∷ S) V
          ∙ ap (λ us. run us (params_tail ∷ S) (vparams new ∷ V)) c.in-Some-split.ensures
          ∙ row_comma c.in-Some-split.after.now c.in-Some-split.second.now S (vparams new ∷ V) c.in-Comma.ensures;
    }

pub returns-in-Err-clause-leads : goal.returns-in-Err-clause-leads
returns-in-Err-clause-leads c f S V =
    let k = c.in-Some.first.now in
    to_param c.args.ts.now c.list.rest.now c.in-Some.after.now k c.in-Name.word c.list.list c.list.invariant.leads c.in-Some.ensures (subst (λ s. OpensParams s k.place k.form) c.in-Name.is c.in_ok-params_front.ensures) S V
    ∙ c.in-Err.ensures.leads f (params_tail ∷ S) V

pub returns-in-Close-what_follows-clause-leads : goal.returns-in-Close-what_follows-clause-leads
returns-in-Close-what_follows-clause-leads c S V =
    let k = c.in-Some.first.now in
    let new = c.param.new.list in
    to_param c.args.ts.now c.list.rest.now c.in-Some.after.now k c.in-Name.word c.list.list c.list.invariant.leads c.in-Some.ensures (subst (λ s. OpensParams s k.place k.form) c.in-Name.is c.in_ok-params_front.ensures) S V
    ∙ c.in-Ok.ensures.leads (params_tail ∷ S) V
    ∙ ap (λ us. run us (params_tail ∷ S) (vparams new ∷ V)) c.in-Some-split.ensures
    ∙ row_last_param c.in-Some-split.after.now c.in-Some-split.second.now S (vparams new ∷ V) c.in-Close-what_follows.ensures

pub returns-in-Other-what_follows-clause-leads : goal.returns-in-Other-what_follows-clause-leads
returns-in-Other-what_follows-clause-leads c f S V =
    let k = c.in-Some.first.now in
    let new = c.param.new.list in
    to_param c.args.ts.now c.list.rest.now c.in-Some.after.now k c.in-Name.word c.list.list c.list.invariant.leads c.in-Some.ensures (subst (λ s. OpensParams s k.place k.form) c.in-Name.is c.in_ok-params_front.ensures) S V
    ∙ c.in-Ok.ensures.leads (params_tail ∷ S) V
    ∙ ap (λ us. run us (params_tail ∷ S) (vparams new ∷ V)) c.in-Some-split.ensures
    ∙ row_tail_stop c.in-Some-split.after.now c.in-Some-split.second.now S (vparams new ∷ V) c.in-Other-what_follows.ensures

pub returns-in_default-split-clause-leads : goal.returns-in_default-split-clause-leads
returns-in_default-split-clause-leads c f S V =
    let k = c.in-Some.first.now in
    let new = c.param.new.list in
    to_param c.args.ts.now c.list.rest.now c.in-Some.after.now k c.in-Name.word c.list.list c.list.invariant.leads c.in-Some.ensures (subst (λ s. OpensParams s k.place k.form) c.in-Name.is c.in_ok-params_front.ensures) S V
    ∙ c.in-Ok.ensures.leads (params_tail ∷ S) V
    ∙ ap (λ us. run us (params_tail ∷ S) (vparams new ∷ V)) c.in_default-split.ensures
    ∙ short_tail S (vparams new ∷ V)
