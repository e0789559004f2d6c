use Rattle.std.specs.Int.{w128}
use Rattle.std.specs.Prelude.{◌-◌, take, length, FitsSigned}
use Rattle.std.proofs.Common.{rules, ap, sym, ◌∙◌}
use Rattle.std.proofs.lemmas.Int.{to_z-of_z}
use Rattle.terms.specs.declared.Term.{out-Term}
use Rattle.cond_plan.proofs.Numbers.{out-Add, out-Scale, out-App, sum_is, multiple_is, application_is, last_is, last_split}
use Rattle.cond_plan.proofs.gap.+number.Goals as goal

pub number_of-returns-in-Add : goal.number_of-returns-in-Add
number_of-returns-in-Add t c =
    let h = rw (c.get.ensures) at c.number_of.ensures in
    let k = rw (c.get-in-Add.ensures) at c.number_of-in-Add.ensures in
    sum_is c.args.p.now c.args.t.now c.in-Add.a c.in-Add.b c.number_of.result c.number_of-in-Add.result c.sum_of.result (ap out-Term c.in-Add.is ∙ out-Add c.in-Add.a c.in-Add.b) h k c.sum_of.ensures

pub number_of-returns-in-Scale : goal.number_of-returns-in-Scale
number_of-returns-in-Scale t c =
    let f : FitsSigned w128 c.in-Scale.k = search rules in
    let h = rw (c.get-in-Scale.ensures) at c.number_of-in-Scale.ensures in
    let is = rw (to_z-of_z w128 c.in-Scale.k f) at c.multiple_of.ensures in
    multiple_is c.args.p.now c.args.t.now c.in-Scale.a c.in-Scale.k c.number_of-in-Scale.result c.multiple_of.result (ap out-Term c.in-Scale.is ∙ out-Scale c.in-Scale.k c.in-Scale.a) h is

pub number_of-returns-in-App : goal.number_of-returns-in-App
number_of-returns-in-App t c =
    application_is c.args.p.now c.args.t.now c.in-App.field-0 c.in-App.all c.number_of_last.result (ap out-Term c.in-App.is ∙ out-App c.in-App.field-0 c.in-App.all) c.number_of_last.ensures

pub number_of_last-returns-in-len1-up : goal.number_of_last-returns-in-len1-up
number_of_last-returns-in-len1-up t c =
    let xs = c.as_slice.result.now in
    last_is c.args.p.now c.args.all.now (take (length xs - 1) xs) c.last-item.result c.number_of.result (sym c.as_slice.ensures ∙ last_split xs c.last-item.result c.in-len1-up.len_at_least c.last-item.is) c.number_of.ensures
