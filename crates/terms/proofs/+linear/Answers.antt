use Rattle.std.specs.Int.{w128}
use Rattle.std.specs.Prelude.{◌≡◌, pos, FitsSigned, get_or}
use Rattle.std.proofs.Common.{rules, refl, ap, ◌∙◌}
use Rattle.std.proofs.lemmas.Int.{to_z-of_z}
use Rattle.terms.specs.declared.term.Term.{Term-F, out-Term}
use Rattle.terms.proofs.Parts.{out-Sym, out-Lit, out-Add, out-Scale, out-App, out-RefSym, out-RefLit, out-Nil}
use Rattle.terms.proofs.Answering.{add_answers, scale_answers, app_answers, leaf_answers, symbol_answers, units_fit, zero_fits, last_step, last_end, one_fits_of_all}
use Rattle.terms.proofs.+linear.Goals as goal

pub normal_form::last-returns-in-Err : goal.normal_form::last-returns-in-Err
normal_form::last-returns-in-Err t c w h =
    let xs = c.as_slice-t-items.result.now in
    let is : get_or xs c.loop-t.t-index c.t-item.result ≡ c.t-item.result = search rules in
    c.in-Err.ensures w (one_fits_of_all xs c.args.all.now c.loop-t.t-index c.t-item.result c.loop-t-test.true c.as_slice-t-items.ensures is h)

pub normal_form::last-loop-t-preserved : goal.normal_form::last-loop-t-preserved
normal_form::last-loop-t-preserved t c =
    let xs = c.as_slice-t-items.result.now in
    let is : get_or xs c.loop-t.t-index c.t-item.result ≡ c.t-item.result = search rules in
    last_step xs c.loop-t.t-index c.t-item.result c.in-Ok.next c.loop-t-test.true is c.in-Ok.ensures c.loop-t.invariant.1

pub normal_form::last-returns : goal.normal_form::last-returns
normal_form::last-returns t c =
    last_end c.as_slice-t-items.result.now c.args.all.now c.loop-t.t-index c.loop-t.form c.loop-t-test.false c.as_slice-t-items.ensures c.loop-t.invariant

pub term::Term::linear-returns-in-Sym : goal.term::Term::linear-returns-in-Sym
term::Term::linear-returns-in-Sym t c =
    symbol_answers c.args.self.now c.in-Sym.n c.symbol.result (ap out-Term c.in-Sym.is ∙ out-Sym c.in-Sym.n) c.symbol.ensures.form c.symbol.ensures.err

pub term::Term::linear-returns-in-Lit : goal.term::Term::linear-returns-in-Lit
term::Term::linear-returns-in-Lit t c =
    let f : FitsSigned w128 c.in-Lit.z = search rules in
    let e = rw (to_z-of_z w128 c.in-Lit.z f) at c.units.ensures in
    leaf_answers c.args.self.now (Term-F.Lit c.in-Lit.z) c.units.result (ap out-Term c.in-Lit.is ∙ out-Lit c.in-Lit.z) refl (units_fit c.in-Lit.z f) e

pub term::Term::linear-returns-in-Add : goal.term::Term::linear-returns-in-Add
term::Term::linear-returns-in-Add t c =
    let p = rw (c.get.ensures) at c.linear.ensures in
    let q = rw (c.get-in-Add.ensures) at c.linear-in-Add.ensures in
    add_answers c.args.self.now c.in-Add.a c.in-Add.b c.linear.result c.linear-in-Add.result c.sum.result (ap out-Term c.in-Add.is ∙ out-Add c.in-Add.a c.in-Add.b) p q c.sum.ensures

pub term::Term::linear-returns-in-Scale : goal.term::Term::linear-returns-in-Scale
term::Term::linear-returns-in-Scale t c =
    let f : FitsSigned w128 c.in-Scale.k = search rules in
    let p = rw (c.get-in-Scale.ensures) at c.linear-in-Scale.ensures in
    let h = rw (to_z-of_z w128 c.in-Scale.k f) at c.multiple.ensures in
    scale_answers c.args.self.now c.in-Scale.a c.in-Scale.k c.linear-in-Scale.result c.multiple.result (ap out-Term c.in-Scale.is ∙ out-Scale c.in-Scale.k c.in-Scale.a) p h

pub term::Term::linear-returns-in-App : goal.term::Term::linear-returns-in-App
term::Term::linear-returns-in-App t c =
    app_answers c.args.self.now c.in-App.field-0 c.in-App.all c.last.result (ap out-Term c.in-App.is ∙ out-App c.in-App.field-0 c.in-App.all) c.last.ensures

pub term::Term::linear-returns-in-RefSym : goal.term::Term::linear-returns-in-RefSym
term::Term::linear-returns-in-RefSym t c =
    leaf_answers c.args.self.now (Term-F.RefSym c.in-RefSym.field-0) c.units-in-RefSym.result (ap out-Term c.in-RefSym.is ∙ out-RefSym c.in-RefSym.field-0) refl (units_fit (pos 0) zero_fits) c.units-in-RefSym.ensures

pub term::Term::linear-returns-in-RefLit : goal.term::Term::linear-returns-in-RefLit
term::Term::linear-returns-in-RefLit t c =
    leaf_answers c.args.self.now (Term-F.RefLit c.in-RefLit.field-0) c.units-in-RefLit.result (ap out-Term c.in-RefLit.is ∙ out-RefLit c.in-RefLit.field-0) refl (units_fit (pos 0) zero_fits) c.units-in-RefLit.ensures

pub term::Term::linear-returns-in-Nil : goal.term::Term::linear-returns-in-Nil
term::Term::linear-returns-in-Nil t c =
    leaf_answers c.args.self.now Term-F.Nil c.units-in-Nil.result (ap out-Term c.in-Nil.is ∙ out-Nil) refl (units_fit (pos 0) zero_fits) c.units-in-Nil.ensures
