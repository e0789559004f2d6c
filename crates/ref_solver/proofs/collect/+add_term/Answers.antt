use Rattle.std.specs.Prelude.{◌≡◌, OnOk, get_or}
use Rattle.std.proofs.Common.{refl, ap, subst, ◌∙◌, rules}
use Rattle.terms.specs.declared.Term.{Term-F, out-Term}
use Rattle.ref_solver.proofs.Standing.{out-App}
use Rattle.ref_solver.proofs.Meant.{out-Add, out-Scale, out-RefLit, out-Nil}
use Rattle.ref_solver.proofs.Collecting.{within_steps, leaf_step, add_step, scale_step, terms_step, out-Sym, out-Lit, out-RefSym}
use Rattle.ref_solver.proofs.collect.+add_term.Goals as goal

pub add_term-returns-in_ok-add_term-in-Add : goal.add_term-returns-in_ok-add_term-in-Add
add_term-returns-in_ok-add_term-in-Add t c =
    let is = ap out-Term c.in-Add.is ∙ out-Add c.in-Add.a c.in-Add.b in
    let step = add_step c.args.t.now c.in-Add.a c.in-Add.b c.get.result.now c.get-in-Add.result.now c.args.classes.now c.add_alone.new.classes c.add_term.new.classes is c.get.ensures c.get-in-Add.ensures c.in_ok-add_alone.ensures c.in_ok-add_term-in-Add.ensures in
    subst (λ cs. OnOk c.add_term-in-Add.result (c.add_term-in-Add.new.classes ≡ cs)) step c.add_term-in-Add.ensures

pub add_term-returns-in-Scale : goal.add_term-returns-in-Scale
add_term-returns-in-Scale t c =
    let is = ap out-Term c.in-Scale.is ∙ out-Scale c.in-Scale.field-0 c.in-Scale.a in
    let step = scale_step c.args.t.now c.in-Scale.a c.get-in-Scale.result.now c.in-Scale.field-0 c.args.classes.now c.add_alone.new.classes is c.get-in-Scale.ensures c.in_ok-add_alone.ensures in
    subst (λ cs. OnOk c.add_term-in-Scale.result (c.add_term-in-Scale.new.classes ≡ cs)) step c.add_term-in-Scale.ensures

pub add_term-returns-in-App : goal.add_term-returns-in-App
add_term-returns-in-App t c =
    let is = ap out-Term c.in-App.is ∙ out-App c.in-App.field-0 c.in-App.all in
    let step = within_steps c.args.t.now (Term-F.App c.in-App.field-0 c.in-App.all) c.args.classes.now c.add_alone.new.classes is c.in_ok-add_alone.ensures in
    subst (λ cs. OnOk c.add_terms.result (c.add_terms.new.classes ≡ cs)) step c.add_terms.ensures

pub add_term-returns-in-Sym : goal.add_term-returns-in-Sym
add_term-returns-in-Sym t c =
    leaf_step c.args.t.now (Term-F.Sym c.in-Sym.field-0) c.args.classes.now c.add_alone.new.classes (ap out-Term c.in-Sym.is ∙ out-Sym c.in-Sym.field-0) refl c.in_ok-add_alone.ensures

pub add_term-returns-in-Lit : goal.add_term-returns-in-Lit
add_term-returns-in-Lit t c =
    leaf_step c.args.t.now (Term-F.Lit c.in-Lit.field-0) c.args.classes.now c.add_alone.new.classes (ap out-Term c.in-Lit.is ∙ out-Lit c.in-Lit.field-0) refl c.in_ok-add_alone.ensures

pub add_term-returns-in-RefSym : goal.add_term-returns-in-RefSym
add_term-returns-in-RefSym t c =
    leaf_step c.args.t.now (Term-F.RefSym c.in-RefSym.field-0) c.args.classes.now c.add_alone.new.classes (ap out-Term c.in-RefSym.is ∙ out-RefSym c.in-RefSym.field-0) refl c.in_ok-add_alone.ensures

pub add_term-returns-in-RefLit : goal.add_term-returns-in-RefLit
add_term-returns-in-RefLit t c =
    leaf_step c.args.t.now (Term-F.RefLit c.in-RefLit.field-0) c.args.classes.now c.add_alone.new.classes (ap out-Term c.in-RefLit.is ∙ out-RefLit c.in-RefLit.field-0) refl c.in_ok-add_alone.ensures

pub add_term-returns-in-Nil : goal.add_term-returns-in-Nil
add_term-returns-in-Nil t c =
    leaf_step c.args.t.now Term-F.Nil c.args.classes.now c.add_alone.new.classes (ap out-Term c.in-Nil.is ∙ out-Nil) refl c.in_ok-add_alone.ensures

pub add_terms-loop-t-preserved : goal.add_terms-loop-t-preserved
add_terms-loop-t-preserved t c =
    let xs = c.as_slice-t-items.result.now in
    let is : get_or xs c.loop-t.t-index c.t-item.result ≡ c.t-item.result = search rules in
    terms_step xs c.loop-t.t-index c.t-item.result c.args.classes.now c.loop-t.classes c.add_term.new.classes c.loop-t-test.true is c.loop-t.invariant c.in_ok-add_term.ensures
