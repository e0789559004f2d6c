use Rattle.std.proofs.Common.{◌≡◌, ◌∷◌, OnOk, sym, subst, ap, ◌∙◌}
use Rattle.py_syntax.specs.declared.Item.TheVariants as item
use Rattle.py_syntax.specs.ExprItems.{expr_items}
use Rattle.py_syntax.specs.StmtItems.{making_items}
use Rattle.machine_model.proofs.Makes.{making_none, making_write}
use Rattle.machine_model.proofs.control.stmt.+push_making.Goals as goal

pub returns-then-makes-eq0 : goal.returns-then-makes-eq0
returns-then-makes-eq0 t c =
    subst (λ items. OnOk c.push_block.result (c.push_block.new.control ≡ items))
    (sym (ap (λ k. making_items c.args.body.now k c.args.control.now) c.if-makes-eq0.true ∙ making_none c.args.body.now c.args.control.now)) c.push_block.ensures

pub returns-in_ok-push_making : goal.returns-in_ok-push_making
returns-in_ok-push_making t c =
    subst (λ items. OnOk c.push_both.result (c.push_both.new.control ≡ items))
    (ap (λ made. expr_items c.in-Write.e (expr_items c.in-Write.o (item.Make c.in-Write.field.place c.in-Write.field.name ∷ made))) c.in_ok-push_making.ensures
    ∙ sym (making_write c.args.body.now c.first-item.result c.in-Write.o c.in-Write.e c.in-Write.field c.args.makes c.args.control.now c.in-len1-up.len_at_least c.first-item.is c.in-Write.is c.if-makes-eq0.false))
    c.push_both.ensures
