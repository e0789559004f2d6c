use Rattle.std.proofs.Common.{ap, sym, ◌∙◌}
use Rattle.py_syntax.specs.declared.Item.TheVariants as item
use Rattle.machine_values.specs.Bits.{has_128_bits}
use Rattle.machine_step.specs.Changes.{begun}
use Rattle.machine_step.proofs.Plans.{act_agrees}
use Rattle.machine_step.proofs.items.deed_of.Goals as goal

pub returns-in-Load : goal.returns-in-Load
returns-in-Load c = λ threads first.
    act_agrees has_128_bits c.args.m.now c.args.thread threads c.args.heap.now (begun first c.args.frame.now) c.args.item.now (item.Load c.in-Load.i) c.load.result c.in-Load.is (c.load.ensures c.args.heap.now first)

pub returns-in-Bin : goal.returns-in-Bin
returns-in-Bin c = λ threads first.
    act_agrees has_128_bits c.args.m.now c.args.thread threads c.args.heap.now (begun first c.args.frame.now) c.args.item.now (item.Bin c.in-Bin.p c.in-Bin.key) c.apply_binary.result c.in-Bin.is (c.apply_binary.ensures c.args.heap.now first)

pub returns-in-Store : goal.returns-in-Store
returns-in-Store c = λ threads first.
    act_agrees has_128_bits c.args.m.now c.args.thread threads c.args.heap.now (begun first c.args.frame.now) c.args.item.now (item.Store c.in-Store.i) c.store.result c.in-Store.is (c.store.ensures c.args.heap.now first)

pub returns-in-Check : goal.returns-in-Check
returns-in-Check c = λ threads first.
    act_agrees has_128_bits c.args.m.now c.args.thread threads c.args.heap.now (begun first c.args.frame.now) c.args.item.now (item.Check c.in-Check.p) c.check.result c.in-Check.is (c.check.ensures c.args.heap.now first)

pub returns-in-Print : goal.returns-in-Print
returns-in-Print c = λ threads first.
    act_agrees has_128_bits c.args.m.now c.args.thread threads c.args.heap.now (begun first c.args.frame.now) c.args.item.now (item.Print c.as_slice.result.now) c.print.result (c.in-Print.is ∙ ap (λ args. item.Print args) (sym c.as_slice.ensures)) (c.print.ensures c.args.heap.now first)

pub returns-in-End : goal.returns-in-End
returns-in-End c = λ threads first.
    act_agrees has_128_bits c.args.m.now c.args.thread threads c.args.heap.now (begun first c.args.frame.now) c.args.item.now (item.End) c.end.result c.in-End.is (c.end.ensures first)

pub returns-in-Un : goal.returns-in-Un
returns-in-Un c = λ threads first.
    act_agrees has_128_bits c.args.m.now c.args.thread threads c.args.heap.now (begun first c.args.frame.now) c.args.item.now (item.Un c.in-Un.p c.in-Un.key) c.apply_unary.result c.in-Un.is (c.apply_unary.ensures c.args.heap.now first)

pub returns-in-NotNil : goal.returns-in-NotNil
returns-in-NotNil c = λ threads first.
    act_agrees has_128_bits c.args.m.now c.args.thread threads c.args.heap.now (begun first c.args.frame.now) c.args.item.now (item.NotNil c.in-NotNil.p) c.test_not_nil.result c.in-NotNil.is (c.test_not_nil.ensures c.args.heap.now first)

pub returns-in-Drop : goal.returns-in-Drop
returns-in-Drop c = λ threads first.
    act_agrees has_128_bits c.args.m.now c.args.thread threads c.args.heap.now (begun first c.args.frame.now) c.args.item.now (item.Drop) c.drop_value.result c.in-Drop.is (c.drop_value.ensures c.args.heap.now first)
