use Rattle.std.proofs.Common.{rules, arith, ap, ◌∙◌, subst, sym, ◌≡◌, [], length}
use Rattle.std.specs.Vec.Iter.{into_iter_items}
use Rattle.py_lexer.specs.Walk.{walked, first_layout, AreTextNames}
use Rattle.py_lexer.proofs.Walks.{names_rest, walks_on}
use Rattle.py_lexer.proofs.tokens.lay_out.Goals as goal

pub pieces-init : goal.pieces-init
pieces-init c =
    let items : into_iter_items c.into_iter-piece-iterator.result ≡ c.args.pieces.items = c.into_iter-piece-iterator.ensures.into_iter_gives.0 in
    let layout : c.in_ok-layout.layout ≡ first_layout = c.in_ok-layout.ensures in
    record {
      same =
          ap (λ s. walked c.args.place s c.new-tokens.result.items (into_iter_items c.into_iter-piece-iterator.result)) layout
          ∙ ap (λ ts. walked c.args.place first_layout ts (into_iter_items c.into_iter-piece-iterator.result)) c.new-tokens.ensures.items
          ∙ ap (walked c.args.place first_layout []) items;
      names = subst AreTextNames (sym items) c.requires.names;
      few = omega (arith, ap length items, ap (λ s. s.brackets) layout);
    }

pub fault_at-requires : goal.fault_at-requires
fault_at-requires c = (names_rest (into_iter_items c.pieces.piece-iterator) (into_iter_items c.next.new.self) c.in-Some.piece c.pieces.invariant.names c.in-Some.ensures.steps.0).0

pub pieces-preserved : goal.pieces-preserved
pieces-preserved c = record {
  same = walks_on c.args.place c.pieces.layout c.take.new.self c.pieces.tokens.items c.take.new.tokens.items c.in-Some.piece (into_iter_items c.pieces.piece-iterator) (into_iter_items c.next.new.self) _ c.in-Some.ensures.steps.0 (search (rules, c.in_ok-fault.ensures)) c.in_ok-take.ensures.layout c.in_ok-take.ensures.tokens c.pieces.invariant.same;
  names = (names_rest (into_iter_items c.pieces.piece-iterator) (into_iter_items c.next.new.self) c.in-Some.piece c.pieces.invariant.names c.in-Some.ensures.steps.0).1;
  few = omega (arith, ap length c.in-Some.ensures.steps.0, c.in_ok-take.ensures.few);
}
