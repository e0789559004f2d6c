use Rattle.std.proofs.Common.{◌≡◌, ◌++◌, OnOk, [], Some, map, if◌then◌else◌, subst, ap, sym, ◌∙◌}
use Rattle.py_syntax.specs.declared.Ty.TheVariants as types
use Rattle.type_names.specs.declared.Meaning.TheVariants as meanings
use Rattle.type_names.specs.Operands.{both_bool_faults, prefix_faults, arithmetic_faults, arithmetic_type, chain_faults}
use Rattle.type_names.specs.Rows.{out_type}
use Rattle.type_terms.specs.Calls.{worths, call_faults, meaning_type}
use Rattle.type_names.specs.Positions.{is_atom}
use Rattle.type_terms.specs.Expressions.{own_faults, asked, all_faults, tuple_faults, member_faults, link_at, arguments_typing, argued_faults, typing, argument_of, link_of}
use Rattle.type_terms.proofs.Behind.{joined, joined_two, joined_both}
use Rattle.type_terms.proofs.Answering.{negated, inverted, read_behind, computed, joined_by_and, joined_by_or, listed, chained, called_with}
use Rattle.type_terms.proofs.expressions.+typing.Goals as goal

pub type_expr-returns-in_ok-parts-in-Tuple-clause-faults : goal.type_expr-returns-in_ok-parts-in-Tuple-clause-faults
type_expr-returns-in_ok-parts-in-Tuple-clause-faults t c =
    let e = (listed c.args.classes.now c.args.functions.now c.args.scope.now c.args.e.now c.in-Tuple.parts c.args.at c.inner.result c.as_slice.result.now c.in-Tuple.is c.inner.ensures (cc (c.as_slice.ensures, c.in_ok-parts-in-Tuple.ensures.worth))) in subst (λ fs. OnOk c.read_tuple.result (c.read_tuple.new.found ≡ fs)) (joined c.args.found.now (all_faults (map (asked c.inner.result) (map (typing c.args.classes.now c.args.functions.now c.args.scope.now) c.in-Tuple.parts))) (tuple_faults c.args.classes.now c.args.functions.now c.as_slice.result.now c.args.e.now.place c.args.at) ((typing c.args.classes.now c.args.functions.now c.args.scope.now c.args.e.now c.args.at).faults) c.in_ok-parts-in-Tuple.ensures.faults e) c.read_tuple.ensures.faults

pub type_expr-returns-in_ok-e-in-Field-clause-faults : goal.type_expr-returns-in_ok-e-in-Field-clause-faults
type_expr-returns-in_ok-e-in-Field-clause-faults t c =
    let e = (read_behind c.args.classes.now c.args.functions.now c.args.scope.now c.args.e.now c.in-Field.e c.in-Field.name c.args.at c.get-in-Field.result.now c.inner-in-Field.result c.in_ok-e-in-Field.e c.in-Field.is c.get-in-Field.ensures c.inner-in-Field.ensures c.in_ok-e-in-Field.ensures.worth) ∙ ap (λ n. (typing c.args.classes.now c.args.functions.now c.args.scope.now c.get-in-Field.result.now c.inner-in-Field.result).faults ++ member_faults c.args.classes.now c.args.functions.now c.in_ok-e-in-Field.e n c.args.e.now.place c.args.at) (sym c.bytes-in-Field.ensures) in subst (λ fs. OnOk c.type_member.result (c.type_member.new.found ≡ fs)) (joined c.args.found.now ((typing c.args.classes.now c.args.functions.now c.args.scope.now c.get-in-Field.result.now c.inner-in-Field.result).faults) (member_faults c.args.classes.now c.args.functions.now c.in_ok-e-in-Field.e c.bytes-in-Field.result.now c.args.e.now.place c.args.at) ((typing c.args.classes.now c.args.functions.now c.args.scope.now c.args.e.now c.args.at).faults) c.in_ok-e-in-Field.ensures.faults e) c.type_member.ensures.faults

pub type_expr-returns-in_ok-givens-in-Call-clause-faults : goal.type_expr-returns-in_ok-givens-in-Call-clause-faults
type_expr-returns-in_ok-givens-in-Call-clause-faults t c =
    let e = (called_with c.args.classes.now c.args.functions.now c.args.scope.now c.args.e.now c.in-Call.e c.in-Call.arguments c.args.at c.get-in-Call.result.now c.called.result c.in_ok-e-in-Call.e c.as_slice-in-Call.result.now c.in-Call.is c.get-in-Call.ensures c.called.ensures c.in_ok-e-in-Call.ensures.worth (cc (c.as_slice-in-Call.ensures, c.in_ok-givens-in-Call.ensures.worth))) in subst (λ fs. OnOk c.type_call.result (c.type_call.new.found ≡ fs)) (joined_both c.args.found.now ((typing c.args.classes.now c.args.functions.now c.args.scope.now c.get-in-Call.result.now c.called.result).faults) (argued_faults (arguments_typing c.in_ok-e-in-Call.e.meaning c.args.at 0 meanings.Plain (map (argument_of c.args.classes.now c.args.functions.now c.args.scope.now) c.in-Call.arguments))) (own_faults c.args.classes.now c.args.at c.in_ok-e-in-Call.e.place (call_faults c.args.classes.now c.args.functions.now c.args.scope.now c.args.at c.in_ok-e-in-Call.e c.as_slice-in-Call.result.now) (meaning_type c.args.classes.now c.args.functions.now c.args.scope.now c.in_ok-e-in-Call.e.meaning (worths c.as_slice-in-Call.result.now))) ((typing c.args.classes.now c.args.functions.now c.args.scope.now c.args.e.now c.args.at).faults) c.in_ok-givens-in-Call.ensures.faults c.in_ok-e-in-Call.ensures.faults e) c.type_call.ensures.faults

pub type_expr-returns-in_ok-a-in-Negate-clause-faults : goal.type_expr-returns-in_ok-a-in-Negate-clause-faults
type_expr-returns-in_ok-a-in-Negate-clause-faults t c =
    let e = (negated c.args.classes.now c.args.functions.now c.args.scope.now c.args.e.now c.in-Negate.a c.args.at c.get-in-Negate.result.now c.inner-in-Negate.result c.in_ok-a-in-Negate.a c.in-Negate.is c.get-in-Negate.ensures c.inner-in-Negate.ensures c.in_ok-a-in-Negate.ensures.worth) in subst (λ fs. OnOk c.negate.result (c.negate.new.found ≡ fs)) (joined c.args.found.now ((typing c.args.classes.now c.args.functions.now c.args.scope.now c.get-in-Negate.result.now c.inner-in-Negate.result).faults) (own_faults c.args.classes.now c.args.at c.args.e.now.place (prefix_faults c.args.classes.now.list 6 c.in_ok-a-in-Negate.a) (out_type 6)) ((typing c.args.classes.now c.args.functions.now c.args.scope.now c.args.e.now c.args.at).faults) c.in_ok-a-in-Negate.ensures.faults e) c.negate.ensures.faults

pub type_expr-returns-in_ok-b-in-Binary-clause-faults : goal.type_expr-returns-in_ok-b-in-Binary-clause-faults
type_expr-returns-in_ok-b-in-Binary-clause-faults t c =
    let e = (computed c.args.classes.now c.args.functions.now c.args.scope.now c.args.e.now c.in-Binary.operator c.in-Binary.a c.in-Binary.b c.args.at c.get-in-Binary.result.now c.get-in-Binary-2.result.now c.inner-in-Binary.result c.inner-in-Binary-2.result c.in_ok-a-in-Binary.a c.in_ok-b-in-Binary.b c.in-Binary.is c.get-in-Binary.ensures c.inner-in-Binary.ensures c.in_ok-a-in-Binary.ensures.worth c.get-in-Binary-2.ensures c.inner-in-Binary-2.ensures c.in_ok-b-in-Binary.ensures.worth) in subst (λ fs. OnOk c.compute.result (c.compute.new.found ≡ fs)) (joined_two c.args.found.now ((typing c.args.classes.now c.args.functions.now c.args.scope.now c.get-in-Binary.result.now c.inner-in-Binary.result).faults) ((typing c.args.classes.now c.args.functions.now c.args.scope.now c.get-in-Binary-2.result.now c.inner-in-Binary-2.result).faults) (own_faults c.args.classes.now c.args.at c.args.e.now.place (arithmetic_faults c.args.classes.now.list c.in-Binary.operator c.args.e.now.place c.in_ok-a-in-Binary.a c.in_ok-b-in-Binary.b) (arithmetic_type c.in-Binary.operator)) ((typing c.args.classes.now c.args.functions.now c.args.scope.now c.args.e.now c.args.at).faults) c.in_ok-b-in-Binary.ensures.faults c.in_ok-a-in-Binary.ensures.faults e) c.compute.ensures.faults

pub type_expr-returns-in_ok-links-in-Chain-clause-faults : goal.type_expr-returns-in_ok-links-in-Chain-clause-faults
type_expr-returns-in_ok-links-in-Chain-clause-faults t c =
    let e = (chained c.args.classes.now c.args.functions.now c.args.scope.now c.args.e.now c.in-Chain.a c.in-Chain.links c.args.at c.get-in-Chain.result.now c.inner-in-Chain.result c.inner-in-Chain-2.result c.in_ok-a-in-Chain.a c.as_slice-in-Chain-2.result.now c.in-Chain.is c.get-in-Chain.ensures c.inner-in-Chain.ensures c.in_ok-a-in-Chain.ensures.worth c.inner-in-Chain-2.ensures (cc (c.as_slice-in-Chain-2.ensures, c.in_ok-links-in-Chain.ensures.worth))) in subst (λ fs. OnOk c.compare.result (c.compare.new.found ≡ fs)) (joined_two c.args.found.now ((typing c.args.classes.now c.args.functions.now c.args.scope.now c.get-in-Chain.result.now c.inner-in-Chain.result).faults) (all_faults (map (link_at c.inner-in-Chain-2.result) (map (link_of c.args.classes.now c.args.functions.now c.args.scope.now) c.in-Chain.links))) (own_faults c.args.classes.now c.args.at c.args.e.now.place (chain_faults c.args.classes.now.list c.in_ok-a-in-Chain.a c.as_slice-in-Chain-2.result.now) (Some types.Bool)) ((typing c.args.classes.now c.args.functions.now c.args.scope.now c.args.e.now c.args.at).faults) c.in_ok-links-in-Chain.ensures.faults c.in_ok-a-in-Chain.ensures.faults e) c.compare.ensures.faults

pub type_expr-returns-in_ok-a-in-Not-clause-faults : goal.type_expr-returns-in_ok-a-in-Not-clause-faults
type_expr-returns-in_ok-a-in-Not-clause-faults t c =
    let e = (inverted c.args.classes.now c.args.functions.now c.args.scope.now c.args.e.now c.in-Not.a c.args.at c.get-in-Not.result.now c.inner-in-Not.result c.in_ok-a-in-Not.a c.in-Not.is c.get-in-Not.ensures c.inner-in-Not.ensures c.in_ok-a-in-Not.ensures.worth) in subst (λ fs. OnOk c.invert.result (c.invert.new.found ≡ fs)) (joined c.args.found.now ((typing c.args.classes.now c.args.functions.now c.args.scope.now c.get-in-Not.result.now c.inner-in-Not.result).faults) (own_faults c.args.classes.now c.args.at c.args.e.now.place (prefix_faults c.args.classes.now.list 17 c.in_ok-a-in-Not.a) (out_type 17)) ((typing c.args.classes.now c.args.functions.now c.args.scope.now c.args.e.now c.args.at).faults) c.in_ok-a-in-Not.ensures.faults e) c.invert.ensures.faults

pub type_expr-returns-in_ok-b-in-And-clause-faults : goal.type_expr-returns-in_ok-b-in-And-clause-faults
type_expr-returns-in_ok-b-in-And-clause-faults t c =
    let e = (joined_by_and c.args.classes.now c.args.functions.now c.args.scope.now c.args.e.now c.in-And.a c.in-And.b c.args.at c.get-in-And.result.now c.get-in-And-2.result.now c.conjunct.result c.conjunct-in-And.result c.in_ok-a-in-And.a c.in_ok-b-in-And.b c.in-And.is c.get-in-And.ensures c.conjunct.ensures c.in_ok-a-in-And.ensures.worth c.get-in-And-2.ensures c.conjunct-in-And.ensures c.in_ok-b-in-And.ensures.worth) in subst (λ fs. OnOk c.both.result (c.both.new.found ≡ fs)) (joined_two c.args.found.now ((typing c.args.classes.now c.args.functions.now c.args.scope.now c.get-in-And.result.now c.conjunct.result).faults) ((typing c.args.classes.now c.args.functions.now c.args.scope.now c.get-in-And-2.result.now c.conjunct-in-And.result).faults) (own_faults c.args.classes.now c.args.at c.args.e.now.place (if is_atom c.args.at then [] else both_bool_faults c.args.classes.now.list c.in_ok-a-in-And.a c.in_ok-b-in-And.b) (Some types.Bool)) ((typing c.args.classes.now c.args.functions.now c.args.scope.now c.args.e.now c.args.at).faults) c.in_ok-b-in-And.ensures.faults c.in_ok-a-in-And.ensures.faults e) c.both.ensures.faults

pub type_expr-returns-in_ok-b-in-Or-clause-faults : goal.type_expr-returns-in_ok-b-in-Or-clause-faults
type_expr-returns-in_ok-b-in-Or-clause-faults t c =
    let e = (joined_by_or c.args.classes.now c.args.functions.now c.args.scope.now c.args.e.now c.in-Or.a c.in-Or.b c.args.at c.get-in-Or.result.now c.get-in-Or-2.result.now c.inner-in-Or.result c.inner-in-Or-2.result c.in_ok-a-in-Or.a c.in_ok-b-in-Or.b c.in-Or.is c.get-in-Or.ensures c.inner-in-Or.ensures c.in_ok-a-in-Or.ensures.worth c.get-in-Or-2.ensures c.inner-in-Or-2.ensures c.in_ok-b-in-Or.ensures.worth) in subst (λ fs. OnOk c.either.result (c.either.new.found ≡ fs)) (joined_two c.args.found.now ((typing c.args.classes.now c.args.functions.now c.args.scope.now c.get-in-Or.result.now c.inner-in-Or.result).faults) ((typing c.args.classes.now c.args.functions.now c.args.scope.now c.get-in-Or-2.result.now c.inner-in-Or-2.result).faults) (own_faults c.args.classes.now c.args.at c.args.e.now.place (both_bool_faults c.args.classes.now.list c.in_ok-a-in-Or.a c.in_ok-b-in-Or.b) (Some types.Bool)) ((typing c.args.classes.now c.args.functions.now c.args.scope.now c.args.e.now c.args.at).faults) c.in_ok-b-in-Or.ensures.faults c.in_ok-a-in-Or.ensures.faults e) c.either.ensures.faults
