-- What an expression answers, by its form and what its parts answer.
use Rattle.std.proofs.Common.{◌≡◌, ◌++◌, List, [], Some, ℕ, map, ap, sym, ◌∙◌, rules, if◌then◌else◌}
use Rattle.py_base.specs.declared.Place.{Place}
use Rattle.raw_syntax.specs.declared.RawExpr.{RawExpr, fold_out-RawExpr}
use Rattle.raw_syntax.specs.declared.RawExprForm.{RawExprForm, RawExprForm-F, fold-RawExprForm, out-RawExprForm, map-RawExprForm, fold_out-RawExprForm, the_lemmas}
use Rattle.raw_syntax.specs.declared.RawExprForm.TheVariants as exprs
use Rattle.raw_syntax.specs.declared.RawArgument.{RawArgument}
use Rattle.raw_syntax.specs.declared.RawComparison.{RawComparison}
use Rattle.raw_syntax.specs.declared.Arithmetic.{Arithmetic}
use Rattle.py_syntax.specs.declared.Ty.TheVariants as types
use Rattle.class_table.specs.declared.Classes.{Classes}
use Rattle.type_base.specs.declared.Fault.{Fault}
use Rattle.type_names.specs.declared.Position.{Position}
use Rattle.type_names.specs.declared.Meaning.TheVariants as meanings
use Rattle.type_names.specs.declared.Worth.{Worth}
use Rattle.type_names.specs.declared.Given.{Given}
use Rattle.type_names.specs.declared.Compared.{Compared}
use Rattle.type_names.specs.declared.Signature.{Signature}
use Rattle.type_names.specs.declared.Scope.{Scope}
use Rattle.type_names.specs.Operands.{both_bool_faults, prefix_faults, arithmetic_faults, arithmetic_type, chain_faults}
use Rattle.type_names.specs.Rows.{out_type}
use Rattle.type_terms.specs.Calls.{worths, call_faults, meaning_type}
use Rattle.type_names.specs.Positions.{Question, inner, called, conjunct, is_atom}
use Rattle.type_terms.specs.Expressions.{Argument, Link, own_faults, asked, all_faults, parts_worth, tuple_faults, member_faults, link_at, compared, arguments_typing, argued_faults, givens, argument_form, form_typing, typing, argument_of, link_of}

abbrev Layer : Type 0
Layer = RawExprForm-F RawArgument RawExprForm RawComparison RawExpr

abbrev form_asked : Classes → List Signature → Scope → RawExprForm → Place → Question
form_asked cs fs sc = fold-RawExprForm Argument (Place → Question) Link Question argument_form (form_typing cs fs sc) (λ l. record { place = l.place; operator = l.operator; operand = l.operand }) (λ e. e.form e.place)

-- one level, where each part answers
abbrev layer : Classes → List Signature → Scope → Layer → Place → Question
layer cs fs sc f = form_typing cs fs sc (map-RawExprForm RawArgument RawExprForm RawComparison RawExpr Argument (Place → Question) Link Question (argument_of cs fs sc) (form_asked cs fs sc) (link_of cs fs sc) (typing cs fs sc) f)

answered : (cs : Classes) (fs : List Signature) (sc : Scope) (e : RawExpr) (f : Layer) → out-RawExprForm e.form ≡ f → typing cs fs sc e ≡ layer cs fs sc f e.place
answered cs fs sc e f is =
    fold_out-RawExpr Argument (Place → Question) Link Question argument_form (form_typing cs fs sc) (λ l. record { place = l.place; operator = l.operator; operand = l.operand }) (λ e. e.form e.place) e
    ∙ ap (λ k. k e.place) (fold_out-RawExprForm Argument (Place → Question) Link Question argument_form (form_typing cs fs sc) (λ l. record { place = l.place; operator = l.operator; operand = l.operand }) (λ e. e.form e.place) e.form)
    ∙ ap (λ x. layer cs fs sc x e.place) is

-- the part, its position and its worth as they came
moved : (cs : Classes) (fs : List Signature) (sc : Scope) (F : RawExpr → Position → Worth → List Fault) (r a : RawExpr) (q p : Position) (w : Worth)
    → r ≡ a → q ≡ p → w ≡ (typing cs fs sc r q).worth → F a p (typing cs fs sc a p).worth ≡ F r q w
moved cs fs sc F r a q p w ra qp wis =
    ap (λ x. F x p (typing cs fs sc x p).worth) (sym ra) ∙ ap (λ x. F r x (typing cs fs sc r x).worth) (sym qp) ∙ ap (λ x. F r q x) (sym wis)

out-Negate : (a : RawExpr) → out-RawExprForm (exprs.Negate a) ≡ RawExprForm-F.Negate a
out-Negate a = search (rules, the_lemmas)

out-Not : (a : RawExpr) → out-RawExprForm (exprs.Not a) ≡ RawExprForm-F.Not a
out-Not a = search (rules, the_lemmas)

out-And : (a b : RawExpr) → out-RawExprForm (exprs.And a b) ≡ RawExprForm-F.And a b
out-And a b = search (rules, the_lemmas)

out-Or : (a b : RawExpr) → out-RawExprForm (exprs.Or a b) ≡ RawExprForm-F.Or a b
out-Or a b = search (rules, the_lemmas)

out-Binary : (o : Arithmetic) (a b : RawExpr) → out-RawExprForm (exprs.Binary o a b) ≡ RawExprForm-F.Binary o a b
out-Binary o a b = search (rules, the_lemmas)

out-Chain : (a : RawExpr) (ls : List RawComparison) → out-RawExprForm (exprs.Chain a ls) ≡ RawExprForm-F.Chain a ls
out-Chain a ls = search (rules, the_lemmas)

out-Field : (a : RawExpr) (n : List ℕ) → out-RawExprForm (exprs.Field a n) ≡ RawExprForm-F.Field a n
out-Field a n = search (rules, the_lemmas)

out-Call : (a : RawExpr) (xs : List RawArgument) → out-RawExprForm (exprs.Call a xs) ≡ RawExprForm-F.Call a xs
out-Call a xs = search (rules, the_lemmas)

out-Tuple : (es : List RawExpr) → out-RawExprForm (exprs.Tuple es) ≡ RawExprForm-F.Tuple es
out-Tuple es = search (rules, the_lemmas)

pub negated : (cs : Classes) (fs : List Signature) (sc : Scope) (e : RawExpr) (a : RawExpr) (at : Position) (r : RawExpr) (q : Position) (w : Worth) → e.form ≡ exprs.Negate a → r ≡ a → q ≡ inner at → w ≡ (typing cs fs sc r q).worth
    → (typing cs fs sc e at).faults ≡ (typing cs fs sc r q).faults ++ own_faults cs at e.place (prefix_faults cs.list 6 w) (out_type 6)
negated cs fs sc e a at r q w is ra qp wis =
    ap (λ k. (k at).faults) (answered cs fs sc e (RawExprForm-F.Negate a) (ap out-RawExprForm is ∙ out-Negate a))
    ∙ moved cs fs sc (λ r q w. (typing cs fs sc r q).faults ++ own_faults cs at e.place (prefix_faults cs.list 6 w) (out_type 6)) r a q (inner at) w ra qp wis

pub inverted : (cs : Classes) (fs : List Signature) (sc : Scope) (e : RawExpr) (a : RawExpr) (at : Position) (r : RawExpr) (q : Position) (w : Worth) → e.form ≡ exprs.Not a → r ≡ a → q ≡ inner at → w ≡ (typing cs fs sc r q).worth
    → (typing cs fs sc e at).faults ≡ (typing cs fs sc r q).faults ++ own_faults cs at e.place (prefix_faults cs.list 17 w) (out_type 17)
inverted cs fs sc e a at r q w is ra qp wis =
    ap (λ k. (k at).faults) (answered cs fs sc e (RawExprForm-F.Not a) (ap out-RawExprForm is ∙ out-Not a))
    ∙ moved cs fs sc (λ r q w. (typing cs fs sc r q).faults ++ own_faults cs at e.place (prefix_faults cs.list 17 w) (out_type 17)) r a q (inner at) w ra qp wis

pub read_behind : (cs : Classes) (fs : List Signature) (sc : Scope) (e : RawExpr) (a : RawExpr) (n : List ℕ) (at : Position) (r : RawExpr) (q : Position) (w : Worth) → e.form ≡ exprs.Field a n → r ≡ a → q ≡ inner at → w ≡ (typing cs fs sc r q).worth
    → (typing cs fs sc e at).faults ≡ (typing cs fs sc r q).faults ++ member_faults cs fs w n e.place at
read_behind cs fs sc e a n at r q w is ra qp wis =
    ap (λ k. (k at).faults) (answered cs fs sc e (RawExprForm-F.Field a n) (ap out-RawExprForm is ∙ out-Field a n))
    ∙ moved cs fs sc (λ r q w. (typing cs fs sc r q).faults ++ member_faults cs fs w n e.place at) r a q (inner at) w ra qp wis

pub computed : (cs : Classes) (fs : List Signature) (sc : Scope) (e : RawExpr) (o : Arithmetic) (a b : RawExpr) (at : Position) (r s : RawExpr) (q u : Position) (v w : Worth) → e.form ≡ exprs.Binary o a b
    → r ≡ a → q ≡ inner at → v ≡ (typing cs fs sc r q).worth → s ≡ b → u ≡ inner at → w ≡ (typing cs fs sc s u).worth
    → (typing cs fs sc e at).faults ≡ ((typing cs fs sc r q).faults ++ (typing cs fs sc s u).faults) ++ own_faults cs at e.place (arithmetic_faults cs.list o e.place v w) (arithmetic_type o)
computed cs fs sc e o a b at r s q u v w is ra qp vis sb up wis =
    ap (λ k. (k at).faults) (answered cs fs sc e (RawExprForm-F.Binary o a b) (ap out-RawExprForm is ∙ out-Binary o a b))
    ∙ moved cs fs sc (λ r q v. ((typing cs fs sc r q).faults ++ (typing cs fs sc b (inner at)).faults) ++ own_faults cs at e.place (arithmetic_faults cs.list o e.place v (typing cs fs sc b (inner at)).worth) (arithmetic_type o)) r a q (inner at) v ra qp vis
    ∙ moved cs fs sc (λ s u w. ((typing cs fs sc r q).faults ++ (typing cs fs sc s u).faults) ++ own_faults cs at e.place (arithmetic_faults cs.list o e.place v w) (arithmetic_type o)) s b u (inner at) w sb up wis

pub joined_by_and : (cs : Classes) (fs : List Signature) (sc : Scope) (e : RawExpr) (a b : RawExpr) (at : Position) (r s : RawExpr) (q u : Position) (v w : Worth) → e.form ≡ exprs.And a b
    → r ≡ a → q ≡ conjunct at → v ≡ (typing cs fs sc r q).worth → s ≡ b → u ≡ conjunct at → w ≡ (typing cs fs sc s u).worth
    → (typing cs fs sc e at).faults ≡ ((typing cs fs sc r q).faults ++ (typing cs fs sc s u).faults) ++ own_faults cs at e.place (if is_atom at then [] else both_bool_faults cs.list v w) (Some types.Bool)
joined_by_and cs fs sc e a b at r s q u v w is ra qp vis sb up wis =
    ap (λ k. (k at).faults) (answered cs fs sc e (RawExprForm-F.And a b) (ap out-RawExprForm is ∙ out-And a b))
    ∙ moved cs fs sc (λ r q v. ((typing cs fs sc r q).faults ++ (typing cs fs sc b (conjunct at)).faults) ++ own_faults cs at e.place (if is_atom at then [] else both_bool_faults cs.list v (typing cs fs sc b (conjunct at)).worth) (Some types.Bool)) r a q (conjunct at) v ra qp vis
    ∙ moved cs fs sc (λ s u w. ((typing cs fs sc r q).faults ++ (typing cs fs sc s u).faults) ++ own_faults cs at e.place (if is_atom at then [] else both_bool_faults cs.list v w) (Some types.Bool)) s b u (conjunct at) w sb up wis

pub joined_by_or : (cs : Classes) (fs : List Signature) (sc : Scope) (e : RawExpr) (a b : RawExpr) (at : Position) (r s : RawExpr) (q u : Position) (v w : Worth) → e.form ≡ exprs.Or a b
    → r ≡ a → q ≡ inner at → v ≡ (typing cs fs sc r q).worth → s ≡ b → u ≡ inner at → w ≡ (typing cs fs sc s u).worth
    → (typing cs fs sc e at).faults ≡ ((typing cs fs sc r q).faults ++ (typing cs fs sc s u).faults) ++ own_faults cs at e.place (both_bool_faults cs.list v w) (Some types.Bool)
joined_by_or cs fs sc e a b at r s q u v w is ra qp vis sb up wis =
    ap (λ k. (k at).faults) (answered cs fs sc e (RawExprForm-F.Or a b) (ap out-RawExprForm is ∙ out-Or a b))
    ∙ moved cs fs sc (λ r q v. ((typing cs fs sc r q).faults ++ (typing cs fs sc b (inner at)).faults) ++ own_faults cs at e.place (both_bool_faults cs.list v (typing cs fs sc b (inner at)).worth) (Some types.Bool)) r a q (inner at) v ra qp vis
    ∙ moved cs fs sc (λ s u w. ((typing cs fs sc r q).faults ++ (typing cs fs sc s u).faults) ++ own_faults cs at e.place (both_bool_faults cs.list v w) (Some types.Bool)) s b u (inner at) w sb up wis

pub listed : (cs : Classes) (fs : List Signature) (sc : Scope) (e : RawExpr) (es : List RawExpr) (at q : Position) (ws : List Worth) → e.form ≡ exprs.Tuple es → q ≡ inner at → ws ≡ parts_worth (map (asked q) (map (typing cs fs sc) es))
    → (typing cs fs sc e at).faults ≡ all_faults (map (asked q) (map (typing cs fs sc) es)) ++ tuple_faults cs fs ws e.place at
listed cs fs sc e es at q ws is qp wis =
    ap (λ k. (k at).faults) (answered cs fs sc e (RawExprForm-F.Tuple es) (ap out-RawExprForm is ∙ out-Tuple es))
    ∙ ap (λ x. all_faults (map (asked x) (map (typing cs fs sc) es)) ++ tuple_faults cs fs (parts_worth (map (asked x) (map (typing cs fs sc) es))) e.place at) (sym qp)
    ∙ ap (λ x. all_faults (map (asked q) (map (typing cs fs sc) es)) ++ tuple_faults cs fs x e.place at) (sym wis)

pub chained : (cs : Classes) (fs : List Signature) (sc : Scope) (e : RawExpr) (a : RawExpr) (ls : List RawComparison) (at : Position) (r : RawExpr) (q u : Position) (v : Worth) (ws : List Compared) → e.form ≡ exprs.Chain a ls
    → r ≡ a → q ≡ inner at → v ≡ (typing cs fs sc r q).worth → u ≡ inner at → ws ≡ map (compared u) (map (link_of cs fs sc) ls)
    → (typing cs fs sc e at).faults ≡ ((typing cs fs sc r q).faults ++ all_faults (map (link_at u) (map (link_of cs fs sc) ls))) ++ own_faults cs at e.place (chain_faults cs.list v ws) (Some types.Bool)
chained cs fs sc e a ls at r q u v ws is ra qp vis up wis =
    ap (λ k. (k at).faults) (answered cs fs sc e (RawExprForm-F.Chain a ls) (ap out-RawExprForm is ∙ out-Chain a ls))
    ∙ moved cs fs sc (λ r q v. ((typing cs fs sc r q).faults ++ all_faults (map (link_at (inner at)) (map (link_of cs fs sc) ls))) ++ own_faults cs at e.place (chain_faults cs.list v (map (compared (inner at)) (map (link_of cs fs sc) ls))) (Some types.Bool)) r a q (inner at) v ra qp vis
    ∙ ap (λ x. ((typing cs fs sc r q).faults ++ all_faults (map (link_at x) (map (link_of cs fs sc) ls))) ++ own_faults cs at e.place (chain_faults cs.list v (map (compared x) (map (link_of cs fs sc) ls))) (Some types.Bool)) (sym up)
    ∙ ap (λ x. ((typing cs fs sc r q).faults ++ all_faults (map (link_at u) (map (link_of cs fs sc) ls))) ++ own_faults cs at e.place (chain_faults cs.list v x) (Some types.Bool)) (sym wis)

-- the arguments of a call, and its own faults
abbrev behind_callee : Classes → List Signature → Scope → List RawArgument → Position → Worth → List Given → List Fault
behind_callee cs fs sc xs at w gs =
    argued_faults (arguments_typing w.meaning at 0 meanings.Plain (map (argument_of cs fs sc) xs)) ++ own_faults cs at w.place (call_faults cs fs sc at w gs) (meaning_type cs fs sc w.meaning (worths gs))

pub called_with : (cs : Classes) (fs : List Signature) (sc : Scope) (e : RawExpr) (a : RawExpr) (xs : List RawArgument) (at : Position) (r : RawExpr) (q : Position) (w : Worth) (gs : List Given) → e.form ≡ exprs.Call a xs
    → r ≡ a → q ≡ called at → w ≡ (typing cs fs sc r q).worth → gs ≡ givens (arguments_typing w.meaning at 0 meanings.Plain (map (argument_of cs fs sc) xs))
    → (typing cs fs sc e at).faults ≡ (typing cs fs sc r q).faults ++ behind_callee cs fs sc xs at w gs
called_with cs fs sc e a xs at r q w gs is ra qp wis gis =
    ap (λ k. (k at).faults) (answered cs fs sc e (RawExprForm-F.Call a xs) (ap out-RawExprForm is ∙ out-Call a xs))
    ∙ moved cs fs sc (λ r q w. (typing cs fs sc r q).faults ++ behind_callee cs fs sc xs at w (givens (arguments_typing w.meaning at 0 meanings.Plain (map (argument_of cs fs sc) xs)))) r a q (called at) w ra qp wis
    ∙ ap (λ x. (typing cs fs sc r q).faults ++ behind_callee cs fs sc xs at w x) (sym gis)
