-- The reading of a chain of nodes.
use Rattle.std.proofs.Common.{◌≡◌, ℕ, zero, suc, Bool, true, false, List, [], ◌∷◌, Option, Some, None, refl, ap, sym, ◌∙◌, inl, inr, if◌then◌else◌, subst, length, arith, All, slice_get}
use Rattle.py_base.specs.declared.Place.{Place}
use Rattle.py_syntax.specs.declared.Value.{Value}
use Rattle.py_syntax.specs.declared.Value.TheVariants as value
use Rattle.py_syntax.specs.declared.Expr.{Expr, out-Expr, fold_out-Expr}
use Rattle.py_syntax.specs.declared.ExprForm.{ExprForm, ExprForm-F, out-ExprForm, fold_out-ExprForm, the_lemmas as expr_lemmas}
use Rattle.py_syntax.specs.declared.ExprForm.TheVariants.{Nil, Local, Get, Bin}
use Rattle.py_syntax.specs.declared.Instance.{Instance, Instance-F, out-Instance, out-roll-Instance}
use Rattle.py_syntax.specs.declared.Assertion.{Assertion, fold_out-Assertion}
use Rattle.py_syntax.specs.declared.AtomForm.{AtomForm, AtomForm-F, out-AtomForm, fold_out-AtomForm, the_lemmas as atom_lemmas, map-AtomForm, fold-AtomForm}
use Rattle.py_syntax.specs.declared.AtomForm.TheVariants.{When, Holds}
use Rattle.machine_model.specs.Results.{Res, Got, then_do}
use Rattle.machine_model.specs.Evaluation.{Scene, Reading, Meaning, form_meaning, meaning, with_value, of_reference, given}
use Rattle.machine_model.specs.Reading.{Verdict, Judge, Judgement, values_of, verdict_if, atom_judgement, judgement, within, is_none, holds, is_true, opened_at, opens_within, room}
use Rattle.machine_model.specs.Steps.{whole}
use Rattle.machine_model.specs.Operators.{binary}
use Rattle.std.proofs.lemmas.List.Elements.{All-nil, All-cons, All-head}
use Rattle.py_syntax.specs.declared.Pred.{Pred}
use Rattle.machine_laws.specs.SceneLaws.{stays_among}
use Rattle.machine_laws.specs.DepthBound.{holds_in_room}
use Rattle.machine_laws.specs.WholeReadings.{opens_answered}
use Rattle.machine_laws.specs.DepthLaws.{opens_holds}
use Rattle.machine_model.specs.Smallest.{at}
use Rattle.machine_laws.specs.ReadingWidths.{of_expr, of_instance, layer_read, of_assertion, layer_judged}
use Rattle.machine_laws.specs.Depths.{Opens, holds_at, atom_instances, instances_of, IsObject, IsBelowIfAny, IsOver, IsReference, NamesReferences, BodiesNameReferences}
use Rattle.machine_laws.specs.Chained.{x, nothing, is_node, next, rest, goes_on, body, chain, chained, nodes}

read_out : (e : Expr) (s : Scene) → meaning whole e s ≡ layer_read whole (out-ExprForm (out-Expr e).form) (out-Expr e).place s
read_out e s =
    ap (λ (r : Meaning). r s) (fold_out-Expr (Place → Meaning) Meaning (Unit {0}) (form_meaning whole) of_expr of_instance e
    ∙ ap (λ (r : Place → Meaning). r (out-Expr e).place) (fold_out-ExprForm (Place → Meaning) Meaning (Unit {0}) (form_meaning whole) of_expr of_instance (out-Expr e).form))

judged_out : (a : Assertion) (j : Judge) (s : Scene) → judgement whole a j s ≡ layer_judged whole (out-AtomForm a.form) a.place j s
judged_out a j s =
    ap (λ (r : Judgement). r j s) (fold_out-Assertion (Place → Judgement) Judgement (atom_judgement whole) of_assertion a
    ∙ ap (λ (r : Place → Judgement). r a.place) (fold_out-AtomForm (Place → Judgement) Judgement (atom_judgement whole) of_assertion a.form))

out_local : out-ExprForm (Local 0) ≡ ExprForm-F.Local 0
out_local = search expr_lemmas

out_nil : out-ExprForm Nil ≡ ExprForm-F.Nil
out_nil = search expr_lemmas

out_bin : out-ExprForm (Bin 16 x nothing) ≡ ExprForm-F.Bin 16 x nothing
out_bin = search expr_lemmas

out_get : out-ExprForm (Get x 3) ≡ ExprForm-F.Get x 3
out_get = search expr_lemmas

out_holds : out-AtomForm (Holds rest) ≡ AtomForm-F.Holds rest
out_holds = search atom_lemmas

out_when : out-AtomForm (When is_node goes_on) ≡ AtomForm-F.When is_node goes_on
out_when = search atom_lemmas

abbrev with_x : Value → Scene
with_x v = within nodes (v ∷ [])

x_is : (v : Value) → meaning whole x (with_x v) ≡ Got (Some v)
x_is v = read_out x (with_x v) ∙ ap (λ form. layer_read whole form x.place (with_x v)) out_local

nothing_is : (v : Value) → meaning whole nothing (with_x v) ≡ Got (Some value.Nil)
nothing_is v = read_out nothing (with_x v) ∙ ap (λ form. layer_read whole form nothing.place (with_x v)) out_nil

is_node_is : (v : Value) → meaning whole is_node (with_x v) ≡ given whole is_node.place (binary 16 v value.Nil)
is_node_is v =
    read_out is_node (with_x v)
    ∙ ap (λ form. layer_read whole form is_node.place (with_x v)) out_bin
    ∙ ap (λ r. with_value r (λ a. with_value (meaning whole nothing (with_x v)) (λ b. given whole is_node.place (binary 16 a b)))) (x_is v)
    ∙ ap (λ r. with_value r (λ b. given whole is_node.place (binary 16 v b))) (nothing_is v)

next_is : (r : ℕ) → meaning whole next (with_x (value.Ref r)) ≡ Got (nodes.now r 3)
next_is r =
    read_out next (with_x (value.Ref r))
    ∙ ap (λ form. layer_read whole form next.place (with_x (value.Ref r))) out_get
    ∙ ap (λ v. with_value v (λ a. of_reference a (λ o. Got (nodes.now o 3)))) (x_is (value.Ref r))

-- the values of the arguments of `chain(x.next)`, of which there is one
abbrev one_value : Option Value → Res (Option (List Value))
one_value None = Got None
one_value (Some w) = Got (Some (w ∷ []))

args_by : (v : Value) (o : Option Value) → meaning whole next (with_x v) ≡ Got o → values_of whole (with_x v) (next ∷ []) ≡ one_value o
args_by v None is = ap (λ (z : Reading). then_do z (λ u. elim u as (λ _. Res (Option (List Value))) [ None ↦ Got None | Some w ↦ Got (Some (w ∷ [])) ])) is
args_by v (Some w) is = ap (λ (z : Reading). then_do z (λ u. elim u as (λ _. Res (Option (List Value))) [ None ↦ Got None | Some w ↦ Got (Some (w ∷ [])) ])) is

args_are : (r : ℕ) → values_of whole (with_x (value.Ref r)) (next ∷ []) ≡ one_value (nodes.now r 3)
args_are r = args_by (value.Ref r) (nodes.now r 3) (next_is r)

abbrev judged : Opens → Judge
judged opens = record { opens = opens; holds_duty = λ v. true }

-- what `chain(x)` is at a depth, by its next node
abbrev through : Res Bool → Res Bool
through r = then_do (then_do r (verdict_if goes_on.place)) (λ miss. Got (is_none miss))

abbrev rest_layer : Instance-F ExprForm Expr Instance
rest_layer = record { place = at 9 35; pred = 0; args = next ∷ [] }

rest_is : out-Instance rest ≡ rest_layer
rest_is = out-roll-Instance rest_layer

goes_on_is : (opens : Opens) (r : ℕ) (w : Value) → nodes.now r 3 ≡ Some w → judgement whole goes_on (judged opens) (with_x (value.Ref r)) ≡ then_do (opens 0 (w ∷ [])) (verdict_if goes_on.place)
goes_on_is opens r w is =
    judged_out goes_on (judged opens) (with_x (value.Ref r))
    ∙ ap (λ form. layer_judged whole form goes_on.place (judged opens) (with_x (value.Ref r))) out_holds
    ∙ ap (λ (i : Instance-F ExprForm Expr Instance). then_do (values_of whole (with_x (value.Ref r)) i.args) (opened_at (judged opens) goes_on.place i.pred)) rest_is
    ∙ ap (λ q. then_do q (opened_at (judged opens) goes_on.place 0)) (args_are r ∙ ap one_value is)

body_is : (opens : Opens) (v : Value) → judgement whole body (judged opens) (with_x v) ≡ then_do (given whole is_node.place (binary 16 v value.Nil)) (λ c. if is_true c then judgement whole goes_on (judged opens) (with_x v) else holds)
body_is opens v =
    judged_out body (judged opens) (with_x v)
    ∙ ap (λ form. layer_judged whole form body.place (judged opens) (with_x v)) out_when
    ∙ ap (λ q. then_do q (λ c. if is_true c then judgement whole goes_on (judged opens) (with_x v) else holds)) (is_node_is v)

-- the chain goes on behind a node, and ends at None
behind_node : (k r : ℕ) (w : Value) → nodes.now r 3 ≡ Some w → holds_at whole chained nodes (suc k) 0 (value.Ref r ∷ []) ≡ through (holds_at whole chained nodes k 0 (w ∷ []))
behind_node k r w is = ap (λ (q : Verdict). then_do q (λ miss. Got (is_none miss))) (body_is (holds_at whole chained nodes k) (value.Ref r) ∙ goes_on_is (holds_at whole chained nodes k) r w is)

at_none : (k : ℕ) → holds_at whole chained nodes (suc k) 0 (value.Nil ∷ []) ≡ Got true
at_none k = ap (λ (q : Verdict). then_do q (λ miss. Got (is_none miss))) (body_is (holds_at whole chained nodes k) value.Nil)

as_next : (k r : ℕ) (w : Value) (b : Bool) → nodes.now r 3 ≡ Some w → holds_at whole chained nodes k 0 (w ∷ []) ≡ Got b → holds_at whole chained nodes (suc k) 0 (value.Ref r ∷ []) ≡ Got b
as_next k r w b is h = behind_node k r w is ∙ ap through h ∙ of_answer b
  where
    of_answer : (b : Bool) → through (Got b) ≡ Got b
    of_answer true = refl
    of_answer false = refl

pub three_deep : holds_at whole chained nodes 3 0 (value.Ref 0 ∷ []) ≡ Got true
three_deep = as_next 2 0 (value.Ref 1) true refl (as_next 1 1 value.Nil true refl (at_none 0))

pub not_two_deep : holds_at whole chained nodes 2 0 (value.Ref 0 ∷ []) ≡ Got false
not_two_deep = as_next 1 0 (value.Ref 1) false refl (as_next 0 1 value.Nil false refl refl)

pub never : (k : ℕ) → holds_at whole chained nodes k 0 (value.Ref 2 ∷ []) ≡ Got false
never zero = refl
never (suc k) = as_next k 2 (value.Ref 2) false refl (never k)

-- and so the reading says no
pub read_never : opens_within whole chained nodes (room chained 3) [] 0 (value.Ref 2 ∷ []) ≡ Got false
read_never = elim (opens_answered chained nodes (room chained 3) [] 0 (value.Ref 2 ∷ [])) as (λ _. opens_within whole chained nodes (room chained 3) [] 0 (value.Ref 2 ∷ []) ≡ Got false) [
  | inl yes_read ↦ impossible (opens_holds whole chained nodes (room chained 3) [] 0 (value.Ref 2 ∷ []) yes_read) (never (room chained 3))
  | inr no_read ↦ no_read
]
  where
    impossible : {r q : Res Bool} → r ≡ Got true → r ≡ Got false → q ≡ Got false
    impossible h k = cc

-- the nodes are among three objects
pub nodes_over : IsOver 3 nodes
nodes_over = record { now = λ r f. next_below r; before = λ r f. next_below r; locked = λ r. tt }
  where
    next_below : (r : ℕ) → IsBelowIfAny 3 (nodes.now r 3)
    next_below zero = omega arith
    next_below (suc zero) = tt
    next_below (suc (suc zero)) = omega arith
    next_below (suc (suc (suc r))) = tt

-- the body of `chain` names one instance
abbrev named_in : AtomForm → List Instance
named_in form = atom_instances (map-AtomForm AtomForm Assertion (List Instance) (List Instance) (fold-AtomForm (List Instance) (List Instance) atom_instances (λ a. a.form)) instances_of (out-AtomForm form))

names_out : (a : Assertion) → instances_of a ≡ named_in a.form
names_out a = fold_out-Assertion (List Instance) (List Instance) atom_instances (λ a. a.form) a ∙ fold_out-AtomForm (List Instance) (List Instance) atom_instances (λ a. a.form) a.form

abbrev layer_names : AtomForm-F AtomForm Assertion → List Instance
layer_names layer = atom_instances (map-AtomForm AtomForm Assertion (List Instance) (List Instance) (fold-AtomForm (List Instance) (List Instance) atom_instances (λ a. a.form)) instances_of layer)

body_names : instances_of body ≡ rest ∷ []
body_names = names_out body ∙ ap layer_names out_when ∙ names_out goes_on ∙ ap layer_names out_holds

next_nil : meaning whole next (with_x value.Nil) ≡ Got None
next_nil =
    read_out next (with_x value.Nil)
    ∙ ap (λ form. layer_read whole form next.place (with_x value.Nil)) out_get
    ∙ ap (λ v. with_value v (λ a. of_reference a (λ o. Got (nodes.now o 3)))) (x_is value.Nil)

no_values : (ws : List Value) (q : Res (Option (List Value))) → q ≡ Got None → q ≡ Got (Some ws) → All IsReference ws
no_values ws q h k = cc

one_reference : (w : Value) (ws : List Value) (q : Res (Option (List Value))) → IsReference w → q ≡ Got (Some (w ∷ [])) → q ≡ Got (Some ws) → All IsReference ws
one_reference w ws q h is k = let same : w ∷ [] ≡ ws = cc in subst (All IsReference) same (All-cons IsReference w [] h (All-nil IsReference))

references : (v : Value) (ws : List Value) → IsObject 3 v → values_of whole (with_x v) (next ∷ []) ≡ Got (Some ws) → All IsReference ws
references value.Nil ws h is = no_values ws (values_of whole (with_x value.Nil) (next ∷ [])) (args_by value.Nil None next_nil) is
references (value.Ref zero) ws h is = one_reference (value.Ref 1) ws (values_of whole (with_x (value.Ref 0)) (next ∷ [])) tt (args_are 0) is
references (value.Ref (suc zero)) ws h is = one_reference value.Nil ws (values_of whole (with_x (value.Ref 1)) (next ∷ [])) tt (args_are 1) is
references (value.Ref (suc (suc zero))) ws h is = one_reference (value.Ref 2) ws (values_of whole (with_x (value.Ref 2)) (next ∷ [])) tt (args_are 2) is
references (value.Ref (suc (suc (suc r)))) ws h is = absurd (omega arith)
references (value.Num z) ws h is = absurd h
references (value.Truth b) ws h is = absurd h

rest_names : (vs : List Value) → length vs ≡ 1 → All (IsObject 3) vs → NamesReferences whole chained (within nodes vs) rest
rest_names [] len h = absurd (omega arith)
rest_names (v ∷ w ∷ vs) len h = absurd (omega arith)
rest_names (v ∷ []) len h = record {
  count = λ pred is.
      let pred_is : slice_get chained.predicates 0 ≡ Some pred = subst (λ (i : Instance-F ExprForm Expr Instance). slice_get chained.predicates i.pred ≡ Some pred) rest_is is in
      let same : chain ≡ pred = cc in
      ap (λ (i : Instance-F ExprForm Expr Instance). length i.args) rest_is ∙ ap (λ (p : Pred). length p.params) same;
  are_references = λ ws is. references v ws (All-head (IsObject 3) v [] h) (subst (λ (i : Instance-F ExprForm Expr Instance). values_of whole (with_x v) i.args ≡ Got (Some ws)) rest_is is);
}

pub bodies_name : BodiesNameReferences whole chained nodes 3
bodies_name zero pred vs found takes =
    let same : chain ≡ pred = cc in
    subst (λ (p : Pred). All (NamesReferences whole chained (within nodes vs)) (instances_of p.body)) same
    (subst (All (NamesReferences whole chained (within nodes vs))) (sym body_names)
    (All-cons (NamesReferences whole chained (within nodes vs)) rest [] (rest_names vs (takes.count chain refl) takes.are_objects) (All-nil (NamesReferences whole chained (within nodes vs)))))
bodies_name (suc q) pred vs found takes = cc

-- so the reading says that the chain of node 0 holds
pub read_chain : opens_within whole chained nodes (room chained 3) [] 0 (value.Ref 0 ∷ []) ≡ Got true
read_chain = holds_in_room whole chained nodes 3 0 (value.Ref 0 ∷ []) (stays_among whole chained nodes 3 nodes_over bodies_name)
    (record {
      count = λ pred is. let same : chain ≡ pred = cc in ap (λ (p : Pred). length p.params) same;
      are_objects = All-cons (IsObject 3) (value.Ref 0) [] (omega arith) (All-nil (IsObject 3));
    })
    (3, three_deep)
