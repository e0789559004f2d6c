-- What the width has to do with the reading of contracts: each reading computes numbers in turn.
use Rattle.std.specs.Prelude.{◌≡◌, ℕ, zero, suc, Bool, true, false, List, [], ◌∷◌, map, length, Option, Some, None, slice_get}
use Rattle.std.specs.Option.{option_map}
use Rattle.std.proofs.Common.{sym, ap, subst}
use Rattle.py_base.specs.declared.Place.{Place}
use Rattle.py_base.specs.declared.Kind.{Kind}
use Rattle.py_base.specs.declared.Kind.TheVariants as kind
use Rattle.py_syntax.specs.declared.Value.{Value}
use Rattle.py_syntax.specs.declared.Value.TheVariants.{Num, Truth, Nil, Ref}
use Rattle.py_syntax.specs.declared.Expr.{Expr, Expr-F, roll-Expr, map-Expr, fold-roll-Expr, ind-Expr}
use Rattle.py_syntax.specs.declared.ExprForm.{ExprForm, ExprForm-F, roll-ExprForm, map-ExprForm, fold-ExprForm, fold-roll-ExprForm}
use Rattle.py_syntax.specs.declared.Instance.{Instance, Instance-F, out-Instance, fold-Instance}
use Rattle.py_syntax.specs.declared.Assertion.{Assertion, Assertion-F, roll-Assertion, map-Assertion, fold-roll-Assertion, ind-Assertion}
use Rattle.py_syntax.specs.declared.AtomForm.{AtomForm, AtomForm-F, roll-AtomForm, map-AtomForm, fold-AtomForm, fold-roll-AtomForm}
use Rattle.py_syntax.specs.declared.Pred.{Pred}
use Rattle.py_syntax.specs.declared.Module.{Module}
use Rattle.machine_model.specs.declared.state.Object.{Object}
use Rattle.machine_model.specs.Results.{Res, Got, Width}
use Rattle.machine_model.specs.Operators.{binary, unary}
use Rattle.machine_model.specs.Evaluation.{Scene, Reading, defined, undefined, and_with, with_value, of_reference, of_truth, given, not_nil, Meaning, chain_from, form_meaning, meaning}
use Rattle.machine_model.specs.Reading.{Miss, Untrue, Unheld, Verdict, holds, fails_at, and_then, Judge, Judgement, is_true, has_field, values_of, verdict_if, all_hold, opened_at, atom_judgement, judgement, Opened, is_open, within, opens_within, room, read_assertions}
use Rattle.machine_model.specs.Moments.{Placing, scene_of, settled, owns_value, atoms_hold, lock_invariant_holds}
use Rattle.machine_laws.specs.Computes.{IsNotWide, if_is_not, test_is_not, Computes, same, then_computes, computes_as, sized_computes, if_computes, option_computes}

-- parts of readings
and_computes : (f : Width → Value → Reading) → ((v : Value) → Computes (λ fits. f fits v)) → (v : Option Value) → Computes (λ fits. and_with v (f fits))
and_computes f k None = same undefined tt
and_computes f k (Some v) = k v

with_computes : (r : Width → Reading) (f : Width → Value → Reading) → Computes r → ((v : Value) → Computes (λ fits. f fits v)) → Computes (λ fits. with_value (r fits) (f fits))
with_computes r f h k = then_computes r (λ fits v. and_with v (f fits)) h (and_computes f k)

truth_computes : (f : Width → Bool → Reading) → ((b : Bool) → Computes (λ fits. f fits b)) → (v : Value) → Computes (λ fits. of_truth v (f fits))
truth_computes f k (Truth b) = k b
truth_computes f k (Num z) = same undefined tt
truth_computes f k Nil = same undefined tt
truth_computes f k (Ref r) = same undefined tt

reference_is_not : (f : ℕ → Reading) → ((r : ℕ) → IsNotWide (f r)) → (v : Value) → IsNotWide (of_reference v f)
reference_is_not f n (Ref r) = n r
reference_is_not f n (Num z) = tt
reference_is_not f n (Truth b) = tt
reference_is_not f n Nil = tt

not_nil_is_not : (v : Value) → IsNotWide (not_nil v)
not_nil_is_not (Num z) = tt
not_nil_is_not (Truth b) = tt
not_nil_is_not Nil = tt
not_nil_is_not (Ref r) = tt

given_computes : (p : Place) (v : Option Value) → Computes (λ fits. given fits p v)
given_computes p None = same undefined tt
given_computes p (Some v) = then_computes _ _ (sized_computes p v) (λ w. same (defined w) tt)

-- the reading of expressions
abbrev pub of_expr : Expr-F (Place → Meaning) Meaning (Unit {0}) → Meaning
of_expr e = e.form e.place

abbrev pub of_instance : Instance-F (Place → Meaning) Meaning (Unit {0}) → Unit {0}
of_instance i = tt

abbrev pub form_read : Width → ExprForm → Place → Meaning
form_read fits = fold-ExprForm (Place → Meaning) Meaning (Unit {0}) (form_meaning fits) of_expr of_instance

abbrev pub instance_read : Width → Instance → Unit {0}
instance_read fits = fold-Instance (Place → Meaning) Meaning (Unit {0}) (form_meaning fits) of_expr of_instance

abbrev FormReads : ExprForm → Type 0
FormReads form = (p : Place) (s : Scene) → Computes (λ fits. form_read fits form p s)

abbrev ExprReads : Expr → Type 0
ExprReads e = (s : Scene) → Computes (λ fits. meaning fits e s)

abbrev InstanceReads : Instance → Type 0
InstanceReads i = Unit {0}

abbrev Forms : Type 0
Forms = (form : ExprForm) × FormReads form

abbrev Exprs : Type 0
Exprs = (e : Expr) × ExprReads e

abbrev Instances : Type 0
Instances = (i : Instance) × InstanceReads i

abbrev plain_form : ExprForm-F Forms Exprs Instances → ExprForm-F ExprForm Expr Instance
plain_form y = map-ExprForm Forms Exprs Instances ExprForm Expr Instance (λ e. e.0) (λ e. e.0) (λ e. e.0) y

abbrev plain_expr : Expr-F Forms Exprs Instances → Expr-F ExprForm Expr Instance
plain_expr y = map-Expr Forms Exprs Instances ExprForm Expr Instance (λ e. e.0) (λ e. e.0) (λ e. e.0) y

abbrev pub layer_read : Width → ExprForm-F ExprForm Expr Instance → Place → Meaning
layer_read fits x = form_meaning fits (map-ExprForm ExprForm Expr Instance (Place → Meaning) Meaning (Unit {0}) (form_read fits) (meaning fits) (instance_read fits) x)

abbrev meanings : Width → List Exprs → List Meaning
meanings fits es = map (meaning fits) (map (λ (e : Exprs). e.0) es)

chain_computes : (es : List Exprs) (v : Value) (keys : List ℕ) (s : Scene) → Computes (λ fits. chain_from v (meanings fits es) keys s)
chain_computes [] v keys s = same (defined (Truth true)) tt
chain_computes (e ∷ es) v [] s = same (defined (Truth true)) tt
chain_computes (e ∷ es) v (key ∷ keys) s =
    with_computes _ _ (e.1 s) (λ w. and_computes _ (truth_computes _ (λ b. if_computes b _ _ (chain_computes es w keys s) (same (defined (Truth false)) tt))) (binary key v w))

form_computes : (y : ExprForm-F Forms Exprs Instances) (p : Place) (s : Scene) → Computes (λ fits. layer_read fits (plain_form y) p s)
form_computes (ExprForm-F.Num n) p s = same _ tt
form_computes (ExprForm-F.Truth b) p s = same _ tt
form_computes ExprForm-F.Nil p s = same _ tt
form_computes (ExprForm-F.Local i) p s = same _ tt
form_computes (ExprForm-F.Get e f) p s = with_computes _ _ (e.1 s) (λ v. same _ (reference_is_not (λ r. Got (s.now r f)) (λ r. tt) v))
form_computes (ExprForm-F.Un key a) p s = with_computes _ _ (a.1 s) (λ v. given_computes p (unary key v))
form_computes (ExprForm-F.Bin key a b) p s = with_computes _ _ (a.1 s) (λ v. with_computes _ _ (b.1 s) (λ w. given_computes p (binary key v w)))
form_computes (ExprForm-F.Chain [] keys) p s = same _ tt
form_computes (ExprForm-F.Chain (e ∷ es) keys) p s = with_computes _ _ (e.1 s) (λ v. chain_computes es v keys s)
form_computes (ExprForm-F.And a b) p s = with_computes _ _ (a.1 s) (truth_computes _ (λ x. if_computes x _ _ (b.1 s) (same _ tt)))
form_computes (ExprForm-F.Or a b) p s = with_computes _ _ (a.1 s) (truth_computes _ (λ x. if_computes x _ _ (same _ tt) (b.1 s)))
form_computes (ExprForm-F.Call f all) p s = same _ tt
form_computes (ExprForm-F.Send e n all) p s = same _ tt
form_computes (ExprForm-F.New c all) p s = same _ tt
form_computes (ExprForm-F.NewLock c a b) p s = same _ tt
form_computes (ExprForm-F.NewThread f all e) p s = same _ tt
form_computes (ExprForm-F.Locked e) p s = with_computes _ _ (e.1 s) (λ v. same _ (reference_is_not (λ r. Got (s.locked r)) (λ r. tt) v))
form_computes (ExprForm-F.NotNil e) p s = with_computes _ _ (e.1 s) (λ v. same _ (not_nil_is_not v))
form_computes (ExprForm-F.Old e) p s = e.1 (record s { now = s.before })
form_computes ExprForm-F.Answer p s = same _ tt
form_computes (ExprForm-F.LevelOf e) p s = with_computes _ _ (e.1 s) (λ v. same _ (reference_is_not (λ r. Got (option_map (λ z. Num z) (s.level r))) (λ r. tt) v))
form_computes (ExprForm-F.Opened i e) p s = e.1 s
form_computes (ExprForm-F.Gives a b) p s = with_computes _ _ (a.1 s) (truth_computes _ (λ x. if_computes x _ _ (b.1 s) (same _ tt)))

form_reads : (x : ExprForm-F ExprForm Expr Instance) (y : ExprForm-F Forms Exprs Instances) → plain_form y ≡ x → FormReads (roll-ExprForm x)
form_reads x y is = subst (λ z. FormReads (roll-ExprForm z)) is (λ p s.
    computes_as (λ fits. layer_read fits (plain_form y) p s) (λ fits. form_read fits (roll-ExprForm (plain_form y)) p s)
    (λ fits. sym (ap (λ k. k p s) (fold-roll-ExprForm (Place → Meaning) Meaning (Unit {0}) (form_meaning fits) of_expr of_instance (plain_form y))))
    (form_computes y p s))

expr_reads : (x : Expr-F ExprForm Expr Instance) (y : Expr-F Forms Exprs Instances) → plain_expr y ≡ x → ExprReads (roll-Expr x)
expr_reads x y is = subst (λ z. ExprReads (roll-Expr z)) is (λ s.
    computes_as (λ fits. form_read fits (y.form).0 y.place s) (λ fits. meaning fits (roll-Expr (plain_expr y)) s)
    (λ fits. sym (ap (λ k. k s) (fold-roll-Expr (Place → Meaning) Meaning (Unit {0}) (form_meaning fits) of_expr of_instance (plain_expr y))))
    ((y.form).1 y.place s))

pub meaning_computes : (e : Expr) (s : Scene) → Computes (λ fits. meaning fits e s)
meaning_computes = ind-Expr FormReads ExprReads InstanceReads form_reads expr_reads (λ x y is. tt)

-- the reading of assertions
values_computes : (s : Scene) (es : List Expr) → Computes (λ fits. values_of fits s es)
values_computes s [] = same _ tt
values_computes s (e ∷ es) = then_computes _ _ (meaning_computes e s) (option_computes _ _ (same _ tt) (λ w. then_computes _ _ (values_computes s es) (λ ws. same _ tt)))

abbrev Opens : Type 0
Opens = Width → ℕ → List Value → Res Bool

abbrev AreComputed : Opens → Type 0
AreComputed opens = (q : ℕ) (vs : List Value) → Computes (λ fits. opens fits q vs)

abbrev judged_by : Opens → (Option Value → Bool) → Width → Judge
judged_by opens held fits = record { opens = opens fits; holds_duty = held }

miss_computes : (r : Width → Verdict) → Computes r → (miss : Option Miss) → Computes (λ fits. and_then miss (r fits))
miss_computes r h None = h
miss_computes r h (Some miss) = same _ tt

verdict_is_not : (p : Place) (b : Bool) → IsNotWide (verdict_if p b)
verdict_is_not p b = if_is_not b holds (fails_at p) tt tt

opened_computes : (opens : Opens) (held : Option Value → Bool) → AreComputed opens → (p : Place) (q : ℕ) (vs : Option (List Value)) → Computes (λ fits. opened_at (judged_by opens held fits) p q vs)
opened_computes opens held h p q None = same _ tt
opened_computes opens held h p q (Some vs) = then_computes _ _ (h q vs) (λ b. same _ (verdict_is_not p b))

abbrev pub of_assertion : Assertion-F (Place → Judgement) Judgement → Judgement
of_assertion a = a.form a.place

abbrev pub atom_read : Width → AtomForm → Place → Judgement
atom_read fits = fold-AtomForm (Place → Judgement) Judgement (atom_judgement fits) of_assertion

abbrev AtomReads : AtomForm → Type 0
AtomReads form = (opens : Opens) → AreComputed opens → (held : Option Value → Bool) (p : Place) (s : Scene) → Computes (λ fits. atom_read fits form p (judged_by opens held fits) s)

abbrev AssertionReads : Assertion → Type 0
AssertionReads a = (opens : Opens) → AreComputed opens → (held : Option Value → Bool) (s : Scene) → Computes (λ fits. judgement fits a (judged_by opens held fits) s)

abbrev Atoms : Type 0
Atoms = (form : AtomForm) × AtomReads form

abbrev Assertions : Type 0
Assertions = (a : Assertion) × AssertionReads a

abbrev plain_atom : AtomForm-F Atoms Assertions → AtomForm-F AtomForm Assertion
plain_atom y = map-AtomForm Atoms Assertions AtomForm Assertion (λ e. e.0) (λ e. e.0) y

abbrev plain_assertion : Assertion-F Atoms Assertions → Assertion-F AtomForm Assertion
plain_assertion y = map-Assertion Atoms Assertions AtomForm Assertion (λ e. e.0) (λ e. e.0) y

abbrev pub layer_judged : Width → AtomForm-F AtomForm Assertion → Place → Judgement
layer_judged fits x = atom_judgement fits (map-AtomForm AtomForm Assertion (Place → Judgement) Judgement (atom_read fits) (judgement fits) x)

all_computes : (opens : Opens) → AreComputed opens → (held : Option Value → Bool) (all : List Assertions) (s : Scene) → Computes (λ fits. all_hold (map (judgement fits) (map (λ (a : Assertions). a.0) all)) (judged_by opens held fits) s)
all_computes opens h held [] s = same _ tt
all_computes opens h held (a ∷ more) s = then_computes _ _ (a.1 opens h held s) (miss_computes _ (all_computes opens h held more s))

atom_computes : (y : AtomForm-F Atoms Assertions) (opens : Opens) → AreComputed opens → (held : Option Value → Bool) (p : Place) (s : Scene) → Computes (λ fits. layer_judged fits (plain_atom y) p (judged_by opens held fits) s)
atom_computes (AtomForm-F.Both all) opens h held p s = all_computes opens h held all s
atom_computes (AtomForm-F.When e a) opens h held p s = then_computes _ _ (meaning_computes e s) (λ v. if_computes (is_true v) _ _ (a.1 opens h held s) (same _ tt))
atom_computes (AtomForm-F.AccOf e f units) opens h held p s = then_computes _ _ (meaning_computes e s) (λ v. same _ (verdict_is_not p (has_field s f v)))
atom_computes (AtomForm-F.Holds i) opens h held p s = then_computes _ _ (values_computes s (out-Instance i).args) (opened_computes opens held h p (out-Instance i).pred)
atom_computes (AtomForm-F.Terminates e) opens h held p s = same _ tt
atom_computes (AtomForm-F.Releases e level) opens h held p s = then_computes _ _ (meaning_computes e s) (λ v. same _ (if_is_not (held v) holds (Got (Some (Unheld p))) tt tt))
atom_computes (AtomForm-F.Joins e f all) opens h held p s = same _ tt
atom_computes (AtomForm-F.WaitBelow e) opens h held p s = same _ tt
atom_computes (AtomForm-F.True e) opens h held p s = then_computes _ _ (meaning_computes e s) (λ v. same _ (verdict_is_not p (is_true v)))

atom_reads : (x : AtomForm-F AtomForm Assertion) (y : AtomForm-F Atoms Assertions) → plain_atom y ≡ x → AtomReads (roll-AtomForm x)
atom_reads x y is = subst (λ z. AtomReads (roll-AtomForm z)) is (λ opens h held p s.
    computes_as (λ fits. layer_judged fits (plain_atom y) p (judged_by opens held fits) s) (λ fits. atom_read fits (roll-AtomForm (plain_atom y)) p (judged_by opens held fits) s)
    (λ fits. sym (ap (λ k. k p (judged_by opens held fits) s) (fold-roll-AtomForm (Place → Judgement) Judgement (atom_judgement fits) of_assertion (plain_atom y))))
    (atom_computes y opens h held p s))

assertion_reads : (x : Assertion-F AtomForm Assertion) (y : Assertion-F Atoms Assertions) → plain_assertion y ≡ x → AssertionReads (roll-Assertion x)
assertion_reads x y is = subst (λ z. AssertionReads (roll-Assertion z)) is (λ opens h held s.
    computes_as (λ fits. atom_read fits (y.form).0 y.place (judged_by opens held fits) s) (λ fits. judgement fits (roll-Assertion (plain_assertion y)) (judged_by opens held fits) s)
    (λ fits. sym (ap (λ k. k (judged_by opens held fits) s) (fold-roll-Assertion (Place → Judgement) Judgement (atom_judgement fits) of_assertion (plain_assertion y))))
    ((y.form).1 opens h held y.place s))

judgement_computes : (a : Assertion) → AssertionReads a
judgement_computes = ind-Assertion AtomReads AssertionReads atom_reads assertion_reads

opens_computes : (m : Module) (s : Scene) (n : ℕ) (path : List Opened) → AreComputed (λ fits. opens_within fits m s n path)
opens_computes m s zero path q vs = same _ tt
opens_computes m s (suc n) path q vs = if_computes (is_open path q vs) _ _ (same _ tt) (option_computes _ _ (same _ tt) (λ (pred : Pred).
    then_computes _ _ (judgement_computes pred.body (λ fits. opens_within fits m s n ((q, vs) ∷ path)) (opens_computes m s n ((q, vs) ∷ path)) (λ v. true) (within s vs)) (λ miss. same _ tt)) (slice_get m.predicates q))

read_computes : (m : Module) (objects : ℕ) (held : Option Value → Bool) (s : Scene) (all : List Assertion) → Computes (λ fits. read_assertions fits m objects held s all)
read_computes m objects held s [] = same _ tt
read_computes m objects held s (a ∷ more) = then_computes _ _
    (judgement_computes a (λ fits. opens_within fits m s (room m objects) []) (opens_computes m s (room m objects) []) held s)
    (miss_computes _ (read_computes m objects held s more))

settled_is_not : (kind_of : Kind) (at : Placing) (miss : Option Miss) → IsNotWide (settled kind_of at miss)
settled_is_not kind_of at None = tt
settled_is_not kind_of at (Some (Untrue p)) = tt
settled_is_not kind_of at (Some (Unheld p)) = tt

pub atoms_compute : (m : Module) (t : ℕ) (heap : List Object) (s : Scene) (kind_of : Kind) (at : Placing) (all : List Assertion) → Computes (λ fits. atoms_hold fits m t heap s kind_of at all)
atoms_compute m t heap s kind_of at all = then_computes _ _ (read_computes m (length heap) (owns_value heap t) s all) (λ miss. same _ (settled_is_not kind_of at miss))

pub invariant_computes : (m : Module) (heap : List Object) (pred lock : ℕ) (p : Place) → Computes (λ fits. lock_invariant_holds fits m heap pred lock p)
invariant_computes m heap pred lock p = then_computes _ _ (opens_computes m (scene_of m heap heap [] None) (room m (length heap)) [] pred (Ref lock ∷ [])) (λ b. same _ (test_is_not kind.LockInvariant p b))
