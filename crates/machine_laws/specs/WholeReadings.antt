-- Over whole numbers each reading of a contract has an answer.
use Rattle.std.specs.Prelude.{◌≡◌, ◌⊎◌, ℕ, zero, suc, Bool, true, false, List, [], ◌∷◌, map, Option, Some, None, slice_get, refl, if◌then◌else◌}
use Rattle.std.specs.Option.{option_map}
use Rattle.std.proofs.Common.{sym, ap, subst, inl, inr}
use Rattle.py_base.specs.declared.Place.{Place}
use Rattle.py_syntax.specs.declared.Value.{Value}
use Rattle.py_syntax.specs.declared.Value.TheVariants.{Num, Truth, Nil, Ref}
use Rattle.py_syntax.specs.declared.Expr.{Expr, Expr-F, roll-Expr, map-Expr, fold-roll-Expr, ind-Expr}
use Rattle.py_syntax.specs.declared.ExprForm.{ExprForm, ExprForm-F, roll-ExprForm, map-ExprForm, fold-roll-ExprForm}
use Rattle.py_syntax.specs.declared.Instance.{Instance, out-Instance}
use Rattle.py_syntax.specs.declared.Assertion.{Assertion, Assertion-F, roll-Assertion, map-Assertion, fold-roll-Assertion, ind-Assertion}
use Rattle.py_syntax.specs.declared.AtomForm.{AtomForm, AtomForm-F, roll-AtomForm, map-AtomForm, fold-roll-AtomForm}
use Rattle.py_syntax.specs.declared.Pred.{Pred}
use Rattle.py_syntax.specs.declared.Module.{Module}
use Rattle.machine_model.specs.Results.{Res, Got, Stops, then_do}
use Rattle.machine_model.specs.Operators.{binary, unary}
use Rattle.machine_model.specs.Evaluation.{Scene, Reading, defined, and_with, with_value, of_reference, of_truth, given, not_nil, Meaning, chain_from, form_meaning, meaning}
use Rattle.machine_model.specs.Reading.{Miss, Unheld, Verdict, holds, fails_at, and_then, Judge, Judgement, is_true, has_field, values_of, verdict_if, all_hold, opened_at, atom_judgement, judgement, Opened, is_open, within, is_none, opens_within, room, read_assertions}
use Rattle.machine_model.specs.Steps.{whole}
use Rattle.machine_laws.specs.ReadingWidths.{of_expr, of_instance, form_read, layer_read, of_assertion, atom_read, layer_judged}
use Rattle.machine_laws.specs.Depths.{Opens}

abbrev pub IsGot : {A : Type 0} → Res A → Type 0
IsGot (Got a) = Unit {0}
IsGot (Stops h) = ⊥

then_got : {A B : Type 0} (r : Res A) (f : A → Res B) → IsGot r → ((a : A) → IsGot (f a)) → IsGot (then_do r f)
then_got (Got a) f h k = k a
then_got (Stops x) f h k = absurd h

if_got : {A : Type 0} (b : Bool) (r q : Res A) → IsGot r → IsGot q → IsGot (if b then r else q)
if_got true r q h k = h
if_got false r q h k = k

-- parts of readings
and_got : (f : Value → Reading) → ((v : Value) → IsGot (f v)) → (v : Option Value) → IsGot (and_with v f)
and_got f k None = tt
and_got f k (Some v) = k v

with_got : (r : Reading) (f : Value → Reading) → IsGot r → ((v : Value) → IsGot (f v)) → IsGot (with_value r f)
with_got r f h k = then_got r (λ v. and_with v f) h (and_got f k)

reference_got : (f : ℕ → Reading) → ((r : ℕ) → IsGot (f r)) → (v : Value) → IsGot (of_reference v f)
reference_got f k (Ref r) = k r
reference_got f k (Num z) = tt
reference_got f k (Truth b) = tt
reference_got f k Nil = tt

truth_got : (f : Bool → Reading) → ((b : Bool) → IsGot (f b)) → (v : Value) → IsGot (of_truth v f)
truth_got f k (Truth b) = k b
truth_got f k (Num z) = tt
truth_got f k Nil = tt
truth_got f k (Ref r) = tt

given_got : (p : Place) (v : Option Value) → IsGot (given whole p v)
given_got p None = tt
given_got p (Some (Num z)) = tt
given_got p (Some (Truth b)) = tt
given_got p (Some Nil) = tt
given_got p (Some (Ref r)) = tt

not_nil_got : (v : Value) → IsGot (not_nil v)
not_nil_got Nil = tt
not_nil_got (Num z) = tt
not_nil_got (Truth b) = tt
not_nil_got (Ref r) = tt

-- expressions
abbrev FormIsGot : ExprForm → Type 0
FormIsGot form = (p : Place) (s : Scene) → IsGot (form_read whole form p s)

abbrev ExprIsGot : Expr → Type 0
ExprIsGot e = (s : Scene) → IsGot (meaning whole e s)

abbrev InstanceIsGot : Instance → Type 0
InstanceIsGot i = Unit {0}

abbrev Forms : Type 0
Forms = (form : ExprForm) × FormIsGot form

abbrev Exprs : Type 0
Exprs = (e : Expr) × ExprIsGot e

abbrev Instances : Type 0
Instances = (i : Instance) × InstanceIsGot i

abbrev plain_form : ExprForm-F Forms Exprs Instances → ExprForm-F ExprForm Expr Instance
plain_form y = map-ExprForm Forms Exprs Instances ExprForm Expr Instance (λ e. e.0) (λ e. e.0) (λ e. e.0) y

abbrev plain_expr : Expr-F Forms Exprs Instances → Expr-F ExprForm Expr Instance
plain_expr y = map-Expr Forms Exprs Instances ExprForm Expr Instance (λ e. e.0) (λ e. e.0) (λ e. e.0) y

abbrev meanings : List Exprs → List Meaning
meanings es = map (meaning whole) (map (λ (e : Exprs). e.0) es)

chain_got : (es : List Exprs) (v : Value) (keys : List ℕ) (s : Scene) → IsGot (chain_from v (meanings es) keys s)
chain_got [] v keys s = tt
chain_got (e ∷ es) v [] s = tt
chain_got (e ∷ es) v (key ∷ keys) s =
    with_got (meaning whole e.0 s) (λ w. and_with (binary key v w) (λ c. of_truth c (λ x. if x then chain_from w (meanings es) keys s else defined (Truth false)))) (e.1 s) (λ w.
    and_got (λ c. of_truth c (λ x. if x then chain_from w (meanings es) keys s else defined (Truth false))) (λ c.
    truth_got (λ x. if x then chain_from w (meanings es) keys s else defined (Truth false)) (λ x.
    if_got x (chain_from w (meanings es) keys s) (defined (Truth false)) (chain_got es w keys s) tt) c) (binary key v w))

form_got : (y : ExprForm-F Forms Exprs Instances) (p : Place) (s : Scene) → IsGot (layer_read whole (plain_form y) p s)
form_got (ExprForm-F.Num n) p s = tt
form_got (ExprForm-F.Truth b) p s = tt
form_got ExprForm-F.Nil p s = tt
form_got (ExprForm-F.Local i) p s = tt
form_got (ExprForm-F.Get e f) p s = with_got (meaning whole e.0 s) (λ v. of_reference v (λ r. Got (s.now r f))) (e.1 s) (reference_got (λ r. Got (s.now r f)) (λ r. tt))
form_got (ExprForm-F.Un key a) p s = with_got (meaning whole a.0 s) (λ v. given whole p (unary key v)) (a.1 s) (λ v. given_got p (unary key v))
form_got (ExprForm-F.Bin key a b) p s =
    with_got (meaning whole a.0 s) (λ v. with_value (meaning whole b.0 s) (λ w. given whole p (binary key v w))) (a.1 s) (λ v.
    with_got (meaning whole b.0 s) (λ w. given whole p (binary key v w)) (b.1 s) (λ w. given_got p (binary key v w)))
form_got (ExprForm-F.Chain [] keys) p s = tt
form_got (ExprForm-F.Chain (e ∷ es) keys) p s = with_got (meaning whole e.0 s) (λ v. chain_from v (meanings es) keys s) (e.1 s) (λ v. chain_got es v keys s)
form_got (ExprForm-F.And a b) p s =
    with_got (meaning whole a.0 s) (λ v. of_truth v (λ x. if x then meaning whole b.0 s else defined (Truth false))) (a.1 s)
    (truth_got (λ x. if x then meaning whole b.0 s else defined (Truth false)) (λ x. if_got x (meaning whole b.0 s) (defined (Truth false)) (b.1 s) tt))
form_got (ExprForm-F.Or a b) p s =
    with_got (meaning whole a.0 s) (λ v. of_truth v (λ x. if x then defined (Truth true) else meaning whole b.0 s)) (a.1 s)
    (truth_got (λ x. if x then defined (Truth true) else meaning whole b.0 s) (λ x. if_got x (defined (Truth true)) (meaning whole b.0 s) tt (b.1 s)))
form_got (ExprForm-F.Call f all) p s = tt
form_got (ExprForm-F.Send e n all) p s = tt
form_got (ExprForm-F.New c all) p s = tt
form_got (ExprForm-F.NewLock c a b) p s = tt
form_got (ExprForm-F.NewThread f all e) p s = tt
form_got (ExprForm-F.Locked e) p s = with_got (meaning whole e.0 s) (λ v. of_reference v (λ r. Got (s.locked r))) (e.1 s) (reference_got (λ r. Got (s.locked r)) (λ r. tt))
form_got (ExprForm-F.NotNil e) p s = with_got (meaning whole e.0 s) not_nil (e.1 s) not_nil_got
form_got (ExprForm-F.Old e) p s = e.1 (record s { now = s.before })
form_got ExprForm-F.Answer p s = tt
form_got (ExprForm-F.LevelOf e) p s = with_got (meaning whole e.0 s) (λ v. of_reference v (λ r. Got (option_map (λ z. Num z) (s.level r)))) (e.1 s) (reference_got (λ r. Got (option_map (λ z. Num z) (s.level r))) (λ r. tt))
form_got (ExprForm-F.Opened i e) p s = e.1 s
form_got (ExprForm-F.Gives a b) p s =
    with_got (meaning whole a.0 s) (λ v. of_truth v (λ x. if x then meaning whole b.0 s else defined (Truth true))) (a.1 s)
    (truth_got (λ x. if x then meaning whole b.0 s else defined (Truth true)) (λ x. if_got x (meaning whole b.0 s) (defined (Truth true)) (b.1 s) tt))

forms_got : (x : ExprForm-F ExprForm Expr Instance) (y : ExprForm-F Forms Exprs Instances) → plain_form y ≡ x → FormIsGot (roll-ExprForm x)
forms_got x y is = subst (λ z. FormIsGot (roll-ExprForm z)) is (λ p s.
    subst (λ (r : Reading). IsGot r) (sym (ap (λ (r : Place → Meaning). r p s) (fold-roll-ExprForm (Place → Meaning) Meaning (Unit {0}) (form_meaning whole) of_expr of_instance (plain_form y)))) (form_got y p s))

exprs_got : (x : Expr-F ExprForm Expr Instance) (y : Expr-F Forms Exprs Instances) → plain_expr y ≡ x → ExprIsGot (roll-Expr x)
exprs_got x y is = subst (λ z. ExprIsGot (roll-Expr z)) is (λ s.
    subst (λ (r : Reading). IsGot r) (sym (ap (λ (r : Meaning). r s) (fold-roll-Expr (Place → Meaning) Meaning (Unit {0}) (form_meaning whole) of_expr of_instance (plain_expr y)))) ((y.form).1 y.place s))

pub meaning_got : (e : Expr) (s : Scene) → IsGot (meaning whole e s)
meaning_got = ind-Expr FormIsGot ExprIsGot InstanceIsGot forms_got exprs_got (λ x y is. tt)

-- assertions
values_got : (s : Scene) (es : List Expr) → IsGot (values_of whole s es)
values_got s [] = tt
values_got s (e ∷ es) = then_got (meaning whole e s) _ (meaning_got e s) (of_first (values_got s es))
  where
    of_first : IsGot (values_of whole s es) → (v : Option Value) → IsGot (elim v as (λ _. Res (Option (List Value))) [ None ↦ Got None | Some w ↦ then_do (values_of whole s es) (λ ws. Got (option_map (λ (vs : List Value). w ∷ vs) ws)) ])
    of_first h None = tt
    of_first h (Some w) = then_got (values_of whole s es) _ h (λ ws. tt)

abbrev AreGot : Opens → Type 0
AreGot opens = (q : ℕ) (vs : List Value) → IsGot (opens q vs)

abbrev judged : Opens → (Option Value → Bool) → Judge
judged opens held = record { opens = opens; holds_duty = held }

miss_got : (r : Verdict) → IsGot r → (miss : Option Miss) → IsGot (and_then miss r)
miss_got r h None = h
miss_got r h (Some miss) = tt

verdict_got : (p : Place) (b : Bool) → IsGot (verdict_if p b)
verdict_got p b = if_got b holds (fails_at p) tt tt

opened_got : (opens : Opens) (held : Option Value → Bool) → AreGot opens → (p : Place) (q : ℕ) (vs : Option (List Value)) → IsGot (opened_at (judged opens held) p q vs)
opened_got opens held h p q None = tt
opened_got opens held h p q (Some vs) = then_got (opens q vs) (verdict_if p) (h q vs) (verdict_got p)

abbrev AtomIsGot : AtomForm → Type 0
AtomIsGot form = (opens : Opens) → AreGot opens → (held : Option Value → Bool) (p : Place) (s : Scene) → IsGot (atom_read whole form p (judged opens held) s)

abbrev AssertionIsGot : Assertion → Type 0
AssertionIsGot a = (opens : Opens) → AreGot opens → (held : Option Value → Bool) (s : Scene) → IsGot (judgement whole a (judged opens held) s)

abbrev Atoms : Type 0
Atoms = (form : AtomForm) × AtomIsGot form

abbrev Assertions : Type 0
Assertions = (a : Assertion) × AssertionIsGot a

abbrev plain_atom : AtomForm-F Atoms Assertions → AtomForm-F AtomForm Assertion
plain_atom y = map-AtomForm Atoms Assertions AtomForm Assertion (λ e. e.0) (λ e. e.0) y

abbrev plain_assertion : Assertion-F Atoms Assertions → Assertion-F AtomForm Assertion
plain_assertion y = map-Assertion Atoms Assertions AtomForm Assertion (λ e. e.0) (λ e. e.0) y

abbrev judgements : List Assertions → List Judgement
judgements all = map (judgement whole) (map (λ (a : Assertions). a.0) all)

all_got : (opens : Opens) → AreGot opens → (held : Option Value → Bool) (all : List Assertions) (s : Scene) → IsGot (all_hold (judgements all) (judged opens held) s)
all_got opens h held [] s = tt
all_got opens h held (a ∷ more) s =
    then_got (judgement whole a.0 (judged opens held) s) (λ miss. and_then miss (all_hold (judgements more) (judged opens held) s)) (a.1 opens h held s)
    (miss_got (all_hold (judgements more) (judged opens held) s) (all_got opens h held more s))

atom_got : (y : AtomForm-F Atoms Assertions) (opens : Opens) → AreGot opens → (held : Option Value → Bool) (p : Place) (s : Scene) → IsGot (layer_judged whole (plain_atom y) p (judged opens held) s)
atom_got (AtomForm-F.Both all) opens h held p s = all_got opens h held all s
atom_got (AtomForm-F.When e a) opens h held p s = then_got (meaning whole e s) _ (meaning_got e s) (λ v. if_got (is_true v) (judgement whole a.0 (judged opens held) s) holds (a.1 opens h held s) tt)
atom_got (AtomForm-F.AccOf e f units) opens h held p s = then_got (meaning whole e s) _ (meaning_got e s) (λ v. verdict_got p (has_field s f v))
atom_got (AtomForm-F.Holds i) opens h held p s = then_got (values_of whole s (out-Instance i).args) _ (values_got s (out-Instance i).args) (opened_got opens held h p (out-Instance i).pred)
atom_got (AtomForm-F.Terminates e) opens h held p s = tt
atom_got (AtomForm-F.Releases e level) opens h held p s = then_got (meaning whole e s) _ (meaning_got e s) (λ v. if_got (held v) holds (Got (Some (Unheld p))) tt tt)
atom_got (AtomForm-F.Joins e f all) opens h held p s = tt
atom_got (AtomForm-F.WaitBelow e) opens h held p s = tt
atom_got (AtomForm-F.True e) opens h held p s = then_got (meaning whole e s) _ (meaning_got e s) (λ v. verdict_got p (is_true v))

atoms_got : (x : AtomForm-F AtomForm Assertion) (y : AtomForm-F Atoms Assertions) → plain_atom y ≡ x → AtomIsGot (roll-AtomForm x)
atoms_got x y is = subst (λ z. AtomIsGot (roll-AtomForm z)) is (λ opens h held p s.
    subst (λ (r : Verdict). IsGot r) (sym (ap (λ (r : Place → Judgement). r p (judged opens held) s) (fold-roll-AtomForm (Place → Judgement) Judgement (atom_judgement whole) of_assertion (plain_atom y)))) (atom_got y opens h held p s))

assertions_got : (x : Assertion-F AtomForm Assertion) (y : Assertion-F Atoms Assertions) → plain_assertion y ≡ x → AssertionIsGot (roll-Assertion x)
assertions_got x y is = subst (λ z. AssertionIsGot (roll-Assertion z)) is (λ opens h held s.
    subst (λ (r : Verdict). IsGot r) (sym (ap (λ (r : Judgement). r (judged opens held) s) (fold-roll-Assertion (Place → Judgement) Judgement (atom_judgement whole) of_assertion (plain_assertion y)))) ((y.form).1 opens h held y.place s))

judgement_got : (a : Assertion) → AssertionIsGot a
judgement_got = ind-Assertion AtomIsGot AssertionIsGot atoms_got assertions_got

opens_got : (m : Module) (s : Scene) (n : ℕ) (path : List Opened) → AreGot (opens_within whole m s n path)
opens_got m s zero path q vs = tt
opens_got m s (suc n) path q vs = if_got (is_open path q vs) (Got false) _ tt (of_found (opens_got m s n ((q, vs) ∷ path)) (slice_get m.predicates q))
  where
    of_found : AreGot (opens_within whole m s n ((q, vs) ∷ path)) → (found : Option Pred) → IsGot (elim found as (λ _. Res Bool) [
      | None ↦ Got false
      | Some pred ↦ then_do (judgement whole pred.body (record { opens = opens_within whole m s n ((q, vs) ∷ path); holds_duty = λ v. true }) (within s vs)) (λ miss. Got (is_none miss))
    ])
    of_found h None = tt
    of_found h (Some pred) = then_got (judgement whole pred.body (judged (opens_within whole m s n ((q, vs) ∷ path)) (λ v. true)) (within s vs)) _ (judgement_got pred.body (opens_within whole m s n ((q, vs) ∷ path)) h (λ v. true) (within s vs)) (λ miss. tt)

answer_of : (r : Res Bool) → IsGot r → (r ≡ Got true) ⊎ (r ≡ Got false)
answer_of (Got true) h = inl refl
answer_of (Got false) h = inr refl
answer_of (Stops x) h = absurd h

-- whether an instance holds is always answered
pub opens_answered : (m : Module) (s : Scene) (n : ℕ) (path : List Opened) (q : ℕ) (vs : List Value) → (opens_within whole m s n path q vs ≡ Got true) ⊎ (opens_within whole m s n path q vs ≡ Got false)
opens_answered m s n path q vs = answer_of (opens_within whole m s n path q vs) (opens_got m s n path q vs)

read_got : (m : Module) (objects : ℕ) (held : Option Value → Bool) (s : Scene) (all : List Assertion) → IsGot (read_assertions whole m objects held s all)
read_got m objects held s [] = tt
read_got m objects held s (a ∷ more) = then_got _ (λ miss. and_then miss (read_assertions whole m objects held s more))
    (judgement_got a (opens_within whole m s (room m objects) []) (opens_got m s (room m objects) []) held s)
    (miss_got (read_assertions whole m objects held s more) (read_got m objects held s more))

-- and so are contracts
pub contracts_answered : (m : Module) (objects : ℕ) (held : Option Value → Bool) (s : Scene) (all : List Assertion) → (miss : Option Miss) × (read_assertions whole m objects held s all ≡ Got miss)
contracts_answered m objects held s all = verdict_of (read_assertions whole m objects held s all) (read_got m objects held s all)
  where
    verdict_of : (r : Verdict) → IsGot r → (miss : Option Miss) × (r ≡ Got miss)
    verdict_of (Got miss) h = (miss, refl)
    verdict_of (Stops x) h = absurd h
