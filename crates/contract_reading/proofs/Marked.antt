-- The reading within so many openings is the definition's, where it doesn't stop for want of them: more openings change no other answer.
use Rattle.std.specs.Prelude.{◌≡◌, ◌⊎◌, Result, Ok, Err, ℕ, zero, suc, ◌≤◌, Bool, true, false, List, [], ◌∷◌, map, Option, Some, None, slice_get, if◌then◌else◌}
use Rattle.std.proofs.Common.{refl, sym, ap, ◌∙◌, subst, inl, inr, arith}
use Rattle.py_base.specs.declared.Place.{Place}
use Rattle.py_syntax.specs.declared.Value.{Value}
use Rattle.py_syntax.specs.declared.Instance.{out-Instance}
use Rattle.py_syntax.specs.declared.Assertion.{Assertion, Assertion-F, roll-Assertion, map-Assertion, fold-roll-Assertion, ind-Assertion}
use Rattle.py_syntax.specs.declared.AtomForm.{AtomForm, AtomForm-F, roll-AtomForm, map-AtomForm, fold-AtomForm, fold-roll-AtomForm}
use Rattle.py_syntax.specs.declared.Pred.{Pred}
use Rattle.py_syntax.specs.declared.Module.{Module}
use Rattle.machine_model.specs.declared.Halt.{Halt}
use Rattle.machine_model.specs.declared.Halt.TheVariants.{Waits, NoOperand, Failed, Wide}
use Rattle.machine_model.specs.Results.{Res, Got, Stops, then_do, Width}
use Rattle.machine_model.specs.Evaluation.{Scene, meaning}
use Rattle.machine_model.specs.Reading.{Miss, Verdict, holds, and_then, Judge, Judgement, is_true, values_of, verdict_if, all_hold, opened_at, atom_judgement, judgement, Opened, is_open, within, is_none, opens_within, room, read_assertion}
use Rattle.machine_values.specs.declared.Stop.{Stop}
use Rattle.machine_values.specs.declared.Stop.TheVariants as stop
use Rattle.machine_values.specs.Agreement.{Agrees}
use Rattle.contract_reading.specs.Openings.{body_marked, opens_marked, unmark}

-- The first is the mark, or it is the second.
abbrev pub Kept : {A : Type 0} → Res A → Res A → Type 0
Kept r q = (r ≡ Stops Waits) ⊎ (r ≡ q)

same_then : {A B : Type 0} (r : Res A) (f g : A → Res B) → ((a : A) → Kept (f a) (g a)) → Kept (then_do r f) (then_do r g)
same_then (Got a) f g k = k a
same_then (Stops h) f g k = inr refl

then_kept : {A B : Type 0} (r q : Res A) (f g : A → Res B) → Kept r q → ((a : A) → Kept (f a) (g a)) → Kept (then_do r f) (then_do q g)
then_kept r q f g (inl e) k = inl (ap (λ x. then_do x f) e)
then_kept r q f g (inr e) k = subst (λ x. Kept (then_do r f) (then_do x g)) e (same_then r f g k)

and_kept : (miss : Option Miss) (r q : Verdict) → Kept r q → Kept (and_then miss r) (and_then miss q)
and_kept None r q k = k
and_kept (Some miss) r q k = inr refl

if_kept : (b : Bool) (r q : Verdict) → Kept r q → Kept (if b then r else holds) (if b then q else holds)
if_kept true r q k = k
if_kept false r q k = inr refl

-- an atom, by its form and its place
abbrev of_assertion : Assertion-F (Place → Judgement) Judgement → Judgement
of_assertion a = a.form a.place

abbrev atom_read : Width → AtomForm → Place → Judgement
atom_read fits = fold-AtomForm (Place → Judgement) Judgement (atom_judgement fits) of_assertion

abbrev layer_judged : Width → AtomForm-F AtomForm Assertion → Place → Judgement
layer_judged fits x = atom_judgement fits (map-AtomForm AtomForm Assertion (Place → Judgement) Judgement (atom_read fits) (judgement fits) x)

-- whether instances hold, by two ways to tell
abbrev Opens : Type 0
Opens = ℕ → List Value → Res Bool

abbrev IsKept : Opens → Opens → Type 0
IsKept first second = (q : ℕ) (vs : List Value) → Kept (first q vs) (second q vs)

abbrev judged : Opens → (Option Value → Bool) → Judge
judged opens held = record { opens = opens; holds_duty = held }

opened_kept : (first second : Opens) (held : Option Value → Bool) (p : Place) (q : ℕ) (vs : Option (List Value)) → IsKept first second → Kept (opened_at (judged first held) p q vs) (opened_at (judged second held) p q vs)
opened_kept first second held p q None k = inr refl
opened_kept first second held p q (Some vs) k = then_kept (first q vs) (second q vs) (verdict_if p) (verdict_if p) (k q vs) (λ b. inr refl)

abbrev AtomKept : Width → AtomForm → Type 0
AtomKept fits form = (first second : Opens) (held : Option Value → Bool) (p : Place) (s : Scene) → IsKept first second → Kept (atom_read fits form p (judged first held) s) (atom_read fits form p (judged second held) s)

abbrev AssertionKept : Width → Assertion → Type 0
AssertionKept fits a = (first second : Opens) (held : Option Value → Bool) (s : Scene) → IsKept first second → Kept (judgement fits a (judged first held) s) (judgement fits a (judged second held) s)

abbrev Atoms : Width → Type 0
Atoms fits = (form : AtomForm) × AtomKept fits form

abbrev Assertions : Width → Type 0
Assertions fits = (a : Assertion) × AssertionKept fits a

abbrev plain_atom : (fits : Width) → AtomForm-F (Atoms fits) (Assertions fits) → AtomForm-F AtomForm Assertion
plain_atom fits y = map-AtomForm (Atoms fits) (Assertions fits) AtomForm Assertion (λ e. e.0) (λ e. e.0) y

abbrev plain_assertion : (fits : Width) → Assertion-F (Atoms fits) (Assertions fits) → Assertion-F AtomForm Assertion
plain_assertion fits y = map-Assertion (Atoms fits) (Assertions fits) AtomForm Assertion (λ e. e.0) (λ e. e.0) y

abbrev firsts : (fits : Width) → List (Assertions fits) → List Assertion
firsts fits all = map (λ (a : Assertions fits). a.0) all

all_kept : (fits : Width) (all : List (Assertions fits)) (first second : Opens) (held : Option Value → Bool) (s : Scene) → IsKept first second
    → Kept (all_hold (map (judgement fits) (firsts fits all)) (judged first held) s) (all_hold (map (judgement fits) (firsts fits all)) (judged second held) s)
all_kept fits [] first second held s k = inr refl
all_kept fits (a ∷ more) first second held s k =
    then_kept (judgement fits a.0 (judged first held) s) (judgement fits a.0 (judged second held) s)
    (λ miss. and_then miss (all_hold (map (judgement fits) (firsts fits more)) (judged first held) s))
    (λ miss. and_then miss (all_hold (map (judgement fits) (firsts fits more)) (judged second held) s))
    (a.1 first second held s k)
    (λ miss. and_kept miss (all_hold (map (judgement fits) (firsts fits more)) (judged first held) s) (all_hold (map (judgement fits) (firsts fits more)) (judged second held) s) (all_kept fits more first second held s k))

layer_kept : (fits : Width) (y : AtomForm-F (Atoms fits) (Assertions fits)) (first second : Opens) (held : Option Value → Bool) (p : Place) (s : Scene) → IsKept first second
    → Kept (layer_judged fits (plain_atom fits y) p (judged first held) s) (layer_judged fits (plain_atom fits y) p (judged second held) s)
layer_kept fits (AtomForm-F.Both all) first second held p s k = all_kept fits all first second held s k
layer_kept fits (AtomForm-F.When e a) first second held p s k =
    same_then (meaning fits e s) (λ v. if is_true v then judgement fits a.0 (judged first held) s else holds) (λ v. if is_true v then judgement fits a.0 (judged second held) s else holds)
    (λ v. if_kept (is_true v) (judgement fits a.0 (judged first held) s) (judgement fits a.0 (judged second held) s) (a.1 first second held s k))
layer_kept fits (AtomForm-F.Holds i) first second held p s k =
    same_then (values_of fits s (out-Instance i).args) (opened_at (judged first held) p (out-Instance i).pred) (opened_at (judged second held) p (out-Instance i).pred)
    (λ vs. opened_kept first second held p (out-Instance i).pred vs k)
layer_kept fits (AtomForm-F.AccOf e f units) first second held p s k = inr refl
layer_kept fits (AtomForm-F.Terminates e) first second held p s k = inr refl
layer_kept fits (AtomForm-F.Releases e level) first second held p s k = inr refl
layer_kept fits (AtomForm-F.Joins e f all) first second held p s k = inr refl
layer_kept fits (AtomForm-F.WaitBelow e) first second held p s k = inr refl
layer_kept fits (AtomForm-F.True e) first second held p s k = inr refl

-- along equations
between : {A : Type 0} (r q x y : Res A) → x ≡ r → y ≡ q → Kept r q → Kept x y
between r q x y e d (inl is) = inl (e ∙ is)
between r q x y e d (inr is) = inr (e ∙ is ∙ sym d)

atom_kept : (fits : Width) (x : AtomForm-F AtomForm Assertion) (y : AtomForm-F (Atoms fits) (Assertions fits)) → plain_atom fits y ≡ x → AtomKept fits (roll-AtomForm x)
atom_kept fits x y is = subst (λ z. AtomKept fits (roll-AtomForm z)) is (λ first second held p s k.
    let same : (opens : Opens) → atom_read fits (roll-AtomForm (plain_atom fits y)) p (judged opens held) s ≡ layer_judged fits (plain_atom fits y) p (judged opens held) s =
    λ opens. ap (λ (r : Place → Judgement). r p (judged opens held) s) (fold-roll-AtomForm (Place → Judgement) Judgement (atom_judgement fits) of_assertion (plain_atom fits y)) in
    between (layer_judged fits (plain_atom fits y) p (judged first held) s) (layer_judged fits (plain_atom fits y) p (judged second held) s)
    (atom_read fits (roll-AtomForm (plain_atom fits y)) p (judged first held) s) (atom_read fits (roll-AtomForm (plain_atom fits y)) p (judged second held) s)
    (same first) (same second) (layer_kept fits y first second held p s k))

assertion_kept : (fits : Width) (x : Assertion-F AtomForm Assertion) (y : Assertion-F (Atoms fits) (Assertions fits)) → plain_assertion fits y ≡ x → AssertionKept fits (roll-Assertion x)
assertion_kept fits x y is = subst (λ z. AssertionKept fits (roll-Assertion z)) is (λ first second held s k.
    let same : (opens : Opens) → judgement fits (roll-Assertion (plain_assertion fits y)) (judged opens held) s ≡ atom_read fits (y.form).0 y.place (judged opens held) s =
    λ opens. ap (λ (r : Judgement). r (judged opens held) s) (fold-roll-Assertion (Place → Judgement) Judgement (atom_judgement fits) of_assertion (plain_assertion fits y)) in
    between (atom_read fits (y.form).0 y.place (judged first held) s) (atom_read fits (y.form).0 y.place (judged second held) s)
    (judgement fits (roll-Assertion (plain_assertion fits y)) (judged first held) s) (judgement fits (roll-Assertion (plain_assertion fits y)) (judged second held) s)
    (same first) (same second) ((y.form).1 first second held y.place s k))

-- an assertion is read the same, where the instances in it are
pub judgement_kept : (fits : Width) (a : Assertion) → AssertionKept fits a
judgement_kept fits = ind-Assertion (AtomKept fits) (AssertionKept fits) (atom_kept fits) (assertion_kept fits)

-- two scenes with the same fields
abbrev Alike : Scene → Scene → Type 0
Alike s t = (vs : List Value) → within s vs ≡ within t vs

-- the body of a predicate, where there is such a predicate
abbrev found_by : Width → Opens → Scene → List Value → Option Pred → Res Bool
found_by fits opens s vs found = elim found as (λ _. Res Bool) [
  | None ↦ Got false
  | Some pred ↦ body_marked fits opens s vs pred.body
]

body_kept : (fits : Width) (first second : Opens) (s t : Scene) → Alike s t → IsKept first second → (vs : List Value) (found : Option Pred) → Kept (found_by fits first s vs found) (found_by fits second t vs found)
body_kept fits first second s t alike k vs None = inr refl
body_kept fits first second s t alike k vs (Some pred) =
    subst (λ u. Kept (body_marked fits first s vs pred.body) (then_do (judgement fits pred.body (judged second (λ v. true)) u) (λ miss. Got (is_none miss)))) (alike vs)
    (then_kept (judgement fits pred.body (judged first (λ v. true)) (within s vs)) (judgement fits pred.body (judged second (λ v. true)) (within s vs)) (λ miss. Got (is_none miss)) (λ miss. Got (is_none miss))
    (judgement_kept fits pred.body first second (λ v. true) (within s vs) k) (λ miss. inr refl))

closed_kept : (b : Bool) (r q : Res Bool) → Kept r q → Kept (if b then Got false else r) (if b then Got false else q)
closed_kept true r q k = inr refl
closed_kept false r q k = k

pub opens_kept : (fits : Width) (m : Module) (n k : ℕ) → n ≤ k → (s t : Scene) → Alike s t → (path : List Opened) (q : ℕ) (vs : List Value) → Kept (opens_marked fits m s n path q vs) (opens_within fits m t k path q vs)
opens_kept fits m zero k le s t alike path q vs = inl refl
opens_kept fits m (suc n) zero le s t alike path q vs = absurd (omega arith)
opens_kept fits m (suc n) (suc k) le s t alike path q vs =
    closed_kept (is_open path q vs)
    (found_by fits (opens_marked fits m (within s vs) n ((q, vs) ∷ path)) s vs (slice_get m.predicates q))
    (found_by fits (opens_within fits m t k ((q, vs) ∷ path)) t vs (slice_get m.predicates q))
    (body_kept fits (opens_marked fits m (within s vs) n ((q, vs) ∷ path)) (opens_within fits m t k ((q, vs) ∷ path)) s t alike
    (λ p ws. opens_kept fits m n k (omega arith) (within s vs) t alike ((q, vs) ∷ path) p ws) vs (slice_get m.predicates q))

-- an assertion within so many openings as there is room for
pub read_kept : (fits : Width) (m : Module) (objects left : ℕ) → left ≤ room m objects → (held : Option Value → Bool) (s : Scene) (a : Assertion)
    → Kept (judgement fits a (record { opens = opens_marked fits m s left []; holds_duty = held }) s) (read_assertion fits m objects held s a)
read_kept fits m objects left le held s a =
    judgement_kept fits a (opens_marked fits m s left []) (opens_within fits m s (room m objects) []) held s
    (λ q vs. opens_kept fits m left (room m objects) le s s (λ ws. refl) [] q vs)

differ : {A : Type 0} (a : A) → Got a ≡ Stops Waits → ⊥
differ a e = cc

-- what the code answers in place of the mark is free
agrees_off : {A T : Type 0} (r q : Res A) (h : Halt) (seen : T → A) → Kept r q → r ≡ Stops h → Agrees q (unmark {T = T} (Err (stop.Halt h))) seen
agrees_off r q Waits seen k e = tt
agrees_off r q NoOperand seen (inl is) e = cc
agrees_off r q NoOperand seen (inr is) e = sym is ∙ e
agrees_off r q (Failed kind p) seen (inl is) e = cc
agrees_off r q (Failed kind p) seen (inr is) e = sym is ∙ e
agrees_off r q (Wide p) seen (inl is) e = cc
agrees_off r q (Wide p) seen (inr is) e = sym is ∙ e

-- What the code answers is the definition's.
pub unmarked : {A T : Type 0} (r q : Res A) (result : Result T Stop) (seen : T → A) → Kept r q → Agrees r result seen → Agrees q (unmark result) seen
unmarked r q (Ok x) seen (inl e) agrees = absurd (differ (seen x) (sym agrees ∙ e))
unmarked r q (Ok x) seen (inr e) agrees = sym e ∙ agrees
unmarked r q (Err (stop.Halt h)) seen k agrees = agrees_off r q h seen k agrees
unmarked r q (Err stop.OutOfMemory) seen k agrees = tt

pub opened_kept_here : (fits : Width) (m : Module) (objects left : ℕ) → left ≤ room m objects → (s : Scene) (q : ℕ) (vs : List Value) → Kept (opens_marked fits m s left [] q vs) (opens_within fits m s (room m objects) [] q vs)
opened_kept_here fits m objects left le s q vs = opens_kept fits m left (room m objects) le s s (λ ws. refl) [] q vs
