-- An instance that holds at a depth holds at each greater one, and the reading by a path of open instances gives the same.
use Rattle.std.specs.Prelude.{◌≡◌, ◌⊎◌, ℕ, zero, suc, ◌≤◌, Bool, true, false, ◌&&◌, ◌||◌, List, [], ◌∷◌, ◌++◌, map, All, Option, Some, None, slice_get, nat_eq, refl, if◌then◌else◌}
use Rattle.std.proofs.Common.{sym, ap, ◌∙◌, subst, inl, inr, arith}
use Rattle.std.proofs.lemmas.List.Elements.{All-nil, All-cons, All-head, All-tail, All-weaker}
use Rattle.std.proofs.lemmas.Bool.Decides.{nat_tests}
use Rattle.py_base.specs.declared.Place.{Place}
use Rattle.py_syntax.specs.declared.Value.{Value}
use Rattle.py_syntax.specs.declared.Value.TheVariants.{Nil, Ref}
use Rattle.py_syntax.specs.declared.Instance.{Instance, out-Instance}
use Rattle.py_syntax.specs.declared.Assertion.{Assertion, Assertion-F, roll-Assertion, map-Assertion, fold-roll-Assertion, ind-Assertion}
use Rattle.py_syntax.specs.declared.AtomForm.{AtomForm, AtomForm-F, roll-AtomForm, map-AtomForm, fold-AtomForm, fold-roll-AtomForm}
use Rattle.py_syntax.specs.declared.Pred.{Pred}
use Rattle.py_syntax.specs.declared.Module.{Module}
use Rattle.machine_model.specs.Results.{Res, Got, Stops, then_do, Width}
use Rattle.machine_model.specs.Evaluation.{Scene, meaning}
use Rattle.machine_model.specs.Reading.{Verdict, holds, and_then, Judge, Judgement, is_true, values_of, verdict_if, all_hold, opened_at, atom_judgement, judgement, Opened, same_value, same_values, is_open, within, is_none, opens_within}
use Rattle.machine_laws.specs.ReadingWidths.{of_assertion, atom_read, layer_judged}
use Rattle.machine_laws.specs.Depths.{Opens, body_holds, holds_at, joined, atom_instances, instances_of}

-- All of two lists joined
all_left : {A : Type 0} (P : A → Type 0) (xs ys : List A) → All P (xs ++ ys) → All P xs
all_left P [] ys h = All-nil P
all_left P (x ∷ xs) ys h = All-cons P x xs (All-head P x (xs ++ ys) h) (all_left P xs ys (All-tail P x (xs ++ ys) h))

all_right : {A : Type 0} (P : A → Type 0) (xs ys : List A) → All P (xs ++ ys) → All P ys
all_right P [] ys h = h
all_right P (x ∷ xs) ys h = all_right P xs ys (All-tail P x (xs ++ ys) h)

-- steps of results
pub then_follows : {A B C : Type 0} (r : Res A) (f : A → Res B) (g : A → Res C) (b : B) (c : C) → ((a : A) → r ≡ Got a → f a ≡ Got b → g a ≡ Got c) → then_do r f ≡ Got b → then_do r g ≡ Got c
then_follows (Got a) f g b c k h = k a refl h
then_follows (Stops x) f g b c k h = cc

both_follow : (r q x y : Verdict) → (r ≡ Got None → q ≡ Got None) → (x ≡ Got None → y ≡ Got None) → then_do r (λ miss. and_then miss x) ≡ Got None → then_do q (λ miss. and_then miss y) ≡ Got None
both_follow (Got None) q x y k l h = ap (λ z. then_do z (λ miss. and_then miss y)) (k refl) ∙ l h
both_follow (Got (Some miss)) q x y k l h = cc
both_follow (Stops halt) q x y k l h = cc

if_follows : (b : Bool) (r q : Verdict) → (r ≡ Got None → q ≡ Got None) → (if b then r else holds) ≡ Got None → (if b then q else holds) ≡ Got None
if_follows true r q k h = k h
if_follows false r q k h = h

verdict_true : (r : Res Bool) (p : Place) → then_do r (verdict_if p) ≡ Got None → r ≡ Got true
verdict_true (Got true) p h = refl
verdict_true (Got false) p h = cc
verdict_true (Stops x) p h = cc

none_true : (r : Verdict) → then_do r (λ miss. Got (is_none miss)) ≡ Got true → r ≡ Got None
none_true (Got None) h = refl
none_true (Got (Some miss)) h = cc
none_true (Stops x) h = cc

-- where an instance that is named holds by the first, it holds by the second
abbrev pub Leads : Width → Scene → Opens → Opens → Instance → Type 0
Leads fits s first second i = (vs : List Value) → values_of fits s (out-Instance i).args ≡ Got (Some vs) → first (out-Instance i).pred vs ≡ Got true → second (out-Instance i).pred vs ≡ Got true

abbrev judged : Opens → (Option Value → Bool) → Judge
judged opens held = record { opens = opens; holds_duty = held }

opened_follows : (first second : Opens) (held : Option Value → Bool) (p : Place) (q : ℕ) (vs : Option (List Value)) → ((ws : List Value) → vs ≡ Some ws → first q ws ≡ Got true → second q ws ≡ Got true)
    → opened_at (judged first held) p q vs ≡ Got None → opened_at (judged second held) p q vs ≡ Got None
opened_follows first second held p q None k h = h
opened_follows first second held p q (Some ws) k h = ap (λ r. then_do r (verdict_if p)) (k ws refl (verdict_true (first q ws) p h))

-- assertions hold by the second, where they hold by the first
abbrev form_instances : AtomForm → List Instance
form_instances = fold-AtomForm (List Instance) (List Instance) atom_instances (λ a. a.form)

abbrev layer_instances : AtomForm-F AtomForm Assertion → List Instance
layer_instances x = atom_instances (map-AtomForm AtomForm Assertion (List Instance) (List Instance) form_instances instances_of x)

abbrev AtomFollows : Width → AtomForm → Type 0
AtomFollows fits form = (first second : Opens) (held : Option Value → Bool) (p : Place) (s : Scene) → All (Leads fits s first second) (form_instances form)
    → atom_read fits form p (judged first held) s ≡ Got None → atom_read fits form p (judged second held) s ≡ Got None

abbrev AssertionFollows : Width → Assertion → Type 0
AssertionFollows fits a = (first second : Opens) (held : Option Value → Bool) (s : Scene) → All (Leads fits s first second) (instances_of a)
    → judgement fits a (judged first held) s ≡ Got None → judgement fits a (judged second held) s ≡ Got None

abbrev Atoms : Width → Type 0
Atoms fits = (form : AtomForm) × AtomFollows fits form

abbrev Assertions : Width → Type 0
Assertions fits = (a : Assertion) × AssertionFollows fits a

abbrev plain_atom : (fits : Width) → AtomForm-F (Atoms fits) (Assertions fits) → AtomForm-F AtomForm Assertion
plain_atom fits y = map-AtomForm (Atoms fits) (Assertions fits) AtomForm Assertion (λ e. e.0) (λ e. e.0) y

abbrev plain_assertion : (fits : Width) → Assertion-F (Atoms fits) (Assertions fits) → Assertion-F AtomForm Assertion
plain_assertion fits y = map-Assertion (Atoms fits) (Assertions fits) AtomForm Assertion (λ e. e.0) (λ e. e.0) y

abbrev firsts : (fits : Width) → List (Assertions fits) → List Assertion
firsts fits all = map (λ (a : Assertions fits). a.0) all

all_follow : (fits : Width) (all : List (Assertions fits)) (first second : Opens) (held : Option Value → Bool) (s : Scene) → All (Leads fits s first second) (joined (map instances_of (firsts fits all)))
    → all_hold (map (judgement fits) (firsts fits all)) (judged first held) s ≡ Got None → all_hold (map (judgement fits) (firsts fits all)) (judged second held) s ≡ Got None
all_follow fits [] first second held s k h = h
all_follow fits (a ∷ more) first second held s k h =
    both_follow (judgement fits a.0 (judged first held) s) (judgement fits a.0 (judged second held) s) (all_hold (map (judgement fits) (firsts fits more)) (judged first held) s) (all_hold (map (judgement fits) (firsts fits more)) (judged second held) s)
    (a.1 first second held s (all_left (Leads fits s first second) (instances_of a.0) (joined (map instances_of (firsts fits more))) k))
    (all_follow fits more first second held s (all_right (Leads fits s first second) (instances_of a.0) (joined (map instances_of (firsts fits more))) k)) h

layer_follows : (fits : Width) (y : AtomForm-F (Atoms fits) (Assertions fits)) (first second : Opens) (held : Option Value → Bool) (p : Place) (s : Scene) → All (Leads fits s first second) (layer_instances (plain_atom fits y))
    → layer_judged fits (plain_atom fits y) p (judged first held) s ≡ Got None → layer_judged fits (plain_atom fits y) p (judged second held) s ≡ Got None
layer_follows fits (AtomForm-F.Both all) first second held p s k h = all_follow fits all first second held s k h
layer_follows fits (AtomForm-F.When e a) first second held p s k h =
    then_follows (meaning fits e s) (λ v. if is_true v then judgement fits a.0 (judged first held) s else holds) (λ v. if is_true v then judgement fits a.0 (judged second held) s else holds) None None
    (λ v is. if_follows (is_true v) (judgement fits a.0 (judged first held) s) (judgement fits a.0 (judged second held) s) (a.1 first second held s k)) h
layer_follows fits (AtomForm-F.Holds i) first second held p s k h =
    then_follows (values_of fits s (out-Instance i).args) (opened_at (judged first held) p (out-Instance i).pred) (opened_at (judged second held) p (out-Instance i).pred) None None
    (λ vs is. opened_follows first second held p (out-Instance i).pred vs (λ ws same. All-head (Leads fits s first second) i [] k ws (is ∙ ap (λ v. Got v) same))) h
layer_follows fits (AtomForm-F.AccOf e f units) first second held p s k h = h
layer_follows fits (AtomForm-F.Terminates e) first second held p s k h = h
layer_follows fits (AtomForm-F.Releases e level) first second held p s k h = h
layer_follows fits (AtomForm-F.Joins e f all) first second held p s k h = h
layer_follows fits (AtomForm-F.WaitBelow e) first second held p s k h = h
layer_follows fits (AtomForm-F.True e) first second held p s k h = h

atom_follows : (fits : Width) (x : AtomForm-F AtomForm Assertion) (y : AtomForm-F (Atoms fits) (Assertions fits)) → plain_atom fits y ≡ x → AtomFollows fits (roll-AtomForm x)
atom_follows fits x y is = subst (λ z. AtomFollows fits (roll-AtomForm z)) is (λ first second held p s k h.
    let same : (opens : Opens) → atom_read fits (roll-AtomForm (plain_atom fits y)) p (judged opens held) s ≡ layer_judged fits (plain_atom fits y) p (judged opens held) s =
    λ opens. ap (λ (r : Place → Judgement). r p (judged opens held) s) (fold-roll-AtomForm (Place → Judgement) Judgement (atom_judgement fits) of_assertion (plain_atom fits y)) in
    let named : form_instances (roll-AtomForm (plain_atom fits y)) ≡ layer_instances (plain_atom fits y) = fold-roll-AtomForm (List Instance) (List Instance) atom_instances (λ a. a.form) (plain_atom fits y) in
    same second ∙ layer_follows fits y first second held p s (subst (All (Leads fits s first second)) named k) (sym (same first) ∙ h))

assertion_follows : (fits : Width) (x : Assertion-F AtomForm Assertion) (y : Assertion-F (Atoms fits) (Assertions fits)) → plain_assertion fits y ≡ x → AssertionFollows fits (roll-Assertion x)
assertion_follows fits x y is = subst (λ z. AssertionFollows fits (roll-Assertion z)) is (λ first second held s k h.
    let same : (opens : Opens) → judgement fits (roll-Assertion (plain_assertion fits y)) (judged opens held) s ≡ atom_read fits (y.form).0 y.place (judged opens held) s =
    λ opens. ap (λ (r : Judgement). r (judged opens held) s) (fold-roll-Assertion (Place → Judgement) Judgement (atom_judgement fits) of_assertion (plain_assertion fits y)) in
    let named : instances_of (roll-Assertion (plain_assertion fits y)) ≡ form_instances (y.form).0 = fold-roll-Assertion (List Instance) (List Instance) atom_instances (λ a. a.form) (plain_assertion fits y) in
    same second ∙ (y.form).1 first second held y.place s (subst (All (Leads fits s first second)) named k) (sym (same first) ∙ h))

-- an assertion holds by the second, where it holds by the first and each instance that it names does so too
pub judgement_follows : (fits : Width) (a : Assertion) → AssertionFollows fits a
judgement_follows fits = ind-Assertion (AtomFollows fits) (AssertionFollows fits) (atom_follows fits) (assertion_follows fits)

abbrev pub BodyLeads : Width → Module → Scene → Opens → Opens → ℕ → List Value → Type 0
BodyLeads fits m s first second q vs = (pred : Pred) → slice_get m.predicates q ≡ Some pred → All (Leads fits (within s vs) first second) (instances_of pred.body)

pub body_follows : (fits : Width) (m : Module) (s : Scene) (first second : Opens) (q : ℕ) (vs : List Value) → BodyLeads fits m s first second q vs
    → body_holds fits s first vs (slice_get m.predicates q) ≡ Got true → body_holds fits s second vs (slice_get m.predicates q) ≡ Got true
body_follows fits m s first second q vs k h = of_found (slice_get m.predicates q) k h
  where
    of_found : (found : Option Pred) → ((pred : Pred) → found ≡ Some pred → All (Leads fits (within s vs) first second) (instances_of pred.body)) → body_holds fits s first vs found ≡ Got true → body_holds fits s second vs found ≡ Got true
    of_found None k h = h
    of_found (Some pred) k h =
        ap (λ (r : Verdict). then_do r (λ miss. Got (is_none miss)))
        (judgement_follows fits pred.body first second (λ v. true) (within s vs) (k pred refl)
        (none_true (judgement fits pred.body (judged first (λ v. true)) (within s vs)) h))

-- more depth keeps what holds
pub all_of : {A : Type 0} (P : A → Type 0) → ((x : A) → P x) → (xs : List A) → All P xs
all_of P h [] = All-nil P
all_of P h (x ∷ xs) = All-cons P x xs (h x) (all_of P h xs)

pub holds_deeper : (fits : Width) (m : Module) (s : Scene) (k n q : ℕ) (vs : List Value) → k ≤ n → holds_at fits m s k q vs ≡ Got true → holds_at fits m s n q vs ≡ Got true
holds_deeper fits m s zero n q vs le h = cc
holds_deeper fits m s (suc k) zero q vs le h = absurd (omega arith)
holds_deeper fits m s (suc k) (suc n) q vs le h = body_follows fits m s (holds_at fits m s k) (holds_at fits m s n) q vs (λ pred is.
    all_of (Leads fits (within s vs) (holds_at fits m s k) (holds_at fits m s n)) (λ i ws named. holds_deeper fits m s k n (out-Instance i).pred ws (omega arith)) (instances_of pred.body)) h

-- what the reading by a path says holds
of_else : (b : Bool) (r : Res Bool) → (if b then Got false else r) ≡ Got true → r ≡ Got true
of_else true r h = cc
of_else false r h = h

pub opens_holds : (fits : Width) (m : Module) (s : Scene) (n : ℕ) (path : List Opened) (q : ℕ) (vs : List Value) → opens_within fits m s n path q vs ≡ Got true → holds_at fits m s n q vs ≡ Got true
opens_holds fits m s zero path q vs h = cc
opens_holds fits m s (suc n) path q vs h = body_follows fits m s (opens_within fits m s n ((q, vs) ∷ path)) (holds_at fits m s n) q vs (λ pred is.
    all_of (Leads fits (within s vs) (opens_within fits m s n ((q, vs) ∷ path)) (holds_at fits m s n)) (λ i ws named. opens_holds fits m s n ((q, vs) ∷ path) (out-Instance i).pred ws) (instances_of pred.body))
    (of_else (is_open path q vs) (body_holds fits s (opens_within fits m s n ((q, vs) ∷ path)) vs (slice_get m.predicates q)) h)

-- instances that are the same
both_true : (a b : Bool) → (a && b) ≡ true → (a ≡ true) × (b ≡ true)
both_true true true h = (refl, refl)
both_true true false h = cc
both_true false b h = cc

same_number : (a b : ℕ) → nat_eq a b ≡ true → a ≡ b
same_number a b h = grind (arith, nat_tests)

same_value_is : (v w : Value) → same_value v w ≡ true → v ≡ w
same_value_is (Ref r) (Ref t) h = ap (λ n. Ref n) (same_number r t h)
same_value_is Nil Nil h = refl
same_value_is v w h = cc

same_values_is : (vs ws : List Value) → same_values vs ws ≡ true → vs ≡ ws
same_values_is [] [] h = refl
same_values_is (v ∷ vs) (w ∷ ws) h =
    let parts = both_true (same_value v w) (same_values vs ws) h in
    ap (λ x. x ∷ vs) (same_value_is v w parts.0) ∙ ap (λ xs. w ∷ xs) (same_values_is vs ws parts.1)
same_values_is vs ws h = cc

abbrev pub IsNotHeld : Width → Module → Scene → ℕ → Opened → Type 0
IsNotHeld fits m s k o = holds_at fits m s k o.0 o.1 ≡ Got true → ⊥

not_true : (b : Bool) → (b ≡ true → ⊥) → b ≡ false
not_true true h = absurd (h refl)
not_true false h = refl

neither : (a b : Bool) → a ≡ false → b ≡ false → (a || b) ≡ false
neither a b x y = ap (λ z. z || b) x ∙ y

-- an instance that holds isn't one of those that don't
not_open : (fits : Width) (m : Module) (s : Scene) (k : ℕ) (path : List Opened) (q : ℕ) (vs : List Value) → All (IsNotHeld fits m s k) path → holds_at fits m s k q vs ≡ Got true → is_open path q vs ≡ false
not_open fits m s k [] q vs none h = refl
not_open fits m s k (o ∷ path) q vs none h =
    neither (nat_eq o.0 q && same_values o.1 vs) (is_open path q vs)
    (not_true (nat_eq o.0 q && same_values o.1 vs) (λ e.
    let parts = both_true (nat_eq o.0 q) (same_values o.1 vs) e in
    All-head (IsNotHeld fits m s k) o path none (ap (λ n. holds_at fits m s k n o.1) (same_number o.0 q parts.0) ∙ ap (λ xs. holds_at fits m s k q xs) (same_values_is o.1 vs parts.1) ∙ h)))
    (not_open fits m s k path q vs (All-tail (IsNotHeld fits m s k) o path none) h)

true_or_not : (r : Res Bool) → (r ≡ Got true) ⊎ (r ≡ Got true → ⊥)
true_or_not (Got true) = inl refl
true_or_not (Got false) = inr (λ e. cc)
true_or_not (Stops x) = inr (λ e. cc)

-- What holds at a depth is read by as many openings, where none of the open instances holds there: of the depths at which it holds the least one is taken, so no instance is met within itself.
pub holds_opens : (fits : Width) (m : Module) (s : Scene) (k n : ℕ) (path : List Opened) (q : ℕ) (vs : List Value) → k ≤ n → All (IsNotHeld fits m s k) path → holds_at fits m s k q vs ≡ Got true → opens_within fits m s n path q vs ≡ Got true
holds_opens fits m s zero n path q vs le none h = cc
holds_opens fits m s (suc k) zero path q vs le none h = absurd (omega arith)
holds_opens fits m s (suc k) (suc n) path q vs le none h =
    let fewer : All (IsNotHeld fits m s k) path = All-weaker (IsNotHeld fits m s (suc k)) (IsNotHeld fits m s k) (λ o never held. never (holds_deeper fits m s k (suc k) o.0 o.1 (omega arith) held)) path none in
    elim (true_or_not (holds_at fits m s k q vs)) as (λ _. opens_within fits m s (suc n) path q vs ≡ Got true) [
      | inl held ↦ holds_opens fits m s k (suc n) path q vs (omega arith) fewer held
      | inr never ↦
          ap (λ b. if b then Got false else body_holds fits s (opens_within fits m s n ((q, vs) ∷ path)) vs (slice_get m.predicates q)) (not_open fits m s (suc k) path q vs none h)
          ∙ body_follows fits m s (holds_at fits m s k) (opens_within fits m s n ((q, vs) ∷ path)) q vs (λ pred is.
          all_of (Leads fits (within s vs) (holds_at fits m s k) (opens_within fits m s n ((q, vs) ∷ path)))
          (λ i ws named. holds_opens fits m s k n ((q, vs) ∷ path) (out-Instance i).pred ws (omega arith) (All-cons (IsNotHeld fits m s k) (q, vs) path never fewer)) (instances_of pred.body)) h
    ]
