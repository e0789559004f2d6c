-- Instances at objects hold at no depth that is greater than the room that a reading has.
use Rattle.std.specs.Prelude.{◌≡◌, ◌⊎◌, ℕ, zero, suc, ◌+◌, ◌≤◌, Bool, true, false, List, [], length, Option, Some, None, slice_get, refl}
use Rattle.std.proofs.Common.{ap, ◌∙◌, subst, inl, inr, arith}
use Rattle.std.proofs.lemmas.List.Elements.{All-nil, All-weaker}
use Rattle.py_syntax.specs.declared.Value.{Value}
use Rattle.py_syntax.specs.declared.Instance.{out-Instance}
use Rattle.py_syntax.specs.declared.Pred.{Pred}
use Rattle.py_syntax.specs.declared.Module.{Module}
use Rattle.machine_model.specs.Results.{Res, Got, Stops, Width}
use Rattle.machine_model.specs.Evaluation.{Scene}
use Rattle.machine_model.specs.Reading.{Opened, within, opens_within, room}
use Rattle.machine_laws.specs.Depths.{body_holds, holds_at, Holds, instances_of, Takes, NamesTaken, StaysAmongObjects}
use Rattle.machine_laws.specs.DepthLaws.{Leads, body_follows, holds_deeper, opens_holds, holds_opens, IsNotHeld}
use Rattle.machine_laws.specs.Counting.{In, instance, instances_from, count_instances, instance_in, passing, passing_at_most, NoMore, no_more_at, no_more_or_more}

-- a test that an instance holds at a depth
abbrev is_yes : Res Bool → Bool
is_yes (Got b) = b
is_yes (Stops h) = false

yes_is : (r : Res Bool) → is_yes r ≡ true → r ≡ Got true
yes_is (Got b) h = ap (λ x. Got x) h
yes_is (Stops x) h = cc

abbrev held_at : Width → Module → Scene → ℕ → Opened → Bool
held_at fits m s k o = is_yes (holds_at fits m s k o.0 o.1)

held_deeper : (fits : Width) (m : Module) (s : Scene) (k : ℕ) (o : Opened) → held_at fits m s k o ≡ true → held_at fits m s (suc k) o ≡ true
held_deeper fits m s k o h = ap is_yes (holds_deeper fits m s k (suc k) o.0 o.1 (omega arith) (yes_is (holds_at fits m s k o.0 o.1) h))

-- at the next depth no more of these instances hold
abbrev IsLast : Width → Module → Scene → List Opened → ℕ → Type 0
IsLast fits m s all j = NoMore (held_at fits m s j) (held_at fits m s (suc j)) all

-- at each depth either none is new at the next depth, at this or at a lower one, or as many hold
last_or_many : (fits : Width) (m : Module) (s : Scene) (all : List Opened) (k : ℕ) → ((j : ℕ) × (j ≤ k) × IsLast fits m s all j) ⊎ (k ≤ passing (held_at fits m s k) all)
last_or_many fits m s all zero = inr (omega arith)
last_or_many fits m s all (suc k) = elim (last_or_many fits m s all k) as (λ _. ((j : ℕ) × (j ≤ suc k) × IsLast fits m s all j) ⊎ (suc k ≤ passing (held_at fits m s (suc k)) all)) [
  | inl found ↦ let le : found.0 ≤ suc k = omega (arith, found.1) in inl (found.0, le, found.2)
  | inr many ↦ elim (no_more_or_more (held_at fits m s k) (held_at fits m s (suc k)) all (held_deeper fits m s k)) as (λ _. ((j : ℕ) × (j ≤ suc k) × IsLast fits m s all j) ⊎ (suc k ≤ passing (held_at fits m s (suc k)) all)) [
    | inl none ↦ let le : k ≤ suc k = omega arith in inl (k, le, none.0)
    | inr more ↦ inr (omega arith)
  ]
]

-- so there is a last depth that is no greater than one more than the number of the instances
last_depth : (fits : Width) (m : Module) (s : Scene) (all : List Opened) → (j : ℕ) × (j ≤ suc (length all)) × IsLast fits m s all j
last_depth fits m s all = elim (last_or_many fits m s all (suc (length all))) as (λ _. (j : ℕ) × (j ≤ suc (length all)) × IsLast fits m s all j) [
  | inl found ↦ found
  | inr many ↦ absurd (omega (arith, passing_at_most (held_at fits m s (suc (length all))) all))
]

abbrev all_instances : Module → ℕ → List Opened
all_instances m objects = instances_from objects 0 m.predicates

-- what holds at any depth holds at the last one
holds_by_last : (fits : Width) (m : Module) (s : Scene) (objects j : ℕ) → StaysAmongObjects fits m s objects → IsLast fits m s (all_instances m objects) j
    → (k q : ℕ) (vs : List Value) → Takes m objects q vs → holds_at fits m s k q vs ≡ Got true → holds_at fits m s j q vs ≡ Got true
holds_by_last fits m s objects j among last zero q vs takes h = cc
holds_by_last fits m s objects j among last (suc k) q vs takes h =
    let next : holds_at fits m s (suc j) q vs ≡ Got true = body_follows fits m s (holds_at fits m s k) (holds_at fits m s j) q vs (λ pred is.
    All-weaker (NamesTaken fits m objects (within s vs)) (Leads fits (within s vs) (holds_at fits m s k) (holds_at fits m s j))
    (λ i named ws values held. holds_by_last fits m s objects j among last k (out-Instance i).pred ws (named ws values) held)
    (instances_of pred.body) (among q pred vs is takes)) h in
    of_found (slice_get m.predicates q) refl next
  where
    of_found : (found : Option Pred) → slice_get m.predicates q ≡ found → body_holds fits s (holds_at fits m s j) vs found ≡ Got true → holds_at fits m s j q vs ≡ Got true
    of_found None is h = cc
    of_found (Some pred) is h =
        let listed : In (instance (0 + q) vs) (all_instances m objects) = instance_in objects 0 q m.predicates pred vs is (takes.count pred is) takes.are_objects in
        let at : 0 + q ≡ q = omega arith in
        yes_is (holds_at fits m s j q vs) (no_more_at (held_at fits m s j) (held_at fits m s (suc j)) (all_instances m objects) (instance q vs) last
        (subst (λ n. In (instance n vs) (all_instances m objects)) at listed)
        (ap is_yes (ap (λ x. body_holds fits s (holds_at fits m s j) vs x) is ∙ h)))

-- an instance that holds is read to hold within the room
pub holds_in_room : (fits : Width) (m : Module) (s : Scene) (objects q : ℕ) (vs : List Value) → StaysAmongObjects fits m s objects → Takes m objects q vs
    → Holds fits m s q vs → opens_within fits m s (room m objects) [] q vs ≡ Got true
holds_in_room fits m s objects q vs among takes held =
    let found = last_depth fits m s (all_instances m objects) in
    let le : found.0 ≤ room m objects = subst (λ n. found.0 ≤ suc n) (count_instances objects 0 m.predicates) found.1 in
    holds_opens fits m s found.0 (room m objects) [] q vs le (All-nil (IsNotHeld fits m s found.0)) (holds_by_last fits m s objects found.0 among found.2 held.0 q vs takes held.1)

-- and what is read to hold, holds
pub room_holds : (fits : Width) (m : Module) (s : Scene) (objects q : ℕ) (vs : List Value) → opens_within fits m s (room m objects) [] q vs ≡ Got true → Holds fits m s q vs
room_holds fits m s objects q vs h = (room m objects, opens_holds fits m s (room m objects) [] q vs h)
