-- The truth of an assertion in a run, read from left to right up to the first atom that doesn't hold. Permissions are no part of a run: `Acc` asks for an object with the field alone, and the atoms of obligations and waits read true. A predicate that is met within itself doesn't hold.
use Rattle.std.specs.Prelude.{ℕ, zero, suc, ◌^◌, Bool, true, false, ◌&&◌, List, [], ◌∷◌, map, length, sum, Option, Some, None, slice_get, nat_eq, if◌then◌else◌}
use Rattle.std.specs.List.{list_any}
use Rattle.std.specs.Option.{option_map, option_map_or}
use Rattle.py_base.specs.declared.Place.{Place}
use Rattle.py_syntax.specs.declared.Value.{Value}
use Rattle.py_syntax.specs.declared.Value.TheVariants.{Truth, Nil, Ref}
use Rattle.py_syntax.specs.declared.Expr.{Expr}
use Rattle.py_syntax.specs.declared.Instance.{out-Instance}
use Rattle.py_syntax.specs.declared.Assertion.{Assertion, fold-Assertion}
use Rattle.py_syntax.specs.declared.AtomForm.{AtomForm-F}
use Rattle.py_syntax.specs.declared.Pred.{Pred}
use Rattle.py_syntax.specs.declared.Module.{Module}
use Rattle.machine_model.specs.Results.{Res, Got, then_do, Width}
use Rattle.machine_model.specs.Evaluation.{Scene, meaning}

-- an atom that doesn't hold: an expression is false, or a duty is named for a lock that isn't held
pub data Miss : Type 0 where
  Untrue : Place → Miss
  Unheld : Place → Miss

-- the first atom that doesn't hold, if there is one
abbrev pub Verdict : Type 0
Verdict = Res (Option Miss)

abbrev pub holds : Verdict
holds = Got None

abbrev pub fails_at : Place → Verdict
fails_at p = Got (Some (Untrue p))

-- the first of two verdicts, where it doesn't hold, and else the second
abbrev pub and_then : Option Miss → Verdict → Verdict
and_then None next = next
and_then (Some miss) next = Got (Some miss)

-- What reading an assertion asks for besides its scene: whether an instance holds, and whether a duty is held.
pub record Judge : Type 0 where
  pub opens : ℕ → List Value → Res Bool
  pub holds_duty : Option Value → Bool

abbrev pub Judgement : Type 0
Judgement = Judge → Scene → Verdict

-- an expression is true; where it isn't defined it is false
abbrev pub is_true : Option Value → Bool
is_true (Some (Truth b)) = b
is_true v = false

abbrev pub has_field : Scene → ℕ → Option Value → Bool
has_field s f (Some (Ref r)) = option_map_or (λ v. true) (s.now r f) false
has_field s f v = false

-- the values of arguments; none where one of them isn't defined
abbrev pub values_of : Width → Scene → List Expr → Res (Option (List Value))
values_of fits s [] = Got (Some [])
values_of fits s (e ∷ es) = then_do (meaning fits e s) (λ v. elim v as (λ _. Res (Option (List Value))) [
  | None ↦ Got None
  | Some w ↦ then_do (values_of fits s es) (λ ws. Got (option_map (λ (vs : List Value). w ∷ vs) ws))
])

abbrev pub verdict_if : Place → Bool → Verdict
verdict_if p b = if b then holds else fails_at p

-- all of these hold, read in turn
abbrev pub all_hold : List Judgement → Judgement
all_hold [] j s = holds
all_hold (a ∷ more) j s = then_do (a j s) (λ miss. and_then miss (all_hold more j s))

abbrev pub opened_at : Judge → Place → ℕ → Option (List Value) → Verdict
opened_at j p q None = fails_at p
opened_at j p q (Some vs) = then_do (j.opens q vs) (verdict_if p)

abbrev pub atom_judgement : Width → AtomForm-F (Place → Judgement) Judgement → Place → Judgement
atom_judgement fits (AtomForm-F.Both all) p j s = all_hold all j s
atom_judgement fits (AtomForm-F.When e a) p j s = then_do (meaning fits e s) (λ v. if is_true v then a j s else holds)
atom_judgement fits (AtomForm-F.AccOf e f units) p j s = then_do (meaning fits e s) (λ v. verdict_if p (has_field s f v))
atom_judgement fits (AtomForm-F.Holds i) p j s = then_do (values_of fits s (out-Instance i).args) (opened_at j p (out-Instance i).pred)
atom_judgement fits (AtomForm-F.Terminates e) p j s = holds
atom_judgement fits (AtomForm-F.Releases e level) p j s = then_do (meaning fits e s) (λ v. if j.holds_duty v then holds else Got (Some (Unheld p)))
atom_judgement fits (AtomForm-F.Joins e f all) p j s = holds
atom_judgement fits (AtomForm-F.WaitBelow e) p j s = holds
atom_judgement fits (AtomForm-F.True e) p j s = then_do (meaning fits e s) (λ v. verdict_if p (is_true v))

abbrev pub judgement : Width → Assertion → Judgement
judgement fits = fold-Assertion (Place → Judgement) Judgement (atom_judgement fits) (λ a. a.form a.place)

-- an instance, by its predicate and its arguments
abbrev pub Opened : Type 0
Opened = ℕ × List Value

abbrev pub same_value : Value → Value → Bool
same_value (Ref r) (Ref s) = nat_eq r s
same_value Nil Nil = true
same_value v w = false

abbrev pub same_values : List Value → List Value → Bool
same_values [] [] = true
same_values (v ∷ vs) (w ∷ ws) = same_value v w && same_values vs ws
same_values vs ws = false

abbrev pub is_open : List Opened → ℕ → List Value → Bool
is_open path q vs = list_any (λ (o : Opened). nat_eq o.0 q && same_values o.1 vs) path

-- what the body of a predicate is read in: its arguments, and the fields as they are
abbrev pub within : Scene → List Value → Scene
within s vs = record s { store = map (λ v. Some v) vs; answer = None }

abbrev pub is_none : {A : Type 0} → Option A → Bool
is_none None = true
is_none (Some x) = false

-- Whether an instance holds by at most so many openings within one another, where those of the path are open.
abbrev pub opens_within : Width → Module → Scene → ℕ → List Opened → ℕ → List Value → Res Bool
opens_within fits m s zero path q vs = Got false
opens_within fits m s (suc n) path q vs =
    if is_open path q vs then Got false else
    elim (slice_get m.predicates q) as (λ _. Res Bool) [
      | None ↦ Got false
      | Some pred ↦ then_do (judgement fits pred.body (record { opens = opens_within fits m s n ((q, vs) ∷ path); holds_duty = λ v. true }) (within s vs)) (λ miss. Got (is_none miss))
    ]

-- no more instances than these can be open within one another on a heap of so many objects
abbrev pub room : Module → ℕ → ℕ
room m objects = suc (sum (map (λ (p : Pred). suc objects ^ length p.params) m.predicates))

-- how a contract is read over a heap of so many objects: the first atom that doesn't hold, where a duty is held as told
abbrev pub read_assertion : Width → Module → ℕ → (Option Value → Bool) → Scene → Assertion → Verdict
read_assertion fits m objects held s a = judgement fits a (record { opens = opens_within fits m s (room m objects) []; holds_duty = held }) s

-- assertions one after another
abbrev pub read_assertions : Width → Module → ℕ → (Option Value → Bool) → Scene → List Assertion → Verdict
read_assertions fits m objects held s [] = holds
read_assertions fits m objects held s (a ∷ more) = then_do (read_assertion fits m objects held s a) (λ miss. and_then miss (read_assertions fits m objects held s more))
