-- When an instance of a predicate holds, said by depth: never at depth 0, and at one more where the body of its predicate holds with the instances in it at the depth. It holds where it holds at some depth.
use Rattle.std.specs.Prelude.{◌≡◌, ℕ, zero, suc, ◌<◌, Bool, true, false, List, [], ◌∷◌, ◌++◌, All, length, Option, Some, None, slice_get}
use Rattle.py_syntax.specs.declared.Value.{Value}
use Rattle.py_syntax.specs.declared.Value.TheVariants.{Nil, Ref}
use Rattle.py_syntax.specs.declared.Instance.{Instance, out-Instance}
use Rattle.py_syntax.specs.declared.Assertion.{Assertion, fold-Assertion}
use Rattle.py_syntax.specs.declared.AtomForm.{AtomForm-F}
use Rattle.py_syntax.specs.declared.Pred.{Pred}
use Rattle.py_syntax.specs.declared.Module.{Module}
use Rattle.machine_model.specs.Results.{Res, Got, then_do, Width}
use Rattle.machine_model.specs.Evaluation.{Scene}
use Rattle.machine_model.specs.Reading.{values_of, judgement, within, is_none}

-- whether an instance holds, by its predicate and its arguments
abbrev pub Opens : Type 0
Opens = ℕ → List Value → Res Bool

-- whether the body of a predicate holds at these arguments, where the instances in it hold as told
abbrev pub body_holds : Width → Scene → Opens → List Value → Option Pred → Res Bool
body_holds fits s opens vs None = Got false
body_holds fits s opens vs (Some pred) = then_do (judgement fits pred.body (record { opens = opens; holds_duty = λ v. true }) (within s vs)) (λ miss. Got (is_none miss))

abbrev pub holds_at : Width → Module → Scene → ℕ → Opens
holds_at fits m s zero q vs = Got false
holds_at fits m s (suc k) q vs = body_holds fits s (holds_at fits m s k) vs (slice_get m.predicates q)

-- An instance holds.
abbrev pub Holds : Width → Module → Scene → ℕ → List Value → Type 0
Holds fits m s q vs = (k : ℕ) × (holds_at fits m s k q vs ≡ Got true)

-- the instances that an assertion names
abbrev pub joined : List (List Instance) → List Instance
joined [] = []
joined (is ∷ more) = is ++ joined more

abbrev pub atom_instances : AtomForm-F (List Instance) (List Instance) → List Instance
atom_instances (AtomForm-F.Both all) = joined all
atom_instances (AtomForm-F.When e a) = a
atom_instances (AtomForm-F.Holds i) = i ∷ []
atom_instances form = []

abbrev pub instances_of : Assertion → List Instance
instances_of = fold-Assertion (List Instance) (List Instance) atom_instances (λ a. a.form)

-- None, or a reference to one of so many objects
abbrev pub IsObject : ℕ → Value → Type 0
IsObject objects Nil = Unit {0}
IsObject objects (Ref r) = r < objects
IsObject objects v = ⊥

-- The arguments are as many as the predicate has parameters, each None or one of so many objects.
pub record Takes (m : Module) (objects q : ℕ) (vs : List Value) : Type 0 where
  pub count : (pred : Pred) → slice_get m.predicates q ≡ Some pred → length vs ≡ length pred.params
  pub are_objects : All (IsObject objects) vs

-- an instance is named with such arguments, where they are defined
abbrev pub NamesTaken : Width → Module → ℕ → Scene → Instance → Type 0
NamesTaken fits m objects s i = (vs : List Value) → values_of fits s (out-Instance i).args ≡ Got (Some vs) → Takes m objects (out-Instance i).pred vs

-- The bodies of predicates, read at such arguments, name instances with such arguments alone.
abbrev pub StaysAmongObjects : Width → Module → Scene → ℕ → Type 0
StaysAmongObjects fits m s objects = (q : ℕ) (pred : Pred) (vs : List Value) → slice_get m.predicates q ≡ Some pred → Takes m objects q vs → All (NamesTaken fits m objects (within s vs)) (instances_of pred.body)

-- a value that names none but the first so many objects
abbrev pub IsBelow : ℕ → Value → Type 0
IsBelow objects (Ref r) = r < objects
IsBelow objects v = Unit {0}

abbrev pub IsBelowIfAny : ℕ → Option Value → Type 0
IsBelowIfAny objects None = Unit {0}
IsBelowIfAny objects (Some v) = IsBelow objects v

-- The fields and the locked objects of a scene are so, now and before.
pub record IsOver (objects : ℕ) (s : Scene) : Type 0 where
  pub now : (r f : ℕ) → IsBelowIfAny objects (s.now r f)
  pub before : (r f : ℕ) → IsBelowIfAny objects (s.before r f)
  pub locked : (r : ℕ) → IsBelowIfAny objects (s.locked r)

abbrev pub IsReference : Value → Type 0
IsReference Nil = Unit {0}
IsReference (Ref r) = Unit {0}
IsReference v = ⊥

-- an instance is named with as many arguments as its predicate has parameters, each None or a reference where it is defined
pub record NamesReferences (fits : Width) (m : Module) (s : Scene) (i : Instance) : Type 0 where
  pub count : (pred : Pred) → slice_get m.predicates (out-Instance i).pred ≡ Some pred → length (out-Instance i).args ≡ length pred.params
  pub are_references : (vs : List Value) → values_of fits s (out-Instance i).args ≡ Got (Some vs) → All IsReference vs

-- The bodies of predicates, read at such arguments, name instances so.
abbrev pub BodiesNameReferences : Width → Module → Scene → ℕ → Type 0
BodiesNameReferences fits m s objects = (q : ℕ) (pred : Pred) (vs : List Value) → slice_get m.predicates q ≡ Some pred → Takes m objects q vs → All (NamesReferences fits m (within s vs)) (instances_of pred.body)
