-- The measures and caps that a contract names where its conditions are true (after Boström and Müller, "Modular Verification of Finite Blocking in Non-terminating Programs"): `MustTerminate(e)` bounds a method or a loop by e, and `MustRelease(l, e)` in a precondition gives the method e as its cap for the lock l.
use Rattle.std.specs.Prelude.{ℕ, ℤ, pos, Bool, true, false, List, [], ◌∷◌, ◌++◌, map, Option, Some, None, nat_eq, int_le, int_lt, if◌then◌else◌}
use Rattle.std.specs.List.{list_any}
use Rattle.std.specs.Option.{option_map_or}
use Rattle.py_base.specs.declared.Place.{Place}
use Rattle.py_base.specs.declared.Kind.TheVariants as kind
use Rattle.py_syntax.specs.declared.Value.{Value}
use Rattle.py_syntax.specs.declared.Value.TheVariants.{Ref}
use Rattle.py_syntax.specs.declared.Expr.{Expr}
use Rattle.py_syntax.specs.declared.Assertion.{Assertion, fold-Assertion}
use Rattle.py_syntax.specs.declared.AtomForm.{AtomForm-F}
use Rattle.machine_model.specs.Results.{Res, Got, then_do, tested, Width}
use Rattle.machine_model.specs.Evaluation.{Scene, meaning}
use Rattle.machine_model.specs.Reading.{is_true}
use Rattle.machine_model.specs.Heap.{number_in}

-- what an atom names: a measure, or a cap for a lock; a number that isn't defined is none
pub data Duty : Type 0 where
  Bound : Place → Option ℤ → Duty
  Capped : Place → Option ℕ → Option ℤ → Duty

abbrev pub reference_in : Option Value → Option ℕ
reference_in (Some (Ref r)) = Some r
reference_in v = None

-- each duty is tested when its number is read, in the order of the text
abbrev pub Walk : Type 0
Walk = (Duty → Res (Unit {0})) → Scene → Res (List Duty)

abbrev pub no_duty : Res (List Duty)
no_duty = Got []

abbrev pub one_duty : (Duty → Res (Unit {0})) → Duty → Res (List Duty)
one_duty check d = then_do (check d) (λ _. Got (d ∷ []))

abbrev pub walk_all : List Walk → Walk
walk_all [] check s = no_duty
walk_all (a ∷ more) check s = then_do (a check s) (λ ds. then_do (walk_all more check s) (λ es. Got (ds ++ es)))

abbrev pub capped : Width → (Duty → Res (Unit {0})) → Scene → Place → Expr → Option Expr → Res (List Duty)
capped fits check s p l None = no_duty
capped fits check s p l (Some e) =
    then_do (meaning fits l s) (λ v. then_do (meaning fits e s) (λ n. one_duty check (Capped p (reference_in v) (number_in n))))

abbrev pub atom_walk : Width → AtomForm-F (Place → Walk) Walk → Place → Walk
atom_walk fits (AtomForm-F.Both all) p check s = walk_all all check s
atom_walk fits (AtomForm-F.When e a) p check s = then_do (meaning fits e s) (λ v. if is_true v then a check s else no_duty)
atom_walk fits (AtomForm-F.AccOf e f units) p check s = no_duty
atom_walk fits (AtomForm-F.Holds i) p check s = no_duty
atom_walk fits (AtomForm-F.Terminates e) p check s = then_do (meaning fits e s) (λ n. one_duty check (Bound p (number_in n)))
atom_walk fits (AtomForm-F.Releases l e) p check s = capped fits check s p l e
atom_walk fits (AtomForm-F.Joins e f all) p check s = no_duty
atom_walk fits (AtomForm-F.WaitBelow e) p check s = no_duty
atom_walk fits (AtomForm-F.True e) p check s = no_duty

abbrev pub walk : Width → Assertion → Walk
walk fits = fold-Assertion (Place → Walk) Walk (atom_walk fits) (λ a. a.form a.place)

-- the duties of assertions one after another
abbrev pub duties_of : Width → List Assertion → Walk
duties_of fits all check s = walk_all (map (walk fits) all) check s

abbrev pub is_bound : Duty → Bool
is_bound (Bound p n) = true
is_bound (Capped p l n) = false

-- whether a measure is among them
abbrev pub has_bound : List Duty → Bool
has_bound = list_any is_bound

abbrev pub names_lock : ℕ → Duty → Bool
names_lock r (Bound p n) = false
names_lock r (Capped p l n) = option_map_or (nat_eq r) l false

-- the first measure among them
abbrev pub measure_of : List Duty → Option ℤ
measure_of [] = None
measure_of (Bound p n ∷ ds) = n
measure_of (Capped p l n ∷ ds) = measure_of ds

-- the cap for a lock in a list of caps
abbrev pub cap_for : ℕ → List (ℕ × ℤ) → Option ℤ
cap_for r [] = None
cap_for r (c ∷ cs) = if nat_eq c.0 r then Some c.1 else cap_for r cs

-- a list of caps with one more; of two caps for one lock the lower holds
abbrev pub with_cap : ℕ → ℤ → List (ℕ × ℤ) → List (ℕ × ℤ)
with_cap r z [] = (r, z) ∷ []
with_cap r z (c ∷ cs) = if nat_eq c.0 r then (r, (if int_lt z c.1 then z else c.1)) ∷ cs else c ∷ with_cap r z cs

abbrev pub with_duty : Duty → List (ℕ × ℤ) → List (ℕ × ℤ)
with_duty (Bound p n) caps = caps
with_duty (Capped p (Some r) (Some z)) caps = with_cap r z caps
with_duty (Capped p (Some r) None) caps = caps
with_duty (Capped p None n) caps = caps

-- the caps that a list of duties gives, a lock that stands first standing first
abbrev pub caps_from : List (ℕ × ℤ) → List Duty → List (ℕ × ℤ)
caps_from caps [] = caps
caps_from caps (d ∷ ds) = caps_from (with_duty d caps) ds

abbrev pub caps_of : List Duty → List (ℕ × ℤ)
caps_of = caps_from []

-- at least 0, and below the bound, if there is one
abbrev pub is_lower : Option ℤ → Option ℤ → Bool
is_lower bound None = false
is_lower None (Some z) = int_le (pos 0) z
is_lower (Some n) (Some z) = if int_le (pos 0) z then int_lt z n else false

-- The test of a duty, seen from a method with this measure and these caps: its number is at least 0, a measure is below the method's, and a cap is below the method's cap for that lock.
abbrev pub lower_than : (Place → Place) → Option ℤ → List (ℕ × ℤ) → Duty → Res (Unit {0})
lower_than at measure caps (Bound p n) = tested kind.Measure (at p) (is_lower measure n)
lower_than at measure caps (Capped p None n) = tested kind.Measure (at p) (is_lower None n)
lower_than at measure caps (Capped p (Some r) n) = tested kind.Measure (at p) (is_lower (cap_for r caps) n)
