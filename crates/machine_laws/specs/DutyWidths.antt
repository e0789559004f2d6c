-- What the width has to do with the duties of contracts.
use Rattle.std.specs.Prelude.{◌≡◌, List, [], ◌∷◌, map, Option, Some, None}
use Rattle.std.proofs.Common.{sym, ap, subst}
use Rattle.py_base.specs.declared.Place.{Place}
use Rattle.py_syntax.specs.declared.Expr.{Expr}
use Rattle.py_syntax.specs.declared.Assertion.{Assertion, Assertion-F, roll-Assertion, map-Assertion, fold-roll-Assertion, ind-Assertion}
use Rattle.py_syntax.specs.declared.AtomForm.{AtomForm, AtomForm-F, roll-AtomForm, map-AtomForm, fold-AtomForm, fold-roll-AtomForm}
use Rattle.machine_model.specs.Results.{Res, Width}
use Rattle.machine_model.specs.Evaluation.{Scene}
use Rattle.machine_model.specs.Reading.{is_true}
use Rattle.machine_model.specs.Heap.{number_in}
use Rattle.machine_model.specs.Duties.{Duty, Bound, Capped, reference_in, Walk, walk_all, capped, atom_walk, walk, duties_of}
use Rattle.machine_laws.specs.Computes.{IsNotWide, then_is_not, Computes, same, then_computes, computes_as, if_computes}
use Rattle.machine_laws.specs.ReadingWidths.{meaning_computes}

abbrev of_assertion : Assertion-F (Place → Walk) Walk → Walk
of_assertion a = a.form a.place

abbrev atom_walked : Width → AtomForm → Place → Walk
atom_walked fits = fold-AtomForm (Place → Walk) Walk (atom_walk fits) of_assertion

-- the tests of duties compute no number
abbrev pub AreTests : (Duty → Res (Unit {0})) → Type 0
AreTests check = (d : Duty) → IsNotWide (check d)

abbrev AtomWalks : AtomForm → Type 0
AtomWalks form = (p : Place) (check : Duty → Res (Unit {0})) → AreTests check → (s : Scene) → Computes (λ fits. atom_walked fits form p check s)

abbrev AssertionWalks : Assertion → Type 0
AssertionWalks a = (check : Duty → Res (Unit {0})) → AreTests check → (s : Scene) → Computes (λ fits. walk fits a check s)

abbrev Atoms : Type 0
Atoms = (form : AtomForm) × AtomWalks form

abbrev Assertions : Type 0
Assertions = (a : Assertion) × AssertionWalks a

abbrev plain_atom : AtomForm-F Atoms Assertions → AtomForm-F AtomForm Assertion
plain_atom y = map-AtomForm Atoms Assertions AtomForm Assertion (λ e. e.0) (λ e. e.0) y

abbrev plain_assertion : Assertion-F Atoms Assertions → Assertion-F AtomForm Assertion
plain_assertion y = map-Assertion Atoms Assertions AtomForm Assertion (λ e. e.0) (λ e. e.0) y

abbrev layer_walked : Width → AtomForm-F AtomForm Assertion → Place → Walk
layer_walked fits x = atom_walk fits (map-AtomForm AtomForm Assertion (Place → Walk) Walk (atom_walked fits) (walk fits) x)

all_computes : (all : List Assertions) (check : Duty → Res (Unit {0})) → AreTests check → (s : Scene) → Computes (λ fits. walk_all (map (walk fits) (map (λ (a : Assertions). a.0) all)) check s)
all_computes [] check n s = same _ tt
all_computes (a ∷ more) check n s = then_computes _ _ (a.1 check n s) (λ ds. then_computes _ _ (all_computes more check n s) (λ es. same _ tt))

capped_computes : (check : Duty → Res (Unit {0})) → AreTests check → (s : Scene) (p : Place) (l : Expr) (e : Option Expr) → Computes (λ fits. capped fits check s p l e)
capped_computes check n s p l None = same _ tt
capped_computes check n s p l (Some e) = then_computes _ _ (meaning_computes l s) (λ v. then_computes _ _ (meaning_computes e s) (λ z. same _ (then_is_not (check (Capped p (reference_in v) (number_in z))) _ (n _) (λ x. tt))))

atom_computes : (y : AtomForm-F Atoms Assertions) (p : Place) (check : Duty → Res (Unit {0})) → AreTests check → (s : Scene) → Computes (λ fits. layer_walked fits (plain_atom y) p check s)
atom_computes (AtomForm-F.Both all) p check n s = all_computes all check n s
atom_computes (AtomForm-F.When e a) p check n s = then_computes _ _ (meaning_computes e s) (λ v. if_computes (is_true v) _ _ (a.1 check n s) (same _ tt))
atom_computes (AtomForm-F.AccOf e f units) p check n s = same _ tt
atom_computes (AtomForm-F.Holds i) p check n s = same _ tt
atom_computes (AtomForm-F.Terminates e) p check n s = then_computes _ _ (meaning_computes e s) (λ z. same _ (then_is_not (check (Bound p (number_in z))) _ (n _) (λ x. tt)))
atom_computes (AtomForm-F.Releases l e) p check n s = capped_computes check n s p l e
atom_computes (AtomForm-F.Joins e f all) p check n s = same _ tt
atom_computes (AtomForm-F.WaitBelow e) p check n s = same _ tt
atom_computes (AtomForm-F.True e) p check n s = same _ tt

atom_walks : (x : AtomForm-F AtomForm Assertion) (y : AtomForm-F Atoms Assertions) → plain_atom y ≡ x → AtomWalks (roll-AtomForm x)
atom_walks x y is = subst (λ z. AtomWalks (roll-AtomForm z)) is (λ p check n s.
    computes_as (λ fits. layer_walked fits (plain_atom y) p check s) (λ fits. atom_walked fits (roll-AtomForm (plain_atom y)) p check s)
    (λ fits. sym (ap (λ k. k p check s) (fold-roll-AtomForm (Place → Walk) Walk (atom_walk fits) of_assertion (plain_atom y))))
    (atom_computes y p check n s))

assertion_walks : (x : Assertion-F AtomForm Assertion) (y : Assertion-F Atoms Assertions) → plain_assertion y ≡ x → AssertionWalks (roll-Assertion x)
assertion_walks x y is = subst (λ z. AssertionWalks (roll-Assertion z)) is (λ check n s.
    computes_as (λ fits. atom_walked fits (y.form).0 y.place check s) (λ fits. walk fits (roll-Assertion (plain_assertion y)) check s)
    (λ fits. sym (ap (λ k. k check s) (fold-roll-Assertion (Place → Walk) Walk (atom_walk fits) of_assertion (plain_assertion y))))
    ((y.form).1 y.place check n s))

walk_computes : (a : Assertion) → AssertionWalks a
walk_computes = ind-Assertion AtomWalks AssertionWalks atom_walks assertion_walks

pub duties_compute : (all : List Assertion) (check : Duty → Res (Unit {0})) → AreTests check → (s : Scene) → Computes (λ fits. duties_of fits all check s)
duties_compute [] check n s = same _ tt
duties_compute (a ∷ more) check n s = then_computes _ _ (walk_computes a check n s) (λ ds. then_computes _ _ (duties_compute more check n s) (λ es. same _ tt))
