-- Worked cases of the definitions: the faults of small trees, with their places.
use Rattle.std.proofs.Common.{◌≡◌, refl, ℕ, List, [], ◌∷◌, Option, Some, None, codes}
use Rattle.py_base.specs.declared.Place.{Place}
use Rattle.raw_syntax.specs.declared.RawStmt.{RawStmt}
use Rattle.raw_syntax.specs.declared.RawTy.{RawTy}
use Rattle.raw_syntax.specs.declared.RawFunc.{RawFunc}
use Rattle.raw_syntax.specs.declared.RawItem.{RawItem}
use Rattle.raw_syntax.specs.declared.RawItem.TheVariants as items
use Rattle.raw_syntax.specs.declared.Raw.{Raw}
use Rattle.class_table.specs.declared.fault.ClassFault.TheVariants as faults
use Rattle.class_table.specs.Faults.{faults_of}

abbrev tree : List RawItem → Place → Raw
tree xs p = record { items = xs; «end» = p }

abbrev class_of : List ℕ → Place → Option RawTy → List RawFunc → RawItem
class_of name p base members = items.Class (record { place = p; name = name; base = base; members = members })

abbrev alone : List ℕ → Place → RawTy
alone head p = record { place = p; head = head; inner = None }

abbrev method : List ℕ → Place → List RawStmt → RawFunc
method name p body = record { place = p; marks = []; name = name; params = record { place = p; name = codes "self"; ty = None } ∷ []; ret = alone (codes "None") p; body = body }

abbrev function : List ℕ → Place → RawItem
function name p = items.Func (record { place = p; marks = []; name = name; params = []; ret = alone (codes "None") p; body = [] })

-- a text without functions has no `main`
no_main : (e : Place) → faults_of (tree [] e) ≡ faults.NoMain e ∷ []
no_main e = refl

-- a text with `main` alone has no fault
main_alone : (p e : Place) → faults_of (tree (function (codes "main") p ∷ []) e) ≡ []
main_alone p e = refl

-- a name twice
twice : (p q r e : Place) → faults_of (tree (function (codes "main") p ∷ function (codes "f") q ∷ function (codes "f") r ∷ []) e) ≡ faults.DuplicateName r ∷ []
twice p q r e = refl

-- a base that stands nowhere, that is the class itself, and that stands later
unknown_base : (p q r e : Place) → faults_of (tree (function (codes "main") p ∷ class_of (codes "A") q (Some (alone (codes "C") r)) [] ∷ []) e) ≡ faults.UnknownBase r ∷ []
unknown_base p q r e = refl

base_itself : (p q r e : Place) → faults_of (tree (function (codes "main") p ∷ class_of (codes "A") q (Some (alone (codes "A") r)) [] ∷ []) e) ≡ faults.BaseCycle r ∷ []
base_itself p q r e = refl

later_base : (p q r e : Place) → faults_of (tree (function (codes "main") p ∷ class_of (codes "A") q (Some (alone (codes "B") r)) [] ∷ class_of (codes "B") e None [] ∷ []) e) ≡ faults.BaseCycle r ∷ []
later_base p q r e = refl

-- a class of locks without its member, and one as a base that stands later
bare_lock : (p q r e : Place) → faults_of (tree (function (codes "main") p ∷ class_of (codes "L") q (Some (record { place = r; head = codes "Lock"; inner = Some (codes "L") })) [] ∷ []) e) ≡ faults.BadInit q ∷ []
bare_lock p q r e = refl

later_lock : (p q r e : Place) → faults_of (tree (function (codes "main") p ∷ class_of (codes "A") q (Some (alone (codes "L") q)) [] ∷ class_of (codes "L") q (Some (record { place = r; head = codes "Lock"; inner = Some (codes "A") })) [] ∷ []) e) ≡ faults.UnknownBase q ∷ faults.BadInit q ∷ []
later_lock p q r e = refl

-- a method of a base again is no fault
method_again : (p q r e : Place) → faults_of (tree (function (codes "main") p ∷ class_of (codes "A") p None (method (codes "f") p [] ∷ []) ∷ class_of (codes "B") q (Some (alone (codes "A") q)) (method (codes "f") r [] ∷ []) ∷ []) e) ≡ []
method_again p q r e = refl
