-- Whether literals have terms whose linear forms are too wide.
use Rattle.std.specs.Prelude.{◌≡◌, ℕ, Bool, true, false, List, All, Contains, Some, slice_get}
use Rattle.terms.specs.declared.Term.{Term}
use Rattle.terms.specs.declared.Literal.{Literal}
use Rattle.terms.specs.Fitting.{sides_of, within_sides}
use Rattle.terms.specs.Forms.{FormFits, form_of}

-- a term in the list has a linear form with a number outside 128 bits, or none has
abbrev pub AreTermsTold : List Term → Bool → Type 0
AreTermsTold ts true = (t : Term) × Contains ts t × ¬ (FormFits (form_of t))
AreTermsTold ts false = All (λ t. FormFits (form_of t)) ts

-- so is it for the terms of a literal
abbrev pub IsLiteralTold : Bool → Literal → Type 0
IsLiteralTold b l = AreTermsTold (within_sides (sides_of l)) b

-- the literal in a place has such a term
abbrev pub IsWidePlace : List Literal → ℕ → Type 0
IsWidePlace ls n = (l : Literal) × (slice_get ls n ≡ Some l) × IsLiteralTold true l
