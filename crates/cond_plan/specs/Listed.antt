-- What the lists of comparisons and applications are made of.
use Rattle.std.specs.Prelude.{◌≡◌, ℕ, ◌+◌, ◌==◌, ◌&&◌, if◌then◌else◌, List, [], ◌∷◌, ◌++◌, Option, Some, None, slice_get}
use Rattle.terms.specs.declared.Term.{Term}
use Rattle.terms.specs.declared.Literal.{Literal}
use Rattle.terms.specs.Fitting.{sides_of}
use Rattle.terms.specs.Sorts.{of_numbers}
use Rattle.proof_checker.specs.Derivations.{StandsIn}
use Rattle.cond_plan.specs.declared.plan.Comparison.{Comparison}
use Rattle.cond_plan.specs.declared.plan.Applied.{Applied}

-- the term stands in the literal of a number
abbrev pub StandsAt : List Literal → ℕ → Term → Type 0
StandsAt ls n t = (l : Literal) × (slice_get ls n ≡ Some l) × StandsIn t l

abbrev pub comparison : ℕ → Term → Term → Comparison
comparison n a b = record { left = a; right = b; place = n }

abbrev pub of_pair : ℕ → Option (Term × Term) → List Comparison
of_pair n None = []
of_pair n (Some (a, b)) = if of_numbers a && of_numbers b then comparison n a b ∷ [] else []

-- the sides of the literal of a number, where they are of numbers
abbrev pub of_sides : ℕ → Literal → List Comparison
of_sides n l = of_pair n (sides_of l)

-- the sides of literals, by the number of the first of them
abbrev pub of_literals : ℕ → List Literal → List Comparison
of_literals n [] = []
of_literals n (l ∷ ls) = of_sides n l ++ of_literals (n + 1) ls

-- operands, place by place
abbrev pub of_operands : ℕ → List Term → List Term → List Comparison
of_operands n (a ∷ as_) (b ∷ bs) = comparison n a b ∷ of_operands n as_ bs
of_operands n as_ bs = []

-- the operands of two applications, where they are of one operator
abbrev pub of_two : Applied → Applied → List Comparison
of_two f g = if f.operator == g.operator then of_operands f.place f.operands g.operands else []

abbrev pub of_others : Applied → List Applied → List Comparison
of_others f [] = []
of_others f (g ∷ gs) = of_two f g ++ of_others f gs

-- the operands of each application and those after it
abbrev pub of_applications : List Applied → List Comparison
of_applications [] = []
of_applications (f ∷ fs) = of_others f fs ++ of_applications fs
