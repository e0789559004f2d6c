-- Tests of literals and of the classes of their terms for a clash.
use Rattle.std.specs.Prelude.{ℕ, ◌==◌, Bool, true, false, not, ◌&&◌, ◌||◌, List, Option, Some, None}
use Rattle.std.specs.List.{list_any}
use Rattle.terms.specs.declared.Term.{Term}
use Rattle.terms.specs.declared.Literal.{Literal}
use Rattle.terms.specs.declared.Literal.TheVariants as lit
use Rattle.ref_solver.specs.Classes.{together}
use Rattle.ref_solver.specs.Clashing.{reference_number}

-- the literal says that two terms differ, which are equal
abbrev pub denies : List (List Term) → Literal → Bool
denies cs (lit.Apart a b) = together cs a b
denies cs l = false

abbrev pub differ : Option ℕ → Option ℕ → Bool
differ (Some m) (Some n) = not (m == n)
differ x y = false

-- both are references known by their numbers, and these differ
abbrev pub other_numbers : Term → Term → Bool
other_numbers s t = differ (reference_number s) (reference_number t)

abbrev pub has_other : List Term → Term → Bool
has_other c s = list_any (other_numbers s) c

abbrev pub mixes : List Term → Bool
mixes c = list_any (has_other c) c

abbrev pub is_false : ℕ → Literal → Bool
is_false n (lit.Flag m held) = n == m && not held
is_false n l = false

-- the literal says that a flag is true, which another says to be false
abbrev pub is_opposed : List Literal → Literal → Bool
is_opposed ls (lit.Flag n held) = held && list_any (is_false n) ls
is_opposed ls l = false

-- literals with these classes clash
abbrev pub are_opposed : List Literal → List (List Term) → Bool
are_opposed ls cs = list_any (denies cs) ls || (list_any mixes cs || list_any (is_opposed ls) ls)
