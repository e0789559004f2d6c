-- Terms of numbers, terms of references, and sorted literals.
use Rattle.std.specs.Prelude.{Bool, true, false, ◌&&◌, ◌||◌, List, [], ◌∷◌}
use Rattle.terms.specs.declared.term.Term.{Term, Term-F, fold-Term, out-Term}
use Rattle.terms.specs.declared.literal.Literal.{Literal}
use Rattle.terms.specs.declared.literal.Literal.TheVariants as lit

abbrev pub every : List Bool → Bool
every [] = true
every (b ∷ bs) = b && every bs

-- there is at least one, and each is true
abbrev pub some_and_every : List Bool → Bool
some_and_every [] = false
some_and_every (b ∷ bs) = b && every bs

abbrev pub number_step : Term-F Bool → Bool
number_step (Term-F.Sym n) = true
number_step (Term-F.Lit z) = true
number_step (Term-F.Add a b) = a && b
number_step (Term-F.Scale k a) = a
number_step (Term-F.App operator all) = some_and_every all
number_step _ = false

-- A term is of numbers where it is a symbol or literal of numbers, or made of terms of numbers; an
-- application is made of at least one.
abbrev pub of_numbers : Term → Bool
of_numbers = fold-Term Bool number_step

abbrev pub reference_form : Term-F Term → Bool
reference_form (Term-F.RefSym n) = true
reference_form (Term-F.RefLit n) = true
reference_form Term-F.Nil = true
reference_form _ = false

-- a term is of references where it is a symbol or literal of references, or None
abbrev pub of_references : Term → Bool
of_references t = reference_form (out-Term t)

-- both sides are of numbers, or both of references
abbrev pub of_one_sort : Term → Term → Bool
of_one_sort a b = of_numbers a && of_numbers b || of_references a && of_references b

-- An order compares numbers, an equality or its opposite two terms of one sort.
abbrev pub sorted : Literal → Bool
sorted (lit.AtMost a b) = of_numbers a && of_numbers b
sorted (lit.Same a b) = of_one_sort a b
sorted (lit.Apart a b) = of_one_sort a b
sorted (lit.Flag n held) = true
