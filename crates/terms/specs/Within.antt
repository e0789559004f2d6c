-- The terms within a term.
use Rattle.std.specs.Prelude.{List, [], ◌∷◌, ◌++◌}
use Rattle.terms.specs.declared.term.Term.{Term, Term-F, map-Term, roll-Term, para-Term}

abbrev pub joined : List (List Term) → List Term
joined [] = []
joined (ts ∷ more) = ts ++ joined more

abbrev pub parts_of : Term-F (List Term) → List Term
parts_of (Term-F.Add a b) = a ++ b
parts_of (Term-F.Scale k a) = a
parts_of (Term-F.App operator all) = joined all
parts_of _ = []

abbrev pub within_step : Term-F (Term × List Term) → List Term
within_step x = roll-Term (map-Term (Term × List Term) Term (λ e. e.0) x) ∷ parts_of (map-Term (Term × List Term) (List Term) (λ e. e.1) x)

-- the term itself and those within it, from the outside in and from left to right
abbrev pub terms_within : Term → List Term
terms_within = para-Term (List Term) within_step
