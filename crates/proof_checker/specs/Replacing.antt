-- One term put for another.
use Rattle.std.specs.Prelude.{if◌then◌else◌}
use Rattle.terms.specs.declared.Term.{Term, Term-F, para-Term, map-Term, roll-Term}
use Rattle.terms.specs.Sameness.{same_term}
use Rattle.terms.specs.declared.Literal.{Literal}
use Rattle.terms.specs.declared.Literal.TheVariants as lit

abbrev pub put_step : Term → Term → Term-F (Term × Term) → Term
put_step from to x =
    if same_term (roll-Term (map-Term (Term × Term) Term (λ e. e.0) x)) from then to else roll-Term (map-Term (Term × Term) Term (λ e. e.1) x)

-- `to` put everywhere for `from`
abbrev pub put : Term → Term → Term → Term
put from to = para-Term Term (put_step from to)

abbrev pub put_in : Term → Term → Literal → Literal
put_in from to (lit.AtMost a b) = lit.AtMost (put from to a) (put from to b)
put_in from to (lit.Same a b) = lit.Same (put from to a) (put from to b)
put_in from to (lit.Apart a b) = lit.Apart (put from to a) (put from to b)
put_in from to (lit.Flag n held) = lit.Flag n held
