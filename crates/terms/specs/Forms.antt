-- Linear forms of terms, over whole numbers.
use Rattle.std.specs.Prelude.{ℕ, ◌==◌, if◌then◌else◌, ℤ, pos, ◌+ℤ◌, ◌*ℤ◌, List, [], ◌∷◌, All, FitsSigned}
use Rattle.std.specs.Int.{w128}
use Rattle.lin_rows.specs.Terms.{coef_at}
use Rattle.terms.specs.declared.term.Term.{Term, Term-F, fold-Term}
use Rattle.terms.specs.declared.linear.Linear.{Linear}
use Rattle.terms.specs.Within.{terms_within}

-- a linear form: the coefficient of each number symbol, and a number of units
pub record Form : Type 0 where
  pub coefs : ℕ → ℤ
  pub units : ℤ

abbrev pub form_units : ℤ → Form
form_units z = record { coefs = λ v. pos 0; units = z }

abbrev pub form_symbol : ℕ → Form
form_symbol n = record { coefs = λ v. if v == n then pos 1 else pos 0; units = pos 0 }

abbrev pub form_sum : Form → Form → Form
form_sum f g = record { coefs = λ v. f.coefs v +ℤ g.coefs v; units = f.units +ℤ g.units }

abbrev pub form_multiple : ℤ → Form → Form
form_multiple k f = record { coefs = λ v. k *ℤ f.coefs v; units = k *ℤ f.units }

abbrev pub last_form : List Form → Form
last_form [] = form_units (pos 0)
last_form (f ∷ []) = f
last_form (f ∷ g ∷ more) = last_form (g ∷ more)

-- A literal is so many units. An application has the form of its last term. A reference has no
-- number, and counts as none.
abbrev pub form_step : Term-F Form → Form
form_step (Term-F.Sym n) = form_symbol n
form_step (Term-F.Lit z) = form_units z
form_step (Term-F.Add a b) = form_sum a b
form_step (Term-F.Scale k a) = form_multiple k a
form_step (Term-F.App operator all) = last_form all
form_step _ = form_units (pos 0)

-- the linear form of a term
abbrev pub form_of : Term → Form
form_of = fold-Term Form form_step

-- all its numbers are within 128 bits
pub record FormFits (f : Form) : Type 0 where
  pub coefs : (v : ℕ) → FitsSigned w128 (f.coefs v)
  pub units : FitsSigned w128 f.units

-- so are those of the linear form of the term, and of each term within it
pub record AllFormsFit (t : Term) : Type 0 where
  pub within : All (λ u. FormFits (form_of u)) (terms_within t)

-- the form that a list of coefficients and a number of units are
abbrev pub form_in : Linear → Form
form_in l = record { coefs = coef_at l.coefs; units = l.bound }
