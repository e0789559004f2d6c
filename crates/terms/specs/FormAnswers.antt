-- What the parts of `normal` answer.
use Rattle.std.specs.Prelude.{◌≡◌, ℤ, ◌+ℤ◌, ◌*ℤ◌, Result, Ok, Err}
use Rattle.lin_rows.specs.declared.Row.{Row}
use Rattle.lin_rows.specs.declared.RowFault.{RowFault}
use Rattle.lin_rows.specs.declared.RowFault.TheVariants.{Wide}
use Rattle.lin_rows.specs.Terms.{coef_at}
use Rattle.terms.specs.declared.linear.Linear.{Linear}
use Rattle.terms.specs.Forms.{Form, FormFits, form_in, form_sum, form_multiple}

-- the form with the numbers of a row
abbrev pub linear_in : Row → Linear
linear_in r = record { coefs = r.coefs; bound = r.bound }

-- the row with the numbers of a form
abbrev pub row_in : Linear → Row
row_in l = record { coefs = l.coefs; bound = l.bound }

-- the form `f` where what it wants fits, or a number outside 128 bits where it doesn't
abbrev pub Answers : Form → Type 0 → Result Linear RowFault → Type 0
Answers f Fits (Ok l) = (form_in l ≡ f) × Fits
Answers f Fits (Err e) = e ≡ Wide → ¬ Fits

-- two forms and their sum fit
abbrev pub SumFits : Form → Form → Type 0
SumFits f g = FormFits f × FormFits g × FormFits (form_sum f g)

-- the sum of two forms, or the first fault
abbrev pub AnswersSum : Result Linear RowFault → Result Linear RowFault → Result Linear RowFault → Type 0
AnswersSum (Ok l) (Ok m) r = Answers (form_sum (form_in l) (form_in m)) (SumFits (form_in l) (form_in m)) r
AnswersSum (Ok l) (Err e) r = r ≡ Err e
AnswersSum (Err e) m r = r ≡ Err e

-- a multiple of a form, or the fault
abbrev pub AnswersMultiple : ℤ → Result Linear RowFault → Result Linear RowFault → Type 0
AnswersMultiple k (Ok l) r = Answers (form_multiple k (form_in l)) (FormFits (form_multiple k (form_in l))) r
AnswersMultiple k (Err e) r = r ≡ Err e

-- the numbers of a row
abbrev pub form_row : Row → Form
form_row r = record { coefs = coef_at r.coefs; units = r.bound }

-- a sum by two multipliers
abbrev pub form_mix : ℤ → Form → ℤ → Form → Form
form_mix k f l g = record { coefs = λ v. k *ℤ f.coefs v +ℤ l *ℤ g.coefs v; units = k *ℤ f.units +ℤ l *ℤ g.units }
