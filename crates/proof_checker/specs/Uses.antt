-- The applications that stand in a condition, in the order in which they stand.
use Rattle.std.specs.Prelude.{◌≡◌, ℕ, ◌+◌, Bool, true, false, not, if◌then◌else◌, List, [], ◌∷◌, ◌++◌, map, length, take, get_or, Option, Some, None, slice_get}
use Rattle.terms.specs.declared.Term.{Term, Term-F, map-Term, out-Term}
use Rattle.terms.specs.declared.Literal.{Literal}
use Rattle.terms.specs.declared.Literal.TheVariants as lit
use Rattle.terms.specs.Fitting.{Application, sides_of, within_sides, terms_in}
use Rattle.terms.specs.Within.{terms_within, joined, parts_of}
use Rattle.proof_checker.specs.declared.condition.Condition.{Condition}
use Rattle.proof_checker.specs.declared.walk.Use.{Use}
use Rattle.proof_checker.specs.declared.walk.Before.{Before, fold-Before}
use Rattle.proof_checker.specs.declared.walk.Before.TheOpen.{Before-F}
use Rattle.proof_checker.specs.declared.walk.Counted.{Counted}
use Rattle.proof_checker.specs.declared.walk.Counted.TheVariants.{Is, Past}
use Rattle.proof_checker.specs.Conditions.{literals_of, plain_literal}
use Rattle.proof_checker.specs.Derivations.{Numbered, AreEqual}
use Rattle.proof_checker.specs.Views.{has}

abbrev pub application_of : Use → Application
application_of u = record { operator = u.operator; operands = u.operands.now; result = u.result.now }

-- the application of an operator, its result being the last term
abbrev pub applied : ℕ → List Term → Option Application
applied operator [] = None
applied operator (t ∷ ts) = Some (record { operator = operator; operands = take (length ts) (t ∷ ts); result = get_or (t ∷ ts) (length ts) t })

abbrev pub applied_form : Term-F Term → Option Application
applied_form (Term-F.App operator all) = applied operator all
applied_form x = None

-- the application that a term is
abbrev pub applied_by : Term → Option Application
applied_by t = applied_form (out-Term t)

abbrev pub seen_step : Before-F (List Term) → List Term
seen_step Before-F.None = []
seen_step (Before-F.More before t) = before.now ++ t.now ∷ []
seen_step (Before-F.Within before t) = before.now ++ terms_within t.now
seen_step (Before-F.Sides before l) = before.now ++ within_sides (sides_of l.now)

-- the terms that stand before another, the first one first
abbrev pub seen : Before → List Term
seen = fold-Before (List Term) seen_step

-- the terms within a term, all but the term itself
abbrev pub terms_below : Term → List Term
terms_below t = parts_of (map-Term Term (List Term) terms_within (out-Term t))

abbrev pub within_all : List Term → List Term
within_all ts = joined (map terms_within ts)

-- what is chosen, by the terms before a term, the term and its application
abbrev pub Chosen : Type 0
Chosen = List Term → Term → Application → Bool

abbrev pub chosen_at : (Application → Bool) → Option Application → List Application
chosen_at p None = []
chosen_at p (Some f) = if p f then f ∷ [] else []

-- the applications that are chosen of terms, where others stand before
abbrev pub chosen_in : Chosen → List Term → List Term → List Application
chosen_in p before [] = []
chosen_in p before (t ∷ ts) = chosen_at (p before t) (applied_by t) ++ chosen_in p (before ++ t ∷ []) ts

-- the application of a number, or how far the number lies past the applications
abbrev pub IsCounted : List Application → ℕ → Counted → Type 0
IsCounted fs n (Is u) = slice_get fs n ≡ Some (application_of u)
IsCounted fs n (Past k) = n ≡ length fs + k

-- a term that doesn't stand before
abbrev pub is_new : Chosen
is_new before t f = not (has before t)

abbrev pub some_chosen : List Application → Bool
some_chosen [] = false
some_chosen (f ∷ fs) = true

-- two applications are of one operator, and their operands are the same or assumed to be so
abbrev pub IsCongruent : List Literal → Application → Application → Type 0
IsCongruent fs f g = (f.operator ≡ g.operator) × AreEqual fs f.operands g.operands

-- the equality of the results of two such applications, numbered as they stand in the condition
pub record Congruence (c : Condition) (fs : List Literal) (i j : ℕ) (k : Literal) : Type 0 where
  pub first : Application
  pub second : Application
  pub at_first : Numbered [] (terms_in (literals_of c)) i first
  pub at_second : Numbered [] (terms_in (literals_of c)) j second
  pub congruent : IsCongruent fs first second
  pub results : k ≡ plain_literal (lit.Same first.result second.result)
