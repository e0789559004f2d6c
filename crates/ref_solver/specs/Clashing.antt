-- When literals clash, and what a closure tells of them.
use Rattle.std.specs.Prelude.{◌≡◌, ◌≢◌, ℕ, ◌+◌, ◌<◌, ◌≤◌, true, false, List, length, take, Contains, Option, Some, None, MatchOption}
use Rattle.terms.specs.declared.Term.{Term, Term-F, out-Term}
use Rattle.terms.specs.declared.Literal.{Literal}
use Rattle.terms.specs.declared.Literal.TheVariants as lit
use Rattle.ref_solver.specs.Following.{Follows}
use Rattle.ref_solver.specs.Classes.{AreClasses}

abbrev pub number_in : Term-F Term → Option ℕ
number_in (Term-F.RefLit n) = Some n
number_in Term-F.Nil = Some 0
number_in x = None

-- the number of a reference that is known by its number: None is the reference 0
abbrev pub reference_number : Term → Option ℕ
reference_number t = number_in (out-Term t)

-- Literals clash where two terms are to differ and are equal, where references of different numbers
-- are equal, or where a flag is both true and false.
pub data Clash (ls : List Literal) : Type 0 where
  apart : (a b : Term) → Contains ls (lit.Apart a b) → Follows ls a b → Clash ls
  references : (s t : Term) (m n : ℕ) → Follows ls s t → reference_number s ≡ Some m → reference_number t ≡ Some n → m ≢ n → Clash ls
  flag : (n : ℕ) → Contains ls (lit.Flag n true) → Contains ls (lit.Flag n false) → Clash ls

-- the literals up to the one at this place clash, and those before it don't
pub record IsFirstClash (ls : List Literal) (n : ℕ) : Type 0 where
  pub there : n < length ls
  pub clash : Clash (take (n + 1) ls)
  pub none_before : ¬ (Clash (take n ls))

-- what a closure shows: classes of equal terms, and the place of the first clash
pub record Closed : Type 0 where
  pub classes : List (List Term)
  pub clash : Option ℕ

-- The classes are those of the terms whose equality follows, and the place is that of the first
-- clash, or none where the literals don't clash.
pub record IsClosure (ls : List Literal) (c : Closed) : Type 0 where
  pub classes : AreClasses ls c.classes
  pub clash : MatchOption c.clash (¬ (Clash ls)) (λ n. IsFirstClash ls n)

-- the first clash is at this lower place or behind it, and before the upper one
pub record IsBetween (ls : List Literal) (low high : ℕ) : Type 0 where
  pub order : low < high
  pub within : high ≤ length ls
  pub none_before : ¬ (Clash (take low ls))
  pub clash : Clash (take high ls)
