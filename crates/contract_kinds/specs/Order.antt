-- The order of breaches: by place, and at one place in the order in which the rules are listed.
use Rattle.std.specs.Prelude.{◌≡◌, ◌⊎◌, ℕ, Bool, false, nat_lt, nat_eq, ◌||◌, ◌&&◌, if◌then◌else◌, List, [], ◌∷◌, Option, Some, None, ⊤}
use Rattle.py_base.specs.declared.Place.{Place}
use Rattle.contract_kinds.specs.declared.breach.Rule.{Rule}
use Rattle.contract_kinds.specs.declared.breach.Rule.TheVariants as rules
use Rattle.contract_kinds.specs.declared.breach.Breach.{Breach}

abbrev pub number_of : Rule → ℕ
number_of rules.ContractPlace = 1
number_of rules.OldInPre = 2
number_of rules.DutyPlace = 3
number_of rules.BadFraction = 4
number_of rules.RecursivePure = 5
number_of rules.BadTarget = 6
number_of rules.UnknownPredicate = 7

abbrev pub is_before : Place → ℕ → Place → ℕ → Bool
is_before p i q k = nat_lt p.line q.line || (nat_eq p.line q.line && (nat_lt p.col q.col || (nat_eq p.col q.col && nat_lt i k)))

abbrev pub comes_before : Breach → Breach → Bool
comes_before f g = is_before f.place (number_of f.rule) g.place (number_of g.rule)

abbrev pub IsAmong : Breach → List Breach → Type 0
IsAmong f [] = ⊥
IsAmong f (g ∷ gs) = (f ≡ g) ⊎ IsAmong f gs

-- none of them comes before f
abbrev pub NoneComesBefore : Breach → List Breach → Type 0
NoneComesBefore f [] = ⊤
NoneComesBefore f (g ∷ gs) = (comes_before g f ≡ false) × NoneComesBefore f gs

-- f is one of the breaches, and none of them comes before it
pub record IsFirstFault (fs : List Breach) (f : Breach) : Type 0 where
  pub is_among : IsAmong f fs
  pub is_first : NoneComesBefore f fs

-- which of two is kept, where there are two
abbrev pub sooner : Option Breach → Breach → Breach
sooner None f = f
sooner (Some best) f = if comes_before f best then f else best

-- the one that is kept of those so far and of these
abbrev pub first_of : Option Breach → List Breach → Option Breach
first_of best [] = best
first_of best (f ∷ fs) = first_of (Some (sooner best f)) fs
