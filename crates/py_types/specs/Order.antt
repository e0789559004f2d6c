-- The order of faults: by place, and at one place Mistyped with the lowest rule, then BoolAsInt, then Unassigned.
use Rattle.std.specs.Prelude.{◌≡◌, ◌⊎◌, ℕ, Bool, false, nat_lt, nat_eq, ◌||◌, ◌&&◌, if◌then◌else◌, List, [], ◌∷◌, Option, Some, None, ⊤}
use Rattle.py_base.specs.declared.Place.{Place}
use Rattle.type_base.specs.declared.Fault.{Fault}
use Rattle.type_base.specs.declared.Rank.{Rank}
use Rattle.type_base.specs.declared.Rank.TheVariants as ranks

-- Mistyped, BoolAsInt and Unassigned, in this order
abbrev pub sort_of : Rank → ℕ
sort_of (ranks.Mistyped rule) = 0
sort_of ranks.BoolAsInt = 1
sort_of ranks.Unassigned = 2

abbrev pub rule_of : Rank → ℕ
rule_of (ranks.Mistyped rule) = rule
rule_of ranks.BoolAsInt = 0
rule_of ranks.Unassigned = 0

-- by two numbers
abbrev pub is_less : ℕ → ℕ → ℕ → ℕ → Bool
is_less i k j n = nat_lt i j || (nat_eq i j && nat_lt k n)

abbrev pub is_before : Place → Rank → Place → Rank → Bool
is_before p r q s = nat_lt p.line q.line || (nat_eq p.line q.line && (nat_lt p.col q.col || (nat_eq p.col q.col && is_less (sort_of r) (rule_of r) (sort_of s) (rule_of s))))

abbrev pub comes_before : Fault → Fault → Bool
comes_before f g = is_before f.place f.rank g.place g.rank

abbrev pub IsAmong : Fault → List Fault → Type 0
IsAmong f [] = ⊥
IsAmong f (g ∷ gs) = (f ≡ g) ⊎ IsAmong f gs

-- none of them comes before f
abbrev pub NoneComesBefore : Fault → List Fault → Type 0
NoneComesBefore f [] = ⊤
NoneComesBefore f (g ∷ gs) = (comes_before g f ≡ false) × NoneComesBefore f gs

-- f is one of the faults, and none of them comes before it
pub record IsFirstFault (fs : List Fault) (f : Fault) : Type 0 where
  pub is_among : IsAmong f fs
  pub is_first : NoneComesBefore f fs

-- which of two is kept, where there are two
abbrev pub sooner : Option Fault → Fault → Fault
sooner None f = f
sooner (Some best) f = if comes_before f best then f else best

-- the one that is kept of those so far and of these
abbrev pub first_of : Option Fault → List Fault → Option Fault
first_of best [] = best
first_of best (f ∷ fs) = first_of (Some (sooner best f)) fs
