-- What it is to reach: a function reaches what it calls, and what that reaches.
use Rattle.std.specs.Prelude.{◌≡◌, ◌⊎◌, ℕ, List, [], ◌∷◌, Some, slice_get}

abbrev pub IsIn : ℕ → List ℕ → Type 0
IsIn c [] = ⊥
IsIn c (d ∷ ds) = (d ≡ c) ⊎ IsIn c ds

-- the function of number a calls the one of number c, whose number stands in its row
abbrev pub Calls : List (List ℕ) → ℕ → ℕ → Type 0
Calls rs a c = (row : List ℕ) × (slice_get rs a ≡ Some row) × IsIn c row

-- the function of this number reaches the one of number b
pub data Reaches (rs : List (List ℕ)) (b : ℕ) : ℕ → Type 0 where
  calls_it : (a : ℕ) → Calls rs a b → Reaches rs b a
  leads_to_it : (a c : ℕ) → Calls rs a c → Reaches rs b c → Reaches rs b a
