-- The flags among assumptions.
use Rattle.std.specs.Prelude.{◌≡◌, ◌≢◌, ℕ, ◌+◌, Bool, not, List, [], ◌∷◌, All, Some, slice_get}
use Rattle.terms.specs.declared.Literal.{Literal}
use Rattle.terms.specs.declared.Literal.TheVariants as lit
use Rattle.proof_checker.specs.declared.Condition.{Condition}
use Rattle.proof_checker.specs.declared.Derivation.{Derivation}
use Rattle.proof_checker.specs.Derivations.{DerivesFrom}
use Rattle.cond_facts.specs.declared.flags.Flags.{Flags}
use Rattle.cond_facts.specs.declared.flags.Flags.TheVariants as answers
use Rattle.cond_facts.specs.Decisions.{DoFlagsHold}

-- the literal that a flag is so
abbrev pub flag_is : ℕ → Bool → Literal
flag_is n held = lit.Flag n held

-- what is answered of the flags among assumptions
abbrev pub AreFlagsOf : List Literal → Flags → Type 0
AreFlagsOf fs (answers.Refuted d) = (c : Condition) → DerivesFrom c fs d
AreFlagsOf fs (answers.Values list) = DoFlagsHold fs list

abbrev pub with_flag : Literal → List (ℕ × Bool) → List (ℕ × Bool)
with_flag (lit.Flag n held) list = (n, held) ∷ list
with_flag l list = list

-- what literals say of flags, in their order
abbrev pub flags_among : List Literal → List (ℕ × Bool)
flags_among [] = []
flags_among (l ∷ ls) = with_flag l (flags_among ls)

-- no literal says the opposite of what this one says of a flag
abbrev pub IsUnopposed : Literal → List Literal → Type 0
IsUnopposed (lit.Flag n held) ls = All (λ l. l ≢ lit.Flag n (not held)) ls
IsUnopposed l ls = Unit {0}

-- no two of the literals say opposites of a flag
abbrev pub AreUnopposed : List Literal → Type 0
AreUnopposed [] = Unit {0}
AreUnopposed (l ∷ ls) = IsUnopposed l ls × AreUnopposed ls

-- a literal has this number among literals whose numbers begin with `place`
pub record HasNumber (ls : List Literal) (place n : ℕ) (l : Literal) : Type 0 where
  pub steps : ℕ
  pub number : n ≡ place + steps
  pub there : slice_get ls steps ≡ Some l

-- the literal of this number says the opposite of what one says of a flag
abbrev pub IsOpposedAt : Literal → List Literal → ℕ → ℕ → Type 0
IsOpposedAt (lit.Flag k held) ls place n = HasNumber ls place n (lit.Flag k (not held))
IsOpposedAt l ls place n = ⊥

-- literals stand among assumptions from a number on
abbrev pub StandFrom : List Literal → ℕ → List Literal → Type 0
StandFrom fs place ls = (i : ℕ) (l : Literal) → slice_get ls i ≡ Some l → slice_get fs (place + i) ≡ Some l

-- a derivation derives any condition where literals are assumed from a number on
abbrev pub AreClashing : List Literal → ℕ → Derivation → Type 0
AreClashing ls place d = (c : Condition) (fs : List Literal) → StandFrom fs place ls → DerivesFrom c fs d
