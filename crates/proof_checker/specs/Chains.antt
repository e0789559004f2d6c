-- Assumptions that aren't built, and what they stand for.
use Rattle.std.specs.Prelude.{◌≡◌, ◌⊎◌, ℕ, ◌+◌, List, [], ◌∷◌, ◌++◌, length, Some, None, slice_get}
use Rattle.terms.specs.declared.Term.{Term}
use Rattle.terms.specs.declared.Literal.{Literal}
use Rattle.terms.specs.declared.Literal.TheVariants as lit
use Rattle.proof_checker.specs.declared.side.Side.{Side}
use Rattle.proof_checker.specs.declared.view.Kind.{Kind}
use Rattle.proof_checker.specs.declared.view.Kind.TheVariants as kind
use Rattle.proof_checker.specs.declared.view.View.{View}
use Rattle.proof_checker.specs.declared.view.View.TheVariants as view
use Rattle.proof_checker.specs.declared.chain.Chain.{Chain, fold-Chain}
use Rattle.proof_checker.specs.declared.chain.Chain.TheOpen.{Chain-F}
use Rattle.proof_checker.specs.declared.chain.Found.{Found}
use Rattle.proof_checker.specs.declared.chain.Found.TheVariants.{Is, Past}
use Rattle.proof_checker.specs.Derivations.{IsOpposite, IsFalse}
use Rattle.proof_checker.specs.Views.{node_term}

-- the side of a literal
abbrev pub side_term : Side → Term
side_term s = node_term s.origin s.puts

-- the literal that compares two terms
abbrev pub compared : Kind → Term → Term → Literal
compared kind.AtMost a b = lit.AtMost a b
compared kind.Same a b = lit.Same a b
compared kind.Apart a b = lit.Apart a b

abbrev pub view_literal : View → Literal
view_literal (view.Sides k a b) = compared k (side_term a) (side_term b)
view_literal (view.Flag n held) = lit.Flag n held

abbrev pub chain_step : Chain-F (List Literal) → List Literal
chain_step Chain-F.First = []
chain_step (Chain-F.More before v) = before.now ++ view_literal v ∷ []

-- the assumptions, the oldest one first
abbrev pub facts : Chain → List Literal
facts = fold-Chain (List Literal) chain_step

-- the literal of a number, or how far the number lies past the literals
abbrev pub IsFound : List Literal → ℕ → Found → Type 0
IsFound fs n (Is v) = slice_get fs n ≡ Some (view_literal v.now)
IsFound fs n (Past k) = (slice_get fs n ≡ None) × (n ≡ length fs + k)

-- an assumption and another are opposites, or an assumption is false by itself
pub data Clashes (fs : List Literal) : ℕ → ℕ → Type 0 where
  opposites : (i j : ℕ) (l k : Literal) → slice_get fs i ≡ Some l → slice_get fs j ≡ Some k → IsOpposite l k ⊎ IsOpposite k l → Clashes fs i j
  itself : (i : ℕ) (l : Literal) → slice_get fs i ≡ Some l → IsFalse l → Clashes fs i i
