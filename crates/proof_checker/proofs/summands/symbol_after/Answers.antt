use Rattle.std.specs.Prelude.{◌≡◌, ℕ, ◌+◌, ◌<◌, ◌≤◌, Option, Some, None, IfSome, IfNone}
use Rattle.std.proofs.Common.{refl, arith}
use Rattle.terms.specs.declared.Term.{Term}
use Rattle.proof_checker.specs.Figures.{HasSymbol}
use Rattle.proof_checker.specs.Chains.{side_term}
use Rattle.proof_checker.specs.Combos.{IsBelow}
use Rattle.proof_checker.proofs.summands.symbol_after.Goals as goal

none_between : (t : Term) (last from : ℕ) (o : Option ℕ) → from ≡ last + 1 → IfSome o (λ v. HasSymbol v t × (from ≤ v) × ((w : ℕ) → HasSymbol w t → from ≤ w → v ≤ w)) → IfNone o ((w : ℕ) → HasSymbol w t → ¬ (from ≤ w)) → (w : ℕ) → last < w → IsBelow w o → HasSymbol w t → ⊥
none_between t last from None e some none w lt below has = none w has (omega arith)
none_between t last from (Some v) e (has_v, le, least) none w lt below has = let h : v ≤ w = least w has (omega arith) in omega arith

pub returns-clause-none : goal.returns-clause-none
returns-clause-none c =
    none_between (side_term c.args.s.now) c.args.last (c.args.last + 1) c.next_symbol.result refl c.next_symbol.ensures.some c.next_symbol.ensures.none
