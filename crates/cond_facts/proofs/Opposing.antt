-- Literals whose opposites hold.
use Rattle.std.specs.Prelude.{pos, ◌≤ℤ◌, IsTrue, [], ◌∷◌}
use Rattle.std.proofs.Common.{refl, inl, arith}
use Rattle.std.proofs.lemmas.List.Elements.{All-nil, All-cons}
use Rattle.terms.specs.declared.Literal.{Literal}
use Rattle.terms.specs.Sorts.{sorted}
use Rattle.terms.specs.Meanings.{Valued, Holds}
use Rattle.proof_checker.specs.Conditions.{opposite, plain_literal}
use Rattle.proof_checker.proofs.Facts.{assumed_holds, opposites_clash}

-- None and the reference 0 mean the same
pub plain_holds : (m : Valued) (l : Literal) → Holds m (plain_literal l) → Holds m l
plain_holds m l h =
    assumed_holds m (plain_literal l ∷ []) l (All-cons (Holds m) (plain_literal l) [] h (All-nil (Holds m))) (inl (0, omega arith, refl))

-- a sorted literal and its opposite don't both hold
pub opposed : (m : Valued) (g : Literal) → pos 1 ≤ℤ m.unit → IsTrue (sorted g) → Holds m (plain_literal (opposite g)) → ¬ (Holds m g)
opposed m g one is h = λ k. opposites_clash m g (opposite g) one (inl refl) k (plain_holds m (opposite g) h)
