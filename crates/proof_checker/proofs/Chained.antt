-- Laws of chains.
use Rattle.std.specs.Prelude.{◌≡◌, ℕ, zero, suc, List, [], ◌∷◌, ◌++◌, length, Some, slice_get}
use Rattle.std.proofs.Common.{refl, arith, rules, Bor}
use Rattle.terms.specs.declared.Literal.{Literal}
use Rattle.proof_checker.specs.declared.view.View.{View}
use Rattle.proof_checker.specs.declared.chain.Chain.{Chain, First, More, the_lemmas}
use Rattle.proof_checker.specs.Chains.{facts, view_literal}

pub facts-First : facts First ≡ []
facts-First = search (rules, the_lemmas)

pub facts-More : (before : Bor Chain) (v : View) → facts (More before v) ≡ facts before.now ++ view_literal v ∷ []
facts-More before v = search (rules, the_lemmas)

pub slice_front : (fs : List Literal) (x y : Literal) (n : ℕ) → slice_get fs n ≡ Some y → slice_get (fs ++ x ∷ []) n ≡ Some y
slice_front [] x y n e = absurd (cc)
slice_front (f ∷ fs) x y zero e = e
slice_front (f ∷ fs) x y (suc n) e = slice_front fs x y n e

pub slice_last : (fs : List Literal) (x : Literal) (n : ℕ) → n ≡ length fs → slice_get (fs ++ x ∷ []) n ≡ Some x
slice_last [] x zero e = refl
slice_last [] x (suc n) e = absurd (omega arith)
slice_last (f ∷ fs) x zero e = absurd (omega arith)
slice_last (f ∷ fs) x (suc n) e = slice_last fs x n (omega arith)
