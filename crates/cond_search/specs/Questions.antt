-- What may be asked of a plan while assumptions are added.
use Rattle.std.specs.Prelude.{List, [], ◌∷◌, All, Contains}
use Rattle.terms.specs.declared.Term.{Term}
use Rattle.terms.specs.declared.Literal.{Literal}
use Rattle.terms.specs.declared.Literal.TheVariants as lit
use Rattle.proof_checker.specs.Conditions.{plus_one}
use Rattle.cond_plan.specs.declared.Plan.{Plan}
use Rattle.cond_plan.specs.declared.Applied.{Applied}
use Rattle.cond_plan.specs.Plans.{IsListed}

-- A question is given by its answers: whether two compared numbers are equal, on which side of the other
-- the one lies, and that the results of two applications are equal.
pub data IsQuestion (p : Plan) : List Literal → Type 0 where
  of_equality : (a b : Term) → IsListed p.comparisons a b → IsQuestion p (lit.Same a b ∷ lit.Apart a b ∷ [])
  of_side : (a b : Term) → IsListed p.comparisons a b → IsQuestion p (lit.AtMost (plus_one a) b ∷ lit.AtMost (plus_one b) a ∷ [])
  of_results : (f g : Applied) → Contains p.applications f → Contains p.applications g → IsQuestion p (lit.Same f.result g.result ∷ [])

-- the literal answers a question of which no answer is assumed
pub record IsAnswer (p : Plan) (fs : List Literal) (l : Literal) : Type 0 where
  pub question : List Literal
  pub asked : IsQuestion p question
  pub open_ : All (λ m. ¬ (Contains fs m)) question
  pub answers : Contains question l
