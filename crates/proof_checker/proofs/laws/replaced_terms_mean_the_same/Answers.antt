use Rattle.terms.specs.SamenessLaws.{same_is_equal, equal_is_same}
use Rattle.proof_checker.proofs.Putting.{put_means}
use Rattle.proof_checker.proofs.laws.replaced_terms_mean_the_same.Goals as goal

pub returns-clause-test : goal.returns-clause-test
returns-clause-test c t u = (same_is_equal t u, equal_is_same t u)

pub returns-clause-meaning : goal.returns-clause-meaning
returns-clause-meaning c m from to t equal = put_means m from to equal t
