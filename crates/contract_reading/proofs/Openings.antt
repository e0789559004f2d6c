-- How much there is to read within so many openings.
use Rattle.std.specs.Prelude.{◌≡◌, ℕ, zero, suc, ◌+◌, ◌*◌, []}
use Rattle.std.specs.Prelude.{Some, None}
use Rattle.std.proofs.Common.{rules, refl}
use denote.Param.Weighed.{most}
use Rattle.py_syntax.specs.declared.Assertion.{size-Assertion}
use Rattle.py_syntax.specs.declared.Pred.{Pred}
use Rattle.py_syntax.specs.declared.Module.{Module}
use Rattle.machine_model.specs.Results.{Got, Stops, then_do}
use Rattle.machine_model.specs.Reading.{Verdict, holds, and_then}
use Rattle.contract_reading.specs.declared.path.Path.{Empty, the_lemmas}
use Rattle.contract_reading.specs.Openings.{opened_in}

-- the bodies of all predicates, for each opening
abbrev pub weight : Module → ℕ → ℕ
weight m zero = 0
weight m (suc n) = weight m n + (3 * most (λ (p : Pred). size-Assertion p.body) m.predicates + 1)

-- no instance is open at first
pub none_open : opened_in Empty ≡ []
none_open = search (rules, the_lemmas)

-- one assertion alone
pub one_read : (r : Verdict) → then_do r (λ miss. and_then miss holds) ≡ r
one_read (Got None) = refl
one_read (Got (Some miss)) = refl
one_read (Stops h) = refl
