-- Links of chains of comparisons.
use Rattle.std.specs.Prelude.{◌≡◌, ℕ, false, if◌then◌else◌}
use Rattle.py_syntax.specs.declared.Value.{Value}
use Rattle.py_syntax.specs.declared.Value.TheVariants.{Truth}
use Rattle.machine_model.specs.Operators.{binary}
use Rattle.machine_model.specs.Evaluation.{Reading, with_value, and_with, of_truth, defined}
use Rattle.contract_reading.specs.declared.parts.Link.{Link}
use Rattle.contract_reading.specs.declared.parts.Link.TheVariants.{Next, Ends}
use Rattle.contract_reading.specs.Scenes.{told}

-- what a chain is read as from a link on
abbrev pub behind : Link → (Value → Reading) → Reading
behind (Next w) rest = rest w
behind (Ends r) rest = told r

-- a chain goes on behind an operand where the comparison with the one before is true, and else is read
abbrev pub IsLink : ℕ → Value → Reading → Link → Type 0
IsLink key v read l =
    (rest : Value → Reading) → with_value read (λ w. and_with (binary key v w) (λ c. of_truth c (λ b. if b then rest w else defined (Truth false)))) ≡ behind l rest
