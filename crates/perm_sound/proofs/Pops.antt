-- Popping so many arguments leaves what stands below them.
use Rattle.std.proofs.Common.{◌≡◌, ℕ, zero, suc, List, [], ◌∷◌, refl}
use Rattle.std.specs.Prelude.{Some}
use Rattle.py_syntax.specs.declared.Value.{Value}
use Rattle.py_syntax.specs.SmallLocal.{below}
use Rattle.machine_model.specs.declared.Halt.TheVariants as halt
use Rattle.machine_model.specs.Results.{Got, Stops}
use Rattle.machine_model.specs.Frames.{pop_onto}

-- the arguments were there, or not
pub data Popped (n : ℕ) (args st : List Value) : Type 0 where
  are_there : (vs rest : List Value) → pop_onto n args st ≡ Got (vs, rest) → below n st ≡ Some rest → Popped n args st
  are_missing : pop_onto n args st ≡ Stops halt.NoOperand → Popped n args st

pub popped : (n : ℕ) (args st : List Value) → Popped n args st
popped zero args st = are_there args st refl refl
popped (suc n) args [] = are_missing refl
popped (suc n) args (v ∷ st) = by_rest (popped n (v ∷ args) st)
  where
    by_rest : Popped n (v ∷ args) st → Popped (suc n) args (v ∷ st)
    by_rest (are_there vs rest got left) = are_there vs rest got left
    by_rest (are_missing stops) = are_missing stops
