-- A state of the smallest module, in which the sum of `x + 2 == 5` is the next item of `main`.
use Rattle.std.specs.Prelude.{pos, false, List, [], ◌∷◌, Some, None}
use Rattle.py_syntax.specs.declared.Value.{Value}
use Rattle.py_syntax.specs.declared.Value.TheVariants.{Num}
use Rattle.py_syntax.specs.declared.Item.{Item}
use Rattle.py_syntax.specs.declared.Item.TheVariants as item
use Rattle.machine_model.specs.declared.state.Frame.{Frame}
use Rattle.machine_model.specs.declared.state.ThreadState.{ThreadState}
use Rattle.machine_model.specs.declared.state.State.{State}
use Rattle.machine_model.specs.Smallest.{at}

abbrev pub behind_the_sum : List (Item Value)
behind_the_sum = item.Num (pos 5) ∷ item.Bin (at 3 18) 11 ∷ item.Check (at 3 5) ∷ item.End ∷ []

abbrev pub summing : Frame
summing = record {
  method = 0;
  control = item.Bin (at 3 14) 1 ∷ behind_the_sum;
  stack = Num (pos 2) ∷ Num (pos 3) ∷ [];
  store = Some (Num (pos 3)) ∷ [];
  before = [];
  measure = None;
  caps = [];
  turns = [];
}

abbrev main_thread : ThreadState
main_thread = record { frames = summing ∷ []; own = None; ended = false }

abbrev pub at_the_sum : State
at_the_sum = record { heap = []; threads = main_thread ∷ [] }
