-- How a way out goes through a control, item by item, with the number of measures of the loops that it leaves.
use Rattle.std.specs.Prelude.{ℕ, ◌+◌, Bool, true, false, List, [], ◌∷◌, Option, Some, None, if◌then◌else◌}
use Rattle.py_syntax.specs.declared.Value.{Value}
use Rattle.py_syntax.specs.declared.Assertion.{Assertion}
use Rattle.py_syntax.specs.declared.Way.{Way}
use Rattle.py_syntax.specs.declared.Way.TheVariants.{Break, Continue, Raise, Return}
use Rattle.py_syntax.specs.declared.Item.{Item}
use Rattle.py_syntax.specs.declared.Item.TheVariants as item
use Rattle.py_syntax.specs.Control.{Unwound, On, Out}
use Rattle.machine_model.specs.Frames.{must_terminate}
use Rattle.machine_deeds.specs.declared.ControlDeed.{ControlDeed}
use Rattle.machine_deeds.specs.Deeds.{controlled}

-- how many measures a loop has among those of the open loops
abbrev pub turns_of : Bool → ℕ
turns_of b = if b then 1 else 0

abbrev pub turns_within : List (List Assertion) → ℕ
turns_within [] = 0
turns_within (invariant ∷ left) = turns_of (must_terminate invariant) + turns_within left

-- where a way out has led, with the number of measures that it dropped
pub data Counted : Type 0 where
  GoesOn : List (Item Value) → ℕ → Counted  -- the method goes on
  IsLeft : Way Value → ℕ → Counted  -- the method is left

abbrev pub counted : Unwound Value → Counted
counted (On control left) = GoesOn control (turns_within left)
counted (Out w left) = IsLeft w (turns_within left)

-- more measures that were dropped before
abbrev pub more : ℕ → Counted → Counted
more k (GoesOn control n) = GoesOn control (k + n)
more k (IsLeft w n) = IsLeft w (k + n)

-- whether an exception or another way passes the end of a `try` body
abbrev pub passes_try : Bool → Way Value → Option Bool
passes_try none (Raise c p) = if none then Some false else None
passes_try none w = Some false

-- how a way passes a loop that may have a measure
abbrev pub passes_loop : Bool → Way Value → Option Bool
passes_loop measured Break = None
passes_loop measured Continue = None
passes_loop measured (Raise c p) = Some measured
passes_loop measured (Return v) = Some measured

abbrev pub is_empty : {X : Type 0} → List X → Bool
is_empty [] = true
is_empty (x ∷ xs) = false

-- An item that a way out passes, with whether a measure is dropped there; none where the way leads to it.
abbrev pub passing : Item Value → Way Value → Option Bool
passing item.End w = None
passing (item.Finally block) w = None
passing (item.WithEnd p lock pending) w = None
passing (item.TryEnd handlers other) w = passes_try (is_empty handlers) w
passing (item.Again p invariant e body) w = passes_loop (must_terminate invariant) w
passing (item.Turn p invariant e body) w = Some (must_terminate invariant)
passing i w = Some false

-- a control that goes on, or that none is left of
abbrev pub landed : Option ControlDeed → ℕ → Way Value → List (Item Value) → Counted
landed None n w control = IsLeft w n
landed (Some d) n w control = GoesOn (controlled d control) n
