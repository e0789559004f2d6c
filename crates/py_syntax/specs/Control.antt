-- The control of a frame, and its unwinding on every way out: what the Language Reference says of `break`, `continue`, `return`, `raise`, `try` and `with`. A way out goes from the inside out. A `finally` block is gone through, and the way out waits at its end; a `with` releases its lock; an exception tries the handlers of a `try` that it leaves; each other item is dropped.
use Rattle.std.specs.Prelude.{ℕ, List, [], ◌∷◌, Some, None}
use Rattle.py_syntax.specs.declared.assertion.Assertion.{Assertion}
use Rattle.py_syntax.specs.declared.stmt.Stmt.{Stmt}
use Rattle.py_syntax.specs.declared.item.Way.{Way}
use Rattle.py_syntax.specs.declared.item.Way.TheVariants.{Break, Continue, Raise, Return}
use Rattle.py_syntax.specs.declared.item.Item.{Item}
use Rattle.py_syntax.specs.declared.item.Item.TheVariants as item
use Rattle.py_syntax.specs.StmtItems.{block_items}

-- where a block has ended, a `finally` block that stands behind it is entered, by no item of its own
abbrev pub opened : {V : Type 0} → List (Item V) → List (Item V)
opened (item.Finally block ∷ rest) = block_items block (item.FinallyEnd None ∷ rest)
opened control = control

-- where a way out has led, with the invariants of the loops that it left, the innermost first
pub data Unwound (V : Type 0) : Type 0 where
  On : List (Item V) → List (List Assertion) → Unwound V  -- the method goes on
  Out : Way V → List (List Assertion) → Unwound V  -- the method is left

-- one more loop is left, inside the others
abbrev pub leaving : {V : Type 0} → List Assertion → Unwound V → Unwound V
leaving invariant (On control left) = On control (invariant ∷ left)
leaving invariant (Out w left) = Out w (invariant ∷ left)

-- a `try` whose body is left: an exception tries its handlers, and any other way goes further
abbrev pub at_handlers : {V : Type 0} → Way V → List (ℕ × List Stmt) → List (Item V) → Unwound V → Unwound V
at_handlers (Raise c p) (handler ∷ handlers) rest further = On (item.Handle c p (handler ∷ handlers) ∷ rest) []
at_handlers (Raise c p) [] rest further = further
at_handlers Break handlers rest further = further
at_handlers Continue handlers rest further = further
at_handlers (Return v) handlers rest further = further

-- a loop whose body is left: `break` ends there, `continue` goes on with its next head, and any other way leaves the loop too
abbrev pub at_loop : {V : Type 0} → Way V → List Assertion → Item V → List (Item V) → Unwound V → Unwound V
at_loop Break invariant again rest further = On (opened rest) (invariant ∷ [])
at_loop Continue invariant again rest further = On (again ∷ rest) []
at_loop (Raise c p) invariant again rest further = leaving invariant further
at_loop (Return v) invariant again rest further = leaving invariant further

-- The control where a way out leads. A loop that is open has its next head there, or in its condition the choice of a turn.
abbrev pub unwind : {V : Type 0} → Way V → List (Item V) → Unwound V
unwind w [] = Out w []
unwind w (item.End ∷ rest) = Out w []
unwind w (item.Finally block ∷ rest) = On (block_items block (item.FinallyEnd (Some w) ∷ rest)) []
unwind w (item.WithEnd p lock pending ∷ rest) = On (item.WithEnd p lock (Some w) ∷ rest) []
unwind w (item.TryEnd handlers other ∷ rest) = at_handlers w handlers rest (unwind w rest)
unwind w (item.Again p invariant e body ∷ rest) = at_loop w invariant (item.Again p invariant e body) rest (unwind w rest)
unwind w (item.Turn p invariant e body ∷ rest) = leaving invariant (unwind w rest)
unwind w (i ∷ rest) = unwind w rest
