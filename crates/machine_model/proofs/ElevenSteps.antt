-- The run of the smallest module, step by step.
use Rattle.std.proofs.Common.{◌≡◌, List, [], ◌∷◌, ℕ, pos, true, false, Option, Some, None, refl, ap, ◌∙◌, codes, replicate}
use Rattle.py_syntax.specs.declared.Value.{Value}
use Rattle.py_syntax.specs.declared.Value.TheVariants.{Num, Truth, Nil}
use Rattle.py_syntax.specs.declared.Item.{Item}
use Rattle.py_syntax.specs.declared.Item.TheVariants as item
use Rattle.std.specs.Fmt.{digits}
use Rattle.py_syntax.specs.WaysOut.{Normal}
use Rattle.machine_model.specs.declared.event.EventForm.TheVariants.{Ended}
use Rattle.machine_model.specs.Smallest.{at, smallest}
use Rattle.machine_model.specs.Steps.{Run, step, whole, run_after, continued, first_run, after}
use Rattle.machine_model.proofs.Eleven.{eleven_items, printed_x, method_items_main}

-- `main` with this control, these values that wait, this value of its local and these lines
abbrev running : List (Item Value) → List Value → Option Value → List (List ℕ) → Run
running control stack v lines = record {
  state = record {
    heap = [];
    threads = record {
      frames = record { method = 0; control = control; stack = stack; store = v ∷ []; before = []; measure = None; caps = []; turns = [] } ∷ [];
      own = None;
      ended = false;
    } ∷ [];
  };
  lines = lines;
  events = [];
  faults = [];
  calls = [];
}

begins : first_run smallest ≡ running (item.Begin ∷ eleven_items) [] None []
begins = ap (λ items. running (item.Begin ∷ items) [] None []) method_items_main

abbrev next : Run → Run
next r = run_after r 0 (step whole smallest r.state 0)

abbrev three : Option Value
three = Some (Num (pos 3))

first_step : (c : List (Item Value)) → next (running (item.Begin ∷ item.Num (pos 3) ∷ item.Store 0 ∷ c) [] None []) ≡ running (item.Store 0 ∷ c) (Num (pos 3) ∷ []) None []
first_step c = refl

stores_three : (c : List (Item Value)) → next (running (item.Store 0 ∷ item.Load 0 ∷ c) (Num (pos 3) ∷ []) None []) ≡ running (item.Load 0 ∷ c) [] three []
stores_three c = refl

loads_left : (n : ℕ) (c : List (Item Value)) → next (running (item.Load 0 ∷ item.Num (pos n) ∷ c) [] three []) ≡ running (item.Num (pos n) ∷ c) (Num (pos 3) ∷ []) three []
loads_left n c = refl

pushes_two : (c : List (Item Value)) → next (running (item.Num (pos 2) ∷ item.Bin (at 3 14) 1 ∷ c) (Num (pos 3) ∷ []) three []) ≡ running (item.Bin (at 3 14) 1 ∷ c) (Num (pos 2) ∷ Num (pos 3) ∷ []) three []
pushes_two c = refl

adds : (c : List (Item Value)) → next (running (item.Bin (at 3 14) 1 ∷ item.Num (pos 5) ∷ c) (Num (pos 2) ∷ Num (pos 3) ∷ []) three []) ≡ running (item.Num (pos 5) ∷ c) (Num (pos 5) ∷ []) three []
adds c = refl

pushes_five : (c : List (Item Value)) → next (running (item.Num (pos 5) ∷ item.Bin (at 3 18) 11 ∷ c) (Num (pos 5) ∷ []) three []) ≡ running (item.Bin (at 3 18) 11 ∷ c) (Num (pos 5) ∷ Num (pos 5) ∷ []) three []
pushes_five c = refl

compares : (c : List (Item Value)) → next (running (item.Bin (at 3 18) 11 ∷ item.Check (at 3 5) ∷ c) (Num (pos 5) ∷ Num (pos 5) ∷ []) three []) ≡ running (item.Check (at 3 5) ∷ c) (Truth true ∷ []) three []
compares c = refl

checks_truth : (c : List (Item Value)) → next (running (item.Check (at 3 5) ∷ item.Load 0 ∷ c) (Truth true ∷ []) three []) ≡ running (item.Load 0 ∷ c) [] three []
checks_truth c = refl

loads_printed : (c : List (Item Value)) → next (running (item.Load 0 ∷ item.Print printed_x ∷ c) [] three []) ≡ running (item.Print printed_x ∷ c) (Num (pos 3) ∷ []) three []
loads_printed c = refl

prints_three : next (running (item.Print printed_x ∷ item.End ∷ []) (Num (pos 3) ∷ []) three []) ≡ running (item.End ∷ []) [] three (codes "3" ∷ [])
unfolding digits
prints_three = refl

-- the run once its only thread has ended
abbrev pub ended : Run
ended = record {
  state = record { heap = []; threads = record { frames = []; own = None; ended = true } ∷ [] };
  lines = codes "3" ∷ [];
  events = record { thread = 0; form = Ended } ∷ [];
  faults = [];
  calls = (0, Normal Nil) ∷ [];
}

ends : next (running (item.End ∷ []) [] three (codes "3" ∷ [])) ≡ ended
ends = refl

-- a run goes on from what its first step comes to
one_step : (ts : List ℕ) (r s : Run) → next r ≡ s → continued smallest r (0 ∷ ts) ≡ continued smallest s ts
one_step ts r s is = ap (λ t. continued smallest t ts) is

-- what is left of the control behind the first assignment, behind the assert, and between
abbrev at_end : List (Item Value)
at_end = item.End ∷ []

abbrev at_print : List (Item Value)
at_print = item.Load 0 ∷ item.Print printed_x ∷ at_end

abbrev at_check : List (Item Value)
at_check = item.Check (at 3 5) ∷ at_print

abbrev at_five : List (Item Value)
at_five = item.Num (pos 5) ∷ item.Bin (at 3 18) 11 ∷ at_check

abbrev at_sum : List (Item Value)
at_sum = item.Bin (at 3 14) 1 ∷ at_five

abbrev at_two : List (Item Value)
at_two = item.Num (pos 2) ∷ at_sum

abbrev at_assert : List (Item Value)
at_assert = item.Load 0 ∷ at_two

assigned : (ts : List ℕ) → after smallest (0 ∷ 0 ∷ ts) ≡ continued smallest (running at_assert [] three []) ts
assigned ts =
    ap (λ r. continued smallest r (0 ∷ 0 ∷ ts)) begins
    ∙ one_step (0 ∷ ts) (running (item.Begin ∷ eleven_items) [] None []) (running (item.Store 0 ∷ at_assert) (Num (pos 3) ∷ []) None []) (first_step at_assert)
    ∙ one_step ts (running (item.Store 0 ∷ at_assert) (Num (pos 3) ∷ []) None []) (running at_assert [] three []) (stores_three at_two)

asserted : (ts : List ℕ) → continued smallest (running at_assert [] three []) (0 ∷ 0 ∷ 0 ∷ 0 ∷ 0 ∷ 0 ∷ ts) ≡ continued smallest (running at_print [] three []) ts
asserted ts =
    one_step (0 ∷ 0 ∷ 0 ∷ 0 ∷ 0 ∷ ts) (running at_assert [] three []) (running at_two (Num (pos 3) ∷ []) three []) (loads_left 2 at_sum)
    ∙ one_step (0 ∷ 0 ∷ 0 ∷ 0 ∷ ts) (running at_two (Num (pos 3) ∷ []) three []) (running at_sum (Num (pos 2) ∷ Num (pos 3) ∷ []) three []) (pushes_two at_five)
    ∙ one_step (0 ∷ 0 ∷ 0 ∷ ts) (running at_sum (Num (pos 2) ∷ Num (pos 3) ∷ []) three []) (running at_five (Num (pos 5) ∷ []) three []) (adds (item.Bin (at 3 18) 11 ∷ at_check))
    ∙ one_step (0 ∷ 0 ∷ ts) (running at_five (Num (pos 5) ∷ []) three []) (running (item.Bin (at 3 18) 11 ∷ at_check) (Num (pos 5) ∷ Num (pos 5) ∷ []) three []) (pushes_five at_check)
    ∙ one_step (0 ∷ ts) (running (item.Bin (at 3 18) 11 ∷ at_check) (Num (pos 5) ∷ Num (pos 5) ∷ []) three []) (running at_check (Truth true ∷ []) three []) (compares at_print)
    ∙ one_step ts (running at_check (Truth true ∷ []) three []) (running at_print [] three []) (checks_truth (item.Print printed_x ∷ at_end))

-- the run after ten steps, at the end of `main`
abbrev pub at_its_end : Run
at_its_end = running at_end [] three (codes "3" ∷ [])

printed : (ts : List ℕ) → continued smallest (running at_print [] three []) (0 ∷ 0 ∷ ts) ≡ continued smallest at_its_end ts
printed ts =
    one_step (0 ∷ ts) (running at_print [] three []) (running (item.Print printed_x ∷ at_end) (Num (pos 3) ∷ []) three []) (loads_printed at_end)
    ∙ one_step ts (running (item.Print printed_x ∷ at_end) (Num (pos 3) ∷ []) three []) at_its_end prints_three

pub ten_steps : after smallest (replicate 10 0) ≡ at_its_end
ten_steps = assigned (replicate 8 0) ∙ asserted (0 ∷ 0 ∷ []) ∙ printed []

pub eleven_steps : after smallest (replicate 11 0) ≡ ended
eleven_steps = assigned (replicate 9 0) ∙ asserted (0 ∷ 0 ∷ 0 ∷ []) ∙ printed (0 ∷ []) ∙ one_step [] at_its_end ended ends
