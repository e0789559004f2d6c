-- A way out through a control, item by item.
use Rattle.std.proofs.Common.{◌≡◌, ◌+◌, ◌≤◌, ℕ, suc, ℤ, Bool, true, false, List, [], ◌∷◌, length, drop, slice_get, Option, Some, None, refl, ap, sym, subst, ◌∙◌, arith}
use Rattle.std.specs.Prelude.{if◌then◌else◌}
use Rattle.std.proofs.lemmas.List.{drop_all}
use Rattle.std.proofs.lemmas.Option.{slice_get_past}
use Rattle.std.specs.Prelude.{IfSome}
use Rattle.std.proofs.Math.Nat.{add_assoc}
use Rattle.py_syntax.specs.declared.Value.{Value}
use Rattle.py_syntax.specs.declared.Assertion.{Assertion}
use Rattle.py_syntax.specs.declared.Stmt.{Stmt}
use Rattle.py_syntax.specs.declared.Way.{Way}
use Rattle.py_syntax.specs.declared.Way.TheVariants.{Break, Continue, Raise, Return}
use Rattle.py_syntax.specs.declared.Item.{Item}
use Rattle.py_syntax.specs.declared.Item.TheVariants as item
use Rattle.py_syntax.specs.Control.{Unwound, On, Out, leaving, at_handlers, unwind}
use Rattle.machine_model.specs.Frames.{must_terminate, drop_turns}
use Rattle.machine_items.specs.Ways.{turns_of, turns_within, Counted, GoesOn, IsLeft, counted, more, passes_try, is_empty, passing, landed}
use Rattle.machine_deeds.specs.declared.ControlDeed.{ControlDeed}
use Rattle.machine_items.proofs.Depths.{drop_there}

drop_one : (b : Bool) (left : List (List Assertion)) (turns : List ℤ) (n : ℤ) → ((ts : List ℤ) → drop_turns left ts ≡ drop (turns_within left) ts)
    → (if b then drop_turns left turns else drop_turns left (n ∷ turns)) ≡ drop (turns_of b + turns_within left) (n ∷ turns)
drop_one true left turns n rest = let next : 1 + turns_within left ≡ suc (turns_within left) = omega arith in rest turns ∙ ap (λ k. drop k (n ∷ turns)) (sym next)
drop_one false left turns n rest = let same : 0 + turns_within left ≡ turns_within left = omega arith in rest (n ∷ turns) ∙ ap (λ k. drop k (n ∷ turns)) (sym same)

-- the measures of loops that are left are the topmost ones
pub turns_dropped : (left : List (List Assertion)) (turns : List ℤ) → drop_turns left turns ≡ drop (turns_within left) turns
turns_dropped [] turns = refl
turns_dropped (invariant ∷ left) [] = sym (drop_all (turns_of (must_terminate invariant) + turns_within left) [] (omega arith))
turns_dropped (invariant ∷ left) (n ∷ turns) = drop_one (must_terminate invariant) left turns n (turns_dropped left)

more_leaving : (b : Bool) (invariant : List Assertion) (r : Unwound Value) → must_terminate invariant ≡ b → counted (leaving invariant r) ≡ more (turns_of b) (counted r)
more_leaving b invariant (On control left) is = ap (λ x. GoesOn control (turns_of x + turns_within left)) is
more_leaving b invariant (Out w left) is = ap (λ x. IsLeft w (turns_of x + turns_within left)) is

pub more_none : (c : Counted) → more 0 c ≡ c
more_none (GoesOn control n) = let same : 0 + n ≡ n = omega arith in ap (GoesOn control) same
more_none (IsLeft w n) = let same : 0 + n ≡ n = omega arith in ap (IsLeft w) same

nothing_left : (b : Bool) (r : Unwound Value) → b ≡ false → counted r ≡ more (turns_of b) (counted r)
nothing_left true r is = cc
nothing_left false r is = sym (more_none (counted r))

try_passed : (handlers : List (ℕ × List Stmt)) (w : Way Value) (b : Bool) (rest : List (Item Value)) → passes_try (is_empty handlers) w ≡ Some b
    → counted (at_handlers w handlers rest (unwind w rest)) ≡ more (turns_of b) (counted (unwind w rest))
try_passed [] (Raise c p) b rest passes = let is : b ≡ false = cc in nothing_left b (unwind (Raise c p) rest) is
try_passed (h ∷ hs) (Raise c p) b rest passes = cc
try_passed handlers Break b rest passes = let is : b ≡ false = cc in nothing_left b (unwind Break rest) is
try_passed handlers Continue b rest passes = let is : b ≡ false = cc in nothing_left b (unwind Continue rest) is
try_passed handlers (Return v) b rest passes = let is : b ≡ false = cc in nothing_left b (unwind (Return v) rest) is

passed : (i : Item Value) (w : Way Value) (b : Bool) (rest : List (Item Value)) → passing i w ≡ Some b → counted (unwind w (i ∷ rest)) ≡ more (turns_of b) (counted (unwind w rest))
passed item.End w b rest passes = cc
passed (item.Finally block) w b rest passes = cc
passed (item.WithEnd p lock pending) w b rest passes = cc
passed (item.TryEnd handlers other) w b rest passes = try_passed handlers w b rest passes
passed (item.Again p invariant e body) Break b rest passes = cc
passed (item.Again p invariant e body) Continue b rest passes = cc
passed (item.Again p invariant e body) (Raise c q) b rest passes = let is : must_terminate invariant ≡ b = cc in more_leaving b invariant (unwind (Raise c q) rest) is
passed (item.Again p invariant e body) (Return v) b rest passes = let is : must_terminate invariant ≡ b = cc in more_leaving b invariant (unwind (Return v) rest) is
passed (item.Turn p invariant e body) w b rest passes = let is : must_terminate invariant ≡ b = cc in more_leaving b invariant (unwind w rest) is
passed i w b rest passes = let is : b ≡ false = cc in nothing_left b (unwind w rest) is

more_twice : (k n : ℕ) (c : Counted) → more k (more n c) ≡ more (k + n) c
more_twice k n (GoesOn control j) = ap (GoesOn control) (sym (add_assoc k n j))
more_twice k n (IsLeft w j) = ap (IsLeft w) (sym (add_assoc k n j))

-- an item is passed
pub passed_here : (w : Way Value) (control : List (Item Value)) (depth : ℕ) (i : Item Value) (b : Bool) → slice_get control depth ≡ Some i → passing i w ≡ Some b
    → counted (unwind w (drop depth control)) ≡ more (turns_of b) (counted (unwind w (drop (depth + 1) control)))
passed_here w control depth i b there passes =
    ap (λ st. counted (unwind w st)) (drop_there control depth i there) ∙ passed i w b (drop (depth + 1) control) passes

pub more_on : (a b c : Counted) (k n : ℕ) → a ≡ more k b → b ≡ more n c → a ≡ more (k + n) c
more_on a b c k n first next = first ∙ ap (more k) next ∙ more_twice k n c

pub stops_past : (w : Way Value) (control : List (Item Value)) (n : ℕ) → n ≡ length control → IfSome (slice_get control n) (λ i. passing i w ≡ None)
stops_past w control n past = subst (λ o. IfSome o (λ i. passing i w ≡ None)) (sym (slice_get_past control n (omega (arith, past)))) tt

pub more_landed : (d : Option ControlDeed) (k n : ℕ) (w : Way Value) (control : List (Item Value)) → landed d (k + n) w control ≡ more k (landed d n w control)
more_landed None k n w control = refl
more_landed (Some d) k n w control = refl

pub stops_there : (w : Way Value) (control : List (Item Value)) (depth : ℕ) (i : Item Value) → slice_get control depth ≡ Some i
    → counted (unwind w (drop depth control)) ≡ counted (unwind w (i ∷ drop (depth + 1) control))
stops_there w control depth i there = ap (λ st. counted (unwind w st)) (drop_there control depth i there)

pub nothing_there : (w : Way Value) (control : List (Item Value)) (depth : ℕ) → length control ≤ depth → counted (unwind w (drop depth control)) ≡ IsLeft w 0
nothing_there w control depth past = ap (λ st. counted (unwind w st)) (drop_all depth control past)

-- a loop that ends drops its own measure, where it has one
pub loop_left : (invariant : List Assertion) (turns : List ℤ) → drop_turns (invariant ∷ []) turns ≡ drop (turns_of (must_terminate invariant)) turns
loop_left invariant turns =
    let same : turns_of (must_terminate invariant) + 0 ≡ turns_of (must_terminate invariant) = omega arith in
    turns_dropped (invariant ∷ []) turns ∙ ap (λ k. drop k turns) same
