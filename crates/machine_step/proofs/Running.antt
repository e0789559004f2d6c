-- The thread of an object, found among the threads.
use Rattle.std.proofs.Common.{◌≡◌, ℕ, suc, Bool, true, false, not, nat_eq, List, [], ◌∷◌, Option, Some, None, refl, ap, ◌∙◌}
use Rattle.std.specs.Prelude.{find, if◌then◌else◌}
use Rattle.std.specs.Option.{option_map_or}
use Rattle.machine_model.specs.declared.state.ThreadState.{ThreadState}
use Rattle.machine_model.specs.Sharing.{thread_from, thread_of}

abbrev is_of : ℕ → ThreadState → Bool
is_of r th = option_map_or (nat_eq r) th.own false

abbrev runs_at : Option (ℕ × ThreadState) → Bool
runs_at found = option_map_or (λ (th : ℕ × ThreadState). not (th.1).ended) found false

abbrev runs : Option ThreadState → Bool
runs found = option_map_or (λ (th : ThreadState). not th.ended) found false

chosen : (b : Bool) (i : ℕ) (th : ThreadState) (more : Option (ℕ × ThreadState)) (rest : Option ThreadState) → runs_at more ≡ runs rest
    → runs_at (if b then Some (i, th) else more) ≡ runs (if b then Some th else rest)
chosen true i th more rest same = refl
chosen false i th more rest same = same

same_from : (r i : ℕ) (threads : List ThreadState) → runs_at (thread_from r i threads) ≡ runs (find (is_of r) threads)
same_from r i [] = refl
same_from r i (th ∷ threads) = chosen (is_of r th) i th (thread_from r (suc i) threads) (find (is_of r) threads) (same_from r (suc i) threads)

pub runs_some : (r : ℕ) (threads : List ThreadState) (th : ThreadState) → find (λ (x : ThreadState). option_map_or (nat_eq r) x.own false) threads ≡ Some th
    → option_map_or (λ (x : ℕ × ThreadState). not (x.1).ended) (thread_of r threads) false ≡ not th.ended
runs_some r threads th found = same_from r 0 threads ∙ ap runs found

pub runs_none : (r : ℕ) (threads : List ThreadState) → find (λ (x : ThreadState). option_map_or (nat_eq r) x.own false) threads ≡ None
    → option_map_or (λ (x : ℕ × ThreadState). not (x.1).ended) (thread_of r threads) false ≡ false
runs_none r threads found = same_from r 0 threads ∙ ap runs found
