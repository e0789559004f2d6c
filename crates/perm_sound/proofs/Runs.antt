-- A run of a small module whose `main` has no local fault is safe.
use Rattle.std.proofs.Common.{◌≡◌, ℕ, List, [], ◌∷◌, refl, sym, ap, subst, ◌∙◌, arith}
use Rattle.std.proofs.lemmas.Int.{ints}
use Rattle.std.proofs.lemmas.Option.{slice_get_within, unwrap_or-slice_get}
use Rattle.std.specs.Prelude.{pos, All, Option, Some, None, IsSome, IsTrue, slice_get, get_or, unwrap_or, Bool, true, false, ◌&&◌}
use Rattle.std.proofs.lemmas.List.Elements.{All-nil, All-push, All-append, All-weaker}
use Rattle.py_base.specs.declared.Place.{Place}
use Rattle.py_base.specs.declared.Kind.{Kind}
use Rattle.py_syntax.specs.declared.Value.{Value}
use Rattle.py_syntax.specs.declared.Method.{Method}
use Rattle.py_syntax.specs.declared.Module.{Module}
use Rattle.py_syntax.specs.SmallForms.{IsSmallModule}
use Rattle.py_syntax.specs.SmallLocal.{Outcome, Ended, Stopped, Fault, local, HasNoLocalFault}
use Rattle.py_syntax.specs.declared.Item.{Item}
use Rattle.py_syntax.specs.declared.Item.TheVariants as item
use Rattle.py_syntax.specs.WaysOut.{Ending, Normal, way_of}
use Rattle.machine_model.specs.declared.Frame.{Frame}
use Rattle.machine_model.specs.declared.State.{State}
use Rattle.machine_model.specs.declared.Event.{Event}
use Rattle.machine_model.specs.declared.Object.{Object}
use Rattle.machine_model.specs.Steps.{Run, first_frame, first_frames, first_run, run_after, continued, after, step, Stepped, Went, whole}
use Rattle.machine_model.specs.Stuck.{is_stuck, item_waits}
use Rattle.machine_model.specs.Race.{Race}
use Rattle.machine_model.specs.Safe.{Safe, is_of_measures, EndsAsDeclared, KeepsInvariant}
use Rattle.machine_model.specs.Frames.{After}
use Rattle.perm_sound.proofs.SmallItems.{IsSmallItem, AreSmall}
use Rattle.perm_sound.proofs.Keeps.{IsNoFault, Fine, goes, ends}
use Rattle.perm_sound.proofs.Items.{IsAlone}
use Rattle.perm_sound.proofs.Steps.{one_thread, Standing, begins, runs, ended, Kept, same, went, step_keeps}

abbrev IsByFirst : Event → Type 0
IsByFirst e = e.thread ≡ 0

-- a call that ended normally
abbrev IsNormal : ℕ × Ending Value → Type 0
IsNormal call = (v : Value) × (call.1 ≡ Normal v)

-- what every step keeps of a run: where it stands, that no test has failed, whose events there are, and how calls ended
record Keeps (run : Method) (r : Run) : Type 0 where
  stands : Standing run r.state
  no_fault : r.faults ≡ []
  by_first : All IsByFirst r.events
  normal : All IsNormal r.calls

frames_of : ℕ → Option Method → List Frame
frames_of i None = []
frames_of i (Some one) = first_frame i one ∷ []

frames_are : (m : Module) (found : Option Method) → first_frames m found ≡ frames_of m.main found
unfolding frames_of
frames_are m None = refl
frames_are m (Some one) = refl

begun : (m : Module) (run : Method) → m.methods ≡ run ∷ [] → m.main ≡ 0 → Keeps run (first_run m)
unfolding frames_of
begun m run alone is_main =
    let frames : first_frames m (slice_get m.methods m.main) ≡ first_frame 0 run ∷ [] =
    frames_are m (slice_get m.methods m.main)
    ∙ ap (λ (i : ℕ). frames_of i (slice_get m.methods i)) is_main
    ∙ ap (λ (all : List Method). frames_of 0 (slice_get all 0)) alone in
    record {
      stands = subst (λ (all : List Frame). Standing run (one_thread all false)) (sym frames) begins;
      no_fault = refl;
      by_first = All-nil IsByFirst;
      normal = All-nil IsNormal;
    }

more : (run : Method) (t : ℕ) (r : Run) (x : Stepped) → Kept run t x → Keeps run r → Keeps run (run_after r t x)
more run t r x same k = k
more run t r x (went a s first fine stands) k = by_kind a fine
  where
    by_kind : (a : After) → Fine a → Keeps run (run_after r t (Went a s))
    by_kind a (goes f line on) = record {
      stands = stands;
      no_fault = k.no_fault;
      by_first = All-append IsByFirst r.events [] k.by_first (All-nil IsByFirst);
      normal = All-append IsNormal r.calls [] k.normal (All-nil IsNormal);
    }
    by_kind a (ends v) = record {
      stands = stands;
      no_fault = k.no_fault;
      by_first = All-push IsByFirst r.events _ k.by_first first;
      normal = All-push IsNormal r.calls _ k.normal (v, refl);
    }

go_on : (m : Module) (run : Method) (r : Run) (list : List ℕ) → IsAlone m run → IsNoFault (local (pos 1) run) → Keeps run r → Keeps run (continued m r list)
go_on m run r [] alone sound k = k
go_on m run r (t ∷ ts) alone sound k = go_on m run (run_after r t (step whole m r.state t)) ts alone sound (more run t r (step whole m r.state t) (step_keeps m run t r.state alone sound k.stands) k)

at : {X : Type 0} (P : X → Type 0) (xs : List X) (i : ℕ) (x : X) → All P xs → slice_get xs i ≡ Some x → P x
at P xs i x all is = subst P (sym (get_or_is xs i x is)) (all i x (slice_get_within xs i x is))
  where
    get_or_is : {X : Type 0} (xs : List X) (i : ℕ) (x : X) → slice_get xs i ≡ Some x → x ≡ get_or xs i x
    get_or_is xs i x is = ap (λ o. unwrap_or o x) (sym is) ∙ unwrap_or-slice_get xs i x

no_race : (events : List Event) → All IsByFirst events → ¬ Race events
no_race events all race = race.by_others (at IsByFirst events race.i race.first all race.at_first ∙ sym (at IsByFirst events race.j race.second all race.at_second))

declared : (m : Module) (call : ℕ × Ending Value) → IsNormal call → EndsAsDeclared m call
declared m call normal one is = subst (λ (e : Ending Value). IsSome (way_of m one e)) (sym normal.1) refl

not_stuck : (run : Method) (s : State) → Standing run s → is_stuck s ≡ false
not_stuck run s begins = refl
not_stuck run s ended = refl
not_stuck run s (runs f stands) = ap (λ (b : Bool). b && true) (waits_not f.control stands.small)
  where
    waits_not : (control : List (Item Value)) → AreSmall control → item_waits (one_thread (f ∷ []) false) f.stack control ≡ false
    waits_not [] small = refl
    waits_not (i ∷ rest) small = by_item i small.0
      where
        by_item : (i : Item Value) → IsSmallItem i → item_waits (one_thread (f ∷ []) false) f.stack (i ∷ rest) ≡ false
        by_item (item.Acquire p) h = absurd h
        by_item (item.With p body) h = absurd h
        by_item (item.Join p function) h = absurd h
        by_item i h = refl

no_object : (r : ℕ) (o : Object) → slice_get [] r ≡ Some o → ⊥
no_object r o is = cc

keeps_invariants : (m : Module) (run : Method) (s : State) → Standing run s → (r : ℕ) → KeepsInvariant m s.heap r
keeps_invariants m run s begins r o l pred is = absurd (no_object r o is)
keeps_invariants m run s ended r o l pred is = absurd (no_object r o is)
keeps_invariants m run s (runs f stands) r o l pred is = absurd (no_object r o is)

no_fault : (m : Module) (run : Method) → slice_get m.methods 0 ≡ Some run → HasNoLocalFault m → IsNoFault (local (pos 1) run)
no_fault m run is none = by_end (local (pos 1) run) refl
  where
    by_end : (o : Outcome) → local (pos 1) run ≡ o → IsNoFault o
    by_end Ended e = tt
    by_end Stopped e = tt
    by_end (Fault p kind_of) e = none (record { place = p; kind = kind_of; method = 0 }) (record { method = run; unit = pos 1; is = is; at_least_one = omega (arith, ints); ends = e })

pub safe : (m : Module) → IsSmallModule m → HasNoLocalFault m → (list : List ℕ) → Safe m list
safe m small none list =
    let run : Method = small.method in
    let sound = no_fault m run (ap (λ (all : List Method). slice_get all 0) small.alone) none in
    let k : Keeps run (after m list) = go_on m run (first_run m) list (small.alone, small.is_small) sound (begun m run small.alone small.is_main) in
    record {
      no_test_fails = subst (All (λ (f : Kind × Place × ℕ). IsTrue (is_of_measures f.0))) (sym k.no_fault) (All-nil (λ (f : Kind × Place × ℕ). IsTrue (is_of_measures f.0)));
      no_race = no_race (after m list).events k.by_first;
      ends_as_declared = All-weaker IsNormal (EndsAsDeclared m) (declared m) (after m list).calls k.normal;
      keeps_invariants = keeps_invariants m run (after m list).state k.stands;
      not_stuck = not_stuck run (after m list).state k.stands;
      no_measure_fails = subst (All (λ (f : Kind × Place × ℕ). is_of_measures f.0 ≡ false)) (sym k.no_fault) (All-nil (λ (f : Kind × Place × ℕ). is_of_measures f.0 ≡ false));
    }
