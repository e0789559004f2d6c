-- What single steps of a run and longer parts of it play.
use Rattle.std.proofs.Common.{◌≡◌, ◌≢◌, ◌∙◌, sym, ap, subst, refl, ℕ, zero, suc, ◌+◌, ◌-◌, ◌≤◌, ◌<◌, Option, Some, None, Result, Ok, Err, IfOk, List, [], ◌∷◌, ◌++◌, append_assoc, append-nil, arith, replicate, take, drop, length, get_or, flat_map}
use Rattle.std.specs.Option.{option_map_or}
use Rattle.std.proofs.lemmas.List.{replicate-append-replicate, take-append-drop, take_more}
use Rattle.std.proofs.lemmas.List.Concat.{flat_map-append}
use Rattle.std.specs.Io.KnownBytes.{Appends}
use Rattle.std.proofs.KnownBytes.{Appends-nil, Appends-trans}
use Rattle.io_edge.specs.Outside.{AppendsPart}
use Rattle.py_base.specs.declared.Kind.{Kind}
use Rattle.py_base.specs.declared.Place.{Place}
use Rattle.py_syntax.specs.declared.Module.{Module}
use Rattle.machine_model.specs.declared.state.State.{State}
use Rattle.machine_model.specs.declared.event.Trace.{Trace}
use Rattle.machine_model.specs.declared.moved.Moved.{Moved}
use Rattle.machine_model.specs.declared.moved.Moved.TheVariants as moved
use Rattle.machine_model.specs.Frames.{After}
use Rattle.machine_model.specs.Steps.{Stepped, Same, Went, Fails, TooLarge, step, one_of}
use Rattle.machine_values.specs.Bits.{has_128_bits}
use Rattle.machine_step.specs.Stepping.{IsStep, trace_of}
use Rattle.schedule_runner.specs.declared.schedule.ScheduleLine.{ScheduleLine}
use Rattle.schedule_runner.specs.declared.schedule.ScheduleLine.TheVariants.{Fair}
use Rattle.schedule_runner.specs.declared.grant.Grant.{Grant}
use Rattle.schedule_runner.specs.declared.grant.Grant.TheVariants.{To, Following}
use Rattle.schedule_runner.specs.declared.ending.RunEnd.{RunEnd}
use Rattle.schedule_runner.specs.declared.ending.RunEnd.TheVariants as ending
use Rattle.schedule_runner.specs.declared.ending.RunFault.{RunFault}
use Rattle.schedule_runner.specs.declared.running.Running.{Running}
use Rattle.schedule_runner.specs.declared.running.Turn.{Turn}
use Rattle.schedule_runner.specs.declared.running.Turn.TheVariants.{Goes, Ends}
use Rattle.schedule_runner.specs.Output.{Outcome, output, before, ended, then_later, thread_of, end_in, text_of, grants_in, grants_of, fair_grants, unfinished}
use Rattle.schedule_runner.specs.Playing.{output_from, GoesOn, HasEnded, IsCut, Plays, turn_at, turn_in, IsShown}
use Rattle.schedule_runner.proofs.Pieces.{part_none, part_whole, part_front, part_behind, text-append}

abbrev Bytes : Type 0
Bytes = Option (List ℕ)

at_thread : (m : Module) (g : Grant) (more : List Grant) (r : Running) (t : ℕ) (x : Stepped) → end_in r.state ≡ None → t ≡ thread_of r.state r.last g → step has_128_bits m r.state t ≡ x → output_from m (g ∷ more) r ≡ then_later r.state t x (output has_128_bits m more t)
at_thread m g more r t x goes is stepped =
    let of_thread : ℕ → Outcome = λ n. then_later r.state n (step has_128_bits m r.state n) (output has_128_bits m more n) in
    ap (λ e. option_map_or ended e (of_thread (thread_of r.state r.last g))) goes
    ∙ ap of_thread (sym is)
    ∙ ap (λ x. then_later r.state t x (output has_128_bits m more t)) stepped

turn_goes : (o : Option RunEnd) → Goes ≡ turn_at o → o ≡ None
turn_goes None e = refl
turn_goes (Some x) e = cc

turn_ends : (o : Option RunEnd) (e : RunEnd) → Ends e ≡ turn_at o → o ≡ Some e
turn_ends None e is = cc
turn_ends (Some x) e is = cc

over : (m : Module) (more : List Grant) (last : ℕ) (s : State) (e : RunEnd) → end_in s ≡ Some e → output has_128_bits m more last s ≡ ended e
over m [] last s e is = ap (λ o. option_map_or ended o (output_over m [] last s)) is where
  output_over : Module → List Grant → ℕ → State → Outcome
  output_over m more last s = ended (ending.Spent (unfinished s))
over m (g ∷ more) last s e is = ap (λ o. option_map_or ended o (then_later s (thread_of s last g) (step has_128_bits m s (thread_of s last g)) (output has_128_bits m more (thread_of s last g)))) is

-- a step that did an item
pub turn_went : (m : Module) (g : Grant) (r : Running) (s : State) (t : ℕ) (x : Moved) (trace : Trace) (res : Result Turn RunFault) (old new : Bytes) → end_in r.state ≡ None → t ≡ thread_of r.state r.last g → x ≡ moved.Went trace → IsStep m r.state t (Ok x) s → IsShown s trace.line res old new → Plays m (g ∷ []) r res (record { state = s; last = t }) old new
turn_went m g r s t x trace res old new goes at went is shown = by res shown where
  done : IsStep m r.state t (Ok (moved.Went trace)) s
  done = subst (λ y. IsStep m r.state t (Ok y) s) went is

  line : trace.line ≡ (done.0).line
  line = ap (λ (y : Trace). y.line) done.2

  later : List Grant → Outcome
  later more = output has_128_bits m more t s

  known : (more : List Grant) → output_from m (g ∷ more) r ≡ before (one_of trace.line) (later more)
  known more = at_thread m g more r t (Went done.0 s) goes at done.1 ∙ ap (λ l. before (one_of l) (later more)) (sym line)

  by : (res : Result Turn RunFault) → IsShown s trace.line res old new → Plays m (g ∷ []) r res (record { state = s; last = t }) old new
  by (Ok Goes) shown = record { lines = one_of trace.line; goes = turn_goes (end_in s) shown.0; played = known; written = shown.1 }
  by (Ok (Ends e)) shown =
      let last : (more : List Grant) → before (one_of trace.line) (later more) ≡ record { lines = one_of trace.line; ends = e } = λ more. ap (λ o. before (one_of trace.line) o) (over m more t s e (turn_ends (end_in s) e shown.0)) ∙ ap (λ (ls : List (List ℕ)). record { lines = ls; ends = e }) (append-nil (one_of trace.line)) in
      record { lines = one_of trace.line; played = λ more. known more ∙ last more; written = shown.1 }
  by (Err fault) shown = λ more.
      subst (λ (o : Outcome). AppendsPart old new (text_of o.lines)) (sym (known more))
      (subst (λ bytes. AppendsPart old new bytes) (sym (text-append (one_of trace.line) (later more).lines)) (part_front old new (text_of (one_of trace.line)) (text_of (later more).lines) shown))

-- a step at which a test failed
pub turn_failed : (m : Module) (g : Grant) (r : Running) (s : State) (t : ℕ) (x : Moved) (kind_of : Kind) (p : Place) (res : Result Turn RunFault) (old : Bytes) → end_in r.state ≡ None → t ≡ thread_of r.state r.last g → x ≡ moved.Failed kind_of p → IsStep m r.state t (Ok x) s → IfOk res (λ turn. turn ≡ Ends (ending.Stopped kind_of p t)) → Plays m (g ∷ []) r res (record { state = s; last = t }) old old
turn_failed m g r s t x kind_of p res old goes at failed is stops = by res stops where
  done : IsStep m r.state t (Ok (moved.Failed kind_of p)) s
  done = subst (λ y. IsStep m r.state t (Ok y) s) failed is

  at_end : HasEnded m (g ∷ []) r (ending.Stopped kind_of p t) old old
  at_end = record { lines = []; played = λ more. at_thread m g more r t (Fails kind_of p) goes at done.0; written = Appends-nil old }

  by : (res : Result Turn RunFault) → IfOk res (λ turn. turn ≡ Ends (ending.Stopped kind_of p t)) → Plays m (g ∷ []) r res (record { state = s; last = t }) old old
  by (Ok turn) stops = subst (λ y. Plays m (g ∷ []) r (Ok y) (record { state = s; last = t }) old old) (sym stops) at_end
  by (Err fault) stops = λ more. part_none old (text_of (output_from m (g ∷ more) r).lines)

-- nothing was granted
pub goes_none : (m : Module) (r : Running) (old : Bytes) → end_in r.state ≡ None → GoesOn m [] r r old old
goes_none m r old goes = record { lines = []; goes = goes; played = λ more. refl; written = Appends-nil old }

regrouped : (m : Module) (gs hs more : List Grant) (r : Running) → output_from m ((gs ++ hs) ++ more) r ≡ output_from m (gs ++ (hs ++ more)) r
regrouped m gs hs more r = ap (λ grants. output_from m grants r) (append_assoc gs hs more)

before_twice : (xs ys : List (List ℕ)) (o : Outcome) → before xs (before ys o) ≡ before (xs ++ ys) o
before_twice xs ys o = ap (λ (ls : List (List ℕ)). record { lines = ls; ends = o.ends }) (sym (append_assoc xs ys o.lines))

written_twice : (xs ys : List (List ℕ)) (old mid new : Bytes) → Appends old mid (text_of xs) → Appends mid new (text_of ys) → Appends old new (text_of (xs ++ ys))
written_twice xs ys old mid new a b = subst (λ bytes. Appends old new bytes) (sym (text-append xs ys)) (Appends-trans old mid new (text_of xs) (text_of ys) a b)

-- one part after another
pub plays_then : (m : Module) (gs hs : List Grant) (r mid now : Running) (res : Result Turn RunFault) (old middle new : Bytes) → GoesOn m gs r mid old middle → Plays m hs mid res now middle new → Plays m (gs ++ hs) r res now old new
plays_then m gs hs r mid now (Ok Goes) old middle new a b = record {
  lines = a.lines ++ b.lines;
  goes = b.goes;
  played = λ more. regrouped m gs hs more r ∙ a.played (hs ++ more) ∙ ap (before a.lines) (b.played more) ∙ before_twice a.lines b.lines (output_from m more now);
  written = written_twice a.lines b.lines old middle new a.written b.written;
}
plays_then m gs hs r mid now (Ok (Ends e)) old middle new a b = record {
  lines = a.lines ++ b.lines;
  played = λ more. regrouped m gs hs more r ∙ a.played (hs ++ more) ∙ ap (before a.lines) (b.played more);
  written = written_twice a.lines b.lines old middle new a.written b.written;
}
plays_then m gs hs r mid now (Err fault) old middle new a b = λ more.
    let rest : List (List ℕ) = (output_from m (hs ++ more) mid).lines in
    subst (λ (o : Outcome). AppendsPart old new (text_of o.lines)) (sym (regrouped m gs hs more r ∙ a.played (hs ++ more)))
    (subst (λ bytes. AppendsPart old new bytes) (sym (text-append a.lines rest)) (part_behind old middle new (text_of a.lines) (text_of rest) a.written (b more)))

pub ended_more : (m : Module) (gs hs : List Grant) (r : Running) (e : RunEnd) (old new : Bytes) → HasEnded m gs r e old new → HasEnded m (gs ++ hs) r e old new
ended_more m gs hs r e old new h = record { lines = h.lines; played = λ more. regrouped m gs hs more r ∙ h.played (hs ++ more); written = h.written }

pub cut_more : (m : Module) (gs hs : List Grant) (r : Running) (old new : Bytes) → IsCut m gs r old new → IsCut m (gs ++ hs) r old new
cut_more m gs hs r old new cut = λ more. subst (λ (o : Outcome). AppendsPart old new (text_of o.lines)) (sym (regrouped m gs hs more r)) (cut (hs ++ more))

-- repeated grants
once_more : (n : ℕ) (g : Grant) → replicate n g ++ g ∷ [] ≡ replicate (n + 1) g
once_more n g = replicate-append-replicate n 1 g

pub goes_none_yet : (m : Module) (g : Grant) (n : ℕ) (r : Running) (old : Bytes) → n ≡ 0 → end_in r.state ≡ None → GoesOn m (replicate n g) r r old old
goes_none_yet m g n r old none goes = subst (λ k. GoesOn m (replicate k g) r r old old) (sym none) (goes_none m r old goes)

pub goes_once_more : (m : Module) (g : Grant) (n k : ℕ) (r mid now : Running) (old middle new : Bytes) → k ≡ n + 1 → GoesOn m (replicate n g) r mid old middle → GoesOn m (g ∷ []) mid now middle new → GoesOn m (replicate k g) r now old new
goes_once_more m g n k r mid now old middle new is a b =
    subst (λ grants. GoesOn m grants r now old new) (once_more n g ∙ ap (λ j. replicate j g) (sym is)) (plays_then m (replicate n g) (g ∷ []) r mid now (Ok Goes) old middle new a b)

all_of : (n count : ℕ) (g : Grant) → n < count → (replicate n g ++ g ∷ []) ++ replicate (count - (n + 1)) g ≡ replicate count g
all_of n count g within = ap (λ x. x ++ replicate (count - (n + 1)) g) (once_more n g) ∙ replicate-append-replicate (n + 1) (count - (n + 1)) g ∙ ap (λ k. replicate k g) (omega arith)

pub ended_at : (m : Module) (g : Grant) (n count : ℕ) (r mid now : Running) (e : RunEnd) (old middle new : Bytes) → n < count → GoesOn m (replicate n g) r mid old middle → HasEnded m (g ∷ []) mid e middle new → HasEnded m (replicate count g) r e old new
ended_at m g n count r mid now e old middle new within a b =
    subst (λ grants. HasEnded m grants r e old new) (all_of n count g within)
    (ended_more m (replicate n g ++ g ∷ []) (replicate (count - (n + 1)) g) r e old new (plays_then m (replicate n g) (g ∷ []) r mid now (Ok (Ends e)) old middle new a b))

pub cut_at : (m : Module) (g : Grant) (n count : ℕ) (r mid now : Running) (fault : RunFault) (old middle new : Bytes) → n < count → GoesOn m (replicate n g) r mid old middle → IsCut m (g ∷ []) mid middle new → IsCut m (replicate count g) r old new
cut_at m g n count r mid now fault old middle new within a b =
    subst (λ grants. IsCut m grants r old new) (all_of n count g within)
    (cut_more m (replicate n g ++ g ∷ []) (replicate (count - (n + 1)) g) r old new (plays_then m (replicate n g) (g ∷ []) r mid now (Err fault) old middle new a b))

pub plays_goes : (m : Module) (gs : List Grant) (r now : Running) (x : Turn) (old new : Bytes) → x ≡ Goes → Plays m gs r (Ok x) now old new → GoesOn m gs r now old new
plays_goes m gs r now x old new is plays = subst (λ y. Plays m gs r (Ok y) now old new) is plays

pub plays_ends : (m : Module) (gs : List Grant) (r now : Running) (x : Turn) (e : RunEnd) (old new : Bytes) → x ≡ Ends e → Plays m gs r (Ok x) now old new → HasEnded m gs r e old new
plays_ends m gs r now x e old new is plays = subst (λ y. Plays m gs r (Ok y) now old new) is plays

-- a line that goes round
fair_is : (k : ℕ) → 1 ≤ k → fair_grants k ≡ (To 0 ∷ []) ++ replicate (k - 1) Following
fair_is zero some = let none : ⊥ = omega (arith, some) in absurd none
fair_is (suc k) some = ap (λ j. To 0 ∷ replicate j Following) (omega arith)

pub fair_then : (m : Module) (line : ScheduleLine) (k : ℕ) (r mid now : Running) (res : Result Turn RunFault) (old middle new : Bytes) → line ≡ Fair k → 1 ≤ k → GoesOn m (To 0 ∷ []) r mid old middle → Plays m (replicate (k - 1) Following) mid res now middle new → Plays m (grants_in line) r res now old new
fair_then m line k r mid now res old middle new is some a b =
    subst (λ grants. Plays m grants r res now old new) (sym (ap grants_in is ∙ fair_is k some)) (plays_then m (To 0 ∷ []) (replicate (k - 1) Following) r mid now res old middle new a b)

pub fair_cut : (m : Module) (line : ScheduleLine) (k : ℕ) (r : Running) (old new : Bytes) → line ≡ Fair k → 1 ≤ k → IsCut m (To 0 ∷ []) r old new → IsCut m (grants_in line) r old new
fair_cut m line k r old new is some cut = subst (λ grants. IsCut m grants r old new) (sym (ap grants_in is ∙ fair_is k some)) (cut_more m (To 0 ∷ []) (replicate (k - 1) Following) r old new cut)

flat_map_more : {X Y : Type 0} (f : X → List Y) (xs : List X) (i : ℕ) (d : X) → i < length xs → flat_map f (take (i + 1) xs) ≡ flat_map f (take i xs) ++ f (get_or xs i d)
flat_map_more f xs i d within = ap (flat_map f) (take_more xs i d within) ∙ flat_map-append f (take i xs) (get_or xs i d ∷ []) ∙ ap (λ x. flat_map f (take i xs) ++ x) (append-nil (f (get_or xs i d)))

-- the lines so far, and one more
lines_more : (all : List ScheduleLine) (i : ℕ) (d : ScheduleLine) → i < length all → grants_of (take i all) ++ grants_in (get_or all i d) ≡ grants_of (take (i + 1) all)
lines_more all i d within = sym (flat_map_more grants_in all i d within)

lines_all : (all : List ScheduleLine) (i : ℕ) (d : ScheduleLine) → i < length all → (grants_of (take i all) ++ grants_in (get_or all i d)) ++ grants_of (drop (i + 1) all) ≡ grants_of all
lines_all all i d within = ap (λ x. x ++ grants_of (drop (i + 1) all)) (lines_more all i d within) ∙ sym (flat_map-append grants_in (take (i + 1) all) (drop (i + 1) all)) ∙ ap grants_of (take-append-drop (i + 1) all)

pub goes_line : (m : Module) (all : List ScheduleLine) (i : ℕ) (d : ScheduleLine) (r mid now : Running) (old middle new : Bytes) → i < length all → GoesOn m (grants_of (take i all)) r mid old middle → GoesOn m (grants_in (get_or all i d)) mid now middle new → GoesOn m (grants_of (take (i + 1) all)) r now old new
goes_line m all i d r mid now old middle new within a b =
    subst (λ grants. GoesOn m grants r now old new) (lines_more all i d within) (plays_then m (grants_of (take i all)) (grants_in (get_or all i d)) r mid now (Ok Goes) old middle new a b)

pub ended_line : (m : Module) (all : List ScheduleLine) (i : ℕ) (d : ScheduleLine) (r mid now : Running) (e : RunEnd) (old middle new : Bytes) → i < length all → GoesOn m (grants_of (take i all)) r mid old middle → HasEnded m (grants_in (get_or all i d)) mid e middle new → HasEnded m (grants_of all) r e old new
ended_line m all i d r mid now e old middle new within a b =
    subst (λ grants. HasEnded m grants r e old new) (lines_all all i d within)
    (ended_more m (grants_of (take i all) ++ grants_in (get_or all i d)) (grants_of (drop (i + 1) all)) r e old new (plays_then m (grants_of (take i all)) (grants_in (get_or all i d)) r mid now (Ok (Ends e)) old middle new a b))

pub cut_line : (m : Module) (all : List ScheduleLine) (i : ℕ) (d : ScheduleLine) (r mid now : Running) (fault : RunFault) (old middle new : Bytes) → i < length all → GoesOn m (grants_of (take i all)) r mid old middle → IsCut m (grants_in (get_or all i d)) mid middle new → IsCut m (grants_of all) r old new
cut_line m all i d r mid now fault old middle new within a b =
    subst (λ grants. IsCut m grants r old new) (lines_all all i d within)
    (cut_more m (grants_of (take i all) ++ grants_in (get_or all i d)) (grants_of (drop (i + 1) all)) r old new (plays_then m (grants_of (take i all)) (grants_in (get_or all i d)) r mid now (Err fault) old middle new a b))

pub ok_no_fault : (x : Turn) (f : RunFault) → ◌≡◌ {A = Result Turn RunFault} (Ok x) (Err f) → ⊥
ok_no_fault x f e = cc
