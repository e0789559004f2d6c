-- A frame or a thread that is taken out of its place, changed and put back.
use Rattle.std.proofs.Common.{◌≡◌, ◌≤◌, ◌<◌, ℕ, zero, suc, List, [], ◌∷◌, ◌++◌, length, drop, set, slice_get, Some, refl, ap, sym, ◌∙◌, arith}
use Rattle.std.proofs.lemmas.List.{set-set, set_past, set-append_left, same_from_push}
use Rattle.machine_model.specs.declared.state.Frame.{Frame}
use Rattle.machine_model.specs.declared.state.ThreadState.{ThreadState}
use Rattle.machine_model.specs.Steps.{own_of}
use Rattle.machine_deeds.specs.declared.deed.FrameDeed.{FrameDeed}
use Rattle.machine_deeds.specs.declared.deed.FramesDeed.{FramesDeed}
use Rattle.machine_deeds.specs.Deeds.{changed, changed_at, ends, frames_after, frames_of, moved}

set_same : {X : Type 0} (xs : List X) (i : ℕ) (x : X) → slice_get xs i ≡ Some x → set xs i x ≡ xs
set_same [] i x there = refl
set_same (y ∷ ys) zero x there = let same : x ≡ y = cc in ap (λ z. z ∷ ys) same
set_same (y ∷ ys) (suc i) x there = ap (λ zs. y ∷ zs) (set_same ys i x there)

-- what was taken out comes back as it was
pub put_back : {X : Type 0} (xs : List X) (i : ℕ) (x idle : X) → slice_get xs i ≡ Some x → set (set xs i idle) i x ≡ xs
put_back xs i x idle there = set-set xs i idle x ∙ set_same xs i x there

changed_set : (d : FrameDeed) (i : ℕ) (frames : List Frame) (f : Frame) → slice_get frames i ≡ Some f → set frames i (changed d f) ≡ changed_at d i frames
changed_set d i [] f there = cc
changed_set d zero (g ∷ below) f there = let same : f ≡ g = cc in ap (λ h. changed d h ∷ below) same
changed_set d (suc i) (g ∷ below) f there = ap (λ fs. g ∷ fs) (changed_set d i below f there)

pub changed_there : (d : FrameDeed) (i : ℕ) (frames : List Frame) (f idle : Frame) → slice_get frames i ≡ Some f → set (set frames i idle) i (changed d f) ≡ changed_at d i frames
changed_there d i frames f idle there = set-set frames i idle (changed d f) ∙ changed_set d i frames f there

pub changed_past : (d : FrameDeed) (i : ℕ) (frames : List Frame) → length frames ≤ i → changed_at d i frames ≡ frames
changed_past d i [] past = refl
changed_past d zero (g ∷ below) past = absurd (omega arith)
changed_past d (suc i) (g ∷ below) past = ap (λ fs. g ∷ fs) (changed_past d i below (omega arith))

pub changed_below : (d : FrameDeed) (frames : List Frame) → drop 1 (changed_at d 1 frames) ≡ changed_at d 0 (drop 1 frames)
changed_below d [] = refl
changed_below d (f ∷ below) = refl

pub moved_there : (d : FramesDeed) (t : ℕ) (threads : List ThreadState) (th idle : ThreadState) → slice_get threads t ≡ Some th
    → set (set threads t idle) t (record th { frames = frames_after d th.frames; ended = ends d }) ≡ moved d t threads
moved_there d t threads th idle there =
    set-set threads t idle (record th { frames = frames_after d th.frames; ended = ends d })
    ∙ ap (λ o. set threads t (record { frames = frames_after d (frames_of o); own = own_of o; ended = ends d })) (sym there)

pub moved_past : (d : FramesDeed) (t : ℕ) (threads : List ThreadState) → length threads ≤ t → moved d t threads ≡ threads
moved_past d t threads past = set_past threads t _ past

get_left : {X : Type 0} (xs ys : List X) (i : ℕ) → i < length xs → slice_get (xs ++ ys) i ≡ slice_get xs i
get_left [] ys i within = absurd (omega arith)
get_left (x ∷ xs) ys zero within = refl
get_left (x ∷ xs) ys (suc i) within = get_left xs ys i (omega arith)

pub moved_beside : (d : FramesDeed) (t : ℕ) (threads : List ThreadState) (th : ThreadState) → t < length threads → moved d t (threads ++ th ∷ []) ≡ moved d t threads ++ th ∷ []
moved_beside d t threads th within =
    ap (λ o. set (threads ++ th ∷ []) t (record { frames = frames_after d (frames_of o); own = own_of o; ended = ends d })) (get_left threads (th ∷ []) t within)
    ∙ set-append_left threads (th ∷ []) t _ within

-- two lists with one member behind each are equal only where they are equal
pub last_away : {X : Type 0} (xs ys : List X) (x y : X) → xs ++ x ∷ [] ≡ ys ++ y ∷ [] → xs ≡ ys
last_away xs ys x y same = (same_from_push xs ys x y same).0
