-- The first of several handlers.
use Rattle.std.proofs.Common.{◌≡◌, ℕ, true, false, List, [], ◌∷◌, refl, ap, ◌∙◌}
use Rattle.std.specs.Prelude.{if◌then◌else◌}
use Rattle.py_base.specs.declared.Place.{Place}
use Rattle.py_syntax.specs.declared.Stmt.{Stmt}
use Rattle.py_syntax.specs.declared.Module.{Module}
use Rattle.py_syntax.specs.Classes.{is_subclass}
use Rattle.py_syntax.specs.StmtItems.{block_items}
use Rattle.machine_model.specs.declared.Object.{Object}
use Rattle.machine_model.specs.declared.Frame.{Frame}
use Rattle.machine_model.specs.Frames.{stays}
use Rattle.machine_model.specs.Items.{handles, with_control}
use Rattle.machine_items.specs.Handlers.{tried}

handles_is : (m : Module) (c : ℕ) (p : Place) (first : ℕ × List Stmt) (rest : List (ℕ × List Stmt)) (heap : List Object) (f : Frame) (below : List Frame)
    → handles m c p (first ∷ rest) heap f below ≡ (if is_subclass m c first.0 then stays heap (with_control (block_items first.1 f.control) f) below else tried c p rest heap f below)
handles_is m c p first [] heap f below = refl
handles_is m c p first (h ∷ hs) heap f below = refl

pub handles_first : (m : Module) (c : ℕ) (p : Place) (all : List (ℕ × List Stmt)) (first : ℕ × List Stmt) (rest : List (ℕ × List Stmt)) (heap : List Object) (f : Frame) (below : List Frame)
    → all ≡ first ∷ rest → is_subclass m c first.0 ≡ true → handles m c p all heap f below ≡ stays heap (with_control (block_items first.1 f.control) f) below
handles_first m c p all first rest heap f below is matches =
    ap (λ hs. handles m c p hs heap f below) is ∙ handles_is m c p first rest heap f below
    ∙ ap (λ b. if b then stays heap (with_control (block_items first.1 f.control) f) below else tried c p rest heap f below) matches

pub handles_none : (m : Module) (c : ℕ) (p : Place) (all : List (ℕ × List Stmt)) (first : ℕ × List Stmt) (rest : List (ℕ × List Stmt)) (heap : List Object) (f : Frame) (below : List Frame)
    → all ≡ first ∷ rest → is_subclass m c first.0 ≡ false → handles m c p all heap f below ≡ tried c p rest heap f below
handles_none m c p all first rest heap f below is matches =
    ap (λ hs. handles m c p hs heap f below) is ∙ handles_is m c p first rest heap f below
    ∙ ap (λ b. if b then stays heap (with_control (block_items first.1 f.control) f) below else tried c p rest heap f below) matches
