-- The states that `step` does steps of so far: each thread has at most one frame, whose items have forms that are built, and whose method has no conditions.
use Rattle.std.specs.Prelude.{◌≡◌, false, ⊤, List, [], ◌∷◌, All, IfSome, slice_get}
use Rattle.py_syntax.specs.declared.Value.{Value}
use Rattle.py_syntax.specs.declared.Method.{Method}
use Rattle.py_syntax.specs.declared.Module.{Module}
use Rattle.py_syntax.specs.declared.Item.{Item}
use Rattle.py_syntax.specs.declared.Item.TheVariants as item
use Rattle.machine_model.specs.declared.state.Frame.{Frame}
use Rattle.machine_model.specs.declared.state.ThreadState.{ThreadState}
use Rattle.machine_model.specs.declared.state.State.{State}

-- the item is done by `step`
abbrev pub IsBuiltItem : Item Value → Type 0
IsBuiltItem item.Begin = ⊤
IsBuiltItem (item.Num n) = ⊤
IsBuiltItem (item.Truth b) = ⊤
IsBuiltItem item.Nil = ⊤
IsBuiltItem (item.Load i) = ⊤
IsBuiltItem (item.Un p key) = ⊤
IsBuiltItem (item.Bin p key) = ⊤
IsBuiltItem (item.Store i) = ⊤
IsBuiltItem (item.Check p) = ⊤
IsBuiltItem (item.Print args) = ⊤
IsBuiltItem (item.NotNil p) = ⊤
IsBuiltItem item.Drop = ⊤
IsBuiltItem item.Pass = ⊤
IsBuiltItem (item.Fold p i) = ⊤
IsBuiltItem (item.Unfold p i) = ⊤
IsBuiltItem item.End = ⊤
IsBuiltItem i = ⊥

-- the method says nothing of its entry, and nothing of its normal end
pub record HasNoConditions (method : Method) : Type 0 where
  pub pre : method.pre ≡ []
  pub post : method.post ≡ []

pub record IsBuiltFrame (m : Module) (f : Frame) : Type 0 where
  pub items : All IsBuiltItem f.control
  pub conditions : IfSome (slice_get m.methods f.method) HasNoConditions

abbrev pub AreBuiltFrames : Module → List Frame → Type 0
AreBuiltFrames m [] = ⊤
AreBuiltFrames m (f ∷ []) = IsBuiltFrame m f
AreBuiltFrames m (f ∷ g ∷ below) = ⊥

abbrev pub IsBuiltThread : Module → ThreadState → Type 0
IsBuiltThread m th = AreBuiltFrames m th.frames

-- a thread that hasn't ended and has one frame, whose items are built
pub record IsRunning (th : ThreadState) : Type 0 where
  pub unended : th.ended ≡ false
  pub frame : Frame
  pub frames : th.frames ≡ frame ∷ []
  pub items : All IsBuiltItem frame.control

abbrev pub IsBuilt : Module → State → Type 0
IsBuilt m s = All (IsBuiltThread m) s.threads
