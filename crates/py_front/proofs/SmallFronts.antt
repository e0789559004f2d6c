-- A module that a text spells is that of a tree of small forms.
use Rattle.std.proofs.Common.{◌≡◌, refl, ℕ, List, Result, Ok, Err}
use Rattle.py_base.specs.declared.Place.{Place}
use Rattle.raw_syntax.specs.declared.Raw.{Raw}
use Rattle.py_syntax.specs.declared.Module.{Module}
use Rattle.small_module.specs.SmallModule.{module_of}
use Rattle.py_front.specs.TreeAnswers.{built, IsTreeAnswer, not_classed, not_typed, not_contracted, faultless}
use Rattle.py_front.specs.Answers.{IsFront, not_lexed, not_parsed, parsed}
use Rattle.py_front.specs.declared.fault.FrontFault.{FrontFault}

no_module : (f : FrontFault) (m : Module) → Err f ≡ Ok m → ⊥
no_module f m e = cc

abbrev given : Module → Result Module Place
given m = Ok m

same_given : (n m : Module) → Ok n ≡ given m → n ≡ m
same_given n m e = cc

built_is : (r : Result Module Place) (m : Module) → built r ≡ Ok m → r ≡ Ok m
built_is (Ok n) m e = cc
built_is (Err p) m e = absurd (no_module _ m e)

-- the tree that it is built of
abbrev pub Built : Module → Type 0
Built m = (tree : Raw) × (module_of tree ≡ Ok m)

tree_built : (tree : Raw) (r : Result Module FrontFault) (m : Module) → IsTreeAnswer tree r → r ≡ Ok m → Built m
tree_built tree _ m (not_classed f h) e = absurd (no_module _ m e)
tree_built tree _ m (not_typed f h k) e = absurd (no_module _ m e)
tree_built tree _ m (not_contracted f h k l) e = absurd (no_module _ m e)
tree_built tree _ m (faultless h k l) e = (tree, built_is (module_of tree) m e)

text_built : (text : List ℕ) (r : Result Module FrontFault) (m : Module) → IsFront text r → r ≡ Ok m → Built m
text_built text _ m (not_lexed f h) e = absurd (no_module _ m e)
text_built text _ m (not_parsed ts f n t h) e = absurd (no_module _ m e)
text_built text r m (parsed ts tree _ t h k) e = tree_built tree r m k e

pub spelled_tree : (text : List ℕ) (m : Module) → IsFront text (Ok m) → Built m
spelled_tree text m h = text_built text (Ok m) m h refl
