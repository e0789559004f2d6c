-- No `finally` block stands among built items.
use Rattle.std.proofs.Common.{◌≡◌, ℕ, List, [], ◌∷◌, drop, refl}
use Rattle.std.specs.Prelude.{All}
use Rattle.std.proofs.lemmas.List.Elements.{All-drop, All-head}
use Rattle.py_syntax.specs.declared.Value.{Value}
use Rattle.py_syntax.specs.declared.Item.{Item}
use Rattle.py_syntax.specs.declared.Item.TheVariants as item
use Rattle.py_syntax.specs.Control.{opened}
use Rattle.machine_step.specs.Built.{IsBuiltItem}

opened_built : (control : List (Item Value)) → All IsBuiltItem control → opened control ≡ control
opened_built [] built = refl
opened_built (item.Finally block ∷ rest) built = absurd (All-head IsBuiltItem (item.Finally block) rest built)
opened_built (i ∷ rest) built = refl

pub opened_drop : (n : ℕ) (control : List (Item Value)) → All IsBuiltItem control → opened (drop n control) ≡ drop n control
opened_drop n control built = opened_built (drop n control) (All-drop IsBuiltItem n control built)
