-- Blocks that stand in items.
use Rattle.std.specs.Prelude.{List, Option, Some, None}
use Rattle.py_syntax.specs.declared.Value.{Value}
use Rattle.py_syntax.specs.declared.Stmt.{Stmt}
use Rattle.py_syntax.specs.declared.Item.{Item}
use Rattle.py_syntax.specs.declared.Item.TheVariants as item

-- the block of a `finally`, where the item is one
abbrev pub finally_of : Option (Item Value) → Option (List Stmt)
finally_of (Some (item.Finally block)) = Some block
finally_of i = None
