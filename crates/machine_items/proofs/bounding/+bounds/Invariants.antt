use Rattle.std.proofs.Common.{◌≡◌, drop, map}
use Rattle.std.specs.List.{list_any}
use Rattle.machine_items.specs.Bounds.{bounds}
use Rattle.machine_items.proofs.bounding.+bounds.Given as goal

abbrev pub invariant-any_bounds-loop-a : goal.invariant-any_bounds-loop-a
invariant-any_bounds-loop-a l = list_any (λ b. b) (map bounds l.all) ≡ list_any (λ b. b) (map bounds (drop l.a-index l.all))
