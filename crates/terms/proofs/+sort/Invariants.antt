use Rattle.std.proofs.Common.{◌≡◌, map, drop}
use Rattle.terms.specs.Sorts.{of_numbers, every}
use Rattle.terms.proofs.+sort.Given as goal

abbrev pub invariant-sort::are_of_numbers-loop-t : goal.invariant-sort::are_of_numbers-loop-t
invariant-sort::are_of_numbers-loop-t l = every (map of_numbers (drop l.t-index l.t-items)) ≡ every (map of_numbers l.t-items)
