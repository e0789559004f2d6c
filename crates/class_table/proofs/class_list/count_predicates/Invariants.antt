use Rattle.std.proofs.Common.{◌≡◌, drop}
use Rattle.class_table.specs.ClassList.{is_predicate, count_from}
use Rattle.class_table.proofs.class_list.count_predicates.Given as goal

abbrev pub invariant-functions : goal.invariant-functions
invariant-functions l = count_from is_predicate l.count (drop l.f-index l.functions) ≡ count_from is_predicate 0 l.functions
