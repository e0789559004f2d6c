use Rattle.std.proofs.Common.{◌≡◌, drop}
use Rattle.class_table.specs.ClassList.{is_method, count_from}
use Rattle.class_table.proofs.class_list.count_methods.Given as goal

abbrev pub invariant-functions : goal.invariant-functions
invariant-functions l = count_from is_method l.count (drop l.f-index l.functions) ≡ count_from is_method 0 l.functions
