use Rattle.std.proofs.Common.{◌≡◌, ◌++◌, drop}
use Rattle.contract_forms.specs.Pures.{recursive_from}
use Rattle.contract_forms.proofs.recursion.note_all.Given as goal

abbrev pub invariant-functions : goal.invariant-functions
invariant-functions l = record { at : l.number ≡ l.function-index; same : l.found ++ recursive_from l.rows l.number (drop l.function-index l.functions) ≡ l.fn.found ++ recursive_from l.rows 0 l.functions }
