-- Rule 11, of ways: no way through a method whose result isn't None reaches its end, else the fault stands at the method's
-- name. Conditions aren't looked at: each branch may be taken, a loop may end at its head, and each handler may run.
use Rattle.std.specs.Prelude.{Bool, true, false, ◌&&◌, ◌||◌, not, List, map, codes}
use Rattle.std.specs.List.{list_any}
use Rattle.raw_syntax.specs.declared.RawStmt.{RawStmt, fold-RawStmt}
use Rattle.raw_syntax.specs.declared.RawStmtForm.{RawStmtForm-F}
use Rattle.raw_syntax.specs.declared.RawElif.{RawElif, fold-RawElif}
use Rattle.raw_syntax.specs.declared.RawHandler.{RawHandler, fold-RawHandler}
use Rattle.raw_syntax.specs.declared.RawFunc.{RawFunc}
use Rattle.class_table.specs.Faults.{is_alone}
use Rattle.class_table.specs.Values.{every}
use Rattle.type_base.specs.declared.Fault.{Fault}
use Rattle.type_base.specs.declared.Rank.TheVariants as ranks
use Rattle.type_base.specs.Faults.{fault_if}

abbrev pub some : List Bool → Bool
some = list_any (λ b. b)

abbrev pub end_form : RawStmtForm-F Bool Bool Bool Bool → Bool
end_form RawStmtForm-F.Break = false
end_form RawStmtForm-F.Continue = false
end_form (RawStmtForm-F.Return e) = false
end_form (RawStmtForm-F.Raise p n) = false
end_form (RawStmtForm-F.If e ss elifs other) = every ss || (some elifs || every other)
end_form (RawStmtForm-F.Try ss handlers other last) = every last && (some handlers || (every ss && every other))
end_form (RawStmtForm-F.With e ss) = every ss
end_form form = true

-- whether some way through the statement reaches what stands behind it
abbrev pub may_end : RawStmt → Bool
may_end = fold-RawStmt Bool Bool Bool Bool end_form (λ e. every e.body) (λ h. every h.body) (λ s. s.form)

abbrev pub part_may_end : RawElif → Bool
part_may_end = fold-RawElif Bool Bool Bool Bool end_form (λ e. every e.body) (λ h. every h.body) (λ s. s.form)

abbrev pub handler_may_end : RawHandler → Bool
handler_may_end = fold-RawHandler Bool Bool Bool Bool end_form (λ e. every e.body) (λ h. every h.body) (λ s. s.form)

abbrev pub end_faults : RawFunc → List Fault
end_faults f = fault_if (not (is_alone f.ret (codes "None")) && every (map may_end f.body)) f.place (ranks.Mistyped 11)
