-- Rule 13: `break` and `continue` stand in a loop; none of them nor `return` leaves a `finally` block.
use Rattle.std.specs.Prelude.{Bool, true, false, not, List, [], ◌++◌, flat_map, map}
use Rattle.py_base.specs.declared.Place.{Place}
use Rattle.raw_syntax.specs.declared.RawStmt.{RawStmt, fold-RawStmt}
use Rattle.raw_syntax.specs.declared.RawStmtForm.{RawStmtForm-F}
use Rattle.raw_syntax.specs.declared.RawElif.{RawElif, fold-RawElif}
use Rattle.raw_syntax.specs.declared.RawHandler.{RawHandler, fold-RawHandler}
use Rattle.raw_syntax.specs.declared.RawFunc.{RawFunc}
use Rattle.type_base.specs.declared.Fault.{Fault}
use Rattle.type_base.specs.declared.Rank.TheVariants as ranks
use Rattle.type_base.specs.Faults.{fault_if}

-- the faults where a loop may be left or gone on with, and where a `finally` block may not be left
abbrev pub Jumping : Type 0
Jumping = Bool → Bool → List Fault

abbrev pub all_jumps : List Jumping → Bool → Bool → List Fault
all_jumps js looped guarded = flat_map (λ (j : Jumping). j looped guarded) js

abbrev pub jump_form : RawStmtForm-F (Place → Jumping) Jumping Jumping Jumping → Place → Jumping
jump_form RawStmtForm-F.Break p looped guarded = fault_if (not looped) p (ranks.Mistyped 13)
jump_form RawStmtForm-F.Continue p looped guarded = fault_if (not looped) p (ranks.Mistyped 13)
jump_form (RawStmtForm-F.Return e) p looped guarded = fault_if guarded p (ranks.Mistyped 13)
jump_form (RawStmtForm-F.If e ss elifs other) p looped guarded = all_jumps ss looped guarded ++ all_jumps elifs looped guarded ++ all_jumps other looped guarded
jump_form (RawStmtForm-F.While e ss) p looped guarded = all_jumps ss true guarded
jump_form (RawStmtForm-F.Try ss handlers other last) p looped guarded = all_jumps ss looped guarded ++ all_jumps handlers looped guarded ++ all_jumps other looped guarded ++ all_jumps last false true
jump_form (RawStmtForm-F.With e ss) p looped guarded = all_jumps ss looped guarded
jump_form form p looped guarded = []

abbrev pub jumps : RawStmt → Jumping
jumps = fold-RawStmt (Place → Jumping) Jumping Jumping Jumping jump_form (λ e. all_jumps e.body) (λ h. all_jumps h.body) (λ s. s.form s.place)

abbrev pub part_jumps : RawElif → Jumping
part_jumps = fold-RawElif (Place → Jumping) Jumping Jumping Jumping jump_form (λ e. all_jumps e.body) (λ h. all_jumps h.body) (λ s. s.form s.place)

abbrev pub handler_jumps : RawHandler → Jumping
handler_jumps = fold-RawHandler (Place → Jumping) Jumping Jumping Jumping jump_form (λ e. all_jumps e.body) (λ h. all_jumps h.body) (λ s. s.form s.place)

abbrev pub jump_faults : RawFunc → List Fault
jump_faults f = all_jumps (map jumps f.body) false false
