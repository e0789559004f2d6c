-- The faults of a text by the rules that look at forms: rules 1, 6, 7, 12, 13, 19 to 22, 25, of rule 11 what doesn't ask for
-- types of expressions, and unassigned locals.
use Rattle.std.specs.Prelude.{ℕ, suc, List, [], ◌∷◌, ◌++◌, flat_map, Option, Some, None}
use Rattle.raw_syntax.specs.declared.RawFunc.{RawFunc}
use Rattle.raw_syntax.specs.declared.RawItem.{RawItem}
use Rattle.raw_syntax.specs.declared.RawItem.TheVariants as items
use Rattle.raw_syntax.specs.declared.Raw.{Raw}
use Rattle.class_table.specs.declared.Classes.{Classes}
use Rattle.type_base.specs.declared.Fault.{Fault}
use Rattle.type_forms.specs.Signatures.{head_faults}
use Rattle.type_ways.specs.Settings.{setting_faults}
use Rattle.type_forms.specs.Jumps.{jump_faults}
use Rattle.type_ways.specs.Ends.{end_faults}
use Rattle.type_forms.specs.Statements.{statement_faults}
use Rattle.type_ways.specs.Ways.{unassigned_faults}

-- the head of a function, and the annotations of its locals
unfoldable pub declaring_faults : Classes → List RawItem → Option ℕ → RawFunc → List Fault
declaring_faults cs xs owner f = head_faults cs xs owner f ++ setting_faults f

-- its jumps, and its end
unfoldable pub leaving_faults : RawFunc → List Fault
leaving_faults f = jump_faults f ++ end_faults f

-- its statements, and the reads of its locals
unfoldable pub running_faults : Classes → List RawItem → Option ℕ → RawFunc → List Fault
running_faults cs xs owner f = statement_faults cs xs owner f ++ unassigned_faults f

-- those of a method of the class of this number, or of a function
unfoldable pub function_faults : Classes → List RawItem → Option ℕ → RawFunc → List Fault
function_faults cs xs owner f = declaring_faults cs xs owner f ++ leaving_faults f ++ running_faults cs xs owner f

-- those before, and those of the classes from number n on and of the functions
abbrev pub faults_behind : Classes → List RawItem → ℕ → List Fault → List RawItem → List Fault
faults_behind cs xs n before [] = before
faults_behind cs xs n before (items.Class c ∷ ys) = faults_behind cs xs (suc n) (before ++ flat_map (function_faults cs xs (Some n)) c.members) ys
faults_behind cs xs n before (items.Func f ∷ ys) = faults_behind cs xs n (before ++ function_faults cs xs None f) ys

abbrev pub form_faults : Raw → Classes → List Fault
form_faults raw cs = faults_behind cs raw.items 1 [] raw.items
