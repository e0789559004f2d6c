-- What the front answers to a tree: the first fault of its classes; else the first of its types; else the first of its contracts;
-- else its module, or NotBuilt at its first form that isn't built yet. So a fault of any rule is told before a form that isn't built, wherever both stand.
use Rattle.std.specs.Prelude.{◌≡◌, [], Some, None, Result, Ok, Err}
use Rattle.py_base.specs.declared.Place.{Place}
use Rattle.raw_syntax.specs.declared.Raw.{Raw}
use Rattle.py_syntax.specs.declared.Module.{Module}
use Rattle.class_table.specs.declared.ClassFault.{ClassFault}
use Rattle.class_table.specs.declared.ClassFault.TheVariants as class_faults
use Rattle.class_table.specs.ClassList.{classes_of}
use Rattle.class_table.specs.Faults.{first_fault}
use Rattle.type_base.specs.declared.Fault.{Fault}
use Rattle.type_base.specs.declared.Rank.{Rank}
use Rattle.type_base.specs.declared.Rank.TheVariants as ranks
use Rattle.py_types.specs.declared.TypeFault.{TypeFault}
use Rattle.py_types.specs.declared.TypeFault.TheVariants as refusals
use Rattle.py_types.specs.Order.{IsFirstFault}
use Rattle.py_types.specs.TreeFaults.{type_faults}
use Rattle.contract_kinds.specs.declared.Rule.{Rule}
use Rattle.contract_kinds.specs.declared.Rule.TheVariants as rules
use Rattle.contract_kinds.specs.declared.Breach.{Breach}
use Rattle.contract_kinds.specs.Order as contracts
use Rattle.contract_forms.specs.Faults.{contract_faults}
use Rattle.small_module.specs.SmallModule.{module_of}
use Rattle.py_front.specs.declared.fault.FrontFault.{FrontFault}
use Rattle.py_front.specs.declared.fault.FrontFault.TheVariants as faults

abbrev pub of_classes : ClassFault → FrontFault
of_classes (class_faults.DuplicateName p) = faults.DuplicateName p
of_classes (class_faults.UnknownBase p) = faults.UnknownBase p
of_classes (class_faults.BaseCycle p) = faults.BaseCycle p
of_classes (class_faults.BadInit p) = faults.BadInit p
of_classes (class_faults.NoMain p) = faults.NoMain p
of_classes class_faults.OutOfMemory = faults.OutOfMemory

abbrev pub of_rank : Place → Rank → FrontFault
of_rank p (ranks.Mistyped rule) = faults.Mistyped p rule
of_rank p ranks.BoolAsInt = faults.BoolAsInt p
of_rank p ranks.Unassigned = faults.Unassigned p

abbrev pub of_types : Fault → FrontFault
of_types f = of_rank f.place f.rank

-- the same of what tells it
abbrev pub of_refusal : TypeFault → FrontFault
of_refusal (refusals.Mistyped p rule) = faults.Mistyped p rule
of_refusal (refusals.BoolAsInt p) = faults.BoolAsInt p
of_refusal (refusals.Unassigned p) = faults.Unassigned p
of_refusal refusals.OutOfMemory = faults.OutOfMemory

abbrev pub of_rule : Place → Rule → FrontFault
of_rule p rules.ContractPlace = faults.ContractPlace p
of_rule p rules.OldInPre = faults.OldInPre p
of_rule p rules.DutyPlace = faults.DutyPlace p
of_rule p rules.BadFraction = faults.BadFraction p
of_rule p rules.RecursivePure = faults.RecursivePure p
of_rule p rules.BadTarget = faults.BadTarget p
of_rule p rules.UnknownPredicate = faults.UnknownPredicate p

abbrev pub of_contracts : Breach → FrontFault
of_contracts b = of_rule b.place b.rule

-- the module, or NotBuilt at a place
abbrev pub built : Result Module Place → Result Module FrontFault
built (Ok m) = Ok m
built (Err p) = Err (faults.NotBuilt p)

pub data IsTreeAnswer (tree : Raw) : Result Module FrontFault → Type 0 where
  not_classed : (f : ClassFault) → first_fault tree ≡ Some f → IsTreeAnswer tree (Err (of_classes f))
  not_typed : (f : Fault) → first_fault tree ≡ None → IsFirstFault (type_faults tree (classes_of tree)) f → IsTreeAnswer tree (Err (of_types f))
  not_contracted : (b : Breach) → first_fault tree ≡ None → type_faults tree (classes_of tree) ≡ [] → contracts.IsFirstFault (contract_faults tree) b → IsTreeAnswer tree (Err (of_contracts b))
  faultless : first_fault tree ≡ None → type_faults tree (classes_of tree) ≡ [] → contract_faults tree ≡ [] → IsTreeAnswer tree (built (module_of tree))
