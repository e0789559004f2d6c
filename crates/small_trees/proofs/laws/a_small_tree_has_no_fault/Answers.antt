use Rattle.class_table.specs.ClassList.{classes_of}
use Rattle.small_trees.proofs.Whole.{no_fault_of_classes, no_fault_of_types, no_fault_of_contracts}
use Rattle.small_trees.proofs.laws.a_small_tree_has_no_fault.Goals as goal

pub returns : goal.returns
returns c = record { classes = no_fault_of_classes; types = λ tree m is. no_fault_of_types tree m (classes_of tree) is; contracts = no_fault_of_contracts }
