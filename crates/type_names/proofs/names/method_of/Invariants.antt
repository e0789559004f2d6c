use Rattle.std.proofs.Common.{◌≡◌, Some}
use Rattle.class_table.specs.Lookup.{chain_from}
use Rattle.type_base.specs.Members.{first_in}
use Rattle.type_names.specs.Names.{signature_of, method_of}
use Rattle.type_names.proofs.names.method_of.Given as goal

abbrev pub invariant-bases : goal.invariant-bases
invariant-bases l = first_in (λ k. signature_of l.functions (Some k) l.word) (chain_from l.classes.list l.left l.class) ≡ method_of l.classes l.functions l.fn.start l.word

abbrev pub decreases-bases : goal.decreases-bases
decreases-bases l = l.left
