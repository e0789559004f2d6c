-- The chain of bases in a module is that in its list of classes.
use Rattle.std.specs.Prelude.{◌≡◌, ℕ, zero, suc, ◌∷◌, length, Option, Some, None, nat_eq}
use Rattle.std.specs.List.{list_any}
use Rattle.std.proofs.Common.{refl, ap}
use Rattle.py_syntax.specs.declared.Module.{Module}
use Rattle.py_syntax.specs.Classes.{base_of, bases_from, is_subclass}
use Rattle.class_table.specs.Lookup as table

chain_is : (m : Module) (n : ℕ) (c : Option ℕ) → table.chain_from m.classes n c ≡ bases_from m n c
chain_is m zero c = refl
chain_is m (suc n) None = refl
chain_is m (suc n) (Some c) = ap (λ cs. c ∷ cs) (chain_is m n (base_of m c))

pub subclass_is : (m : Module) (c d : ℕ) → table.is_subclass m.classes c d ≡ is_subclass m c d
subclass_is m c d = ap (list_any (nat_eq d)) (chain_is m (length m.classes) (Some c))
