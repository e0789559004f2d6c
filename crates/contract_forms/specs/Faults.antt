-- All breaches of the rules on contracts that a tree has.
use Rattle.std.specs.Prelude.{List, ◌++◌, flat_map}
use Rattle.raw_syntax.specs.declared.RawItem.{RawItem}
use Rattle.raw_syntax.specs.declared.RawItem.TheVariants as items
use Rattle.raw_syntax.specs.declared.Raw.{Raw}
use Rattle.contract_kinds.specs.declared.Breach.{Breach}
use Rattle.contract_forms.specs.declared.function.Function.{Function}
use Rattle.contract_forms.specs.Heads.{method_breaches}
use Rattle.contract_forms.specs.Targets.{functions}
use Rattle.contract_forms.specs.Pures.{rows, recursive_from}

abbrev pub item_breaches : List Function → RawItem → List Breach
item_breaches fns (items.Class c) = flat_map (method_breaches fns) c.members
item_breaches fns (items.Func f) = method_breaches fns f

-- with these functions of the module
abbrev pub faults_with : List Function → List RawItem → List Breach
faults_with fns xs = flat_map (item_breaches fns) xs ++ recursive_from (rows fns xs) 0 fns

abbrev pub contract_faults : Raw → List Breach
contract_faults raw = faults_with (functions raw.items) raw.items
