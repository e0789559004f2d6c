-- The functions of the module, and which of them may be the target of a thread: not `main`, with no decorator and no result, and with
-- no `Exsures`, `Old` and `MustRelease` among its contracts.
use Rattle.std.specs.Prelude.{Bool, true, false, ◌&&◌, ◌||◌, not, List, [], ◌∷◌, flat_map, Option, Some, codes, bytes_eq}
use Rattle.raw_syntax.specs.declared.RawFunc.{RawFunc}
use Rattle.raw_syntax.specs.declared.RawItem.{RawItem}
use Rattle.raw_syntax.specs.declared.RawItem.TheVariants as items
use Rattle.class_table.specs.Faults.{is_alone}
use Rattle.contract_kinds.specs.declared.Contract.{Contract}
use Rattle.contract_kinds.specs.declared.Contract.TheVariants as contracts
use Rattle.contract_forms.specs.declared.function.Function.{Function}
use Rattle.contract_forms.specs.Readings.{is_code}
use Rattle.contract_forms.specs.Heads.{Line, lines, sort_of}

-- the contracts of a method
abbrev pub is_heading : Option Contract → Bool
is_heading (Some contracts.Requires) = true
is_heading (Some contracts.Ensures) = true
is_heading (Some contracts.Exsures) = true
is_heading c = false

-- whether one of those at the head keeps the method from being a target
abbrev pub head_bars : List Line → Bool
head_bars [] = false
head_bars (l ∷ ls) = is_heading l.contract && (l.bars || head_bars ls)

abbrev pub is_target : RawFunc → Bool
is_target f = not (bytes_eq f.name (codes "main")) && (is_code (sort_of f) && (is_alone f.ret (codes "None") && not (head_bars (lines f))))

abbrev pub function_of : RawFunc → Function
function_of f = record { place = f.place; name = f.name; sort = sort_of f; is_target = is_target f }

abbrev pub item_functions : RawItem → List Function
item_functions (items.Class c) = []
item_functions (items.Func f) = function_of f ∷ []

-- the functions of the module, in the order of the text
abbrev pub functions : List RawItem → List Function
functions = flat_map item_functions
