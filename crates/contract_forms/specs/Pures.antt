-- Pure functions that reach themselves. The functions of the module are numbered in the order of the text, and each has a row with the
-- numbers of the pure functions that it calls, where it is pure itself. From a function one reaches those of its row, and those that
-- these reach.
use Rattle.std.specs.Prelude.{ℕ, zero, suc, Bool, false, ◌||◌, nat_eq, List, [], ◌∷◌, ◌++◌, length, map, flat_map, slice_get, Option, Some, None, if◌then◌else◌}
use Rattle.std.specs.Option.{option_map_or}
use Rattle.std.specs.List.{list_any}
use Rattle.raw_syntax.specs.declared.RawExpr.{RawExpr}
use Rattle.raw_syntax.specs.declared.RawStmt.{RawStmt}
use Rattle.raw_syntax.specs.declared.RawStmtForm.{RawStmtForm, RawStmtForm-F, out-RawStmtForm}
use Rattle.raw_syntax.specs.declared.RawElif.{RawElif}
use Rattle.raw_syntax.specs.declared.RawHandler.{RawHandler}
use Rattle.raw_syntax.specs.declared.RawParam.{RawParam}
use Rattle.raw_syntax.specs.declared.RawFunc.{RawFunc}
use Rattle.raw_syntax.specs.declared.RawItem.{RawItem}
use Rattle.raw_syntax.specs.declared.RawItem.TheVariants as items
use Rattle.contract_kinds.specs.declared.Rule.TheVariants as rules
use Rattle.contract_kinds.specs.declared.Breach.{Breach}
use Rattle.contract_forms.specs.declared.function.Function.{Function}
use Rattle.contract_kinds.specs.Kinds.{breach_if}
use Rattle.contract_forms.specs.Readings.{is_pure, reading}
use Rattle.contract_forms.specs.Heads.{sort_of}

-- Rows. The body of a pure function returns an expression.
abbrev pub value_calls : List Function → List RawParam → Option RawExpr → List ℕ
value_calls fns params None = []
value_calls fns params (Some e) = (reading e).calls fns params

abbrev pub form_calls : List Function → List RawParam → RawStmtForm-F RawStmtForm RawElif RawHandler RawStmt → List ℕ
form_calls fns params (RawStmtForm-F.Return e) = value_calls fns params e
form_calls fns params form = []

abbrev pub statement_calls : List Function → List RawParam → RawStmt → List ℕ
statement_calls fns params s = form_calls fns params (out-RawStmtForm s.form)

abbrev pub row : List Function → RawFunc → List ℕ
row fns f = if is_pure (sort_of f) then flat_map (statement_calls fns f.params) f.body else []

abbrev pub item_rows : List Function → RawItem → List (List ℕ)
item_rows fns (items.Class c) = []
item_rows fns (items.Func f) = row fns f ∷ []

abbrev pub rows : List Function → List RawItem → List (List ℕ)
rows fns = flat_map (item_rows fns)

-- Rounds: which functions reach the one of number b by so many calls and one, at most; as many rounds as there are functions are enough.
abbrev pub is_true : Bool → Bool
is_true b = b

abbrev pub leads : ℕ → List Bool → ℕ → Bool
leads b reached c = nat_eq c b || option_map_or is_true (slice_get reached c) false

-- whether a function with this row calls the one of number b, or one that reaches it
abbrev pub calls_toward : ℕ → List Bool → List ℕ → Bool
calls_toward b reached cs = list_any (leads b reached) cs

abbrev pub nowhere : List ℕ → Bool
nowhere cs = false

abbrev pub reaching : List (List ℕ) → ℕ → ℕ → List Bool
reaching rs b zero = map nowhere rs
reaching rs b (suc k) = map (calls_toward b (reaching rs b k)) rs

abbrev pub is_recursive : List (List ℕ) → ℕ → Bool
is_recursive rs b = option_map_or (calls_toward b (reaching rs b (length rs))) (slice_get rs b) false

-- The breaches of these functions, which are those from number b on, each at its name.
abbrev pub recursive_from : List (List ℕ) → ℕ → List Function → List Breach
recursive_from rs b [] = []
recursive_from rs b (f ∷ fs) = breach_if (is_recursive rs b) f.place rules.RecursivePure ++ recursive_from rs (suc b) fs
