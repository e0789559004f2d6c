-- Statements. The contracts of a method stand first in it, behind its docstring, and those of a loop first in its body; every
-- expression of a statement is code, but for what a predicate or a pure function returns.
use Rattle.std.specs.Prelude.{Bool, true, false, ◌||◌, List, [], ◌∷◌, ◌++◌, map, flat_map, Option, Some, None, if◌then◌else◌, codes}
use Rattle.raw_syntax.specs.declared.RawExpr.{RawExpr}
use Rattle.raw_syntax.specs.declared.RawStmt.{RawStmt, fold-RawStmt}
use Rattle.raw_syntax.specs.declared.RawStmtForm.{RawStmtForm-F}
use Rattle.raw_syntax.specs.declared.RawElif.{RawElif, fold-RawElif}
use Rattle.raw_syntax.specs.declared.RawHandler.{RawHandler, fold-RawHandler}
use Rattle.raw_syntax.specs.declared.RawFunc.{RawFunc}
use Rattle.class_table.specs.ClassList.{has_mark}
use Rattle.class_table.specs.Declaring.{behind_docstring}
use Rattle.type_base.specs.Locals.{locals}
use Rattle.contract_kinds.specs.declared.Breach.{Breach}
use Rattle.contract_kinds.specs.declared.Contract.{Contract}
use Rattle.contract_kinds.specs.declared.Contract.TheVariants as contracts
use Rattle.contract_kinds.specs.declared.Clause.TheVariants as clauses
use Rattle.contract_kinds.specs.declared.Level.TheVariants as levels
use Rattle.contract_kinds.specs.declared.Spot.{Spot}
use Rattle.contract_kinds.specs.declared.Spot.TheVariants as spots
use Rattle.contract_forms.specs.declared.function.Sort.{Sort}
use Rattle.contract_forms.specs.declared.function.Sort.TheVariants as sorts
use Rattle.contract_forms.specs.declared.function.Function.{Function}
use Rattle.contract_kinds.specs.Words.{contract_of}
use Rattle.contract_kinds.specs.Kinds.{asserted}
use Rattle.contract_forms.specs.Readings.{Scope, scope, reading}

-- the breaches of a block, by where a returned value stands
abbrev pub Block : Type 0
Block = Scope → Spot → List Breach

pub record Line : Type 0 where
  pub contract : Option Contract  -- the contract that it is
  pub states : Bool  -- whether a `MustTerminate` is a conjunct of what it states
  pub bars : Bool  -- whether it keeps its method, at whose head it stands, from being the target of a thread
  pub breaches : Scope → Spot → Spot → List Breach  -- by where a returned value stands, and where the statement itself does

-- Heads.
abbrev pub method_head : Bool → Bool → Option Contract → Spot
method_head measured states (Some contracts.Requires) = spots.MethodHead (measured || states)
method_head measured states (Some contracts.Ensures) = spots.MethodHead measured
method_head measured states (Some contracts.Exsures) = spots.MethodHead measured
method_head measured states c = spots.Alone

abbrev pub loop_head : Bool → Bool → Option Contract → Spot
loop_head measured states (Some contracts.Invariant) = spots.LoopHead (measured || states)
loop_head measured states c = spots.Alone

-- where the statement behind this one stands
abbrev pub after : Spot → Line → Spot
after (spots.MethodHead measured) l = method_head measured l.states l.contract
after (spots.LoopHead measured) l = loop_head measured l.states l.contract
after at l = spots.Alone

-- statements one behind another, of which the first stands there
abbrev pub block_breaches : List Line → Scope → Spot → Spot → List Breach
block_breaches [] sc back at = []
block_breaches (l ∷ ls) sc back at = l.breaches sc back at ++ block_breaches ls sc back (after at l)

-- those of a block that is no head
abbrev pub lone_breaches : List Line → Scope → Spot → List Breach
lone_breaches ls sc back = block_breaches ls sc back spots.Alone

-- The statements that are contracts.
abbrev pub contract_form : RawStmtForm-F Line Block Block Line → Option Contract
contract_form (RawStmtForm-F.Eval e) = contract_of (reading e).called
contract_form form = None

abbrev pub states_form : RawStmtForm-F Line Block Block Line → Bool
states_form (RawStmtForm-F.Eval e) = (reading e).states
states_form form = false

abbrev pub is_exsures : Option Contract → Bool
is_exsures (Some contracts.Exsures) = true
is_exsures c = false

abbrev pub bars_form : RawStmtForm-F Line Block Block Line → Bool
bars_form (RawStmtForm-F.Eval e) = is_exsures (contract_of (reading e).called) || (reading e).bars
bars_form form = false

-- All statements.
unfoldable pub in_code : Scope → RawExpr → List Breach
in_code sc e = (reading e).breaches sc spots.Value

unfoldable pub returned_breaches : Scope → Spot → Option RawExpr → List Breach
returned_breaches sc back None = []
returned_breaches sc back (Some e) = (reading e).breaches sc back

abbrev pub part_breaches : RawExpr → List Line → Scope → Spot → List Breach
part_breaches e ls sc back = in_code sc e ++ lone_breaches ls sc back

abbrev pub all_blocks : Scope → Spot → List Block → List Breach
all_blocks sc back bs = flat_map (λ (b : Block). b sc back) bs

abbrev pub breaches_form : RawStmtForm-F Line Block Block Line → Scope → Spot → Spot → List Breach
breaches_form (RawStmtForm-F.Return e) sc back at = returned_breaches sc back e
breaches_form (RawStmtForm-F.Assert e) sc back at = in_code sc e
breaches_form (RawStmtForm-F.Eval e) sc back at = (reading e).breaches sc at
breaches_form (RawStmtForm-F.Declare target ty e) sc back at = in_code sc target ++ in_code sc e
breaches_form (RawStmtForm-F.Assign target e) sc back at = in_code sc target ++ in_code sc e
breaches_form (RawStmtForm-F.Augment target p o e) sc back at = in_code sc target ++ in_code sc e
breaches_form (RawStmtForm-F.If e ss elifs other) sc back at = in_code sc e ++ (lone_breaches ss sc back ++ (all_blocks sc back elifs ++ lone_breaches other sc back))
breaches_form (RawStmtForm-F.While e ss) sc back at = in_code sc e ++ block_breaches ss sc back (spots.LoopHead false)
breaches_form (RawStmtForm-F.Try ss handlers other last) sc back at =
    lone_breaches ss sc back ++ (all_blocks sc back handlers ++ (lone_breaches other sc back ++ lone_breaches last sc back))
breaches_form (RawStmtForm-F.With e ss) sc back at = in_code sc e ++ lone_breaches ss sc back
breaches_form form sc back at = []

abbrev pub line_form : RawStmtForm-F Line Block Block Line → Line
line_form f = record { contract = contract_form f; states = states_form f; bars = bars_form f; breaches = breaches_form f }

abbrev pub line : RawStmt → Line
line = fold-RawStmt Line Block Block Line line_form (λ e. part_breaches e.condition e.body) (λ h. lone_breaches h.body) (λ s. s.form)

abbrev pub part_block : RawElif → Block
part_block = fold-RawElif Line Block Block Line line_form (λ e. part_breaches e.condition e.body) (λ h. lone_breaches h.body) (λ s. s.form)

abbrev pub handler_block : RawHandler → Block
handler_block = fold-RawHandler Line Block Block Line line_form (λ e. part_breaches e.condition e.body) (λ h. lone_breaches h.body) (λ s. s.form)

-- Functions and methods.
abbrev pub sort_of : RawFunc → Sort
sort_of f = if has_mark (codes "Predicate") f then sorts.Predicate else if has_mark (codes "Pure") f then sorts.Pure else sorts.Code

-- where a returned value stands
abbrev pub returned_spot : Sort → Spot
returned_spot sorts.Code = spots.Value
returned_spot sorts.Predicate = asserted clauses.Predicate
returned_spot sorts.Pure = spots.Inside clauses.Pure levels.Term

-- where the first statement stands: a predicate and a pure function have no contracts
abbrev pub first_spot : Sort → Spot
first_spot sorts.Code = spots.MethodHead false
first_spot s = spots.Alone

-- the statements of a method, behind its docstring
abbrev pub lines : RawFunc → List Line
lines f = map line (behind_docstring f.body)

abbrev pub method_breaches : List Function → RawFunc → List Breach
method_breaches fns f = block_breaches (lines f) (scope fns f (locals f)) (returned_spot (sort_of f)) (first_spot (sort_of f))
