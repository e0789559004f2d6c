-- A small text with each kind of statement, and with lines that are passed over, and the module that it spells.
use Rattle.std.proofs.Common.{refl, inl, inr, ℕ, List, [], ◌∷◌, ◌++◌, Ok, codes, arith}
use Rattle.py_base.specs.declared.Place.{Place}
use Rattle.py_syntax.specs.declared.Expr.{Expr}
use Rattle.py_syntax.specs.declared.PrintArg.TheVariants.{Value}
use Rattle.py_syntax.specs.declared.Stmt.{Stmt}
use Rattle.py_syntax.specs.declared.StmtForm.TheVariants.{Pass, Store, Check, Print}
use Rattle.py_syntax.specs.declared.Module.{Module}
use Rattle.small_module.specs.SmallTree.{number_at, local_at, sum_at, equation_at}
use Rattle.small_module.specs.SmallModule.{main_module}
use Rattle.py_front.specs.Answers.{IsFront}
use Rattle.small_text.specs.TextLines.{is_skipped}
use Rattle.small_text.specs.SmallForms.{is_number, number_value, is_name, is_reserved, place_at, stmt_at, SpellsOperand, spells_number, spells_local, SpellsExpr, spells_operand, spells_plus, spells_minus, SpellsStmt, spells_pass, spells_store, spells_check, spells_print}
use Rattle.small_text.specs.SmallText.{Spells}
use Rattle.small_text.proofs.Joined.{same_module}

pub example_text : List ℕ
example_text =
    codes "  # counts" ++ 10 ∷ codes "def main() -> None:" ++ 10 ∷ 10 ∷ codes "    pass" ++ 10 ∷ codes "    count = 30" ++ 10 ∷ codes "    a = count + 7" ++ 10 ∷ codes "    " ++ 10
    ∷ codes "    assert count == a - 7" ++ 10 ∷ codes "    print(a)" ++ 10 ∷ codes "# ends"

-- `a`, and `count` before it
assigned : List (List ℕ)
assigned = codes "count" ∷ codes "a" ∷ []

sum : Expr
sum = sum_at (place_at 6 15) 1 (local_at (place_at 6 9) 0) (number_at (place_at 6 17) 7)

difference : Expr
difference = sum_at (place_at 8 23) 2 (local_at (place_at 8 21) 1) (number_at (place_at 8 25) 7)

statements : List Stmt
statements =
    stmt_at 4 Pass
    ∷ stmt_at 5 (Store 0 (number_at (place_at 5 13) 30))
    ∷ stmt_at 6 (Store 1 sum)
    ∷ stmt_at 8 (Check (equation_at (place_at 8 18) (local_at (place_at 8 12) 0) difference))
    ∷ stmt_at 9 (Print (Value (local_at (place_at 9 11) 1) ∷ []))
    ∷ []

pub example_module : Module
example_module = main_module (place_at 2 5) 2 statements (place_at 11 1)

local : (p : Place) → SpellsOperand (codes "count" ∷ []) p (codes "count") (local_at p 0)
unfolding is_name is_reserved
local p = spells_local refl refl refl

sum_spelled : SpellsExpr (codes "count" ∷ []) 6 9 (codes "count + 7") sum
unfolding sum is_number number_value
sum_spelled = spells_plus (record { x = codes "count"; y = codes "7"; a = _; b = _; whole = refl; left = local (place_at 6 9); right = spells_number refl refl; is = refl })

difference_spelled : SpellsExpr assigned 8 21 (codes "a - 7") difference
unfolding difference assigned is_number number_value is_name is_reserved
difference_spelled = spells_minus (record { x = codes "a"; y = codes "7"; a = _; b = _; whole = refl; left = spells_local refl refl refl; right = spells_number refl refl; is = refl })

first_stored : SpellsStmt [] 5 (codes "    count = 30") (stmt_at 5 (Store 0 (number_at (place_at 5 13) 30))) (codes "count" ∷ [])
unfolding is_number number_value is_name is_reserved
first_stored = spells_store (codes "count") (codes "30") (number_at (place_at 5 13) 30) refl refl (spells_operand (spells_number refl refl)) refl refl

second_stored : SpellsStmt (codes "count" ∷ []) 6 (codes "    a = count + 7") (stmt_at 6 (Store 1 sum)) assigned
unfolding assigned is_name is_reserved
second_stored = spells_store (codes "a") (codes "count + 7") sum refl refl sum_spelled refl refl

checked : SpellsStmt assigned 8 (codes "    assert count == a - 7") (stmt_at 8 (Check (equation_at (place_at 8 18) (local_at (place_at 8 12) 0) difference))) assigned
unfolding assigned is_name is_reserved
checked = spells_check (codes "count") (codes "a - 7") (local_at (place_at 8 12) 0) difference refl (spells_operand (spells_local refl refl refl)) difference_spelled refl refl

printed : SpellsStmt assigned 9 (codes "    print(a)") (stmt_at 9 (Print (Value (local_at (place_at 9 11) 1) ∷ []))) assigned
unfolding assigned is_name is_reserved
printed = spells_print (codes "a") (local_at (place_at 9 11) 1) refl (spells_operand (spells_local refl refl refl)) refl refl

pub example_is_small : Spells example_text example_module
unfolding example_text example_module statements is_skipped assigned
example_is_small = inl (
  refl,
  inr (record {
    body = statements;
    names = assigned;
    head = refl;
    some = omega arith;
    few = omega arith;
    spelled = inl (refl, inr (refl, [], spells_pass refl refl refl, inr (refl, codes "count" ∷ [], first_stored, inr (refl, assigned, second_stored, inl (refl, inr (refl, assigned, checked, inr (refl, assigned, printed, (refl, refl))))))));
    is = refl;
  }),
)

pub example_is_read : IsFront example_text (Ok example_module)
example_is_read = same_module example_text example_module example_is_small
