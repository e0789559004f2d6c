-- How many statements and methods a tree has.
use Rattle.std.specs.Prelude.{ℕ, suc, ◌+◌, map, sum, length}
use Rattle.raw_syntax.specs.declared.RawStmt.{RawStmt, fold-RawStmt}
use Rattle.raw_syntax.specs.declared.RawStmtForm.{RawStmtForm-F}
use Rattle.raw_syntax.specs.declared.RawElif.{RawElif, fold-RawElif}
use Rattle.raw_syntax.specs.declared.RawHandler.{RawHandler, fold-RawHandler}
use Rattle.raw_syntax.specs.declared.RawFunc.{RawFunc}
use Rattle.raw_syntax.specs.declared.RawItem.{RawItem}
use Rattle.raw_syntax.specs.declared.RawItem.TheVariants as items
use Rattle.raw_syntax.specs.declared.Raw.{Raw}

abbrev pub within_form : RawStmtForm-F ℕ ℕ ℕ ℕ → ℕ
within_form (RawStmtForm-F.If e ss elifs other) = sum ss + sum elifs + sum other
within_form (RawStmtForm-F.While e ss) = sum ss
within_form (RawStmtForm-F.Try ss handlers other last) = sum ss + sum handlers + sum other + sum last
within_form (RawStmtForm-F.With e ss) = sum ss
within_form form = 0

-- a statement, and those within it
abbrev pub statements_in : RawStmt → ℕ
statements_in = fold-RawStmt ℕ ℕ ℕ ℕ within_form (λ e. sum e.body) (λ h. sum h.body) (λ s. suc s.form)

abbrev pub statements_in_part : RawElif → ℕ
statements_in_part = fold-RawElif ℕ ℕ ℕ ℕ within_form (λ e. sum e.body) (λ h. sum h.body) (λ s. suc s.form)

abbrev pub statements_in_handler : RawHandler → ℕ
statements_in_handler = fold-RawHandler ℕ ℕ ℕ ℕ within_form (λ e. sum e.body) (λ h. sum h.body) (λ s. suc s.form)

abbrev pub statements_of_function : RawFunc → ℕ
statements_of_function f = sum (map statements_in f.body)

abbrev pub statements_of_item : RawItem → ℕ
statements_of_item (items.Class c) = sum (map statements_of_function c.members)
statements_of_item (items.Func f) = statements_of_function f

-- the statements of a module, those within others among them
abbrev pub statements_of : Raw → ℕ
statements_of tree = sum (map statements_of_item tree.items)

abbrev pub methods_of_item : RawItem → ℕ
methods_of_item (items.Class c) = length c.members
methods_of_item (items.Func f) = 1

-- the functions of a module, those of its classes among them
abbrev pub methods_of : Raw → ℕ
methods_of tree = sum (map methods_of_item tree.items)
