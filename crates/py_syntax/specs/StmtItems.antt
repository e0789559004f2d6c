-- The control items of a statement, in front of those that come after it: the parts in the order in which the Language Reference evaluates them ("Assignment statements": the right side first; "Augmented assignment statements": the target once, before the right side), and one item for what the statement does. A block stays in its item until it is entered.
use Rattle.std.specs.Prelude.{ℕ, suc, true, false, List, [], ◌∷◌, length, Option, Some, None}
use Rattle.py_base.specs.declared.Place.{Place}
use Rattle.py_syntax.specs.declared.expr.Expr.{Expr}
use Rattle.py_syntax.specs.declared.stmt.PrintArg.{PrintArg}
use Rattle.py_syntax.specs.declared.stmt.PrintArg.TheVariants.{Value, Literal}
use Rattle.py_syntax.specs.declared.stmt.Stmt.{Stmt}
use Rattle.py_syntax.specs.declared.stmt.StmtForm.{StmtForm, StmtForm-F, out-StmtForm}
use Rattle.py_syntax.specs.declared.module.Method.{Method}
use Rattle.py_syntax.specs.declared.item.Way.TheVariants as way
use Rattle.py_syntax.specs.declared.item.Item.{Item}
use Rattle.py_syntax.specs.declared.item.Item.TheVariants as item
use Rattle.py_syntax.specs.ExprItems.{Before, in_turn, expr_items}

-- the arguments of `print` that are no literals
abbrev pub printed_items : {V : Type 0} → List PrintArg → Before V
printed_items [] rest = rest
printed_items (Value e ∷ args) rest = expr_items e (printed_items args rest)
printed_items (Literal t ∷ args) rest = printed_items args rest

-- how many values the arguments of `print` ask for
abbrev pub values_wanted : List PrintArg → ℕ
values_wanted [] = 0
values_wanted (Value e ∷ args) = suc (values_wanted args)
values_wanted (Literal t ∷ args) = values_wanted args

abbrev pub returned_items : {V : Type 0} → Option Expr → Before V
returned_items None rest = item.Return false ∷ rest
returned_items (Some e) rest = expr_items e (item.Return true ∷ rest)

-- the items of a form at its statement's place
abbrev pub stmt_form_items : {V : Type 0} → StmtForm-F StmtForm Stmt → Place → Before V
stmt_form_items StmtForm-F.Pass p rest = item.Pass ∷ rest
stmt_form_items (StmtForm-F.Store i e) p rest = expr_items e (item.Store i ∷ rest)
stmt_form_items (StmtForm-F.Write o f e) p rest = expr_items e (expr_items o (item.Write f.place f.name ∷ rest))
stmt_form_items (StmtForm-F.AugStore i op e) p rest = item.Load i ∷ expr_items e (item.Bin op.place op.key ∷ item.Store i ∷ rest)
stmt_form_items (StmtForm-F.AugWrite o f op e) p rest = expr_items o (item.ReadKept f.place f.name ∷ expr_items e (item.Bin op.place op.key ∷ item.WriteBack f.place f.name ∷ rest))
stmt_form_items (StmtForm-F.Drop e) p rest = expr_items e (item.Drop ∷ rest)
stmt_form_items (StmtForm-F.Print args) p rest = printed_items args (item.Print args ∷ rest)
stmt_form_items (StmtForm-F.Check e) p rest = expr_items e (item.Check p ∷ rest)
stmt_form_items (StmtForm-F.Prove a) p rest = item.Prove p a ∷ rest
stmt_form_items (StmtForm-F.Fold i) p rest = item.Fold p i ∷ rest
stmt_form_items (StmtForm-F.Unfold i) p rest = item.Unfold p i ∷ rest
stmt_form_items (StmtForm-F.If e a b) p rest = expr_items e (item.If a b ∷ rest)
stmt_form_items (StmtForm-F.Loop invariant e body) p rest = item.Head p invariant e body ∷ rest
stmt_form_items StmtForm-F.Break p rest = item.Leave way.Break ∷ rest
stmt_form_items StmtForm-F.Continue p rest = item.Leave way.Continue ∷ rest
stmt_form_items (StmtForm-F.Try body handlers other last) p rest = item.Try body handlers other last ∷ rest
stmt_form_items (StmtForm-F.With e body) p rest = expr_items e (item.With p body ∷ rest)
stmt_form_items (StmtForm-F.Raise c) p rest = item.Raise p c ∷ rest
stmt_form_items (StmtForm-F.Return e) p rest = returned_items e rest
stmt_form_items (StmtForm-F.Super q all) p rest = in_turn expr_items all (item.Super q (length all) ∷ rest)
stmt_form_items (StmtForm-F.Acquire q e) p rest = expr_items e (item.Acquire q ∷ rest)
stmt_form_items (StmtForm-F.Release q e) p rest = expr_items e (item.Release q ∷ rest)
stmt_form_items (StmtForm-F.Start q e f) p rest = expr_items e (item.Start q f ∷ rest)
stmt_form_items (StmtForm-F.Join q e f) p rest = expr_items e (item.Join q f ∷ rest)

abbrev pub stmt_items : {V : Type 0} → Stmt → Before V
stmt_items s rest = stmt_form_items (out-StmtForm s.form) s.place rest

-- a block, statement by statement
abbrev pub block_items : {V : Type 0} → List Stmt → Before V
block_items = in_turn stmt_items

-- a statement of a body that still has to make k fields: an assignment to a field makes it
abbrev pub making_form : {V : Type 0} → ℕ → StmtForm-F StmtForm Stmt → Stmt → (ℕ → Before V) → Before V
making_form (suc k) (StmtForm-F.Write o f e) s more rest = expr_items e (expr_items o (item.Make f.place f.name ∷ more k rest))
making_form k form s more rest = stmt_items s (more k rest)

-- a body whose first k assignments to fields make them
abbrev pub making_items : {V : Type 0} → List Stmt → ℕ → Before V
making_items [] k rest = rest
making_items (s ∷ ss) k rest = making_form k (out-StmtForm s.form) s (making_items ss) rest

-- The control of a method as it is entered. The assignments at the head of `__init__` make the fields of its class.
abbrev pub method_items : {V : Type 0} → Method → List (Item V)
method_items method = making_items method.body method.makes (item.End ∷ [])
