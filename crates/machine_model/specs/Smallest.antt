-- The smallest module that assigns, asserts and prints: `x = 3`, `assert x + 2 == 5` and `print(x)` in `main`.
use Rattle.std.specs.Prelude.{ℕ, pos, [], ◌∷◌, codes, None}
use Rattle.py_base.specs.declared.Place.{Place}
use Rattle.py_syntax.specs.declared.Ty.TheVariants.{Int, Bool as Truths, Void}
use Rattle.py_syntax.specs.declared.Expr.{Expr, roll-Expr}
use Rattle.py_syntax.specs.declared.ExprForm.TheVariants.{Num, Local, Bin}
use Rattle.py_syntax.specs.declared.PrintArg.TheVariants.{Value}
use Rattle.py_syntax.specs.declared.Stmt.{Stmt, roll-Stmt}
use Rattle.py_syntax.specs.declared.StmtForm.TheVariants.{Store, Check, Print}
use Rattle.py_syntax.specs.declared.ClassSort.TheVariants.{Exc}
use Rattle.py_syntax.specs.declared.Method.{Method}
use Rattle.py_syntax.specs.declared.Module.{Module}

abbrev pub at : ℕ → ℕ → Place
at line col = record { line = line; col = col }

abbrev pub number : Place → ℕ → Expr
number p n = roll-Expr (record { place = p; ty = Int; form = Num (pos n) })

abbrev pub x : Place → Expr
x p = roll-Expr (record { place = p; ty = Int; form = Local 0 })

abbrev pub sum : Expr
sum = roll-Expr (record { place = at 3 14; ty = Int; form = Bin 1 (x (at 3 12)) (number (at 3 16) 2) })

abbrev pub equation : Expr
equation = roll-Expr (record { place = at 3 18; ty = Truths; form = Bin 11 sum (number (at 3 21) 5) })

abbrev pub stores : Stmt
stores = roll-Stmt (record { place = at 2 5; form = Store 0 (number (at 2 9) 3) })

abbrev pub checks : Stmt
checks = roll-Stmt (record { place = at 3 5; form = Check equation })

abbrev pub prints : Stmt
prints = roll-Stmt (record { place = at 4 5; form = Print (Value (x (at 4 11)) ∷ []) })

abbrev pub main : Method
main = record { name = 1; place = at 1 5; owner = None; params = []; locals = Int ∷ []; ret = Void; pre = []; post = []; exits = []; makes = 0; body = stores ∷ checks ∷ prints ∷ [] }

abbrev pub smallest : Module
smallest = record {
  names = codes "Exception" ∷ codes "main" ∷ [];
  classes = record { name = 0; place = at 1 1; base = None; sort = Exc; fields = []; methods = [] } ∷ [];
  methods = main ∷ [];
  predicates = [];
  main = 0;
  end = at 5 1;
}
