-- A module whose function raises `A`, and in its `finally` block `B`, and declares `A` alone; `main` calls it.
use Rattle.std.specs.Prelude.{ℕ, [], ◌∷◌, codes, Some, None, true}
use Rattle.py_syntax.specs.declared.Ty.TheVariants.{Bool as Truths, Void}
use Rattle.py_syntax.specs.declared.Expr.{Expr, roll-Expr}
use Rattle.py_syntax.specs.declared.ExprForm.TheVariants.{Truth, Call}
use Rattle.py_syntax.specs.declared.Assertion.{Assertion, roll-Assertion}
use Rattle.py_syntax.specs.declared.AtomForm.TheVariants.{True}
use Rattle.py_syntax.specs.declared.Stmt.{Stmt, roll-Stmt}
use Rattle.py_syntax.specs.declared.StmtForm.TheVariants.{Try, Raise, Drop}
use Rattle.py_syntax.specs.declared.ClassSort.TheVariants.{Exc}
use Rattle.py_syntax.specs.declared.Class.{Class}
use Rattle.py_syntax.specs.declared.Method.{Method}
use Rattle.py_syntax.specs.declared.Module.{Module}
use Rattle.machine_model.specs.Smallest.{at}

abbrev pub raises_a : Stmt
raises_a = roll-Stmt (record { place = at 10 9; form = Raise 1 })

abbrev pub raises_b : Stmt
raises_b = roll-Stmt (record { place = at 12 9; form = Raise 2 })

abbrev pub tries : Stmt
tries = roll-Stmt (record { place = at 9 5; form = Try (raises_a ∷ []) [] [] (Some (raises_b ∷ [])) })

abbrev pub always : Assertion
always = roll-Assertion (record { place = at 8 16; form = True (roll-Expr (record { place = at 8 16; ty = Truths; form = Truth true })) })

abbrev pub call : Expr
call = roll-Expr (record { place = at 15 5; ty = Void; form = Call 0 [] })

abbrev pub calls : Stmt
calls = roll-Stmt (record { place = at 15 5; form = Drop call })

abbrev pub f : Method
f = record { name = 3; place = at 7 5; owner = None; params = []; locals = []; ret = Void; pre = []; post = []; exits = (1, always) ∷ []; makes = 0; body = tries ∷ [] }

abbrev pub main : Method
main = record { name = 4; place = at 14 5; owner = None; params = []; locals = []; ret = Void; pre = []; post = []; exits = []; makes = 0; body = calls ∷ [] }

abbrev pub exception : ℕ → ℕ → Class
exception name line = record { name = name; place = at line 7; base = Some 0; sort = Exc; fields = []; methods = [] }

abbrev pub replaced : Module
replaced = record {
  names = codes "Exception" ∷ codes "A" ∷ codes "B" ∷ codes "f" ∷ codes "main" ∷ [];
  classes = record { name = 0; place = at 1 1; base = None; sort = Exc; fields = []; methods = [] } ∷ exception 1 1 ∷ exception 2 4 ∷ [];
  methods = f ∷ main ∷ [];
  predicates = [];
  main = 1;
  end = at 16 1;
}
