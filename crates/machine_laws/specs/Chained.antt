-- A predicate over a chain of nodes: `chain(x)` holds where `x` is None, or `chain(x.next)` holds. In the scene the next of node 0 is node 1, behind which the chain ends, and node 2 is its own next.
use Rattle.std.specs.Prelude.{ℕ, zero, suc, [], ◌∷◌, codes, Option, Some, None}
use Rattle.py_syntax.specs.declared.Value.{Value}
use Rattle.py_syntax.specs.declared.Value.TheVariants as value
use Rattle.py_syntax.specs.declared.Ty.TheVariants.{Bool as Truths, Opt}
use Rattle.py_syntax.specs.declared.Expr.{Expr, roll-Expr}
use Rattle.py_syntax.specs.declared.ExprForm.TheVariants.{Nil, Local, Get, Bin}
use Rattle.py_syntax.specs.declared.Instance.{Instance, roll-Instance}
use Rattle.py_syntax.specs.declared.Assertion.{Assertion, roll-Assertion}
use Rattle.py_syntax.specs.declared.AtomForm.TheVariants.{When, Holds}
use Rattle.py_syntax.specs.declared.ClassSort.TheVariants.{Exc, Plain}
use Rattle.py_syntax.specs.declared.Pred.{Pred}
use Rattle.py_syntax.specs.declared.Module.{Module}
use Rattle.machine_model.specs.Smallest.{at}
use Rattle.machine_model.specs.Evaluation.{Scene}

abbrev pub x : Expr
x = roll-Expr (record { place = at 9 20; ty = Opt 1; form = Local 0 })

abbrev pub nothing : Expr
nothing = roll-Expr (record { place = at 9 29; ty = Opt 1; form = Nil })

abbrev pub is_node : Expr
is_node = roll-Expr (record { place = at 9 22; ty = Truths; form = Bin 16 x nothing })

abbrev pub next : Expr
next = roll-Expr (record { place = at 9 44; ty = Opt 1; form = Get x 3 })

abbrev pub rest : Instance
rest = roll-Instance (record { place = at 9 35; pred = 0; args = next ∷ [] })

abbrev pub goes_on : Assertion
goes_on = roll-Assertion (record { place = at 9 35; form = Holds rest })

abbrev pub body : Assertion
body = roll-Assertion (record { place = at 9 12; form = When is_node goes_on })

abbrev pub chain : Pred
chain = record { name = 2; place = at 8 5; params = Opt 1 ∷ []; body = body }

abbrev pub chained : Module
chained = record {
  names = codes "Exception" ∷ codes "Node" ∷ codes "chain" ∷ codes "next" ∷ [];
  classes = record { name = 0; place = at 1 1; base = None; sort = Exc; fields = []; methods = [] } ∷ record { name = 1; place = at 3 7; base = None; sort = Plain; fields = record { name = 3; ty = Opt 1 } ∷ []; methods = [] } ∷ [];
  methods = [];
  predicates = chain ∷ [];
  main = 0;
  end = at 10 1;
}

abbrev next_of : ℕ → Option Value
next_of zero = Some (value.Ref 1)
next_of (suc zero) = Some value.Nil
next_of (suc (suc zero)) = Some (value.Ref 2)
next_of (suc (suc (suc r))) = None

abbrev pub nodes : Scene
nodes = record { now = λ r f. next_of r; before = λ r f. next_of r; store = []; answer = None; level = λ r. None; locked = λ r. None }
