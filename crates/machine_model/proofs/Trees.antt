-- The trees of expressions are those expressions.
use Rattle.std.proofs.Common.{◌≡◌, List, map}
use Rattle.std.proofs.lemmas.List.{map-id}
use Rattle.py_syntax.specs.declared.Expr.{Expr}

pub trees : (es : List Expr) → map (λ (e : Expr). e) es ≡ es
trees es = map-id es
