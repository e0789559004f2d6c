-- The forms of the statements of small texts, opened.
use Rattle.std.proofs.Common.{◌≡◌}
use Rattle.raw_syntax.specs.declared.RawExpr.{RawExpr}
use Rattle.raw_syntax.specs.declared.RawStmtForm.{RawStmtForm-F, out-RawStmtForm, the_lemmas}
use Rattle.raw_syntax.specs.declared.RawStmtForm.TheVariants as stmts

pub out-Pass : out-RawStmtForm stmts.Pass ≡ RawStmtForm-F.Pass
out-Pass = search the_lemmas

pub out-Assign : (e f : RawExpr) → out-RawStmtForm (stmts.Assign e f) ≡ RawStmtForm-F.Assign e f
out-Assign e f = search the_lemmas

pub out-Assert : (e : RawExpr) → out-RawStmtForm (stmts.Assert e) ≡ RawStmtForm-F.Assert e
out-Assert e = search the_lemmas

pub out-Eval : (e : RawExpr) → out-RawStmtForm (stmts.Eval e) ≡ RawStmtForm-F.Eval e
out-Eval e = search the_lemmas
