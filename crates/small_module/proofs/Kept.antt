-- What a statement says that assigns no name.
use Rattle.std.proofs.Common.{ℕ, ◌≡◌, sym, ap, ◌∙◌, List, Result}
use Rattle.py_base.specs.declared.Place.{Place}
use Rattle.py_syntax.specs.declared.Stmt.{Stmt}
use Rattle.raw_syntax.specs.declared.RawExpr.{RawExpr}
use Rattle.raw_syntax.specs.declared.RawStmt.{RawStmt}
use Rattle.raw_syntax.specs.declared.RawStmtForm.{RawStmtForm-F, out-RawStmtForm, the_lemmas}
use Rattle.raw_syntax.specs.declared.RawStmtForm.TheVariants as states
use Rattle.small_module.specs.SmallTree.{view}
use Rattle.small_module.specs.SmallModule.{check_of, print_of, keeping, form_of, stmt_of}

out-Assert : (e : RawExpr) → out-RawStmtForm (states.Assert e) ≡ RawStmtForm-F.Assert e
out-Assert e = search the_lemmas

out-Eval : (e : RawExpr) → out-RawStmtForm (states.Eval e) ≡ RawStmtForm-F.Eval e
out-Eval e = search the_lemmas

pub asserted : (names : List (List ℕ)) (s : RawStmt) (e : RawExpr) (r : Result Stmt Place) → r ≡ check_of s.place (view names e).shape → s.form ≡ states.Assert e → keeping names r ≡ stmt_of names s
asserted names s e r h is = ap (keeping names) h ∙ sym (ap (form_of names s.place) (ap out-RawStmtForm is ∙ out-Assert e))

pub evaluated : (names : List (List ℕ)) (s : RawStmt) (e : RawExpr) (r : Result Stmt Place) → r ≡ print_of s.place (view names e).place (view names e).shape → s.form ≡ states.Eval e → keeping names r ≡ stmt_of names s
evaluated names s e r h is = ap (keeping names) h ∙ sym (ap (form_of names s.place) (ap out-RawStmtForm is ∙ out-Eval e))
