-- The tree of a small text has as many statements as its lines say, and one function.
use Rattle.std.proofs.Common.{◌≡◌, refl, ap, ◌∙◌, ℕ, suc, ◌+◌, ◌≤◌, List, [], ◌∷◌, length, map, sum, arith}
use Rattle.std.proofs.lemmas.List.Sums.{sum_by-cons}
use Rattle.py_base.specs.declared.Place.{Place}
use Rattle.raw_syntax.specs.declared.RawStmt.{RawStmt, fold-roll-RawStmt}
use Rattle.raw_syntax.specs.declared.RawStmtForm.{RawStmtForm, RawStmtForm-F, out-RawStmtForm, fold-RawStmtForm, fold_out-RawStmtForm, map-RawStmtForm}
use Rattle.raw_syntax.specs.declared.RawStmtForm.TheVariants as stmts
use Rattle.raw_syntax.specs.declared.RawElif.{RawElif}
use Rattle.raw_syntax.specs.declared.RawHandler.{RawHandler}
use Rattle.py_grammar.specs.StmtGrammar.{statement}
use Rattle.py_parser.specs.Counts.{within_form, statements_in, statements_in_part, statements_in_handler, statements_of, methods_of}
use Rattle.small_text.proofs.LineBits.{Said, passes, stores, checks, prints, Row, blank, remark, head, says}
use Rattle.small_text.proofs.StmtForms.{out-Pass, out-Assign, out-Assert, out-Eval}
use Rattle.small_text.proofs.SmallTrees.{said_stmt, stmts_of, small_tree}

abbrev form_count : RawStmtForm → ℕ
form_count = fold-RawStmtForm ℕ ℕ ℕ ℕ within_form (λ e. sum e.body) (λ h. sum h.body) (λ s. suc s.form)

abbrev layer_count : RawStmtForm-F RawStmtForm RawElif RawHandler RawStmt → ℕ
layer_count f = within_form (map-RawStmtForm RawStmtForm RawElif RawHandler RawStmt ℕ ℕ ℕ ℕ form_count statements_in_part statements_in_handler statements_in f)

counted : (p : Place) (form : RawStmtForm) (f : RawStmtForm-F RawStmtForm RawElif RawHandler RawStmt) → out-RawStmtForm form ≡ f → statements_in (statement p form) ≡ suc (layer_count f)
counted p form f is =
    fold-roll-RawStmt ℕ ℕ ℕ ℕ within_form (λ e. sum e.body) (λ h. sum h.body) (λ s. suc s.form) (record { place = p; form = form })
    ∙ ap suc (fold_out-RawStmtForm ℕ ℕ ℕ ℕ within_form (λ e. sum e.body) (λ h. sum h.body) (λ s. suc s.form) form)
    ∙ ap (λ x. suc (layer_count x)) is

said_counted : (line : ℕ) (s : Said) → statements_in (said_stmt line s) ≡ 1
said_counted line passes = counted _ stmts.Pass RawStmtForm-F.Pass out-Pass
said_counted line (stores n e) = counted _ (stmts.Assign _ _) (RawStmtForm-F.Assign _ _) (out-Assign _ _)
said_counted line (checks a b) = counted _ (stmts.Assert _) (RawStmtForm-F.Assert _) (out-Assert _)
said_counted line (prints e) = counted _ (stmts.Eval _) (RawStmtForm-F.Eval _) (out-Eval _)

stmts_counted : (line : ℕ) (rows : List Row) → sum (map statements_in (stmts_of line rows)) ≡ length (stmts_of line rows)
stmts_counted line [] = refl
stmts_counted line (says s ∷ rows) = omega (arith, sum_by-cons (λ n. n) (statements_in (said_stmt line s)) (map statements_in (stmts_of (line + 1) rows)), said_counted line s, stmts_counted (line + 1) rows)
stmts_counted line (blank n ∷ rows) = stmts_counted (line + 1) rows
stmts_counted line (remark n text ∷ rows) = stmts_counted (line + 1) rows
stmts_counted line (head ∷ rows) = stmts_counted (line + 1) rows

pub few_statements : (line : ℕ) (rows : List Row) → length (stmts_of (line + 1) rows) ≤ 60 → statements_of (small_tree line rows) ≤ 20000
few_statements line rows few = omega (arith, stmts_counted (line + 1) rows, few)

pub one_method : (line : ℕ) (rows : List Row) → methods_of (small_tree line rows) ≤ 1000
one_method line rows = omega arith
