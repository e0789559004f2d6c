-- The tokens of a small text spell its tree.
use Rattle.std.proofs.Common.{refl, sym, subst, ℕ, ◌+◌, true, false, List, [], ◌∷◌, ◌++◌, length, append_assoc}
use Rattle.py_base.specs.declared.Place.{Place}
use Rattle.py_tokens.specs.declared.Token.{Token}
use Rattle.py_tokens.specs.declared.TokenForm.TheVariants as forms
use Rattle.py_tokens.specs.LineLayout.{token_at}
use Rattle.raw_syntax.specs.declared.RawExpr.{RawExpr}
use Rattle.py_grammar.specs.ExprGrammar as e
use Rattle.py_grammar.specs.ExprGrammar.{ReadsExpr, ReadsCmp, ReadsSum, ReadsProd, ReadsPost}
use Rattle.py_grammar.specs.StmtGrammar as s
use Rattle.py_grammar.specs.StmtGrammar.{ReadsStmt, ReadsStmts, ReadsBlock}
use Rattle.py_grammar.specs.ModuleGrammar as m
use Rattle.py_grammar.specs.Spelling.{Spells}
use Rattle.small_text.proofs.LineBits.{Operand, digits, word, Sum, alone, plus, minus, Said, passes, stores, checks, prints, Row, blank, remark, head, says, Bit, operand_form, sum_bits, said_bits, at, bits_tokens, line_tokens, body_tokens, small_tokens}
use Rattle.small_text.proofs.SmallTokens.{SaysSome}
use Rattle.small_text.proofs.SmallTrees.{operand_expr, sum_end, sum_expr, said_stmt, stmts_of, small_tree}

reads_post : (p q : Place) (x : Operand) (rest : List Token) → ReadsPost (operand_expr p x) (record { place = p; «end» = q; form = operand_form x } ∷ rest) rest
reads_post p q (digits ds) rest = e.only_atom (e.number (q, refl))
reads_post p q (word w) rest = e.only_atom (e.name (q, refl))

reads_prod : (p q : Place) (x : Operand) (rest : List Token) → ReadsProd (operand_expr p x) (record { place = p; «end» = q; form = operand_form x } ∷ rest) rest
reads_prod p q x rest = e.only_un (e.only_post (reads_post p q x rest))

-- a sum with more of its line behind it
reads_sum : (line col : ℕ) (x : Sum) (bs : List Bit) (more rest : List Token) → ReadsSum (sum_expr line col x) (bits_tokens line col (sum_bits x ++ bs) ++ more ++ rest) (bits_tokens line (sum_end col x) bs ++ more ++ rest)
reads_sum line col (alone x) bs more rest = e.only_prod (reads_prod _ _ x _)
reads_sum line col (plus x y) bs more rest = e.plus_of (e.only_prod (reads_prod _ _ x _)) (_, refl) (reads_prod _ _ y _)
reads_sum line col (minus x y) bs more rest = e.minus_of (e.only_prod (reads_prod _ _ x _)) (_, refl) (reads_prod _ _ y _)

-- a sum that ends its line
reads_last : (line col : ℕ) (x : Sum) (more rest : List Token) → ReadsSum (sum_expr line col x) (bits_tokens line col (sum_bits x) ++ more ++ rest) (more ++ rest)
reads_last line col (alone x) more rest = e.only_prod (reads_prod _ _ x _)
reads_last line col (plus x y) more rest = e.plus_of (e.only_prod (reads_prod _ _ x _)) (_, refl) (reads_prod _ _ y _)
reads_last line col (minus x y) more rest = e.minus_of (e.only_prod (reads_prod _ _ x _)) (_, refl) (reads_prod _ _ y _)

as_expr : (x : RawExpr) (ts rest : List Token) → ReadsCmp x ts rest → ReadsExpr x ts rest
as_expr x ts rest r = e.only_conj (e.only_neg (e.only_cmp r))

reads_said : (line : ℕ) (x : Said) (rest : List Token) → ReadsStmt (said_stmt line x) (line_tokens line 5 (said_bits x) ++ rest) rest
reads_said line passes rest = s.simple (s.pass (_, refl)) (_, (_, refl))
reads_said line (stores n x) rest =
    let target = as_expr _ _ _ (e.only_sum (e.only_prod (reads_prod (at line 5) (at line (5 + length n)) (word n) _))) in
    let given = as_expr _ _ _ (e.only_sum (reads_last line (5 + length n + 1 + 1 + 1) x _ rest)) in
    s.simple (s.assign (_, _, refl, refl) target (_, (_, refl)) given) (_, (_, refl))
reads_said line (checks a b) rest =
    let left = reads_sum line 12 a _ _ rest in
    let right = reads_last line (sum_end 12 a + 1 + 2 + 1) b _ rest in
    s.simple (s.assert (_, refl) (as_expr _ _ _ (e.chain_of left (e.equal (_, refl)) right e.no_link))) (_, (_, refl))
reads_said line (prints x) rest =
    let given = e.arg_value (as_expr _ _ _ (e.only_sum (reads_sum line 11 x _ _ rest))) in
    let printed = e.call_of (reads_post (at line 5) (at line 10) (word _) _) (_, (_, refl)) (e.arg_more given (e.args_end (_, (_, refl)))) in
    s.simple (s.eval (_, _, refl, refl) (as_expr _ _ _ (e.only_sum (e.only_prod (e.only_un (e.only_post printed)))))) (_, (_, refl))

reads_stmts : (line : ℕ) (rows : List Row) (p : Place) (rest : List Token) → ReadsStmts (stmts_of line rows) (body_tokens line true rows ++ token_at p forms.Dedent ∷ rest) rest
reads_stmts line [] p rest = s.stmts_end (_, (_, refl))
reads_stmts line (says x ∷ rows) p rest =
    let more : List Token = token_at p forms.Dedent ∷ rest in
    let first = reads_said line x (body_tokens (line + 1) true rows ++ more) in
    subst (λ ts. ReadsStmts (stmts_of line (says x ∷ rows)) ts rest) (sym (append_assoc (line_tokens line 5 (said_bits x)) (body_tokens (line + 1) true rows) more)) (s.stmt_more first (reads_stmts (line + 1) rows p rest))
reads_stmts line (blank n ∷ rows) p rest = reads_stmts (line + 1) rows p rest
reads_stmts line (remark n text ∷ rows) p rest = reads_stmts (line + 1) rows p rest
reads_stmts line (head ∷ rows) p rest = reads_stmts (line + 1) rows p rest

reads_block : (line : ℕ) (rows : List Row) (q p : Place) (rest : List Token) → SaysSome rows → ReadsBlock (stmts_of line rows) (token_at q forms.Newline ∷ (body_tokens line false rows ++ token_at p forms.Dedent ∷ rest)) rest
reads_block line [] q p rest some = absurd some
reads_block line (says x ∷ rows) q p rest some =
    let more : List Token = token_at p forms.Dedent ∷ rest in
    let first = reads_said line x (body_tokens (line + 1) true rows ++ more) in
    s.lines (_, (_, refl)) (_, (_, refl)) (subst (λ ts. ReadsStmt (said_stmt line x) ts (body_tokens (line + 1) true rows ++ more)) (sym (append_assoc (line_tokens line 5 (said_bits x)) (body_tokens (line + 1) true rows) more)) first) (reads_stmts (line + 1) rows p rest)
reads_block line (blank n ∷ rows) q p rest some = reads_block (line + 1) rows q p rest some
reads_block line (remark n text ∷ rows) q p rest some = reads_block (line + 1) rows q p rest some
reads_block line (head ∷ rows) q p rest some = reads_block (line + 1) rows q p rest some

pub spelled : (line : ℕ) (rows : List Row) → SaysSome rows → Spells (small_tokens line rows) (small_tree line rows)
spelled line rows some =
    let result = s.only_head (s.type_none (_, refl)) in
    let body = reads_block (line + 1) rows (at line 20) (at (line + 1 + length rows) 1) (token_at (at (line + 1 + length rows) 1) forms.End ∷ []) some in
    let function = m.def_of m.no_decorator (_, (_, refl)) (_, refl) (_, (_, refl)) (m.no_param (_, (_, refl))) (_, (_, refl)) result (_, (_, refl)) body in
    m.module_with m.no_doc m.no_import (m.func_item function m.no_item) (_, refl)
