-- The items of a body whose first assignments to fields make them.
use Rattle.std.proofs.Common.{◌≡◌, ℕ, zero, suc, ◌≤◌, ◌-◌, List, [], ◌∷◌, length, take, drop, get_or, refl, ap, sym, ◌∙◌, arith}
use Rattle.std.proofs.lemmas.List.{take_all}
use Rattle.py_syntax.specs.declared.Expr.{Expr}
use Rattle.py_syntax.specs.declared.FieldName.{FieldName}
use Rattle.py_syntax.specs.declared.Stmt.{Stmt}
use Rattle.py_syntax.specs.declared.StmtForm.{StmtForm, StmtForm-F, out-StmtForm, out-roll-StmtForm}
use Rattle.py_syntax.specs.declared.StmtForm.TheVariants.{rolls-Write}
use Rattle.py_syntax.specs.declared.Item.{Item}
use Rattle.py_syntax.specs.declared.Item.TheVariants as item
use Rattle.py_syntax.specs.ExprItems.{expr_items}
use Rattle.py_syntax.specs.StmtItems.{stmt_items, block_items, making_form, making_items}

-- where none is left to be made, the body is a block
pub making_none : {V : Type 0} (body : List Stmt) (rest : List (Item V)) → making_items body 0 rest ≡ block_items body rest
making_none [] rest = refl
making_none (s ∷ ss) rest = ap (stmt_items s) (making_none ss rest)

-- an assignment to a field makes it
pub making_write : {V : Type 0} (body : List Stmt) (first : Stmt) (o e : Expr) (f : FieldName) (k : ℕ) (rest : List (Item V))
    → 1 ≤ length body → first ≡ get_or body 0 first → first.form ≡ StmtForm.Write o f e → (k ≡ 0 → ⊥)
    → making_items body k rest ≡ expr_items e (expr_items o (item.Make f.place f.name ∷ making_items (take (length body - 1) (drop 1 body)) (k - 1) rest))
making_write [] first o e f k rest l b a h = absurd (omega arith)
making_write (s ∷ ss) first o e f zero rest l b a h = absurd (h refl)
making_write (s ∷ ss) first o e f (suc k) rest l b a h =
    let form_is : out-StmtForm s.form ≡ StmtForm-F.Write o f e = ap (λ (x : Stmt). out-StmtForm x.form) (sym b) ∙ ap out-StmtForm a ∙ ap out-StmtForm (sym (rolls-Write o f e)) ∙ out-roll-StmtForm (StmtForm-F.Write o f e) in
    let tail_is : ss ≡ take (length (s ∷ ss) - 1) ss = sym (take_all (length (s ∷ ss) - 1) ss (omega arith)) in
    let left_is : k ≡ suc k - 1 = omega arith in
    ap (λ form. making_form (suc k) form s (making_items ss) rest) form_is
    ∙ ap (λ tail. expr_items e (expr_items o (item.Make f.place f.name ∷ making_items tail k rest))) tail_is
    ∙ ap (λ left. expr_items e (expr_items o (item.Make f.place f.name ∷ making_items (take (length (s ∷ ss) - 1) ss) left rest))) left_is
