-- A local run of a small function in any unit ends as the first false assert says.
use Rattle.std.proofs.Common.{◌≡◌, ◌⊎◌, ℕ, zero, suc, ◌≤◌, ◌<◌, max, List, [], ◌∷◌, length, replicate, refl, sym, ap, subst, ◌∙◌, inl, inr, arith}
use Rattle.std.specs.Prelude.{ℤ, pos, ◌*ℤ◌, ◌≤ℤ◌, Bool, true, false, not, ◌==◌, ◌≢◌, Option, Some, None, slice_get, slice_set, if◌then◌else◌}
use Rattle.std.specs.Option.{option_and_then}
use Rattle.std.specs.Ordering.{int_eq}
use Rattle.std.proofs.lemmas.Bool.{eqb-true, eqb-false}
use Rattle.std.proofs.lemmas.List.{length-set, length-replicate, get_or-set_same, get_or-set_other}
use Rattle.py_base.specs.declared.Place.{Place}
use Rattle.py_base.specs.declared.Kind.TheVariants.{Assert}
use Rattle.lin_rows.specs.Ring.{+ℤ-*ℤ, -ℤ-*ℤ}
use Rattle.py_syntax.specs.declared.Value.{Value}
use Rattle.py_syntax.specs.declared.Value.TheVariants.{Num, Truth}
use Rattle.py_syntax.specs.declared.Expr.{Expr}
use Rattle.py_syntax.specs.declared.ExprForm.{ExprForm, ExprForm-F, out-ExprForm}
use Rattle.py_syntax.specs.declared.Instance.{Instance}
use Rattle.py_syntax.specs.declared.PrintArg.{PrintArg}
use Rattle.py_syntax.specs.declared.PrintArg.TheVariants as arg
use Rattle.py_syntax.specs.declared.Stmt.{Stmt}
use Rattle.py_syntax.specs.declared.StmtForm.{StmtForm, StmtForm-F, out-StmtForm}
use Rattle.py_syntax.specs.declared.Method.{Method}
use Rattle.py_syntax.specs.declared.Item.{Item}
use Rattle.py_syntax.specs.declared.Item.TheVariants as item
use Rattle.py_syntax.specs.ExprItems.{expr_items, form_items}
use Rattle.py_syntax.specs.StmtItems.{printed_items, stmt_form_items, making_items}
use Rattle.py_syntax.specs.ItemLaws.{expr_items_is}
use Rattle.py_syntax.specs.SmallForms.{IsOperandForm, IsOperand, IsSumForm, IsSum, IsEquationForm, IsPrinted, IsSmallStmtForm, IsSmallBody, IsSmallMethod, assigned_form}
use Rattle.py_syntax.specs.SmallLocal.{Outcome, Ended, Fault, hopes, local_from, local}
use Rattle.nagini_cli.specs.SmallRun.{value_of, local_value, applied, differs_in, is_false_form, after_form, first_false_in, first_false_of}
use Rattle.nagini_cli.proofs.Reach.{form_value, value_of-out}
use Rattle.nagini_cli.proofs.Parts.{compared_is}

-- what stands in a list at a place that was written, and at the others
set_same : {X : Type 0} (xs : List X) (i : ℕ) (y : X) → i < length xs → slice_get (slice_set xs i y) i ≡ Some y
set_same [] i y h = absurd (omega arith)
set_same (x ∷ xs) zero y h = refl
set_same (x ∷ xs) (suc i) y h = set_same xs i y (omega arith)

set_other : {X : Type 0} (xs : List X) (i j : ℕ) (y : X) → j ≢ i → slice_get (slice_set xs i y) j ≡ slice_get xs j
set_other [] i j y apart = refl
set_other (x ∷ xs) zero zero y apart = absurd (apart refl)
set_other (x ∷ xs) zero (suc j) y apart = refl
set_other (x ∷ xs) (suc i) zero y apart = refl
set_other (x ∷ xs) (suc i) (suc j) y apart = set_other xs i j y (λ e. apart (ap (λ (n : ℕ). suc n) e))

-- a number in parts of a unit
parts : ℤ → ℤ → Value
parts q z = Num (z *ℤ q)

-- the first k locals are kept in parts
record Holds (q : ℤ) (k : ℕ) (locals : List ℤ) (store : List (Option Value)) : Type 0 where
  as_long : length store ≡ length locals
  kept : (i : ℕ) → i < k → slice_get store i ≡ Some (Some (parts q (local_value i locals)))

operand_form : (q : ℤ) (k : ℕ) (locals : List ℤ) (store : List (Option Value)) (form : ExprForm-F ExprForm Expr Instance) (p : Place) (rest : List (Item Value)) (st : List Value) → Holds q k locals store → IsOperandForm k form → local_from q (form_items (λ e. e) expr_items form p rest) st store ≡ local_from q rest (parts q (form_value form locals) ∷ st) store
unfolding form_value parts
operand_form q k locals store (ExprForm-F.Num z) p rest st holds is = refl
operand_form q k locals store (ExprForm-F.Local i) p rest st holds is = ap (λ o. hopes (option_and_then (λ v. v) o) (λ v. local_from q rest (v ∷ st) store)) (holds.kept i is)
operand_form q k locals store form p rest st holds is = absurd is

operand : (q : ℤ) (k : ℕ) (locals : List ℤ) (store : List (Option Value)) (e : Expr) (rest : List (Item Value)) (st : List Value) → Holds q k locals store → IsOperand k e → local_from q (expr_items e rest) st store ≡ local_from q rest (parts q (value_of e locals) ∷ st) store
operand q k locals store e rest st holds is =
    ap (λ control. local_from q control st store) (expr_items_is e rest)
    ∙ operand_form q k locals store (out-ExprForm e.form) e.place rest st holds is
    ∙ ap (λ (f : List ℤ → ℤ). local_from q rest (parts q (f locals) ∷ st) store) (sym (value_of-out e))

-- a sign, which is `+` or `-`, on two numbers in parts
signed : (q : ℤ) (p : Place) (key : ℕ) (x y : ℤ) (rest : List (Item Value)) (st : List Value) (store : List (Option Value)) → (key ≡ 1) ⊎ (key ≡ 2) → local_from q (item.Bin p key ∷ rest) (parts q y ∷ parts q x ∷ st) store ≡ local_from q rest (parts q (applied key x y) ∷ st) store
unfolding parts
signed q p key x y rest st store (inl is) = subst (λ (k : ℕ). local_from q (item.Bin p k ∷ rest) (Num (y *ℤ q) ∷ Num (x *ℤ q) ∷ st) store ≡ local_from q rest (Num (applied k x y *ℤ q) ∷ st) store) (sym is) (ap (λ z. local_from q rest (Num z ∷ st) store) (sym (+ℤ-*ℤ x y q)))
signed q p key x y rest st store (inr is) = subst (λ (k : ℕ). local_from q (item.Bin p k ∷ rest) (Num (y *ℤ q) ∷ Num (x *ℤ q) ∷ st) store ≡ local_from q rest (Num (applied k x y *ℤ q) ∷ st) store) (sym is) (ap (λ z. local_from q rest (Num z ∷ st) store) (sym (-ℤ-*ℤ x y q)))

sum_form : (q : ℤ) (k : ℕ) (locals : List ℤ) (store : List (Option Value)) (form : ExprForm-F ExprForm Expr Instance) (p : Place) (rest : List (Item Value)) (st : List Value) → Holds q k locals store → IsSumForm k form → local_from q (form_items (λ e. e) expr_items form p rest) st store ≡ local_from q rest (parts q (form_value form locals) ∷ st) store
unfolding form_value
sum_form q k locals store (ExprForm-F.Bin key a b) p rest st holds (sign, left, right) =
    operand q k locals store a (expr_items b (item.Bin p key ∷ rest)) st holds left
    ∙ operand q k locals store b (item.Bin p key ∷ rest) (parts q (value_of a locals) ∷ st) holds right
    ∙ signed q p key (value_of a locals) (value_of b locals) rest st store sign
sum_form q k locals store (ExprForm-F.Num z) p rest st holds is = operand_form q k locals store (ExprForm-F.Num z) p rest st holds is
sum_form q k locals store (ExprForm-F.Local i) p rest st holds is = operand_form q k locals store (ExprForm-F.Local i) p rest st holds is
sum_form q k locals store form p rest st holds is = absurd is

sum : (q : ℤ) (k : ℕ) (locals : List ℤ) (store : List (Option Value)) (e : Expr) (rest : List (Item Value)) (st : List Value) → Holds q k locals store → IsSum k e → local_from q (expr_items e rest) st store ≡ local_from q rest (parts q (value_of e locals) ∷ st) store
sum q k locals store e rest st holds is =
    ap (λ control. local_from q control st store) (expr_items_is e rest)
    ∙ sum_form q k locals store (out-ExprForm e.form) e.place rest st holds is
    ∙ ap (λ (f : List ℤ → ℤ). local_from q rest (parts q (f locals) ∷ st) store) (sym (value_of-out e))

-- how a local run ends by the first false assert
abbrev pub ends_at : Option Place → Outcome
ends_at None = Ended
ends_at (Some p) = Fault p Assert

-- an assert whose sides compare as told
asserted : (q : ℤ) (p : Place) (rest : List (Item Value)) (store : List (Option Value)) (same : Bool) (later : Option Place) → local_from q rest [] store ≡ ends_at later → local_from q (item.Check p ∷ rest) (Truth same ∷ []) store ≡ ends_at (if not same then Some p else later)
asserted q p rest store true later is = is
asserted q p rest store false later is = refl

equation_form : (q : ℤ) (k : ℕ) (locals : List ℤ) (store : List (Option Value)) (form : ExprForm-F ExprForm Expr Instance) (o p : Place) (rest : List (Item Value)) (later : Option Place) → pos 1 ≤ℤ q → Holds q k locals store → IsEquationForm k form → local_from q rest [] store ≡ ends_at later → local_from q (form_items (λ e. e) expr_items form o (item.Check p ∷ rest)) [] store ≡ ends_at (if differs_in form locals then Some p else later)
unfolding parts
equation_form q k locals store (ExprForm-F.Bin key a b) o p rest later unit holds (is, left, right) next =
    let x : ℤ = value_of a locals in
    let y : ℤ = value_of b locals in
    sum q k locals store a (expr_items b (item.Bin o key ∷ item.Check p ∷ rest)) [] holds left
    ∙ sum q k locals store b (item.Bin o key ∷ item.Check p ∷ rest) (parts q x ∷ []) holds right
    ∙ compare key x y is
  where
    compare : (key : ℕ) (x y : ℤ) → key ≡ 11 → local_from q (item.Bin o key ∷ item.Check p ∷ rest) (parts q y ∷ parts q x ∷ []) store ≡ ends_at (if (if key == 11 then not (int_eq x y) else false) then Some p else later)
    compare key x y is = subst (λ (j : ℕ). local_from q (item.Bin o j ∷ item.Check p ∷ rest) (Num (y *ℤ q) ∷ Num (x *ℤ q) ∷ []) store ≡ ends_at (if (if j == 11 then not (int_eq x y) else false) then Some p else later)) (sym is)
        (ap (λ o. hopes o (λ c. local_from q (item.Check p ∷ rest) (c ∷ []) store)) (compared_is q x y unit) ∙ asserted q p rest store (int_eq x y) later next)
equation_form q k locals store form o p rest later unit holds is next = absurd is

-- a new value of a local, in parts
stored : (q : ℤ) (k i : ℕ) (v : ℤ) (locals : List ℤ) (store : List (Option Value)) → Holds q k locals store → i ≤ k → i < length locals → Holds q (max k (suc i)) (slice_set locals i v) (slice_set store i (Some (parts q v)))
stored q k i v locals store holds known there = record {
  as_long = length-set store i (Some (parts q v)) ∙ holds.as_long ∙ sym (length-set locals i v);
  kept = λ j below. by_place j below ((j == i)) refl;
}
  where
    by_place : (j : ℕ) → j < max k (suc i) → (same : Bool) → (j == i) ≡ same → slice_get (slice_set store i (Some (parts q v))) j ≡ Some (Some (parts q (local_value j (slice_set locals i v))))
    by_place j below true e =
        let is : i ≡ j = sym (eqb-true j i e) in
        subst (λ (n : ℕ). slice_get (slice_set store i (Some (parts q v))) n ≡ Some (Some (parts q (local_value n (slice_set locals i v))))) is
        (set_same store i (Some (parts q v)) (subst (λ n. i < n) (sym holds.as_long) there) ∙ ap (λ z. Some (Some (parts q z))) (sym (get_or-set_same locals i v (pos 0) there)))
    by_place j below false e =
        let apart : j ≢ i = eqb-false j i e in
        set_other store i j (Some (parts q v)) apart ∙ holds.kept j (omega arith) ∙ ap (λ z. Some (Some (parts q z))) (sym (get_or-set_other locals i j v (pos 0) apart))

after_length : (form : StmtForm-F StmtForm Stmt) (locals : List ℤ) → length (after_form form locals) ≡ length locals
after_length (StmtForm-F.Store i e) locals = length-set locals i (value_of e locals)
after_length form locals = refl

-- what a statement leaves is gone on with
abbrev GoesOn : ℤ → ℕ → List ℤ → List (Item Value) → Option Place → Type 0
GoesOn q k locals rest later = (store : List (Option Value)) → Holds q k locals store → local_from q rest [] store ≡ ends_at later

printed : (q : ℤ) (k : ℕ) (locals : List ℤ) (store : List (Option Value)) (args : List PrintArg) (rest : List (Item Value)) (later : Option Place) → Holds q k locals store → IsPrinted k args → GoesOn q k locals rest later → local_from q (printed_items args (item.Print args ∷ rest)) [] store ≡ ends_at later
printed q k locals store (arg.Value e ∷ []) rest later holds is next = sum q k locals store e (item.Print (arg.Value e ∷ []) ∷ rest) [] holds is ∙ next store holds
printed q k locals store args rest later holds is next = absurd is

stmt_form : (q : ℤ) (k : ℕ) (locals : List ℤ) (store : List (Option Value)) (form : StmtForm-F StmtForm Stmt) (p : Place) (rest : List (Item Value)) (later : Option Place) → pos 1 ≤ℤ q → Holds q k locals store → IsSmallStmtForm (length locals) k form → GoesOn q (assigned_form k form) (after_form form locals) rest later → local_from q (stmt_form_items form p rest) [] store ≡ ends_at (if is_false_form form locals then Some p else later)
stmt_form q k locals store StmtForm-F.Pass p rest later unit holds is next = next store holds
stmt_form q k locals store (StmtForm-F.Store i e) p rest later unit holds (known, there, is) next =
    sum q k locals store e (item.Store i ∷ rest) [] holds is
    ∙ next (slice_set store i (Some (parts q (value_of e locals)))) (stored q k i (value_of e locals) locals store holds known there)
stmt_form q k locals store (StmtForm-F.Check e) p rest later unit holds is next =
    ap (λ control. local_from q control [] store) (expr_items_is e (item.Check p ∷ rest))
    ∙ equation_form q k locals store (out-ExprForm e.form) e.place p rest later unit holds is (next store holds)
stmt_form q k locals store (StmtForm-F.Print args) p rest later unit holds is next = printed q k locals store args rest later holds is next
stmt_form q k locals store form p rest later unit holds is next = absurd is

body : (q : ℤ) (k : ℕ) (locals : List ℤ) (store : List (Option Value)) (ss : List Stmt) → pos 1 ≤ℤ q → Holds q k locals store → IsSmallBody (length locals) k ss → local_from q (making_items ss 0 (item.End ∷ [])) [] store ≡ ends_at (first_false_in ss locals)
body q k locals store [] unit holds is = refl
body q k locals store (s ∷ ss) unit holds (first, more) =
    let form = out-StmtForm s.form in
    stmt_form q k locals store form s.place (making_items ss 0 (item.End ∷ [])) (first_false_in ss (after_form form locals)) unit holds first
    (λ later on. body q (assigned_form k form) (after_form form locals) later ss unit on (subst (λ (n : ℕ). IsSmallBody n (assigned_form k form) ss) (sym (after_length form locals)) more))

-- the local run of a small function in a unit
pub local_is : (q : ℤ) (run : Method) → pos 1 ≤ℤ q → IsSmallMethod run → local q run ≡ ends_at (first_false_of run)
local_is q run unit small =
    let n : ℕ = length run.locals in
    let begins : Holds q 0 (replicate n (pos 0)) (replicate n None) = record { as_long = length-replicate {A = Option Value} n None ∙ sym (length-replicate {A = ℤ} n (pos 0)); kept = λ i below. absurd (omega arith) } in
    ap (λ (made : ℕ). local_from q (making_items run.body made (item.End ∷ [])) [] (replicate n None)) small.makes_nothing
    ∙ body q 0 (replicate n (pos 0)) (replicate n None) run.body unit begins (subst (λ (j : ℕ). IsSmallBody j 0 run.body) (sym (length-replicate {A = ℤ} n (pos 0))) small.body_is_small)
