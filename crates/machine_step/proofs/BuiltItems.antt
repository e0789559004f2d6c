-- The items of expressions and statements of small forms are built.
use Rattle.std.proofs.Common.{◌≡◌, ℕ, zero, suc, Bool, true, false, ◌&&◌, List, [], ◌∷◌, slice_get, Option, Some, None, refl, ap, sym, ◌∙◌, subst}
use Rattle.std.specs.Prelude.{All, IfSome, IsTrue}
use Rattle.std.specs.List.{list_all}
use Rattle.std.proofs.lemmas.List.Elements.{All-nil, All-cons, All-head, All-tail}
use Rattle.py_base.specs.declared.Place.{Place}
use Rattle.py_syntax.specs.declared.Value.{Value}
use Rattle.py_syntax.specs.declared.Expr.{Expr, Expr-F, map-Expr, fold-roll-Expr, roll-Expr, ind-Expr}
use Rattle.py_syntax.specs.declared.ExprForm.{ExprForm, ExprForm-F, map-ExprForm, out-ExprForm, roll-ExprForm, out-roll-ExprForm, fold-ExprForm, fold-roll-ExprForm}
use Rattle.py_syntax.specs.declared.Instance.{Instance, fold-Instance}
use Rattle.py_syntax.specs.declared.PrintArg.{PrintArg}
use Rattle.py_syntax.specs.declared.PrintArg.TheVariants as arg
use Rattle.py_syntax.specs.declared.Stmt.{Stmt}
use Rattle.py_syntax.specs.declared.StmtForm.{StmtForm, StmtForm-F, out-StmtForm}
use Rattle.py_syntax.specs.declared.Method.{Method}
use Rattle.py_syntax.specs.declared.Module.{Module}
use Rattle.py_syntax.specs.declared.Item.{Item}
use Rattle.py_syntax.specs.declared.Item.TheVariants as item
use Rattle.py_syntax.specs.ExprItems.{form_items, expr_items}
use Rattle.py_syntax.specs.StmtItems.{printed_items, stmt_form_items, stmt_items, making_form, making_items}
use Rattle.py_syntax.specs.ItemLaws.{expr_items_is}
use Rattle.machine_model.specs.Steps.{first_frame, first_frames, first_state}
use Rattle.machine_step.specs.Built.{IsBuiltItem, HasNoConditions, IsBuiltFrame, AreBuiltFrames, IsBuiltThread, IsBuilt}
use Rattle.machine_step.specs.SmallForms.{is_small_form, is_small, is_small_argument, is_small_stmt_form, is_small_stmt, IsSmallMethod, HasSmallForms}

abbrev Items : Type 0
Items = List (Item Value)

abbrev AreBuilt : Items → Type 0
AreBuilt = All IsBuiltItem

built : (i : Item Value) (rest : Items) → IsBuiltItem i → AreBuilt rest → AreBuilt (i ∷ rest)
built = All-cons IsBuiltItem

abbrev is_small_of : ExprForm → Bool
is_small_of = fold-ExprForm Bool Bool (Unit {0}) is_small_form (λ e. e.form) (λ i. tt)

abbrev of_instance : Instance → Unit {0}
of_instance = fold-Instance Bool Bool (Unit {0}) is_small_form (λ e. e.form) (λ i. tt)

abbrev FormBuilt : ExprForm → Type 0
FormBuilt form = is_small_of form ≡ true → (p : Place) (rest : Items) → AreBuilt rest → AreBuilt (form_items (λ e. e) expr_items (out-ExprForm form) p rest)

abbrev ExprBuilt : Expr → Type 0
ExprBuilt e = is_small e ≡ true → (rest : Items) → AreBuilt rest → AreBuilt (expr_items e rest)

abbrev InstanceBuilt : Instance → Type 0
InstanceBuilt i = Unit {0}

abbrev SuchForm : Type 0
SuchForm = (form : ExprForm) × FormBuilt form

abbrev SuchExpr : Type 0
SuchExpr = (e : Expr) × ExprBuilt e

abbrev SuchInstance : Type 0
SuchInstance = (i : Instance) × InstanceBuilt i

-- a layer without the proofs beside its parts
abbrev form_of : ExprForm-F SuchForm SuchExpr SuchInstance → ExprForm-F ExprForm Expr Instance
form_of = map-ExprForm SuchForm SuchExpr SuchInstance ExprForm Expr Instance (λ f. f.0) (λ e. e.0) (λ i. i.0)

abbrev expr_of : Expr-F SuchForm SuchExpr SuchInstance → Expr-F ExprForm Expr Instance
expr_of = map-Expr SuchForm SuchExpr SuchInstance ExprForm Expr Instance (λ f. f.0) (λ e. e.0) (λ i. i.0)

abbrev is_small_layer : ExprForm-F ExprForm Expr Instance → Bool
is_small_layer x = is_small_form (map-ExprForm ExprForm Expr Instance Bool Bool (Unit {0}) is_small_of is_small of_instance x)

and_left : (a b : Bool) → (a && b) ≡ true → a ≡ true
and_left true b both = refl
and_left false b both = both

and_right : (a b : Bool) → (a && b) ≡ true → b ≡ true
and_right true b both = both
and_right false b both = cc

form_layer : (y : ExprForm-F SuchForm SuchExpr SuchInstance) → is_small_layer (form_of y) ≡ true → (p : Place) (rest : Items) → AreBuilt rest → AreBuilt (form_items (λ e. e) expr_items (form_of y) p rest)
form_layer (ExprForm-F.Num n) small p rest more = built (item.Num n) rest tt more
form_layer (ExprForm-F.Truth b) small p rest more = built (item.Truth b) rest tt more
form_layer ExprForm-F.Nil small p rest more = built item.Nil rest tt more
form_layer (ExprForm-F.Local i) small p rest more = built (item.Load i) rest tt more
form_layer (ExprForm-F.Un key a) small p rest more = a.1 small (item.Un p key ∷ rest) (built (item.Un p key) rest tt more)
form_layer (ExprForm-F.NotNil e) small p rest more = e.1 small (item.NotNil p ∷ rest) (built (item.NotNil p) rest tt more)
form_layer (ExprForm-F.Bin key a b) small p rest more =
    let last : AreBuilt (item.Bin p key ∷ rest) = built (item.Bin p key) rest tt more in
    a.1 (and_left (is_small a.0) (is_small b.0) small) (expr_items b.0 (item.Bin p key ∷ rest))
    (b.1 (and_right (is_small a.0) (is_small b.0) small) (item.Bin p key ∷ rest) last)
form_layer form small p rest more = cc

form_step : (x : ExprForm-F ExprForm Expr Instance) (y : ExprForm-F SuchForm SuchExpr SuchInstance) → form_of y ≡ x → FormBuilt (roll-ExprForm x)
form_step x y is small p rest more =
    let layer : is_small_layer x ≡ true = sym (fold-roll-ExprForm Bool Bool (Unit {0}) is_small_form (λ e. e.form) (λ i. tt) x) ∙ small in
    let items : AreBuilt (form_items (λ e. e) expr_items x p rest) =
    subst (λ z. AreBuilt (form_items (λ e. e) expr_items z p rest)) is (form_layer y (ap is_small_layer is ∙ layer) p rest more) in
    subst (λ z. AreBuilt (form_items (λ e. e) expr_items z p rest)) (sym (out-roll-ExprForm x)) items

expr_layer : (y : Expr-F SuchForm SuchExpr SuchInstance) → ExprBuilt (roll-Expr (expr_of y))
expr_layer y small rest more =
    let e : Expr = roll-Expr (expr_of y) in
    let form : is_small_of y.form.0 ≡ true = sym (fold-roll-Expr Bool Bool (Unit {0}) is_small_form (λ e. e.form) (λ i. tt) (expr_of y)) ∙ small in
    subst AreBuilt (sym (expr_items_is e rest)) (y.form.1 form y.place rest more)

expr_step : (x : Expr-F ExprForm Expr Instance) (y : Expr-F SuchForm SuchExpr SuchInstance) → expr_of y ≡ x → ExprBuilt (roll-Expr x)
expr_step x y is = subst (λ z. ExprBuilt (roll-Expr z)) is (expr_layer y)

pub expr_built : (e : Expr) → ExprBuilt e
expr_built e = ind-Expr FormBuilt ExprBuilt InstanceBuilt form_step expr_step (λ x y is. tt) e

args_built : (args : List PrintArg) → list_all is_small_argument args ≡ true → (rest : Items) → AreBuilt rest → AreBuilt (printed_items args rest)
args_built [] small rest more = more
args_built (arg.Value e ∷ args) small rest more =
    expr_built e (and_left (is_small e) (list_all is_small_argument args) small) (printed_items args rest)
    (args_built args (and_right (is_small e) (list_all is_small_argument args) small) rest more)
args_built (arg.Literal text ∷ args) small rest more = args_built args small rest more

stmt_form_built : (form : StmtForm-F StmtForm Stmt) → is_small_stmt_form form ≡ true → (p : Place) (rest : Items) → AreBuilt rest → AreBuilt (stmt_form_items form p rest)
stmt_form_built StmtForm-F.Pass small p rest more = built item.Pass rest tt more
stmt_form_built (StmtForm-F.Fold i) small p rest more = built (item.Fold p i) rest tt more
stmt_form_built (StmtForm-F.Unfold i) small p rest more = built (item.Unfold p i) rest tt more
stmt_form_built (StmtForm-F.Store i e) small p rest more = expr_built e small (item.Store i ∷ rest) (built (item.Store i) rest tt more)
stmt_form_built (StmtForm-F.Check e) small p rest more = expr_built e small (item.Check p ∷ rest) (built (item.Check p) rest tt more)
stmt_form_built (StmtForm-F.Print args) small p rest more = args_built args small (item.Print args ∷ rest) (built (item.Print args) rest tt more)
stmt_form_built form small p rest more = cc

-- no field is made by a statement of a small form
making_is : (k : ℕ) (form : StmtForm-F StmtForm Stmt) (s : Stmt) (more : ℕ → Items → Items) (rest : Items) → is_small_stmt_form form ≡ true → making_form k form s more rest ≡ stmt_items s (more k rest)
making_is zero form s more rest small = refl
making_is (suc k) StmtForm-F.Pass s more rest small = refl
making_is (suc k) (StmtForm-F.Fold i) s more rest small = refl
making_is (suc k) (StmtForm-F.Unfold i) s more rest small = refl
making_is (suc k) (StmtForm-F.Store i e) s more rest small = refl
making_is (suc k) (StmtForm-F.Check e) s more rest small = refl
making_is (suc k) (StmtForm-F.Print args) s more rest small = refl
making_is (suc k) form s more rest small = cc

body_built : (body : List Stmt) (k : ℕ) → All (λ s. IsTrue (is_small_stmt s)) body → (rest : Items) → AreBuilt rest → AreBuilt (making_items body k rest)
body_built [] k small rest more = more
body_built (s ∷ body) k small rest more =
    let here = All-head (λ s. IsTrue (is_small_stmt s)) s body small in
    let after : AreBuilt (making_items body k rest) = body_built body k (All-tail (λ s. IsTrue (is_small_stmt s)) s body small) rest more in
    subst AreBuilt (sym (making_is k (out-StmtForm s.form) s (making_items body) rest here))
    (stmt_form_built (out-StmtForm s.form) here s.place (making_items body k rest) after)

frame_built : (m : Module) (method : Method) → slice_get m.methods m.main ≡ Some method → IsSmallMethod method → IsBuiltFrame m (first_frame m.main method)
frame_built m method there small =
    let last : AreBuilt (item.End ∷ []) = built item.End [] tt (All-nil IsBuiltItem) in
    record {
      items = built item.Begin (making_items method.body method.makes (item.End ∷ [])) tt (body_built method.body method.makes small.each (item.End ∷ []) last);
      conditions = subst (λ o. IfSome o HasNoConditions) (sym there) (record { pre = small.pre; post = small.post });
    }

frames_built : (m : Module) (o : Option Method) → slice_get m.methods m.main ≡ o → IfSome o IsSmallMethod → AreBuiltFrames m (first_frames m o)
frames_built m None there small = tt
frames_built m (Some method) there small = frame_built m method there small

pub small_is_built : (m : Module) → HasSmallForms m → IsBuilt m (first_state m)
small_is_built m small =
    All-cons (IsBuiltThread m) (record { frames = first_frames m (slice_get m.methods m.main); own = None; ended = false }) [] (frames_built m (slice_get m.methods m.main) refl small) (All-nil (IsBuiltThread m))
