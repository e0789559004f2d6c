-- The items of an expression or a block stand in front of those behind it, and look at none of them.
use Rattle.std.proofs.Common.{◌≡◌, ℕ, List, [], ◌∷◌, ◌++◌, true, map, length, Some, None, refl, ap, sym, ◌∙◌, subst}
use Rattle.py_base.specs.declared.Place.{Place}
use Rattle.py_syntax.specs.declared.Value.{Value}
use Rattle.py_syntax.specs.declared.Expr.{Expr, Expr-F, map-Expr, roll-Expr, ind-Expr}
use Rattle.py_syntax.specs.declared.ExprForm.{ExprForm, ExprForm-F, map-ExprForm, out-ExprForm, roll-ExprForm, out-roll-ExprForm}
use Rattle.py_syntax.specs.declared.Instance.{Instance}
use Rattle.py_syntax.specs.declared.PrintArg.{PrintArg}
use Rattle.py_syntax.specs.declared.PrintArg.TheVariants as arg
use Rattle.py_syntax.specs.declared.Stmt.{Stmt}
use Rattle.py_syntax.specs.declared.StmtForm.{StmtForm, StmtForm-F, out-StmtForm}
use Rattle.py_syntax.specs.declared.Item.{Item}
use Rattle.py_syntax.specs.declared.Item.TheVariants as item
use Rattle.py_syntax.specs.ExprItems.{in_turn, chain_items, form_items, expr_items, static_class}
use Rattle.py_syntax.specs.StmtItems.{printed_items, stmt_form_items, stmt_items, block_items}
use Rattle.py_syntax.specs.ItemLaws.{expr_items_is}

abbrev Items : Type 0
Items = List (Item Value)

abbrev Lays : (Items → Items) → Type 0
Lays g = (xs ys : Items) → g (xs ++ ys) ≡ g xs ++ ys

abbrev FormLays : ExprForm → Type 0
FormLays form = (p : Place) → Lays (form_items (λ e. e) expr_items (out-ExprForm form) p)

abbrev ExprLays : Expr → Type 0
ExprLays e = Lays (expr_items e)

abbrev InstanceLays : Instance → Type 0
InstanceLays i = Unit {0}

abbrev SuchForm : Type 0
SuchForm = (form : ExprForm) × FormLays form

abbrev SuchExpr : Type 0
SuchExpr = (e : Expr) × ExprLays e

abbrev SuchInstance : Type 0
SuchInstance = (i : Instance) × InstanceLays i

-- a layer without the proofs beside its parts
abbrev form_of : ExprForm-F SuchForm SuchExpr SuchInstance → ExprForm-F ExprForm Expr Instance
form_of = map-ExprForm SuchForm SuchExpr SuchInstance ExprForm Expr Instance (λ f. f.0) (λ e. e.0) (λ i. i.0)

abbrev expr_of : Expr-F SuchForm SuchExpr SuchInstance → Expr-F ExprForm Expr Instance
expr_of = map-Expr SuchForm SuchExpr SuchInstance ExprForm Expr Instance (λ f. f.0) (λ e. e.0) (λ i. i.0)

one_lays : (e : SuchExpr) (i : Item Value) (xs ys : Items) → expr_items e.0 (i ∷ (xs ++ ys)) ≡ expr_items e.0 (i ∷ xs) ++ ys
one_lays e i xs ys = e.1 (i ∷ xs) ys

two_lay : (a b : SuchExpr) (i : Item Value) (xs ys : Items) → expr_items a.0 (expr_items b.0 (i ∷ (xs ++ ys))) ≡ expr_items a.0 (expr_items b.0 (i ∷ xs)) ++ ys
two_lay a b i xs ys = ap (expr_items a.0) (b.1 (i ∷ xs) ys) ∙ a.1 (expr_items b.0 (i ∷ xs)) ys

abbrev trees : List SuchExpr → List Expr
trees = map (λ (e : SuchExpr). e.0)

all_lay : (all : List SuchExpr) → Lays (in_turn expr_items (trees all))
all_lay [] xs ys = refl
all_lay (e ∷ all) xs ys = ap (expr_items e.0) (all_lay all xs ys) ∙ e.1 (in_turn expr_items (trees all) xs) ys

chain_lays : (all : List SuchExpr) (keys : List ℕ) → Lays (chain_items (λ e. e) expr_items (trees all) keys)
chain_lays [] keys xs ys = refl
chain_lays (a ∷ []) keys xs ys = refl
chain_lays (a ∷ b ∷ more) [] xs ys = refl
chain_lays (a ∷ b ∷ more) (key ∷ keys) xs ys = two_lay a b (item.Link key (map (λ e. e) (trees more)) keys) xs ys

form_layer : (y : ExprForm-F SuchForm SuchExpr SuchInstance) (p : Place) → Lays (form_items (λ e. e) expr_items (form_of y) p)
form_layer (ExprForm-F.Num n) p xs ys = refl
form_layer (ExprForm-F.Truth b) p xs ys = refl
form_layer ExprForm-F.Nil p xs ys = refl
form_layer (ExprForm-F.Local i) p xs ys = refl
form_layer (ExprForm-F.Get e f) p xs ys = one_lays e (item.Read p f) xs ys
form_layer (ExprForm-F.Un key a) p xs ys = one_lays a (item.Un p key) xs ys
form_layer (ExprForm-F.Bin key a b) p xs ys = two_lay a b (item.Bin p key) xs ys
form_layer (ExprForm-F.Chain all keys) p xs ys = chain_lays all keys xs ys
form_layer (ExprForm-F.And a b) p xs ys = one_lays a (item.AndThen b.0) xs ys
form_layer (ExprForm-F.Or a b) p xs ys = one_lays a (item.OrElse b.0) xs ys
form_layer (ExprForm-F.Call f all) p xs ys = all_lay all (item.Call p f (length (trees all)) ∷ xs) ys
form_layer (ExprForm-F.Send e m all) p xs ys =
    let last : Item Value = item.Send p (static_class e.0.ty) m (length (trees all)) in
    ap (expr_items e.0) (all_lay all (last ∷ xs) ys) ∙ e.1 (in_turn expr_items (trees all) (last ∷ xs)) ys
form_layer (ExprForm-F.New c all) p xs ys = all_lay all (item.New p c (length (trees all)) ∷ xs) ys
form_layer (ExprForm-F.NewLock c o e) p xs ys = two_lay o e (item.NewLock p c) xs ys
form_layer (ExprForm-F.NewThread f all e) p xs ys =
    let last : Item Value = item.NewThread p f (length (trees all)) in
    ap (in_turn expr_items (trees all)) (e.1 (last ∷ xs) ys) ∙ all_lay all (expr_items e.0 (last ∷ xs)) ys
form_layer (ExprForm-F.Locked e) p xs ys = one_lays e (item.Locked p) xs ys
form_layer (ExprForm-F.NotNil e) p xs ys = one_lays e (item.NotNil p) xs ys
form_layer (ExprForm-F.Old e) p xs ys = refl
form_layer ExprForm-F.Answer p xs ys = refl
form_layer (ExprForm-F.LevelOf e) p xs ys = refl
form_layer (ExprForm-F.Opened i e) p xs ys = refl
form_layer (ExprForm-F.Gives a b) p xs ys = refl

form_step : (x : ExprForm-F ExprForm Expr Instance) (y : ExprForm-F SuchForm SuchExpr SuchInstance) → form_of y ≡ x → FormLays (roll-ExprForm x)
form_step x y is p =
    subst (λ z. Lays (form_items (λ e. e) expr_items z p)) (sym (out-roll-ExprForm x))
    (subst (λ z. Lays (form_items (λ e. e) expr_items z p)) is (form_layer y p))

expr_layer : (y : Expr-F SuchForm SuchExpr SuchInstance) → ExprLays (roll-Expr (expr_of y))
expr_layer y xs ys =
    let e : Expr = roll-Expr (expr_of y) in
    expr_items_is e (xs ++ ys) ∙ y.form.1 y.place xs ys ∙ ap (λ zs. zs ++ ys) (sym (expr_items_is e xs))

expr_step : (x : Expr-F ExprForm Expr Instance) (y : Expr-F SuchForm SuchExpr SuchInstance) → expr_of y ≡ x → ExprLays (roll-Expr x)
expr_step x y is = subst (λ z. ExprLays (roll-Expr z)) is (expr_layer y)

expr_lays : (e : Expr) → ExprLays e
expr_lays e = ind-Expr FormLays ExprLays InstanceLays form_step expr_step (λ x y is. tt) e

-- a law of this page, turned round
pub expr_on : (e : Expr) (xs rest : Items) → expr_items e xs ++ rest ≡ expr_items e (xs ++ rest)
expr_on e xs rest = sym (expr_lays e xs rest)

abbrev such : Expr → SuchExpr
such e = (e, expr_lays e)

args_lay : (args : List PrintArg) → Lays (printed_items args)
args_lay [] xs ys = refl
args_lay (arg.Value e ∷ args) xs ys = ap (expr_items e) (args_lay args xs ys) ∙ expr_lays e (printed_items args xs) ys
args_lay (arg.Literal text ∷ args) xs ys = args_lay args xs ys

supers_lay : (all : List Expr) → Lays (in_turn expr_items all)
supers_lay [] xs ys = refl
supers_lay (e ∷ all) xs ys = ap (expr_items e) (supers_lay all xs ys) ∙ expr_lays e (in_turn expr_items all xs) ys

form_lays : (form : StmtForm-F StmtForm Stmt) (p : Place) → Lays (stmt_form_items form p)
form_lays StmtForm-F.Pass p xs ys = refl
form_lays (StmtForm-F.Store i e) p xs ys = one_lays (such e) (item.Store i) xs ys
form_lays (StmtForm-F.Write o f e) p xs ys = two_lay (such e) (such o) (item.Write f.place f.name) xs ys
form_lays (StmtForm-F.AugStore i op e) p xs ys = ap (λ zs. item.Load i ∷ zs) (one_lays (such e) (item.Bin op.place op.key) (item.Store i ∷ xs) ys)
form_lays (StmtForm-F.AugWrite o f op e) p xs ys =
    ap (λ zs. expr_items o (item.ReadKept f.place f.name ∷ zs)) (one_lays (such e) (item.Bin op.place op.key) (item.WriteBack f.place f.name ∷ xs) ys)
    ∙ one_lays (such o) (item.ReadKept f.place f.name) (expr_items e (item.Bin op.place op.key ∷ item.WriteBack f.place f.name ∷ xs)) ys
form_lays (StmtForm-F.Drop e) p xs ys = one_lays (such e) item.Drop xs ys
form_lays (StmtForm-F.Print args) p xs ys = args_lay args (item.Print args ∷ xs) ys
form_lays (StmtForm-F.Check e) p xs ys = one_lays (such e) (item.Check p) xs ys
form_lays (StmtForm-F.Prove a) p xs ys = refl
form_lays (StmtForm-F.Fold i) p xs ys = refl
form_lays (StmtForm-F.Unfold i) p xs ys = refl
form_lays (StmtForm-F.If e a b) p xs ys = one_lays (such e) (item.If a b) xs ys
form_lays (StmtForm-F.Loop invariant e body) p xs ys = refl
form_lays StmtForm-F.Break p xs ys = refl
form_lays StmtForm-F.Continue p xs ys = refl
form_lays (StmtForm-F.Try body handlers other last) p xs ys = refl
form_lays (StmtForm-F.With e body) p xs ys = one_lays (such e) (item.With p body) xs ys
form_lays (StmtForm-F.Raise c) p xs ys = refl
form_lays (StmtForm-F.Return None) p xs ys = refl
form_lays (StmtForm-F.Return (Some e)) p xs ys = one_lays (such e) (item.Return true) xs ys
form_lays (StmtForm-F.Super q all) p xs ys = supers_lay all (item.Super q (length all) ∷ xs) ys
form_lays (StmtForm-F.Acquire q e) p xs ys = one_lays (such e) (item.Acquire q) xs ys
form_lays (StmtForm-F.Release q e) p xs ys = one_lays (such e) (item.Release q) xs ys
form_lays (StmtForm-F.Start q e f) p xs ys = one_lays (such e) (item.Start q f) xs ys
form_lays (StmtForm-F.Join q e f) p xs ys = one_lays (such e) (item.Join q f) xs ys

stmt_lays : (s : Stmt) → Lays (stmt_items s)
stmt_lays s = form_lays (out-StmtForm s.form) s.place

block_lays : (block : List Stmt) → Lays (block_items block)
block_lays [] xs ys = refl
block_lays (s ∷ block) xs ys = ap (stmt_items s) (block_lays block xs ys) ∙ stmt_lays s (block_items block xs) ys

pub block_on : (block : List Stmt) (xs rest : Items) → block_items block xs ++ rest ≡ block_items block (xs ++ rest)
block_on block xs rest = sym (block_lays block xs rest)

pub expr_alone : (e : Expr) (pushed start rest : Items) → pushed ≡ expr_items e start → start ≡ [] → pushed ++ rest ≡ expr_items e rest
expr_alone e pushed start rest is none = ap (λ xs. xs ++ rest) (is ∙ ap (expr_items e) none) ∙ expr_on e [] rest

pub expr_before : (e : Expr) (i : Item Value) (pushed before start rest : Items) → pushed ≡ expr_items e before → before ≡ i ∷ start → start ≡ [] → pushed ++ rest ≡ expr_items e (i ∷ rest)
expr_before e i pushed before start rest is behind none = ap (λ xs. xs ++ rest) (is ∙ ap (expr_items e) (behind ∙ ap (λ xs. i ∷ xs) none)) ∙ expr_on e (i ∷ []) rest

pub block_before : (block : List Stmt) (i : Item Value) (pushed before start rest : Items) → pushed ≡ block_items block before → before ≡ i ∷ start → start ≡ [] → pushed ++ rest ≡ block_items block (i ∷ rest)
block_before block i pushed before start rest is behind none = ap (λ xs. xs ++ rest) (is ∙ ap (block_items block) (behind ∙ ap (λ xs. i ∷ xs) none)) ∙ block_on block (i ∷ []) rest
