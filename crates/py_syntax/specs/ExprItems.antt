-- The control items of an expression in code: its operands from left to right, each with its own items, and then one item of its own, as the Language Reference orders evaluation ("Evaluation order", "Boolean operations", "Comparisons"). The items stand in front of those that come after the expression.
use Rattle.std.specs.Prelude.{ℕ, List, [], ◌∷◌, map, length}
use Rattle.py_base.specs.declared.Place.{Place}
use Rattle.py_syntax.specs.declared.ty.Ty.{Ty}
use Rattle.py_syntax.specs.declared.ty.Ty.TheVariants.{Int, Bool, Void, Obj, Opt, Thr}
use Rattle.py_syntax.specs.declared.expr.Expr.{Expr, para-Expr}
use Rattle.py_syntax.specs.declared.expr.ExprForm.{ExprForm-F}
use Rattle.py_syntax.specs.declared.item.Item.{Item}
use Rattle.py_syntax.specs.declared.item.Item.TheVariants as item

-- the items of a part, in front of those that come after
abbrev pub Before : Type 0 → Type 0
Before V = List (Item V) → List (Item V)

-- parts one after another
abbrev pub in_turn : {V : Type 0} → {E : Type 0} → (E → Before V) → List E → Before V
in_turn items [] rest = rest
in_turn items (e ∷ es) rest = items e (in_turn items es rest)

-- the class that the text gives a receiver
abbrev pub static_class : Ty → ℕ
static_class (Obj c) = c
static_class (Opt c) = c
static_class Int = 0
static_class Bool = 0
static_class Void = 0
static_class Thr = 0

-- a chain evaluates its first two operands, and each further one once it is reached
abbrev pub chain_items : {V : Type 0} → {E : Type 0} → (E → Expr) → (E → Before V) → List E → List ℕ → Before V
chain_items tree items (a ∷ b ∷ more) (key ∷ keys) rest = items a (items b (item.Link key (map tree more) keys ∷ rest))
chain_items tree items (a ∷ b ∷ more) [] rest = rest
chain_items tree items (a ∷ []) keys rest = rest
chain_items tree items [] keys rest = rest

-- the items of a form at its place, from the trees and the items of its parts; forms of contracts have none
abbrev pub form_items : {V : Type 0} → {F : Type 0} → {E : Type 0} → {I : Type 0} → (E → Expr) → (E → Before V) → ExprForm-F F E I → Place → Before V
form_items tree items (ExprForm-F.Num n) p rest = item.Num n ∷ rest
form_items tree items (ExprForm-F.Truth b) p rest = item.Truth b ∷ rest
form_items tree items ExprForm-F.Nil p rest = item.Nil ∷ rest
form_items tree items (ExprForm-F.Local i) p rest = item.Load i ∷ rest
form_items tree items (ExprForm-F.Get e f) p rest = items e (item.Read p f ∷ rest)
form_items tree items (ExprForm-F.Un key a) p rest = items a (item.Un p key ∷ rest)
form_items tree items (ExprForm-F.Bin key a b) p rest = items a (items b (item.Bin p key ∷ rest))
form_items tree items (ExprForm-F.Chain all keys) p rest = chain_items tree items all keys rest
form_items tree items (ExprForm-F.And a b) p rest = items a (item.AndThen (tree b) ∷ rest)
form_items tree items (ExprForm-F.Or a b) p rest = items a (item.OrElse (tree b) ∷ rest)
form_items tree items (ExprForm-F.Call f all) p rest = in_turn items all (item.Call p f (length all) ∷ rest)
form_items tree items (ExprForm-F.Send e m all) p rest = items e (in_turn items all (item.Send p (static_class (tree e).ty) m (length all) ∷ rest))
form_items tree items (ExprForm-F.New c all) p rest = in_turn items all (item.New p c (length all) ∷ rest)
form_items tree items (ExprForm-F.NewLock c o e) p rest = items o (items e (item.NewLock p c ∷ rest))
form_items tree items (ExprForm-F.NewThread f all e) p rest = in_turn items all (items e (item.NewThread p f (length all) ∷ rest))
form_items tree items (ExprForm-F.Locked e) p rest = items e (item.Locked p ∷ rest)
form_items tree items (ExprForm-F.NotNil e) p rest = items e (item.NotNil p ∷ rest)
form_items tree items (ExprForm-F.Old e) p rest = rest
form_items tree items ExprForm-F.Answer p rest = rest
form_items tree items (ExprForm-F.LevelOf e) p rest = rest
form_items tree items (ExprForm-F.Opened i e) p rest = rest
form_items tree items (ExprForm-F.Gives a b) p rest = rest

abbrev pub expr_items : {V : Type 0} → Expr → Before V
expr_items {V} = para-Expr (Place → Before V) (Before V) (Unit {0}) (form_items (λ e. e.0) (λ e. e.1)) (λ e. e.form.1 e.place) (λ i. tt)
