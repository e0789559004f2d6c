-- What a chain makes of a comparison.
use Rattle.std.proofs.Common.{◌≡◌, ℕ, ℤ, Bool, true, false, List, ◌∷◌, drop, Option, Some, None, refl, ap, ◌∙◌}
use Rattle.std.specs.Prelude.{if◌then◌else◌}
use Rattle.py_base.specs.declared.Place.{Place}
use Rattle.py_syntax.specs.declared.Value.{Value}
use Rattle.py_syntax.specs.declared.Value.TheVariants.{Num, Truth, Nil, Ref}
use Rattle.py_syntax.specs.declared.Expr.{Expr}
use Rattle.machine_model.specs.declared.Halt.{Halt}
use Rattle.machine_model.specs.declared.Halt.TheVariants.{NoOperand, Wide}
use Rattle.machine_model.specs.declared.Object.{Object}
use Rattle.machine_model.specs.declared.Frame.{Frame}
use Rattle.machine_model.specs.Results.{Res, Got, Stops, Width, then_do, sized}
use Rattle.machine_model.specs.Frames.{After, operand, pop_value, pop_truth, goes_on, stays}
use Rattle.py_syntax.specs.declared.Item.TheVariants as item
use Rattle.py_syntax.specs.ExprItems.{expr_items}
use Rattle.machine_model.specs.Operators.{binary}
use Rattle.machine_model.specs.Items.{chain_on, links, with_stack}
use Rattle.machine_items.specs.Links.{truth_in}

sized_number : (fit : Bool) (z : ℤ) (p : Place) (v : Value) → (if fit then Got (Num z) else Stops (Wide p)) ≡ Got v → Num z ≡ v
sized_number true z p v is = cc
sized_number false z p v is = cc

sized_value : (fits : Width) (p : Place) (o : Option Value) (v : Value) → then_do (operand o) (sized fits p) ≡ Got v → o ≡ Some v
sized_value fits p None v is = cc
sized_value fits p (Some (Num z)) v is = ap (λ w. Some w) (sized_number (fits z) z p v is)
sized_value fits p (Some (Truth b)) v is = cc
sized_value fits p (Some Nil) v is = cc
sized_value fits p (Some (Ref r)) v is = cc

pub compared : (fits : Width) (p : Place) (o : Option Value) (v : Value) → then_do (operand o) (sized fits p) ≡ Got v → operand (truth_in o) ≡ operand (truth_in (Some v))
compared fits p o v is = ap (λ x. operand (truth_in x)) (sized_value fits p o v is)

pub stopped : (fits : Width) (p : Place) (o : Option Value) (h : Halt) → then_do (operand o) (sized fits p) ≡ Stops h → operand (truth_in o) ≡ Stops NoOperand
stopped fits p None h is = refl
stopped fits p (Some (Num z)) h is = refl
stopped fits p (Some (Truth b)) h is = cc
stopped fits p (Some Nil) h is = refl
stopped fits p (Some (Ref r)) h is = refl

-- what a chain goes on with
abbrev pub linked : Value → List Expr → List ℕ → List Object → Frame → List Frame → Bool → Res After
linked b es keys heap f below t =
    if t then chain_on b es keys heap (with_stack (drop 2 f.stack) f) below else stays heap (with_stack (Truth false ∷ drop 2 f.stack) f) below

linked_by : (o : Option Value) (b : Value) (es : List Expr) (keys : List ℕ) (heap : List Object) (f : Frame) (below : List Frame)
    → then_do (operand o) (λ c. then_do (pop_truth (c ∷ drop 2 f.stack)) (λ d. if d.0 then chain_on b es keys heap (with_stack d.1 f) below else stays heap (with_stack (Truth false ∷ d.1) f) below))
    ≡ then_do (operand (truth_in o)) (linked b es keys heap f below)
linked_by None b es keys heap f below = refl
linked_by (Some (Num z)) b es keys heap f below = refl
linked_by (Some (Truth t)) b es keys heap f below = refl
linked_by (Some Nil) b es keys heap f below = refl
linked_by (Some (Ref r)) b es keys heap f below = refl

pub links_is : (key : ℕ) (es : List Expr) (keys : List ℕ) (heap : List Object) (f : Frame) (below : List Frame) (a b : Value)
    → pop_value (drop 0 f.stack) ≡ Got (b, drop 1 f.stack) → pop_value (drop 1 f.stack) ≡ Got (a, drop 2 f.stack)
    → links key es keys heap f below ≡ then_do (operand (truth_in (binary key a b))) (linked b es keys heap f below)
links_is key es keys heap f below a b first second =
    ap (λ r. then_do r (λ y. then_do (pop_value y.1) (λ x. then_do (operand (binary key x.0 y.0)) (λ c. then_do (pop_truth (c ∷ x.1)) (λ d. if d.0 then chain_on y.0 es keys heap (with_stack d.1 f) below else stays heap (with_stack (Truth false ∷ d.1) f) below))))) first
    ∙ ap (λ r. then_do r (λ x. then_do (operand (binary key x.0 b)) (λ c. then_do (pop_truth (c ∷ x.1)) (λ d. if d.0 then chain_on b es keys heap (with_stack d.1 f) below else stays heap (with_stack (Truth false ∷ d.1) f) below)))) second
    ∙ linked_by (binary key a b) b es keys heap f below

pub chain_is : (b : Value) (e : Expr) (all es : List Expr) (key : ℕ) (every keys : List ℕ) (heap : List Object) (f : Frame) (below : List Frame) → all ≡ e ∷ es → every ≡ key ∷ keys
    → chain_on b all every heap f below ≡ goes_on heap (record f { control = expr_items e (item.Link key es keys ∷ f.control); stack = b ∷ f.stack } ∷ below)
chain_is b e all es key every keys heap f below tree operators =
    ap (λ xs. chain_on b xs every heap f below) tree ∙ ap (λ ks. chain_on b (e ∷ es) ks heap f below) operators
