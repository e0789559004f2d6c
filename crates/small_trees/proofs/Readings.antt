-- An expression of which something small is read is small.
use Rattle.std.proofs.Common.{◌≡◌, refl, sym, ap, subst, ◌∙◌, ℕ, ℤ, pos, negsuc, List, [], ◌∷◌, ◌++◌, map}
use Rattle.std.specs.Prelude.{Bool, true, false, nat_le, if◌then◌else◌}
use Rattle.py_base.specs.declared.Place.{Place}
use Rattle.raw_syntax.specs.declared.RawExpr.{RawExpr, RawExpr-F, roll-RawExpr, out-roll-RawExpr, map-RawExpr, ind-RawExpr}
use Rattle.raw_syntax.specs.declared.RawExprForm.{RawExprForm, RawExprForm-F, roll-RawExprForm, out-RawExprForm, out-roll-RawExprForm, map-RawExprForm, fold-RawExprForm}
use Rattle.raw_syntax.specs.declared.RawComparison.{RawComparison, RawComparison-F, map-RawComparison}
use Rattle.raw_syntax.specs.declared.RawArgument.{RawArgument, RawArgument-F, map-RawArgument}
use Rattle.raw_syntax.specs.declared.Arithmetic.{Arithmetic}
use Rattle.raw_syntax.specs.declared.Arithmetic.TheVariants as signs
use Rattle.small_module.specs.SmallTree.{Link, Argument, Shape, name, chain, call, field, plain, View, is_known, local_number, number_piece, name_piece, sign_piece, operand_of, sum_of, seen_as, form_view, argument_view, link_view, view, link_of, argument_of}
use Rattle.small_module.specs.declared.piece.Piece.{Piece}
use Rattle.small_module.specs.declared.piece.Piece.TheVariants as pieces
use Rattle.small_trees.proofs.Opened.{ExprLayer, opened}
use Rattle.small_trees.proofs.Trees.{Bare, is_itself, is_within, IsOperand, is_number, is_local, IsSum, is_alone, is_two, IsTarget}
use Rattle.small_trees.proofs.Sums.{Needs, weaker, only_of, IsSome, other_sum, signed_sum, never_only, still_some}

-- one level, where each part is seen
abbrev pub layer_seen : List (List ℕ) → ExprLayer → Place → View
layer_seen names f = form_view names (map-RawExprForm RawArgument RawExprForm RawComparison RawExpr Argument (Place → View) Link View (argument_of names) (fold-RawExprForm Argument (Place → View) Link View argument_view (form_view names) link_view (λ e. e.form e.place)) (link_of names) (view names) f)

pub seen : (names : List (List ℕ)) (e : RawExpr) (f : ExprLayer) → out-RawExprForm e.form ≡ f → view names e ≡ layer_seen names f e.place
seen names e f is = opened Argument (Place → View) Link View argument_view (form_view names) link_view (λ e. e.form e.place) e f is

-- what is seen as a chain or a call is one
pub record ChainOf (names : List (List ℕ)) (e : RawExpr) (first : List Piece) (links : List Link) : Type 0 where
  pub b : RawExpr
  pub x : RawExpr
  pub ls : List RawComparison
  pub bare : Bare e b
  pub is : out-RawExprForm b.form ≡ RawExprForm-F.Chain x ls
  pub first_is : first ≡ (view names x).parts
  pub links_are : links ≡ map (link_of names) ls

pub record CallOf (names : List (List ℕ)) (e : RawExpr) (s : Shape) (args : List Argument) : Type 0 where
  pub b : RawExpr
  pub f : RawExpr
  pub xs : List RawArgument
  pub bare : Bare e b
  pub is : out-RawExprForm b.form ≡ RawExprForm-F.Call f xs
  pub called_is : s ≡ (view names f).shape
  pub args_are : args ≡ map (argument_of names) xs

abbrev pub ShapeOf : List (List ℕ) → RawExpr → Shape → Type 0
ShapeOf names e (name n) = IsTarget e n
ShapeOf names e (chain first links) = ChainOf names e first links
ShapeOf names e (call s args) = CallOf names e s args
ShapeOf names e field = Unit {0}
ShapeOf names e plain = Unit {0}

-- what a view of the expression says of it
pub record Reads (names : List (List ℕ)) (e : RawExpr) (v : View) : Type 0 where
  pub sum : (q : Place) → Needs (IsSum names e) (sum_of q v.parts)
  pub only : Needs (IsOperand names e) (only_of v.parts)
  pub some : IsSome v.parts
  pub shape : ShapeOf names e v.shape

one_part : (names : List (List ℕ)) (e : RawExpr) (x : Piece) (s : Shape) (p : Place) → Needs (IsOperand names e) (operand_of x) → ShapeOf names e s → Reads names e (seen_as s (x ∷ []) p)
one_part names e x s p given shape = record {
  sum = λ q. weaker (IsOperand names e) (IsSum names e) (operand_of x) given is_alone;
  only = given;
  some = tt;
  shape = shape;
}

-- a form whose parts end, or go on, with one that is none of a sum
no_sum : (names : List (List ℕ)) (e a : RawExpr) (s : Shape) (bs : List Piece) (p q : Place) → Reads names a (view names a) → ShapeOf names e s → Reads names e (seen_as s ((view names a).parts ++ pieces.Other q ∷ bs) p)
no_sum names e a s bs p q left shape = record {
  sum = λ r. other_sum (IsSum names e) r q (view names a).parts bs left.some;
  only = never_only (IsOperand names e) (view names a).parts bs (pieces.Other q) left.some;
  some = still_some (view names a).parts bs (pieces.Other q);
  shape = shape;
}

two_parts : (names : List (List ℕ)) (e a b : RawExpr) (p q : Place) (k : ℕ) → Reads names a (view names a) → Reads names b (view names b) → (IsOperand names a → IsOperand names b → IsSum names e) → Reads names e (seen_as plain ((view names a).parts ++ pieces.Sign q k ∷ (view names b).parts) p)
two_parts names e a b p q k left right h = record {
  sum = λ r. signed_sum (IsOperand names a) (IsOperand names b) (IsSum names e) r q k (view names a).parts (view names b).parts left.some right.some left.only right.only h;
  only = never_only (IsOperand names e) (view names a).parts (view names b).parts (pieces.Sign q k) left.some;
  some = still_some (view names a).parts (view names b).parts (pieces.Sign q k);
  shape = tt;
}

number_part : (names : List (List ℕ)) (e : RawExpr) (z : ℤ) (p : Place) → out-RawExprForm e.form ≡ RawExprForm-F.Number z → Needs (IsOperand names e) (operand_of (number_piece p z))
number_part names e (negsuc n) p is = tt
number_part names e (pos n) p is = by_test (nat_le n 999999999)
  where
    by_test : (t : Bool) → Needs (IsOperand names e) (operand_of (if t then pieces.Number p n else pieces.Other p))
    by_test true = is_number e n (is_itself e) is
    by_test false = tt

name_part : (names : List (List ℕ)) (e : RawExpr) (n : List ℕ) (p : Place) → out-RawExprForm e.form ≡ RawExprForm-F.Name n → Needs (IsOperand names e) (operand_of (name_piece names p n))
name_part names e n p is = by_test (is_known names n) refl
  where
    by_test : (t : Bool) → is_known names n ≡ t → Needs (IsOperand names e) (operand_of (if t then pieces.Known p (local_number names n) else pieces.Other p))
    by_test true known = is_local e n (is_itself e) is known
    by_test false known = tt

binary_parts : (names : List (List ℕ)) (e a b : RawExpr) (o : Arithmetic) (p : Place) → out-RawExprForm e.form ≡ RawExprForm-F.Binary o a b → Reads names a (view names a) → Reads names b (view names b) → Reads names e (seen_as plain ((view names a).parts ++ sign_piece p o ∷ (view names b).parts) p)
binary_parts names e a b signs.Plus p is left right = two_parts names e a b p p 1 left right (λ l r. is_two e a b signs.Plus (is_itself e) is refl l r)
binary_parts names e a b signs.Minus p is left right = two_parts names e a b p p 2 left right (λ l r. is_two e a b signs.Minus (is_itself e) is refl l r)
binary_parts names e a b o p is left right = no_sum names e a plain (view names b).parts p p left tt

-- brackets count for nothing
bracketed_operand : (names : List (List ℕ)) (e i : RawExpr) → out-RawExprForm e.form ≡ RawExprForm-F.Bracket i → IsOperand names i → IsOperand names e
bracketed_operand names e i is (is_number b n bare form) = is_number b n (is_within e i b is bare) form
bracketed_operand names e i is (is_local b n bare form known) = is_local b n (is_within e i b is bare) form known

bracketed_sum : (names : List (List ℕ)) (e i : RawExpr) → out-RawExprForm e.form ≡ RawExprForm-F.Bracket i → IsSum names i → IsSum names e
bracketed_sum names e i is (is_alone o) = is_alone (bracketed_operand names e i is o)
bracketed_sum names e i is (is_two b x y o bare form sign left right) = is_two b x y o (is_within e i b is bare) form sign left right

bracketed_shape : (names : List (List ℕ)) (e i : RawExpr) (s : Shape) → out-RawExprForm e.form ≡ RawExprForm-F.Bracket i → ShapeOf names i s → ShapeOf names e s
bracketed_shape names e i (name n) is h = record { b = h.b; bare = is_within e i h.b is h.bare; is = h.is }
bracketed_shape names e i (chain first links) is h = record { b = h.b; x = h.x; ls = h.ls; bare = is_within e i h.b is h.bare; is = h.is; first_is = h.first_is; links_are = h.links_are }
bracketed_shape names e i (call s args) is h = record { b = h.b; f = h.f; xs = h.xs; bare = is_within e i h.b is h.bare; is = h.is; called_is = h.called_is; args_are = h.args_are }
bracketed_shape names e i field is h = tt
bracketed_shape names e i plain is h = tt

bracketed : (names : List (List ℕ)) (e i : RawExpr) (v : View) → out-RawExprForm e.form ≡ RawExprForm-F.Bracket i → Reads names i v → Reads names e v
bracketed names e i v is r = record {
  sum = λ q. weaker (IsSum names i) (IsSum names e) (sum_of q v.parts) (r.sum q) (bracketed_sum names e i is);
  only = weaker (IsOperand names i) (IsOperand names e) (only_of v.parts) r.only (bracketed_operand names e i is);
  some = r.some;
  shape = bracketed_shape names e i v.shape is r.shape;
}

-- By induction over the knot of expressions.
abbrev ExprReads : List (List ℕ) → RawExpr → Type 0
ExprReads names e = Reads names e (view names e)

abbrev FormReads : List (List ℕ) → RawExprForm → Type 0
FormReads names form = (e : RawExpr) → e.form ≡ form → ExprReads names e

abbrev Exprs : List (List ℕ) → Type 0
Exprs names = (e : RawExpr) × ExprReads names e

abbrev Forms : List (List ℕ) → Type 0
Forms names = (form : RawExprForm) × FormReads names form

abbrev Links : Type 0
Links = (l : RawComparison) × Unit {0}

abbrev Arguments : Type 0
Arguments = (x : RawArgument) × Unit {0}

abbrev plain_form : (names : List (List ℕ)) → RawExprForm-F Arguments (Forms names) Links (Exprs names) → ExprLayer
plain_form names y = map-RawExprForm Arguments (Forms names) Links (Exprs names) RawArgument RawExprForm RawComparison RawExpr (λ e. e.0) (λ e. e.0) (λ e. e.0) (λ e. e.0) y

abbrev plain_expr : (names : List (List ℕ)) → RawExpr-F Arguments (Forms names) Links (Exprs names) → RawExpr-F RawArgument RawExprForm RawComparison RawExpr
plain_expr names y = map-RawExpr Arguments (Forms names) Links (Exprs names) RawArgument RawExprForm RawComparison RawExpr (λ e. e.0) (λ e. e.0) (λ e. e.0) (λ e. e.0) y

layer_reads : (names : List (List ℕ)) (e : RawExpr) (y : RawExprForm-F Arguments (Forms names) Links (Exprs names)) (p : Place) → out-RawExprForm e.form ≡ plain_form names y → Reads names e (layer_seen names (plain_form names y) p)
layer_reads names e (RawExprForm-F.Number z) p is = one_part names e (number_piece p z) plain p (number_part names e z p is) tt
layer_reads names e (RawExprForm-F.Name n) p is = one_part names e (name_piece names p n) (name n) p (name_part names e n p is) (record { b = e; bare = is_itself e; is = is })
layer_reads names e (RawExprForm-F.Bracket i) p is = bracketed names e i.0 (view names i.0) is i.1
layer_reads names e (RawExprForm-F.Binary o a b) p is = binary_parts names e a.0 b.0 o p is a.1 b.1
layer_reads names e (RawExprForm-F.Field a n) p is = no_sum names e a.0 field [] p p a.1 tt
layer_reads names e (RawExprForm-F.Call f xs) p is = no_sum names e f.0 (call (view names f.0).shape (map (argument_of names) (map (λ (x : Arguments). x.0) xs))) [] p p f.1 (record { b = e; f = f.0; xs = map (λ (x : Arguments). x.0) xs; bare = is_itself e; is = is; called_is = refl; args_are = refl })
layer_reads names e (RawExprForm-F.And a b) p is = no_sum names e a.0 plain (view names b.0).parts p p a.1 tt
layer_reads names e (RawExprForm-F.Or a b) p is = no_sum names e a.0 plain (view names b.0).parts p p a.1 tt
layer_reads names e (RawExprForm-F.Chain a ls) p is = no_sum names e a.0 (chain (view names a.0).parts (map (link_of names) (map (λ (l : Links). l.0) ls))) [] p p a.1 (record { b = e; x = a.0; ls = map (λ (l : Links). l.0) ls; bare = is_itself e; is = is; first_is = refl; links_are = refl })
layer_reads names e form p is = one_part names e (pieces.Other p) plain p tt tt

form_reads : (names : List (List ℕ)) (x : ExprLayer) (y : RawExprForm-F Arguments (Forms names) Links (Exprs names)) → plain_form names y ≡ x → FormReads names (roll-RawExprForm x)
form_reads names x y is e form =
    let out : out-RawExprForm e.form ≡ plain_form names y = ap out-RawExprForm form ∙ out-roll-RawExprForm x ∙ sym is in
    subst (λ (v : View). Reads names e v) (sym (seen names e (plain_form names y) out)) (layer_reads names e y e.place out)

expr_reads : (names : List (List ℕ)) (x : RawExpr-F RawArgument RawExprForm RawComparison RawExpr) (y : RawExpr-F Arguments (Forms names) Links (Exprs names)) → plain_expr names y ≡ x → ExprReads names (roll-RawExpr x)
expr_reads names x y is = (y.form).1 (roll-RawExpr x) (ap (λ (z : RawExpr-F RawArgument RawExprForm RawComparison RawExpr). z.form) (out-roll-RawExpr x ∙ sym is))

nothing_of_link : (names : List (List ℕ)) (x : RawComparison-F RawArgument RawExprForm RawComparison RawExpr) (y : RawComparison-F Arguments (Forms names) Links (Exprs names)) → map-RawComparison Arguments (Forms names) Links (Exprs names) RawArgument RawExprForm RawComparison RawExpr (λ e. e.0) (λ e. e.0) (λ e. e.0) (λ e. e.0) y ≡ x → Unit {0}
nothing_of_link names x y is = tt

nothing_of_argument : (names : List (List ℕ)) (x : RawArgument-F RawArgument RawExprForm RawComparison RawExpr) (y : RawArgument-F Arguments (Forms names) Links (Exprs names)) → map-RawArgument Arguments (Forms names) Links (Exprs names) RawArgument RawExprForm RawComparison RawExpr (λ e. e.0) (λ e. e.0) (λ e. e.0) (λ e. e.0) y ≡ x → Unit {0}
nothing_of_argument names x y is = tt

pub reads : (names : List (List ℕ)) (e : RawExpr) → Reads names e (view names e)
reads names = ind-RawExpr (λ (x : RawArgument). Unit {0}) (FormReads names) (λ (l : RawComparison). Unit {0}) (ExprReads names) (nothing_of_argument names) (form_reads names) (nothing_of_link names) (expr_reads names)
