-- Small expressions: operands with one sign between two of them. A number has at most nine digits, a name is that of a local
-- that is assigned before, and brackets count for nothing. Every other form isn't built yet. Places are the project's own: an
-- operator's is its mark, a field's or method's is the name behind the dot, a call's is the name called.
use Rattle.std.specs.Prelude.{ℕ, ℤ, pos, negsuc, Bool, ◌||◌, nat_le, List, [], ◌∷◌, ◌++◌, Result, Ok, Err, if◌then◌else◌, codes, bytes_eq}
use Rattle.std.specs.List.{list_any, position_or_len}
use Rattle.py_base.specs.declared.Place.{Place}
use Rattle.raw_syntax.specs.declared.RawExpr.{RawExpr, fold-RawExpr}
use Rattle.raw_syntax.specs.declared.RawExprForm.{RawExprForm-F}
use Rattle.raw_syntax.specs.declared.RawComparison.{RawComparison, RawComparison-F, fold-RawComparison}
use Rattle.raw_syntax.specs.declared.RawArgument.{RawArgument, RawArgument-F, fold-RawArgument}
use Rattle.raw_syntax.specs.declared.Arithmetic.{Arithmetic}
use Rattle.raw_syntax.specs.declared.Arithmetic.TheVariants as signs
use Rattle.raw_syntax.specs.declared.Comparison.{Comparison}
use Rattle.py_syntax.specs.declared.Ty.TheVariants.{Int, Bool as Truths}
use Rattle.py_syntax.specs.declared.Expr.{Expr, roll-Expr}
use Rattle.py_syntax.specs.declared.ExprForm.TheVariants.{Num, Local, Bin}
use Rattle.class_table.specs.Names.{is_built_in}
use Rattle.small_module.specs.declared.piece.Piece.{Piece}
use Rattle.small_module.specs.declared.piece.Piece.TheVariants as pieces

-- whether a name is assigned so far; `names` are those that are assigned, in the order of their first assignments
abbrev pub is_known : List (List ℕ) → List ℕ → Bool
is_known names name = list_any (bytes_eq name) names

-- the number of a local: its place among the names, or behind the last where it is new
abbrev pub local_number : List (List ℕ) → List ℕ → ℕ
local_number names name = position_or_len (bytes_eq name) names

-- the names once this one is assigned
abbrev pub with_name : List (List ℕ) → List ℕ → List (List ℕ)
with_name names name = if is_known names name then names else names ++ name ∷ []

-- names that are built in, and two that aren't built yet as names of locals
abbrev pub is_reserved : List ℕ → Bool
is_reserved name = is_built_in name || (bytes_eq name (codes "main") || bytes_eq name (codes "self"))

abbrev pub number_piece : Place → ℤ → Piece
number_piece p (pos n) = if nat_le n 999999999 then pieces.Number p n else pieces.Other p
number_piece p (negsuc n) = pieces.Other p

abbrev pub name_piece : List (List ℕ) → Place → List ℕ → Piece
name_piece names p name = if is_known names name then pieces.Known p (local_number names name) else pieces.Other p

-- `+` has key 1 and `-` key 2
abbrev pub sign_piece : Place → Arithmetic → Piece
sign_piece p signs.Plus = pieces.Sign p 1
sign_piece p signs.Minus = pieces.Sign p 2
sign_piece p o = pieces.Other p

-- What an expression is, its brackets left out: a name, a chain of comparisons of sums, a call of what has a shape with
-- arguments, or a field; else only its parts count.
pub record Link : Type 0 where
  pub place : Place
  pub operator : Comparison
  pub parts : List Piece

pub data Argument : Type 0 where
  value : Place → List Piece → Argument
  named : Place → Argument

pub data Shape : Type 0 where
  name : List ℕ → Shape
  chain : List Piece → List Link → Shape
  call : Shape → List Argument → Shape
  field : Shape
  plain : Shape

-- an expression with its place, its parts from left to right, and its shape
pub record View : Type 0 where
  pub place : Place
  pub parts : List Piece
  pub shape : Shape

abbrev pub seen_as : Shape → List Piece → Place → View
seen_as s ps p = record { place = p; parts = ps; shape = s }

abbrev pub form_view : List (List ℕ) → RawExprForm-F Argument (Place → View) Link View → Place → View
form_view names (RawExprForm-F.Number n) p = seen_as plain (number_piece p n ∷ []) p
form_view names (RawExprForm-F.Name n) p = seen_as (name n) (name_piece names p n ∷ []) p
form_view names (RawExprForm-F.Bracket e) p = e
form_view names (RawExprForm-F.Binary o a b) p = seen_as plain (a.parts ++ sign_piece p o ∷ b.parts) p
form_view names (RawExprForm-F.Field e n) p = seen_as field (e.parts ++ pieces.Other p ∷ []) p
form_view names (RawExprForm-F.Call e xs) p = seen_as (call e.shape xs) (e.parts ++ pieces.Other p ∷ []) p
form_view names (RawExprForm-F.And a b) p = seen_as plain (a.parts ++ pieces.Other p ∷ b.parts) p
form_view names (RawExprForm-F.Or a b) p = seen_as plain (a.parts ++ pieces.Other p ∷ b.parts) p
form_view names (RawExprForm-F.Chain e ls) p = seen_as (chain e.parts ls) (e.parts ++ pieces.Other p ∷ []) p
form_view names form p = seen_as plain (pieces.Other p ∷ []) p

abbrev pub argument_view : RawArgument-F Argument (Place → View) Link View → Argument
argument_view (RawArgument-F.Value e) = value e.place e.parts
argument_view (RawArgument-F.Named e f) = named e.place

abbrev pub link_view : RawComparison-F Argument (Place → View) Link View → Link
link_view l = record { place = l.place; operator = l.operator; parts = l.operand.parts }

-- an expression as it is seen where these names are assigned
abbrev pub view : List (List ℕ) → RawExpr → View
view names = fold-RawExpr Argument (Place → View) Link View argument_view (form_view names) link_view (λ e. e.form e.place)

-- what a chain has behind its first operand
abbrev pub link_of : List (List ℕ) → RawComparison → Link
link_of names = fold-RawComparison Argument (Place → View) Link View argument_view (form_view names) link_view (λ e. e.form e.place)

abbrev pub argument_of : List (List ℕ) → RawArgument → Argument
argument_of names = fold-RawArgument Argument (Place → View) Link View argument_view (form_view names) link_view (λ e. e.form e.place)

abbrev pub number_at : Place → ℕ → Expr
number_at p n = roll-Expr (record { place = p; ty = Int; form = Num (pos n) })

abbrev pub local_at : Place → ℕ → Expr
local_at p i = roll-Expr (record { place = p; ty = Int; form = Local i })

-- an operator of this key between two numbers
abbrev pub sum_at : Place → ℕ → Expr → Expr → Expr
sum_at p key a b = roll-Expr (record { place = p; ty = Int; form = Bin key a b })

-- `==` on numbers has key 11
abbrev pub equation_at : Place → Expr → Expr → Expr
equation_at p a b = roll-Expr (record { place = p; ty = Truths; form = Bin 11 a b })

infixl 10 ◌>>=◌
-- what comes of a result, or the place at which there was none
abbrev pub ◌>>=◌ : {A B : Type 0} → Result A Place → (A → Result B Place) → Result B Place
(Ok x) >>= f = f x
(Err p) >>= f = Err p

abbrev pub piece_place : Piece → Place
piece_place (pieces.Number p n) = p
piece_place (pieces.Known p i) = p
piece_place (pieces.Sign p key) = p
piece_place (pieces.Other p) = p

abbrev pub operand_of : Piece → Result Expr Place
operand_of (pieces.Number p n) = Ok (number_at p n)
operand_of (pieces.Known p i) = Ok (local_at p i)
operand_of k = Err (piece_place k)

-- behind an operand and a sign: one operand, and no more
abbrev pub right_of : Place → ℕ → Expr → List Piece → Result Expr Place
right_of p key a [] = Err p
right_of p key a (y ∷ []) = operand_of y >>= λ b. Ok (sum_at p key a b)
right_of p key a (y ∷ z ∷ rest) = operand_of y >>= λ b. Err (piece_place z)

-- A small expression, or the place of its first part that isn't one's. Without parts it is the place that is given.
abbrev pub sum_of : Place → List Piece → Result Expr Place
sum_of q [] = Err q
sum_of q (x ∷ []) = operand_of x
sum_of q (x ∷ pieces.Sign p key ∷ rest) = operand_of x >>= λ a. right_of p key a rest
sum_of q (x ∷ z ∷ rest) = operand_of x >>= λ a. Err (piece_place z)
