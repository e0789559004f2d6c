-- What the parts of a small expression were: an operand alone, or a sign between two.
use Rattle.std.proofs.Common.{ℕ, List, [], ◌∷◌, ◌++◌, Result, Ok, Err}
use Rattle.py_base.specs.declared.Place.{Place}
use Rattle.py_syntax.specs.declared.Expr.{Expr}
use Rattle.small_module.specs.SmallTree.{◌>>=◌, operand_of, right_of, sum_of, sum_at, piece_place}
use Rattle.small_module.specs.declared.piece.Piece.{Piece}
use Rattle.small_module.specs.declared.piece.Piece.TheVariants as pieces
use Rattle.small_module.proofs.SumShapes.{Gives, bind}

-- it gives nothing without P
abbrev pub Needs : {A : Type 0} → Type 0 → Result A Place → Type 0
Needs P r = Gives (λ x. P) r

pub weaker : {A : Type 0} (P Q : Type 0) (r : Result A Place) → Needs P r → (P → Q) → Needs Q r
weaker P Q (Ok x) p h = h p
weaker P Q (Err q) p h = tt

-- the parts are one operand
abbrev pub only_of : List Piece → Result Expr Place
only_of (x ∷ []) = operand_of x
only_of xs = Err (record { line = 0; col = 0 })

abbrev pub IsSome : List Piece → Type 0
IsSome [] = ⊥
IsSome (x ∷ xs) = Unit {0}

-- an expression, and then no more
abbrev failing : Place → Expr → Result Expr Place
failing p x = Err p

never : (R : Type 0) (r : Result Expr Place) (p : Place) → Needs R (r >>= failing p)
never R (Ok x) p = tt
never R (Err q) p = tt

behind : (R : Type 0) (r : Result Expr Place) (f : Expr → Result Expr Place) → ((x : Expr) → Needs R (f x)) → Needs R (r >>= f)
behind R (Ok x) f h = h x
behind R (Err q) f h = tt

-- behind an operand and a sign, a part that is none of an operand
other_right : (R : Type 0) (p q : Place) (key : ℕ) (a : Expr) (us bs : List Piece) → Needs R (right_of p key a (us ++ pieces.Other q ∷ bs))
other_right R p q key a [] [] = tt
other_right R p q key a [] (b ∷ bs) = tt
other_right R p q key a (u ∷ []) bs = never R (operand_of u) q
other_right R p q key a (u ∷ w ∷ ws) bs = never R (operand_of u) (piece_place w)

pub other_sum : (R : Type 0) (q r : Place) (ls bs : List Piece) → IsSome ls → Needs R (sum_of q (ls ++ pieces.Other r ∷ bs))
other_sum R q r [] bs some = absurd some
other_sum R q r (x ∷ []) bs some = never R (operand_of x) r
other_sum R q r (x ∷ pieces.Sign p key ∷ us) bs some = behind R (operand_of x) (λ a. right_of p key a (us ++ pieces.Other r ∷ bs)) (λ a. other_right R p r key a us bs)
other_sum R q r (x ∷ pieces.Number p n ∷ us) bs some = never R (operand_of x) p
other_sum R q r (x ∷ pieces.Known p i ∷ us) bs some = never R (operand_of x) p
other_sum R q r (x ∷ pieces.Other p ∷ us) bs some = never R (operand_of x) p

-- behind an operand and a sign, a further sign
signed_right : (R : Type 0) (p q : Place) (key k : ℕ) (a : Expr) (us bs : List Piece) → IsSome bs → Needs R (right_of p key a (us ++ pieces.Sign q k ∷ bs))
signed_right R p q key k a [] [] some = absurd some
signed_right R p q key k a [] (b ∷ bs) some = tt
signed_right R p q key k a (u ∷ []) bs some = never R (operand_of u) q
signed_right R p q key k a (u ∷ w ∷ ws) bs some = never R (operand_of u) (piece_place w)

-- behind an operand and a sign, an operand alone
last_right : (Q R : Type 0) (p : Place) (key : ℕ) (a : Expr) (bs : List Piece) → Needs Q (only_of bs) → (Q → R) → Needs R (right_of p key a bs)
last_right Q R p key a [] right h = tt
last_right Q R p key a (y ∷ []) right h = bind (λ (x : Expr). Q) (λ (x : Expr). R) (operand_of y) (λ b. Ok (sum_at p key a b)) right (λ b k. h k)
last_right Q R p key a (y ∷ z ∷ rest) right h = never R (operand_of y) (piece_place z)

pub signed_sum : (P Q R : Type 0) (q r : Place) (k : ℕ) (ls bs : List Piece) → IsSome ls → IsSome bs → Needs P (only_of ls) → Needs Q (only_of bs) → (P → Q → R) → Needs R (sum_of q (ls ++ pieces.Sign r k ∷ bs))
signed_sum P Q R q r k [] bs some more left right h = absurd some
signed_sum P Q R q r k (x ∷ []) bs some more left right h = bind (λ (x : Expr). P) (λ (x : Expr). R) (operand_of x) (λ a. right_of r k a bs) left (λ a here. last_right Q R r k a bs right (h here))
signed_sum P Q R q r k (x ∷ pieces.Sign p key ∷ us) bs some more left right h = behind R (operand_of x) (λ a. right_of p key a (us ++ pieces.Sign r k ∷ bs)) (λ a. signed_right R p r key k a us bs more)
signed_sum P Q R q r k (x ∷ pieces.Number p n ∷ us) bs some more left right h = never R (operand_of x) p
signed_sum P Q R q r k (x ∷ pieces.Known p i ∷ us) bs some more left right h = never R (operand_of x) p
signed_sum P Q R q r k (x ∷ pieces.Other p ∷ us) bs some more left right h = never R (operand_of x) p

-- several parts are no operand alone
pub never_only : (R : Type 0) (ls bs : List Piece) (s : Piece) → IsSome ls → Needs R (only_of (ls ++ s ∷ bs))
never_only R [] bs s some = absurd some
never_only R (x ∷ []) bs s some = tt
never_only R (x ∷ y ∷ xs) bs s some = tt

pub still_some : (ls bs : List Piece) (s : Piece) → IsSome (ls ++ s ∷ bs)
still_some [] bs s = tt
still_some (x ∷ xs) bs s = tt
