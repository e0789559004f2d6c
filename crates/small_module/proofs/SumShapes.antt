-- What a sum of fine pieces is: a small expression, whose numbers are short.
use Rattle.std.proofs.Common.{◌≡◌, ◌⊎◌, ℕ, ℤ, pos, negsuc, ◌^◌, ◌≤◌, ◌<◌, suc, ◌+◌, List, [], ◌∷◌, ◌++◌, length, Result, Ok, Err, refl, sym, subst, inl, inr, arith}
use Rattle.std.specs.Prelude.{Bool, true, false, not, ◌||◌, nat_le, bytes_eq, if◌then◌else◌}
use Rattle.std.specs.List.{list_any, position_or_len}
use Rattle.std.proofs.lemmas.Int.{ints}
use Rattle.std.proofs.lemmas.Bool.{leb-true}
use Rattle.py_base.specs.declared.Place.{Place}
use Rattle.py_syntax.specs.declared.Expr.{Expr}
use Rattle.py_syntax.specs.declared.ExprForm.{ExprForm, ExprForm-F, out-ExprForm, the_lemmas}
use Rattle.py_syntax.specs.declared.ExprForm.TheVariants.{Num, Local, Bin}
use Rattle.py_syntax.specs.declared.Instance.{Instance}
use Rattle.py_syntax.specs.SmallForms.{IsOperandForm, IsOperand, IsSumForm, IsSum}
use Rattle.small_module.specs.SmallBody as bounds
use Rattle.small_module.specs.SmallTree.{is_known, local_number, number_piece, name_piece, sum_at, ◌>>=◌, piece_place, operand_of, right_of, sum_of}
use Rattle.small_module.specs.declared.piece.Piece.{Piece}
use Rattle.small_module.specs.declared.piece.Piece.TheVariants as pieces

pub out-Num : (z : ℤ) → out-ExprForm (Num z) ≡ ExprForm-F.Num z
out-Num z = search the_lemmas

pub out-Local : (i : ℕ) → out-ExprForm (Local i) ≡ ExprForm-F.Local i
out-Local i = search the_lemmas

pub out-Bin : (key : ℕ) (a b : Expr) → out-ExprForm (Bin key a b) ≡ ExprForm-F.Bin key a b
out-Bin key a b = search the_lemmas

-- the first that passes is inside, or none passes
pub found : {X : Type 0} (p : X → Bool) (xs : List X) → ((list_any p xs ≡ true) × (position_or_len p xs < length xs)) ⊎ ((list_any p xs ≡ false) × (position_or_len p xs ≡ length xs))
found p [] = inr (refl, refl)
found p (x ∷ xs) = by_test (p x) (found p xs)
  where
    by_test : (b : Bool) → ((list_any p xs ≡ true) × (position_or_len p xs < length xs)) ⊎ ((list_any p xs ≡ false) × (position_or_len p xs ≡ length xs)) → (((b || list_any p xs) ≡ true) × ((if not b then 1 + position_or_len p xs else 0) < suc (length xs))) ⊎ (((b || list_any p xs) ≡ false) × ((if not b then 1 + position_or_len p xs else 0) ≡ suc (length xs)))
    by_test true rest = inl (refl, omega arith)
    by_test false (inl (some, below)) = inl (some, omega arith)
    by_test false (inr (none, past)) = inr (none, omega arith)

known_below : (names : List (List ℕ)) (name : List ℕ) → is_known names name ≡ true → local_number names name < length names
known_below names name known = by_found (found (bytes_eq name) names) known
  where
    by_found : ((list_any (bytes_eq name) names ≡ true) × (position_or_len (bytes_eq name) names < length names)) ⊎ ((list_any (bytes_eq name) names ≡ false) × (position_or_len (bytes_eq name) names ≡ length names)) → list_any (bytes_eq name) names ≡ true → position_or_len (bytes_eq name) names < length names
    by_found (inl (some, below)) is = below
    by_found (inr (none, past)) is = cc

-- a piece where k locals are assigned: a number is short, and a local is one of these
abbrev pub FinePiece : ℕ → Piece → Type 0
FinePiece k (pieces.Number p n) = n ≤ 999999999
FinePiece k (pieces.Known p i) = i < k
FinePiece k (pieces.Sign p key) = (key ≡ 1) ⊎ (key ≡ 2)
FinePiece k (pieces.Other p) = Unit {0}

abbrev pub Fine : ℕ → List Piece → Type 0
Fine k [] = Unit {0}
Fine k (x ∷ xs) = FinePiece k x × Fine k xs

pub fine_append : (k : ℕ) (a b : List Piece) → Fine k a → Fine k b → Fine k (a ++ b)
fine_append k [] b fa fb = fb
fine_append k (x ∷ a) b (fx, fa) fb = (fx, fine_append k a b fa fb)

pub number_fine : (k : ℕ) (p : Place) (z : ℤ) → FinePiece k (number_piece p z)
number_fine k p (negsuc n) = tt
number_fine k p (pos n) = by_test (nat_le n 999999999) refl
  where
    by_test : (b : Bool) → nat_le n 999999999 ≡ b → FinePiece k (if b then pieces.Number p n else pieces.Other p)
    by_test true e = leb-true n 999999999 e
    by_test false e = tt

pub name_fine : (names : List (List ℕ)) (p : Place) (name : List ℕ) → FinePiece (length names) (name_piece names p name)
name_fine names p name = by_test (is_known names name) refl
  where
    by_test : (b : Bool) → is_known names name ≡ b → FinePiece (length names) (if b then pieces.Known p (local_number names name) else pieces.Other p)
    by_test true e = known_below names name e
    by_test false e = tt

-- what a result gives, if anything
abbrev pub Gives : {A : Type 0} → (A → Type 0) → Result A Place → Type 0
Gives P (Ok x) = P x
Gives P (Err p) = Unit {0}

pub bind : {A B : Type 0} (P : A → Type 0) (Q : B → Type 0) (r : Result A Place) (f : A → Result B Place) → Gives P r → ((x : A) → P x → Gives Q (f x)) → Gives Q (r >>= f)
bind P Q (Ok x) f p h = h x p
bind P Q (Err q) f p h = tt

weaker : {A : Type 0} (P Q : A → Type 0) (r : Result A Place) → Gives P r → ((x : A) → P x → Q x) → Gives Q r
weaker P Q (Ok x) p h = h x p
weaker P Q (Err q) p h = tt

-- an operand where k locals are assigned, and a sum
pub record Operand (k : ℕ) (e : Expr) : Type 0 where
  pub shape : IsOperand k e
  pub short : bounds.IsOperand e

pub record Summed (k : ℕ) (e : Expr) : Type 0 where
  pub shape : IsSum k e
  pub short : bounds.IsSmall e

short_number : (n : ℕ) → n ≤ 999999999 → bounds.IsWithin (10 ^ 9) (pos n)
short_number n few =
    let b : 10 ^ 9 ≡ 1000000000 = refl in
    record { low = omega (arith, ints); high = omega (arith, ints) }

operand_good : (k : ℕ) (x : Piece) → FinePiece k x → Gives (Operand k) (operand_of x)
operand_good k (pieces.Number p n) fine = record {
  shape = subst (λ (z : ExprForm-F ExprForm Expr Instance). IsOperandForm k z) (sym (out-Num (pos n))) tt;
  short = subst (λ (z : ExprForm-F ExprForm Expr Instance). bounds.IsOperandForm z) (sym (out-Num (pos n))) (short_number n fine);
}
operand_good k (pieces.Known p i) fine = record {
  shape = subst (λ (z : ExprForm-F ExprForm Expr Instance). IsOperandForm k z) (sym (out-Local i)) fine;
  short = subst (λ (z : ExprForm-F ExprForm Expr Instance). bounds.IsOperandForm z) (sym (out-Local i)) tt;
}
operand_good k (pieces.Sign p key) fine = tt
operand_good k (pieces.Other p) fine = tt

form_sum : (k : ℕ) (form : ExprForm-F ExprForm Expr Instance) → IsOperandForm k form → IsSumForm k form
form_sum k (ExprForm-F.Bin key a b) h = absurd h
form_sum k form h = h

form_small : (form : ExprForm-F ExprForm Expr Instance) → bounds.IsOperandForm form → bounds.IsSmallForm form
form_small (ExprForm-F.Bin key a b) h = absurd h
form_small form h = h

alone : (k : ℕ) (e : Expr) → Operand k e → Summed k e
alone k e good = record { shape = form_sum k (out-ExprForm e.form) good.shape; short = form_small (out-ExprForm e.form) good.short }

joined : (k : ℕ) (p : Place) (key : ℕ) (a b : Expr) → (key ≡ 1) ⊎ (key ≡ 2) → Operand k a → Operand k b → Summed k (sum_at p key a b)
joined k p key a b sign left right = record {
  shape = subst (λ (z : ExprForm-F ExprForm Expr Instance). IsSumForm k z) (sym (out-Bin key a b)) (sign, left.shape, right.shape);
  short = subst (λ (z : ExprForm-F ExprForm Expr Instance). bounds.IsSmallForm z) (sym (out-Bin key a b)) (left.short, right.short);
}

right_good : (k : ℕ) (p : Place) (key : ℕ) (a : Expr) (xs : List Piece) → (key ≡ 1) ⊎ (key ≡ 2) → Operand k a → Fine k xs → Gives (Summed k) (right_of p key a xs)
right_good k p key a [] sign left fine = tt
right_good k p key a (y ∷ []) sign left (fy, fine) = bind (Operand k) (Summed k) (operand_of y) (λ b. Ok (sum_at p key a b)) (operand_good k y fy) (λ b right. joined k p key a b sign left right)
right_good k p key a (y ∷ z ∷ rest) sign left (fy, fine) = bind (Operand k) (Summed k) (operand_of y) (λ b. Err (piece_place z)) (operand_good k y fy) (λ b right. tt)

pub sum_good : (k : ℕ) (q : Place) (xs : List Piece) → Fine k xs → Gives (Summed k) (sum_of q xs)
sum_good k q [] fine = tt
sum_good k q (x ∷ []) (fx, fine) = weaker (Operand k) (Summed k) (operand_of x) (operand_good k x fx) (alone k)
sum_good k q (x ∷ pieces.Sign p key ∷ rest) (fx, more) = bind (Operand k) (Summed k) (operand_of x) (λ a. right_of p key a rest) (operand_good k x fx) (λ a left. right_good k p key a rest more.0 left more.1)
sum_good k q (x ∷ pieces.Number p n ∷ rest) (fx, more) = bind (Operand k) (Summed k) (operand_of x) (λ a. Err p) (operand_good k x fx) (λ a left. tt)
sum_good k q (x ∷ pieces.Known p i ∷ rest) (fx, more) = bind (Operand k) (Summed k) (operand_of x) (λ a. Err p) (operand_good k x fx) (λ a left. tt)
sum_good k q (x ∷ pieces.Other p ∷ rest) (fx, more) = bind (Operand k) (Summed k) (operand_of x) (λ a. Err p) (operand_good k x fx) (λ a left. tt)
