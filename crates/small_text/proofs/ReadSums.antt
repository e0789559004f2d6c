-- What the expressions of a small text say is what their trees say.
use Rattle.std.proofs.Common.{◌≡◌, refl, sym, ap, subst, ◌∙◌, ℕ, ◌+◌, pos, if◌then◌else◌, List, [], ◌∷◌, ◌++◌, length, length-append, append_assoc, append-nil, Ok, IsTrue, codes, arith}
use Rattle.py_base.specs.declared.Place.{Place}
use Rattle.py_syntax.specs.declared.Expr.{Expr}
use Rattle.raw_syntax.specs.declared.Arithmetic.{Arithmetic}
use Rattle.raw_syntax.specs.declared.Arithmetic.TheVariants as signs
use Rattle.small_module.specs.SmallTree.{is_known, local_number, number_at, sum_at, view, View, sign_piece, ◌>>=◌, operand_of, right_of, sum_of}
use Rattle.small_module.specs.declared.piece.Piece.{Piece}
use Rattle.small_module.specs.declared.piece.Piece.TheVariants as pieces
use Rattle.small_text.specs.SmallForms.{is_number, number_value, place_at, SpellsOperand, spells_number, spells_local, SpellsSum, SpellsExpr, spells_operand, spells_plus, spells_minus}
use Rattle.small_text.proofs.LineBits.{Operand, digits, word, Sum, alone, plus, minus, digits_value, operand_text, sum_bits, bits_text, at}
use Rattle.small_text.proofs.SmallRows.{IsOperand, IsSum}
use Rattle.small_text.proofs.SmallTrees.{operand_expr, right_col, sum_end, two_expr, sum_expr}
use Rattle.small_text.proofs.SmallViews.{number_seen, name_seen, two_seen}
use Rattle.small_text.proofs.SmallNumbers.{short_number}

-- the operand that bytes spell
pub record ReadOperand (names : List (List ℕ)) (p : Place) (bytes : List ℕ) (e : Expr) : Type 0 where
  pub x : Operand
  pub text : bytes ≡ operand_text x
  pub fine : IsOperand x
  pub piece : Piece
  pub parts : (view names (operand_expr p x)).parts ≡ piece ∷ []
  pub reads : operand_of piece ≡ Ok e

value_same : (ds : List ℕ) → number_value ds ≡ digits_value ds
unfolding number_value
value_same ds = refl

number_parts : (names : List (List ℕ)) (p : Place) (ds : List ℕ) → IsTrue (is_number ds) → (view names (operand_expr p (digits ds))).parts ≡ pieces.Number p (digits_value ds) ∷ []
number_parts names p ds h =
    ap (λ (v : View). v.parts) (number_seen names p (pos (digits_value ds)))
    ∙ ap (λ b. (if b then pieces.Number p (digits_value ds) else pieces.Other p) ∷ []) (short_number ds h)

name_parts : (names : List (List ℕ)) (p : Place) (w : List ℕ) → IsTrue (is_known names w) → (view names (operand_expr p (word w))).parts ≡ pieces.Known p (local_number names w) ∷ []
name_parts names p w h =
    ap (λ (v : View). v.parts) (name_seen names p w)
    ∙ ap (λ b. (if b then pieces.Known p (local_number names w) else pieces.Other p) ∷ []) h

read_operand : (names : List (List ℕ)) (p : Place) (bytes : List ℕ) (e : Expr) → SpellsOperand names p bytes e → ReadOperand names p bytes e
read_operand names p bytes e (spells_number number is) = record {
  x = digits bytes;
  text = refl;
  fine = number;
  piece = pieces.Number p (digits_value bytes);
  parts = number_parts names p bytes number;
  reads = ap (λ n. Ok (number_at p n)) (sym (value_same bytes)) ∙ ap (λ t. Ok t) (sym is);
}
read_operand names p bytes e (spells_local fine known is) = record {
  x = word bytes;
  text = refl;
  fine = fine;
  piece = pieces.Known p (local_number names bytes);
  parts = name_parts names p bytes known;
  reads = ap (λ t. Ok t) (sym is);
}

-- the expression that bytes spell
pub record ReadSum (names : List (List ℕ)) (line col : ℕ) (bytes : List ℕ) (e : Expr) : Type 0 where
  pub x : Sum
  pub text : bytes ≡ bits_text (sum_bits x)
  pub fine : IsSum x
  pub reads : (q : Place) → sum_of q (view names (sum_expr line col x)).parts ≡ Ok e

-- where the text of a sum ends
pub sum_ends : (col : ℕ) (x : Sum) → sum_end col x ≡ col + length (bits_text (sum_bits x))
sum_ends col (alone x) = ap (λ t. col + length t) (sym (append-nil (operand_text x)))
sum_ends col (plus x y) = omega (arith, length-append (operand_text x) (codes " + " ++ (operand_text y ++ [])), length-append (operand_text y) [])
sum_ends col (minus x y) = omega (arith, length-append (operand_text x) (codes " - " ++ (operand_text y ++ [])), length-append (operand_text y) [])

two_text : (x y sign : List ℕ) → x ++ sign ++ y ≡ x ++ (sign ++ (y ++ []))
two_text x y sign = append_assoc x sign y ∙ ap (λ t. x ++ (sign ++ t)) (sym (append-nil y))

two_read : (names : List (List ℕ)) (q p : Place) (key : ℕ) (k j : Piece) (a b : Expr) → operand_of k ≡ Ok a → operand_of j ≡ Ok b → sum_of q (k ∷ pieces.Sign p key ∷ j ∷ []) ≡ Ok (sum_at p key a b)
two_read names q p key k j a b left right = ap (λ r. r >>= λ a. right_of p key a (j ∷ [])) left ∙ ap (λ r. r >>= λ b. Ok (sum_at p key a b)) right

two_parts : (names : List (List ℕ)) (line col : ℕ) (sign : Arithmetic) (x y : Operand) (k j : Piece) → (view names (operand_expr (at line col) x)).parts ≡ k ∷ [] → (view names (operand_expr (at line (right_col col x)) y)).parts ≡ j ∷ [] → (view names (two_expr sign line col x y)).parts ≡ k ∷ sign_piece (at line (col + length (operand_text x) + 1)) sign ∷ j ∷ []
two_parts names line col sign x y k j left right =
    let p : Place = at line (col + length (operand_text x) + 1) in
    ap (λ (v : View). v.parts) (two_seen names p sign (operand_expr (at line col) x) (operand_expr (at line (right_col col x)) y))
    ∙ ap (λ ks. ks ++ sign_piece p sign ∷ (view names (operand_expr (at line (right_col col x)) y)).parts) left
    ∙ ap (λ ks. k ∷ sign_piece p sign ∷ ks) right

-- the operands of two with a sign between
record ReadTwo (names : List (List ℕ)) (line col : ℕ) (a b : Expr) (x y : List ℕ) : Type 0 where
  left : ReadOperand names (at line col) x a
  right : ReadOperand names (at line (right_col col left.x)) y b

read_two : (names : List (List ℕ)) (line col : ℕ) (sign : List ℕ) (key : ℕ) (bytes : List ℕ) (e : Expr) (s : SpellsSum names line col sign key bytes e) → ReadTwo names line col s.a s.b s.x s.y
read_two names line col sign key bytes e s =
    let left = read_operand names (at line col) s.x s.a s.left in
    let here : col + length s.x + 3 ≡ right_col col left.x = omega (arith, ap length left.text) in
    record { left = left; right = subst (λ c. ReadOperand names (at line c) s.y s.b) here (read_operand names (at line (col + length s.x + 3)) s.y s.b s.right) }

two_reads : (names : List (List ℕ)) (line col : ℕ) (sign : Arithmetic) (key : ℕ) (a b e : Expr) (x y : List ℕ) (r : ReadTwo names line col a b x y) → ((p : Place) → sign_piece p sign ≡ pieces.Sign p key) → e ≡ sum_at (place_at line (col + length x + 1)) key a b → (q : Place) → sum_of q (view names (two_expr sign line col r.left.x r.right.x)).parts ≡ Ok e
two_reads names line col sign key a b e x y r same is q =
    let p : Place = at line (col + length (operand_text r.left.x) + 1) in
    ap (sum_of q) (two_parts names line col sign r.left.x r.right.x r.left.piece r.right.piece r.left.parts r.right.parts)
    ∙ ap (λ s. sum_of q (r.left.piece ∷ s ∷ r.right.piece ∷ [])) (same p)
    ∙ two_read names q p key r.left.piece r.right.piece a b r.left.reads r.right.reads
    ∙ ap (λ t. Ok (sum_at (at line (col + length t + 1)) key a b)) (sym r.left.text)
    ∙ ap (λ t. Ok t) (sym is)

two_whole : (x y sign u v bytes : List ℕ) → bytes ≡ x ++ sign ++ y → x ≡ u → y ≡ v → bytes ≡ u ++ (sign ++ (v ++ []))
two_whole x y sign u v bytes whole left right = whole ∙ ap (λ t. t ++ sign ++ y) left ∙ ap (λ t. u ++ sign ++ t) right ∙ two_text u v sign

pub read_sum : (names : List (List ℕ)) (line col : ℕ) (bytes : List ℕ) (e : Expr) → SpellsExpr names line col bytes e → ReadSum names line col bytes e
read_sum names line col bytes e (spells_operand s) =
    let r = read_operand names (at line col) bytes e s in
    record {
      x = alone r.x;
      text = r.text ∙ sym (append-nil (operand_text r.x));
      fine = r.fine;
      reads = λ q. ap (sum_of q) r.parts ∙ r.reads;
    }
read_sum names line col bytes e (spells_plus s) =
    let r = read_two names line col (codes " + ") 1 bytes e s in
    record {
      x = plus r.left.x r.right.x;
      text = two_whole s.x s.y (codes " + ") (operand_text r.left.x) (operand_text r.right.x) bytes s.whole r.left.text r.right.text;
      fine = (r.left.fine, r.right.fine);
      reads = two_reads names line col signs.Plus 1 s.a s.b e s.x s.y r (λ p. refl) s.is;
    }
read_sum names line col bytes e (spells_minus s) =
    let r = read_two names line col (codes " - ") 2 bytes e s in
    record {
      x = minus r.left.x r.right.x;
      text = two_whole s.x s.y (codes " - ") (operand_text r.left.x) (operand_text r.right.x) bytes s.whole r.left.text r.right.text;
      fine = (r.left.fine, r.right.fine);
      reads = two_reads names line col signs.Minus 2 s.a s.b e s.x s.y r (λ p. refl) s.is;
    }
