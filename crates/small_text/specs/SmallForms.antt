-- The lines that the `main` of a small text is made of: `N = E`, `assert E == E`, `print(E)` and `pass` behind four spaces,
-- where an expression E is an operand or two operands with ` + ` or ` - ` between. Places are the project's own: an
-- operator's is its mark, a statement's its first token. Columns count characters, which are bytes here.
use Rattle.std.specs.Prelude.{◌≡◌, ◌+◌, ◌-◌, ◌*◌, ℕ, Bool, not, ◌&&◌, ◌||◌, List, [], ◌∷◌, ◌++◌, length, slice_index, nat_le, nat_lt, ◌==◌, IsTrue, codes, bytes_eq, fold}
use Rattle.std.specs.List.{list_all, list_any}
use Rattle.py_base.specs.declared.Place.{Place}
use Rattle.py_syntax.specs.declared.Expr.{Expr}
use Rattle.py_syntax.specs.declared.PrintArg.TheVariants.{Value}
use Rattle.py_syntax.specs.declared.Stmt.{Stmt}
use Rattle.py_syntax.specs.declared.StmtForm.{StmtForm}
use Rattle.py_syntax.specs.declared.StmtForm.TheVariants.{Pass, Store, Check, Print}
use Rattle.small_module.specs.SmallTree.{is_known, local_number, with_name, number_at, local_at, sum_at, equation_at}
use Rattle.small_module.specs.SmallModule.{statement}

abbrev pub is_digit : ℕ → Bool
is_digit b = nat_le 48 b && nat_le b 57

-- a letter from a to z
abbrev pub is_letter : ℕ → Bool
is_letter b = nat_le 97 b && nat_le b 122

-- A number has 1 to 9 digits, and no 0 in front but in `0` itself.
unfoldable pub is_number : List ℕ → Bool
is_number bytes = list_all is_digit bytes && nat_lt 0 (length bytes) && nat_le (length bytes) 9 && (not (slice_index bytes 0 == 48) || (length bytes == 1))

-- the number that decimal digits write
unfoldable pub number_value : List ℕ → ℕ
number_value bytes = fold (λ n b. n * 10 + (b - 48)) 0 bytes

-- the keywords of Python that are made of letters a to z (Language Reference, "Keywords"), and the names of such letters that
-- are built in or have a meaning of their own
abbrev pub reserved_words : List (List ℕ)
reserved_words =
    codes "and" ∷ codes "as" ∷ codes "assert" ∷ codes "async" ∷ codes "await" ∷ codes "break" ∷ codes "class" ∷ codes "continue"
    ∷ codes "def" ∷ codes "del" ∷ codes "elif" ∷ codes "else" ∷ codes "except" ∷ codes "finally" ∷ codes "for" ∷ codes "from"
    ∷ codes "global" ∷ codes "if" ∷ codes "import" ∷ codes "in" ∷ codes "is" ∷ codes "lambda" ∷ codes "nonlocal" ∷ codes "not"
    ∷ codes "or" ∷ codes "pass" ∷ codes "raise" ∷ codes "return" ∷ codes "try" ∷ codes "while" ∷ codes "with" ∷ codes "yield"
    ∷ codes "main" ∷ codes "print" ∷ codes "int" ∷ codes "bool" ∷ codes "self" ∷ codes "super" ∷ []

unfoldable pub is_reserved : List ℕ → Bool
is_reserved bytes = list_any (bytes_eq bytes) reserved_words

-- A name has 1 to 20 letters and isn't reserved.
unfoldable pub is_name : List ℕ → Bool
is_name bytes = list_all is_letter bytes && nat_lt 0 (length bytes) && nat_le (length bytes) 20 && not (is_reserved bytes)

abbrev pub place_at : ℕ → ℕ → Place
place_at line col = record { line = line; col = col }

-- each statement of a small text begins in column 5
abbrev pub stmt_at : ℕ → StmtForm → Stmt
stmt_at line form = statement (place_at line 5) form

-- The bytes at a place spell an operand, where these names are assigned, in the order of their first assignments: a number, or
-- one of the names.
pub data SpellsOperand (names : List (List ℕ)) (p : Place) (bytes : List ℕ) (e : Expr) : Type 0 where
  spells_number : IsTrue (is_number bytes) → e ≡ number_at p (number_value bytes) → SpellsOperand names p bytes e
  spells_local : IsTrue (is_name bytes) → IsTrue (is_known names bytes) → e ≡ local_at p (local_number names bytes) → SpellsOperand names p bytes e

-- two operands with a sign between, one space before and behind it
pub record SpellsSum (names : List (List ℕ)) (line col : ℕ) (sign : List ℕ) (key : ℕ) (bytes : List ℕ) (e : Expr) : Type 0 where
  pub x : List ℕ
  pub y : List ℕ
  pub a : Expr
  pub b : Expr
  pub whole : bytes ≡ x ++ sign ++ y
  pub left : SpellsOperand names (place_at line col) x a
  pub right : SpellsOperand names (place_at line (col + length x + 3)) y b
  pub is : e ≡ sum_at (place_at line (col + length x + 1)) key a b

-- the bytes at a column of a line spell an expression
pub data SpellsExpr (names : List (List ℕ)) (line col : ℕ) (bytes : List ℕ) (e : Expr) : Type 0 where
  spells_operand : SpellsOperand names (place_at line col) bytes e → SpellsExpr names line col bytes e
  spells_plus : SpellsSum names line col (codes " + ") 1 bytes e → SpellsExpr names line col bytes e
  spells_minus : SpellsSum names line col (codes " - ") 2 bytes e → SpellsExpr names line col bytes e

-- a line spells a statement; `after` are the names that are assigned behind it
pub data SpellsStmt (names : List (List ℕ)) (line : ℕ) (bytes : List ℕ) (s : Stmt) (after : List (List ℕ)) : Type 0 where
  spells_pass : bytes ≡ codes "    pass" → s ≡ stmt_at line Pass → after ≡ names → SpellsStmt names line bytes s after
  spells_store : (name x : List ℕ) (e : Expr) → bytes ≡ codes "    " ++ name ++ codes " = " ++ x → IsTrue (is_name name) → SpellsExpr names line (5 + length name + 3) x e → s ≡ stmt_at line (Store (local_number names name) e) → after ≡ with_name names name → SpellsStmt names line bytes s after
  spells_check : (x y : List ℕ) (a b : Expr) → bytes ≡ codes "    assert " ++ x ++ codes " == " ++ y → SpellsExpr names line 12 x a → SpellsExpr names line (12 + length x + 4) y b → s ≡ stmt_at line (Check (equation_at (place_at line (12 + length x + 1)) a b)) → after ≡ names → SpellsStmt names line bytes s after
  spells_print : (x : List ℕ) (e : Expr) → bytes ≡ codes "    print(" ++ x ++ codes ")" → SpellsExpr names line 11 x e → s ≡ stmt_at line (Print (Value e ∷ [])) → after ≡ names → SpellsStmt names line bytes s after
