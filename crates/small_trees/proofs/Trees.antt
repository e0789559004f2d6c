-- What trees of small forms are: `main` alone, whose statements are small, and whose expressions are numbers and names that are
-- assigned before, alone or two with a sign between. Brackets count for nothing.
use Rattle.std.proofs.Common.{◌≡◌, ℕ, Bool, true, false, pos, List, [], ◌∷◌, None, codes}
use Rattle.py_base.specs.declared.Place.{Place}
use Rattle.raw_syntax.specs.declared.RawExpr.{RawExpr}
use Rattle.raw_syntax.specs.declared.RawExprForm.{RawExprForm-F, out-RawExprForm}
use Rattle.raw_syntax.specs.declared.RawComparison.{RawComparison}
use Rattle.raw_syntax.specs.declared.RawArgument.{RawArgument, RawArgument-F, out-RawArgument}
use Rattle.raw_syntax.specs.declared.Arithmetic.{Arithmetic}
use Rattle.raw_syntax.specs.declared.Arithmetic.TheVariants as signs
use Rattle.raw_syntax.specs.declared.RawStmt.{RawStmt}
use Rattle.raw_syntax.specs.declared.RawStmtForm.{RawStmtForm-F, out-RawStmtForm}
use Rattle.raw_syntax.specs.declared.RawFunc.{RawFunc}
use Rattle.raw_syntax.specs.declared.RawItem.TheVariants as items
use Rattle.raw_syntax.specs.declared.Raw.{Raw}
use Rattle.small_module.specs.SmallTree.{is_known, with_name, is_reserved}
use Rattle.small_module.specs.SmallModule.{is_equal}

-- the second expression is the first without the brackets around it
pub data Bare : RawExpr → RawExpr → Type 0 where
  is_itself : (e : RawExpr) → Bare e e
  is_within : (e i b : RawExpr) → out-RawExprForm e.form ≡ RawExprForm-F.Bracket i → Bare i b → Bare e b

pub data IsOperand (names : List (List ℕ)) (e : RawExpr) : Type 0 where
  is_number : (b : RawExpr) (n : ℕ) → Bare e b → out-RawExprForm b.form ≡ RawExprForm-F.Number (pos n) → IsOperand names e
  is_local : (b : RawExpr) (n : List ℕ) → Bare e b → out-RawExprForm b.form ≡ RawExprForm-F.Name n → is_known names n ≡ true → IsOperand names e

abbrev pub is_sign : Arithmetic → Bool
is_sign signs.Plus = true
is_sign signs.Minus = true
is_sign o = false

pub data IsSum (names : List (List ℕ)) (e : RawExpr) : Type 0 where
  is_alone : IsOperand names e → IsSum names e
  is_two : (b x y : RawExpr) (o : Arithmetic) → Bare e b → out-RawExprForm b.form ≡ RawExprForm-F.Binary o x y → is_sign o ≡ true → IsOperand names x → IsOperand names y → IsSum names e

-- the name, brackets left out
pub record IsTarget (e : RawExpr) (n : List ℕ) : Type 0 where
  pub b : RawExpr
  pub bare : Bare e b
  pub is : out-RawExprForm b.form ≡ RawExprForm-F.Name n

-- an equation of two sums
pub record IsEquation (names : List (List ℕ)) (e : RawExpr) : Type 0 where
  pub b : RawExpr
  pub x : RawExpr
  pub l : RawComparison
  pub bare : Bare e b
  pub is : out-RawExprForm b.form ≡ RawExprForm-F.Chain x (l ∷ [])
  pub equal : is_equal l.operator ≡ true
  pub left : IsSum names x
  pub right : IsSum names l.operand

-- a call of `print` with one sum
pub record IsPrinting (names : List (List ℕ)) (e : RawExpr) : Type 0 where
  pub b : RawExpr
  pub f : RawExpr
  pub x : RawArgument
  pub v : RawExpr
  pub bare : Bare e b
  pub is : out-RawExprForm b.form ≡ RawExprForm-F.Call f (x ∷ [])
  pub printed : IsTarget f (codes "print")
  pub value : out-RawArgument x ≡ RawArgument-F.Value v
  pub sum : IsSum names v

-- a statement where the first names are assigned before, and the second ones behind it
pub data IsStmt (names : List (List ℕ)) (s : RawStmt) : List (List ℕ) → Type 0 where
  is_pass : out-RawStmtForm s.form ≡ RawStmtForm-F.Pass → IsStmt names s names
  is_store : (t v : RawExpr) (n : List ℕ) → out-RawStmtForm s.form ≡ RawStmtForm-F.Assign t v → IsTarget t n → is_reserved n ≡ false → IsSum names v → IsStmt names s (with_name names n)
  is_check : (e : RawExpr) → out-RawStmtForm s.form ≡ RawStmtForm-F.Assert e → IsEquation names e → IsStmt names s names
  is_printed : (e : RawExpr) → out-RawStmtForm s.form ≡ RawStmtForm-F.Eval e → IsPrinting names e → IsStmt names s names

pub data IsBody : List (List ℕ) → List RawStmt → List (List ℕ) → Type 0 where
  is_done : (names : List (List ℕ)) → IsBody names [] names
  is_more : (names mid after : List (List ℕ)) (s : RawStmt) (ss : List RawStmt) → IsStmt names s mid → IsBody mid ss after → IsBody names (s ∷ ss) after

abbrev pub main_with : Place → Place → List RawStmt → RawFunc
main_with p q body = record { place = p; marks = []; name = codes "main"; params = []; ret = record { place = q; head = codes "None"; inner = None }; body = body }

abbrev pub tree_with : Place → Place → List RawStmt → Place → Raw
tree_with p q body last = record { items = items.Func (main_with p q body) ∷ []; «end» = last }

pub record IsSmall (tree : Raw) : Type 0 where
  pub place : Place
  pub result : Place
  pub body : List RawStmt
  pub last : Place
  pub after : List (List ℕ)
  pub is : tree ≡ tree_with place result body last
  pub small : IsBody [] body after
