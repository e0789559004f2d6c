-- The statements of a body, one after another.
use Rattle.std.proofs.Common.{ℕ, ◌≡◌, refl, List, [], ◌∷◌, ◌++◌, length, Ok, Err, nat_lt, true, false}
use Rattle.py_base.specs.declared.Place.{Place}
use Rattle.py_syntax.specs.declared.Stmt.{Stmt}
use Rattle.raw_syntax.specs.declared.RawStmt.{RawStmt}
use Rattle.small_module.specs.SmallModule.{stmt_of, body_of}

-- a statement that is built, with the names behind it
pub built_statement : (before : List Stmt) (names more : List (List ℕ)) (s : RawStmt) (ss : List RawStmt) (x : Stmt) → nat_lt (length before) 60 ≡ true → stmt_of names s ≡ Ok (x, more) → body_of before names (s ∷ ss) ≡ body_of (before ++ x ∷ []) more ss
built_statement before names more s ss x few e = rw (few, e) refl

-- a statement that isn't
pub unbuilt_statement : (before : List Stmt) (names : List (List ℕ)) (s : RawStmt) (ss : List RawStmt) (p : Place) → nat_lt (length before) 60 ≡ true → stmt_of names s ≡ Err p → body_of before names (s ∷ ss) ≡ Err p
unbuilt_statement before names s ss p few e = rw (few, e) refl

-- a statement too many
pub late_statement : (before : List Stmt) (names : List (List ℕ)) (s : RawStmt) (ss : List RawStmt) → nat_lt (length before) 60 ≡ false → body_of before names (s ∷ ss) ≡ Err s.place
late_statement before names s ss many = rw many refl
