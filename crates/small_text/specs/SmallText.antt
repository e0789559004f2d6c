-- Small texts, and the module that each spells. A small text is the function `main` with 1 to 60 small statements, one a
-- line; lines that are passed over may stand anywhere.
use Rattle.std.specs.Prelude.{◌≡◌, ◌⊎◌, ◌+◌, ◌≤◌, ℕ, List, [], ◌∷◌, length, IsTrue, false, codes}
use Rattle.py_syntax.specs.declared.Stmt.{Stmt}
use Rattle.py_syntax.specs.declared.Module.{Module}
use Rattle.small_module.specs.SmallModule.{main_module}
use Rattle.small_text.specs.TextLines.{lines_of, is_skipped}
use Rattle.small_text.specs.SmallForms.{place_at, SpellsStmt}

-- The lines from line n on spell these statements, where these names are assigned before; `after` are the names that are
-- assigned behind the last.
abbrev pub SpellsBody : List (List ℕ) → ℕ → List (List ℕ) → List Stmt → List (List ℕ) → Type 0
SpellsBody names n [] [] after = after ≡ names
SpellsBody names n [] (s ∷ ss) after = ⊥
SpellsBody names n (line ∷ lines) [] after = IsTrue (is_skipped line) × SpellsBody names (n + 1) lines [] after
SpellsBody names n (line ∷ lines) (s ∷ ss) after =
    (IsTrue (is_skipped line) × SpellsBody names (n + 1) lines (s ∷ ss) after)
    ⊎ ((is_skipped line ≡ false) × (mid : List (List ℕ)) × SpellsStmt names n line s mid × SpellsBody mid (n + 1) lines ss after)

-- The lines from line n on, the first of which is no line passed over, are `main` with its statements. Its head stands on
-- line n, its name in column 5, and the text ends on the line behind the last one.
pub record SpellsMain (n : ℕ) (line : List ℕ) (lines : List (List ℕ)) (m : Module) : Type 0 where
  pub body : List Stmt
  pub names : List (List ℕ)
  pub head : line ≡ codes "def main() -> None:"
  pub some : 1 ≤ length body
  pub few : length body ≤ 60
  pub spelled : SpellsBody [] (n + 1) lines body names
  pub is : m ≡ main_module (place_at n 5) (length names) body (place_at (n + 1 + length lines) 1)

-- The lines from line n on are a small text that spells the module.
abbrev pub SpellsFrom : ℕ → List (List ℕ) → Module → Type 0
SpellsFrom n [] m = ⊥
SpellsFrom n (line ∷ lines) m = (IsTrue (is_skipped line) × SpellsFrom (n + 1) lines m) ⊎ SpellsMain n line lines m

-- The text is small and spells the module.
abbrev pub Spells : List ℕ → Module → Type 0
Spells text m = SpellsFrom 1 (lines_of text) m
