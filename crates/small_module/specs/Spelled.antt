-- What a module is that a tree of small forms spells.
use Rattle.std.specs.Prelude.{◌≡◌, ℕ, List}
use Rattle.py_base.specs.declared.Place.{Place}
use Rattle.py_syntax.specs.declared.Stmt.{Stmt}
use Rattle.py_syntax.specs.declared.Module.{Module}
use Rattle.small_module.specs.SmallModule.{main_module}

-- the module is the function `main` alone
pub record IsMainAlone (m : Module) : Type 0 where
  pub place : Place
  pub locals : ℕ
  pub body : List Stmt
  pub last : Place
  pub is : m ≡ main_module place locals body last
