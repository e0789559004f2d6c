-- What an expression is, as far as names, fields and calls go. Brackets count for nothing.
use Rattle.std.specs.Prelude.{ℕ, Bool, true, false, ◌&&◌, nat_eq, List, [], ◌∷◌, length, Option, Some, None, ⊤, if◌then◌else◌, codes, bytes_eq}
use Rattle.std.specs.List.{list_any}
use Rattle.py_base.specs.declared.Place.{Place}
use Rattle.raw_syntax.specs.declared.RawExpr.{RawExpr, fold-RawExpr}
use Rattle.raw_syntax.specs.declared.RawExprForm.{RawExprForm-F}
use Rattle.class_table.specs.Names.{init_name}

pub data Shape : Type 0 where
  string : Shape
  name : Place → List ℕ → Shape
  field : Place → Shape → List ℕ → Shape
  call : Shape → ℕ → Shape  -- what is called, and the number of arguments
  other : Shape

abbrev pub form_shape : RawExprForm-F ⊤ (Place → Shape) ⊤ Shape → Place → Shape
form_shape (RawExprForm-F.Str t) p = string
form_shape (RawExprForm-F.Name n) p = name p n
form_shape (RawExprForm-F.Bracket e) p = e
form_shape (RawExprForm-F.Field e n) p = field p e n
form_shape (RawExprForm-F.Call e xs) p = call e (length xs)
form_shape form p = other

abbrev pub shape : RawExpr → Shape
shape = fold-RawExpr ⊤ (Place → Shape) ⊤ Shape (λ x. tt) form_shape (λ l. tt) (λ e. e.form e.place)

abbrev pub is_name : List ℕ → Shape → Bool
is_name word (name p n) = bytes_eq n word
is_name word s = false

-- a string alone is a docstring
abbrev pub is_string : Shape → Bool
is_string string = true
is_string s = false

-- the contracts that stand first in a method
abbrev pub is_contract_name : Shape → Bool
is_contract_name (name p n) = list_any (bytes_eq n) (codes "Requires" ∷ codes "Ensures" ∷ codes "Exsures" ∷ [])
is_contract_name s = false

abbrev pub is_contract : Shape → Bool
is_contract (call s count) = is_contract_name s
is_contract s = false

-- `super()`
abbrev pub is_super : Shape → Bool
is_super (call s count) = is_name (codes "super") s && nat_eq count 0
is_super s = false

-- `super().__init__`
abbrev pub is_super_init : Shape → Bool
is_super_init (field p s n) = bytes_eq n init_name && is_super s
is_super_init s = false

-- `super().__init__(..)`
abbrev pub calls_super_init : Shape → Bool
calls_super_init (call s count) = is_super_init s
calls_super_init s = false

-- the place and the name of a field of `self`
abbrev pub self_field : Shape → Option (Place × List ℕ)
self_field (field p s n) = if is_name (codes "self") s then Some (p, n) else None
self_field s = None
