-- Rule 22: `super().__init__(..)` stands only behind the contracts of an `__init__` whose class has one above it. A call of it
-- elsewhere is a fault at `__init__`, and every other use of `super` one at that name.
use Rattle.std.specs.Prelude.{Bool, true, false, ◌&&◌, List, [], ◌∷◌, ◌++◌, flat_map, Option, Some, None, if◌then◌else◌, codes, bytes_eq}
use Rattle.py_base.specs.declared.Place.{Place}
use Rattle.raw_syntax.specs.declared.RawExpr.{RawExpr, fold-RawExpr}
use Rattle.raw_syntax.specs.declared.RawExprForm.{RawExprForm-F}
use Rattle.raw_syntax.specs.declared.RawComparison.{RawComparison, fold-RawComparison}
use Rattle.raw_syntax.specs.declared.RawArgument.{RawArgument, RawArgument-F, fold-RawArgument}
use Rattle.class_table.specs.Names.{init_name}
use Rattle.type_base.specs.declared.Fault.{Fault}
use Rattle.type_base.specs.declared.Rank.TheVariants as ranks
use Rattle.type_base.specs.Faults.{fault, fault_if, joined}

pub record Use : Type 0 where
  pub is_word : Bool  -- `super`
  pub is_call : Bool  -- `super()`
  pub init_at : Option Place  -- the place of `__init__` in `super().__init__`
  pub faults : List Fault
  pub within : List Fault  -- those of a call of `super().__init__` that may stand, where it is one

abbrev pub no_use : List Fault → Use
no_use fs = record { is_word = false; is_call = false; init_at = None; faults = fs; within = fs }

abbrev pub is_empty : List (List Fault) → Bool
is_empty [] = true
is_empty (x ∷ xs) = false

abbrev pub of_name : Bool → Place → Use
of_name b p = record { is_word = b; is_call = false; init_at = None; faults = fault_if b p (ranks.Mistyped 22); within = fault_if b p (ranks.Mistyped 22) }

abbrev pub of_field : Bool → Place → List Fault → Use
of_field b p fs = record { is_word = false; is_call = false; init_at = if b then Some p else None; faults = fs; within = fs }

abbrev pub called_faults : Option Place → List Fault → List Fault
called_faults None fs = fs
called_faults (Some p) fs = fault p (ranks.Mistyped 22) ∷ []

abbrev pub kept_faults : Option Place → List Fault → List Fault
kept_faults None fs = fs
kept_faults (Some p) fs = []

abbrev pub of_call : Use → List (List Fault) → Use
of_call u xs = record { is_word = false; is_call = u.is_word && is_empty xs; init_at = None; faults = called_faults u.init_at u.faults ++ joined xs; within = kept_faults u.init_at u.faults ++ joined xs }

abbrev pub parts_of : List Use → List Fault
parts_of = flat_map (λ (u : Use). u.faults)

abbrev pub argument_use : RawArgument-F (List Fault) (Place → Use) (List Fault) Use → List Fault
argument_use (RawArgument-F.Value e) = e.faults
argument_use (RawArgument-F.Named e f) = e.faults ++ f.faults

abbrev pub use_form : RawExprForm-F (List Fault) (Place → Use) (List Fault) Use → Place → Use
use_form (RawExprForm-F.Name n) p = of_name (bytes_eq n (codes "super")) p
use_form (RawExprForm-F.Bracket e) p = e
use_form (RawExprForm-F.Tuple es) p = no_use (parts_of es)
use_form (RawExprForm-F.Field e n) p = of_field (bytes_eq n init_name && e.is_call) p e.faults
use_form (RawExprForm-F.Call e xs) p = of_call e xs
use_form (RawExprForm-F.Negate e) p = no_use e.faults
use_form (RawExprForm-F.Binary o a b) p = no_use (a.faults ++ b.faults)
use_form (RawExprForm-F.Chain e ls) p = no_use (e.faults ++ joined ls)
use_form (RawExprForm-F.Not e) p = no_use e.faults
use_form (RawExprForm-F.And a b) p = no_use (a.faults ++ b.faults)
use_form (RawExprForm-F.Or a b) p = no_use (a.faults ++ b.faults)
use_form form p = no_use []

abbrev pub uses : RawExpr → Use
uses = fold-RawExpr (List Fault) (Place → Use) (List Fault) Use argument_use use_form (λ l. l.operand.faults) (λ e. e.form e.place)

abbrev pub argument_super_faults : RawArgument → List Fault
argument_super_faults = fold-RawArgument (List Fault) (Place → Use) (List Fault) Use argument_use use_form (λ l. l.operand.faults) (λ e. e.form e.place)

abbrev pub link_super_faults : RawComparison → List Fault
link_super_faults = fold-RawComparison (List Fault) (Place → Use) (List Fault) Use argument_use use_form (λ l. l.operand.faults) (λ e. e.form e.place)

abbrev pub super_faults : RawExpr → List Fault
super_faults e = (uses e).faults

-- the same where a call of `super().__init__` may stand
abbrev pub allowed_super_faults : RawExpr → List Fault
allowed_super_faults e = (uses e).within
