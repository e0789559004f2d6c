-- What an expression is as far as names go; brackets count for nothing. Its place, its name where it is a name alone, and for
-- a call of `Exsures` what stands first in it.
use Rattle.std.specs.Prelude.{ℕ, Bool, true, false, List, [], ◌∷◌, Option, Some, None, if◌then◌else◌, codes, bytes_eq, ⊤}
use Rattle.std.specs.Option.{option_map_or}
use Rattle.py_base.specs.declared.Place.{Place}
use Rattle.raw_syntax.specs.declared.RawExpr.{RawExpr, fold-RawExpr}
use Rattle.raw_syntax.specs.declared.RawExprForm.{RawExprForm-F}
use Rattle.raw_syntax.specs.declared.RawArgument.{RawArgument, RawArgument-F, fold-RawArgument}
use Rattle.class_table.specs.Shapes.{Shape, call}

-- an expression that is to name a class
pub record Mention : Type 0 where
  pub place : Place
  pub word : Option (List ℕ)

pub record Sight : Type 0 where
  pub mention : Mention
  pub declared : Option Mention  -- what stands first in a call of `Exsures`

abbrev pub seen_as : Place → Option (List ℕ) → Option Mention → Sight
seen_as p word declared = record { mention = record { place = p; word = word }; declared = declared }

abbrev pub is_word : List ℕ → Option (List ℕ) → Bool
is_word w found = option_map_or (λ n. bytes_eq n w) found false

abbrev pub first_mention : List (Option Mention) → Option Mention
first_mention [] = None
first_mention (m ∷ ms) = m

abbrev pub declared_by : Option (List ℕ) → List (Option Mention) → Option Mention
declared_by word xs = if is_word (codes "Exsures") word then first_mention xs else None

abbrev pub argument_sight : RawArgument-F (Option Mention) (Place → Sight) ⊤ Sight → Option Mention
argument_sight (RawArgument-F.Value e) = Some e.mention
argument_sight (RawArgument-F.Named e f) = None

abbrev pub form_sight : RawExprForm-F (Option Mention) (Place → Sight) ⊤ Sight → Place → Sight
form_sight (RawExprForm-F.Name n) p = seen_as p (Some n) None
form_sight (RawExprForm-F.Bracket e) p = e
form_sight (RawExprForm-F.Call e xs) p = seen_as p None (declared_by e.mention.word xs)
form_sight form p = seen_as p None None

abbrev pub sight : RawExpr → Sight
sight = fold-RawExpr (Option Mention) (Place → Sight) ⊤ Sight argument_sight form_sight (λ l. tt) (λ e. e.form e.place)

abbrev pub mention_in : RawArgument → Option Mention
mention_in = fold-RawArgument (Option Mention) (Place → Sight) ⊤ Sight argument_sight form_sight (λ l. tt) (λ e. e.form e.place)

-- the place of an expression within its brackets
abbrev pub bare_place : RawExpr → Place
bare_place e = (sight e).mention.place

-- a call
abbrev pub is_any_call : Shape → Bool
is_any_call (call s count) = true
is_any_call s = false
