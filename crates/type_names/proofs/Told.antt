-- Types that are settled in their places.
use Rattle.std.proofs.Common.{◌≡◌, ◌++◌, ◌∷◌, [], ℕ, List, length, slice_set, Option, None, true, ap, sym, ◌∙◌, if◌then◌else◌}
use Rattle.std.proofs.Math.Seq.{set-append_seam}
use Rattle.py_base.specs.declared.Place.{Place}
use Rattle.py_syntax.specs.declared.Ty.{Ty}
use Rattle.type_names.specs.declared.position.Position.{Position}
use Rattle.type_names.specs.declared.meaning.TypeAt.{TypeAt}
use Rattle.type_names.specs.Positions.{is_valued, or_void, own_types}

abbrev entry : Place → Option Ty → TypeAt
entry p ty = record { place = p; ty = or_void ty }

own_entry : (at : Position) (p : Place) (ty : Option Ty) → is_valued at ≡ true → own_types at p ty ≡ entry p ty ∷ []
own_entry at p ty v = ap (λ b. if b then entry p ty ∷ [] else []) v

pub settled_in : (ts front rest : List TypeAt) (k : ℕ) (at : Position) (p : Place) (ty : Option Ty) → is_valued at ≡ true → length front ≡ k → ts ≡ front ++ (own_types at p None ++ rest)
    → slice_set ts k (record { place = p; ty = or_void ty }) ≡ front ++ (own_types at p ty ++ rest)
settled_in ts front rest k at p ty v n is =
    ap (λ i. slice_set ts i (entry p ty)) (sym n)
    ∙ ap (λ l. slice_set l (length front) (entry p ty)) (is ∙ ap (λ l. front ++ (l ++ rest)) (own_entry at p None v))
    ∙ set-append_seam front (entry p None) rest (entry p ty)
    ∙ ap (λ l. front ++ (l ++ rest)) (sym (own_entry at p ty v))
