-- Lists of names, in the order in which they came.
use Rattle.std.specs.Prelude.{ℕ, Bool, ◌++◌, List, [], ◌∷◌, Option, Some, None, cond, if◌then◌else◌, bytes_eq}
use Rattle.std.specs.List.{list_any}
use Rattle.std.specs.HashMap.{HashMap}
use Rattle.indexmap.specs.IndexMap.{get_by}
use Rattle.std.specs.declared.vec.Vec.{Vec}

-- the names once this one is noted
abbrev pub noted : List (List ℕ) → List ℕ → List (List ℕ)
noted names n = if list_any (bytes_eq n) names then names else names ++ n ∷ []

-- the place that a map has for a name
abbrev pub place_in : {A S : Type 0} → HashMap (Vec ℕ A) ℕ S → List ℕ → Option ℕ
place_in places n = get_by (λ key. bytes_eq n key.items) places

-- a place that is there, or this one where the test holds
abbrev pub place_or : Option ℕ → Bool → ℕ → Option ℕ
place_or (Some at) same next = Some at
place_or None same next = cond same (Some next) None
