-- How the texts of one line follow one another.
use Rattle.std.specs.Prelude.{ℕ, List, [], ◌∷◌, ◌++◌, codes}

-- texts with a space in front of each
abbrev pub further : List (List ℕ) → List ℕ
further [] = []
further (text ∷ texts) = codes " " ++ (text ++ further texts)
