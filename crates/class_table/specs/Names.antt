-- Names that no text may declare: those that are built in, and those that Python mangles or calls by itself (Language
-- Reference, "Reserved classes of identifiers").
use Rattle.std.specs.Prelude.{ℕ, Bool, false, ◌&&◌, nat_eq, List, [], ◌∷◌, codes, bytes_eq}
use Rattle.std.specs.List.{list_any}

-- the names of Python that have a meaning here, and the names of contracts
abbrev pub built_in_names : List (List ℕ)
built_in_names =
    codes "int" ∷ codes "bool" ∷ codes "super" ∷ codes "Lock" ∷ codes "Thread" ∷ codes "Optional" ∷ codes "Exception" ∷ codes "print"
    ∷ codes "Requires" ∷ codes "Ensures" ∷ codes "Exsures" ∷ codes "Invariant" ∷ codes "Assert" ∷ codes "Fold" ∷ codes "Unfold"
    ∷ codes "Unfolding" ∷ codes "Predicate" ∷ codes "Pure" ∷ codes "Acc" ∷ codes "Implies" ∷ codes "Old" ∷ codes "Result"
    ∷ codes "Level" ∷ codes "MustTerminate" ∷ codes "MustRelease" ∷ codes "MayJoin" ∷ codes "WaitLevel" ∷ []

abbrev pub is_built_in : List ℕ → Bool
is_built_in name = list_any (bytes_eq name) built_in_names

-- a name that begins with two underscores
abbrev pub is_reserved : List ℕ → Bool
is_reserved (a ∷ b ∷ rest) = nat_eq a 95 && nat_eq b 95
is_reserved name = false

-- the method that makes objects
abbrev pub init_name : List ℕ
init_name = codes "__init__"
