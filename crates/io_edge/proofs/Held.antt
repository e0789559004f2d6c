-- The search for the bytes under a name, among the files as code holds them.
use Rattle.std.proofs.Common.{◌≡◌, ℕ, Bool, true, false, List, [], ◌∷◌, map, find, Some, String, Vec, cond, refl, arith, bytes_eq, string_bytes}
use Rattle.std.specs.Option.{option_map}
use Rattle.std.specs.declared.alloc.Global.{Global}
use Rattle.io_edge.specs.Memory.{names_and_bytes}
use Rattle.io_edge.specs.Outside.{held_at}

-- the first of the images that pass is the image of the first that passes
find-map : {A B : Type 0} (p : B → Bool) (f : A → B) (xs : List A) → find p (map f xs) ≡ option_map f (find (λ x. p (f x)) xs)
find-map p f [] = refl
find-map {A} {B} p f (x ∷ xs) = by (p (f x)) (find-map p f xs) where
  by : (b : Bool) → find p (map f xs) ≡ option_map f (find (λ x. p (f x)) xs) → cond b (Some (f x)) (find p (map f xs)) ≡ option_map f (cond b (Some x) (find (λ x. p (f x)) xs))
  by true rest = refl
  by false rest = rest

-- the file is the first whose name has these bytes
pub held_at_names : (files : List (String Global × Vec ℕ Global)) (name : List ℕ) → held_at (names_and_bytes files) name ≡ option_map (λ file. file.1.items) (find (λ file. bytes_eq (string_bytes file.0) name) files)
held_at_names files name = grind (arith, find-map)
