-- Pieces that are appended one after another.
use Rattle.std.proofs.Common.{◌≡◌, ◌∙◌, sym, ap, subst, ℕ, ◌+◌, ◌≤◌, Option, Some, None, List, [], ◌++◌, append_assoc, length, take, length-append, arith, ◌<◌, drop, get_or, flat_map}
use Rattle.std.proofs.lemmas.List.{append-nil, take-append-le, take-append-drop, at_drop_more}
use Rattle.std.proofs.lemmas.List.Concat.{flat_map-append}
use Rattle.std.proofs.Math.Seq.{take-append-add}
use Rattle.std.proofs.KnownBytes.{Appends-nil}
use Rattle.std.specs.Io.KnownBytes.{Appends}
use Rattle.io_edge.specs.Outside.{AppendsPart}

pub Appends-append : (old mid new : Option (List ℕ)) (xs ys : List ℕ) → Appends old mid xs → Appends mid new ys → Appends old new (xs ++ ys)
Appends-append None mid new xs ys a b = tt
Appends-append (Some os) None new xs ys a b = absurd a
Appends-append (Some os) (Some ms) None xs ys a b = absurd b
Appends-append (Some os) (Some ms) (Some ns) xs ys a b = b ∙ ap (λ zs. zs ++ ys) a ∙ append_assoc os xs ys

-- a part of a piece, with what was written before it, is a part of the whole
pub AppendsPart-append : (old mid new : Option (List ℕ)) (xs ys zs : List ℕ) → Appends old mid xs → AppendsPart mid new ys → AppendsPart old new (xs ++ (ys ++ zs))
AppendsPart-append old mid new xs ys zs a part =
    let n : ℕ = part.0 in
    let within : n ≤ length ys = part.1 in
    (length xs + n, simp (length-append, length-append) (omega arith), rw (take-append-add xs (ys ++ zs) n, take-append-le n ys zs within) (Appends-append old mid new xs (take n ys) a part.2))

-- a list of pieces, before, at and behind one of them
pub flat_map-at : {X : Type 0} (f : X → List ℕ) (xs : List X) (i : ℕ) (x : X) → i < length xs → x ≡ get_or xs i x → flat_map f xs ≡ flat_map f (take i xs) ++ (f x ++ flat_map f (drop (i + 1) xs))
flat_map-at f xs i x h e = ap (flat_map f) (sym (take-append-drop i xs)) ∙ flat_map-append f (take i xs) (drop i xs) ∙ ap (λ ys. flat_map f (take i xs) ++ ys) (at_drop_more (flat_map f) xs i x h ∙ ap (λ y. f y ++ flat_map f (drop (i + 1) xs)) (sym e))

-- a part of a piece behind what was written before it
pub AppendsPart-behind : (old mid new : Option (List ℕ)) (xs ys : List ℕ) → Appends old mid xs → AppendsPart mid new ys → AppendsPart old new (xs ++ ys)
AppendsPart-behind old mid new xs ys a part = subst (λ (zs : List ℕ). AppendsPart old new (xs ++ zs)) (append-nil ys) (AppendsPart-append old mid new xs ys [] a part)

-- nothing more is written
pub AppendsPart-none : (old mid new : Option (List ℕ)) (xs ys : List ℕ) → Appends old mid xs → new ≡ mid → AppendsPart old new (xs ++ ys)
AppendsPart-none old mid new xs ys a same = AppendsPart-behind old mid new xs ys a (0, omega arith, subst (λ (n : Option (List ℕ)). Appends mid n []) (sym same) (Appends-nil mid))
