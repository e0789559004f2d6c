-- Pieces of a text that are written one after another.
use Rattle.std.proofs.Common.{◌≡◌, ◌∙◌, sym, ap, subst, ℕ, ◌+◌, ◌≤◌, Option, List, [], ◌++◌, length, take, length-append, arith}
use Rattle.std.proofs.lemmas.List.{take-append-le}
use Rattle.std.proofs.lemmas.List.Concat.{flat_map-append}
use Rattle.std.proofs.Math.Seq.{take-append-add, take-length}
use Rattle.std.specs.Io.KnownBytes.{Appends}
use Rattle.std.proofs.KnownBytes.{Appends-nil, Appends-trans}
use Rattle.io_edge.specs.Outside.{AppendsPart}
use Rattle.schedule_runner.specs.Output.{with_end, text_of}

pub part_none : (old : Option (List ℕ)) (xs : List ℕ) → AppendsPart old old xs
part_none old xs = (0, omega arith, Appends-nil old)

pub part_whole : (old new : Option (List ℕ)) (xs : List ℕ) → Appends old new xs → AppendsPart old new xs
part_whole old new xs a = (length xs, omega arith, subst (λ ys. Appends old new ys) (sym (take-length xs)) a)

pub part_front : (old new : Option (List ℕ)) (xs ys : List ℕ) → AppendsPart old new xs → AppendsPart old new (xs ++ ys)
part_front old new xs ys part =
    let n : ℕ = part.0 in
    let within : n ≤ length xs = part.1 in
    (n, simp length-append (omega arith), subst (λ zs. Appends old new zs) (sym (take-append-le n xs ys within)) part.2)

pub part_behind : (old mid new : Option (List ℕ)) (xs ys : List ℕ) → Appends old mid xs → AppendsPart mid new ys → AppendsPart old new (xs ++ ys)
part_behind old mid new xs ys a part =
    let n : ℕ = part.0 in
    (length xs + n, simp length-append (omega (arith, part.1)), subst (λ zs. Appends old new zs) (sym (take-append-add xs ys n)) (Appends-trans old mid new xs (take n ys) a part.2))

pub text-append : (xs ys : List (List ℕ)) → text_of (xs ++ ys) ≡ text_of xs ++ text_of ys
text-append xs ys = flat_map-append with_end xs ys
