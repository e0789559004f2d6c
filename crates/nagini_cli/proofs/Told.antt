-- Answers about a file, by what is told of the files.
use Rattle.std.proofs.Common.{◌≡◌, ℕ, suc, ◌<◌, List, length, replicate, Option, None, Some, IfSome, refl, arith}
use Rattle.std.proofs.lemmas.List.{length-replicate}
use Rattle.std.specs.Prelude.{codes}
use Rattle.io_edge.specs.Outside.{Held, held_at, IsTooLong}
use Rattle.nagini_cli.specs.Texts.{limit_line}
use Rattle.nagini_cli.specs.Allowed.{ChecksFile, IsHeldAs, answered}
use Rattle.nagini_cli.specs.Answers.{too_long}
use Rattle.nagini_cli.specs.declared.status.TheConstants.{LIMIT}
use Rattle.nagini_cli.specs.declared.check.TheConstants.{FILE_LIMIT}

-- some list is longer than that
longer : (n : ℕ) → (bytes : List ℕ) × (n < length bytes)
longer n = (replicate (suc n) 0, rw (length-replicate {A = ℕ} (suc n) 0) (omega arith))

held_too_long : (files : Held) (name : List ℕ) (status : ℕ) (text : List ℕ) (found : Option (List ℕ)) → held_at files name ≡ found → IsTooLong FILE_LIMIT found → status ≡ LIMIT → text ≡ limit_line (codes "file") → ChecksFile (Some files) name status text
held_too_long files name status text None is long x y = absurd long
held_too_long files name status text (Some bytes) is long x y = answered bytes is (too_long long x y)

-- the answer where a file is too long
pub ChecksFile-too_long : (held : Option Held) (name : List ℕ) (status : ℕ) (text : List ℕ) → IfSome held (λ files. IsTooLong FILE_LIMIT (held_at files name)) → status ≡ LIMIT → text ≡ limit_line (codes "file") → ChecksFile held name status text
ChecksFile-too_long None name status text long x y =
    let some : (bytes : List ℕ) × (FILE_LIMIT < length bytes) = longer FILE_LIMIT in
    answered some.0 tt (too_long some.1 x y)
ChecksFile-too_long (Some files) name status text long x y = held_too_long files name status text (held_at files name) refl long x y

long_at : (files : Held) (name : List ℕ) (found : Option (List ℕ)) → held_at files name ≡ found → IsTooLong FILE_LIMIT found → (bytes : List ℕ) × IsHeldAs (Some files) name bytes × (FILE_LIMIT < length bytes)
long_at files name None is long = absurd long
long_at files name (Some bytes) is long = (bytes, is, long)

-- some bytes of a file that is too long
pub long_bytes : (held : Option Held) (name : List ℕ) → IfSome held (λ files. IsTooLong FILE_LIMIT (held_at files name)) → (bytes : List ℕ) × IsHeldAs held name bytes × (FILE_LIMIT < length bytes)
long_bytes None name long =
    let some : (bytes : List ℕ) × (FILE_LIMIT < length bytes) = longer FILE_LIMIT in
    (some.0, tt, some.1)
long_bytes (Some files) name long = long_at files name (held_at files name) refl long
