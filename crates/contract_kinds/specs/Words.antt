-- The contracts by their names, which no text can hide: those that stand as statements, those of instances, those of fields and
-- values, and those of duties, joins and levels.
use Rattle.std.specs.Prelude.{ℕ, Bool, false, List, Option, Some, None, option_and_then, if◌then◌else◌, codes, bytes_eq}
use Rattle.std.specs.Option.{option_or}
use Rattle.contract_kinds.specs.declared.contract.Contract.{Contract}
use Rattle.contract_kinds.specs.declared.contract.Contract.TheVariants as contracts

abbrev pub heading_named : List ℕ → Option Contract
heading_named word =
    if bytes_eq word (codes "Requires") then Some contracts.Requires
    else if bytes_eq word (codes "Ensures") then Some contracts.Ensures
    else if bytes_eq word (codes "Exsures") then Some contracts.Exsures
    else if bytes_eq word (codes "Invariant") then Some contracts.Invariant
    else if bytes_eq word (codes "Assert") then Some contracts.Assert
    else None

abbrev pub instance_named : List ℕ → Option Contract
instance_named word =
    if bytes_eq word (codes "Fold") then Some contracts.Fold
    else if bytes_eq word (codes "Unfold") then Some contracts.Unfold
    else if bytes_eq word (codes "Unfolding") then Some contracts.Unfolding
    else None

abbrev pub term_named : List ℕ → Option Contract
term_named word =
    if bytes_eq word (codes "Acc") then Some contracts.Acc
    else if bytes_eq word (codes "Implies") then Some contracts.Implies
    else if bytes_eq word (codes "Old") then Some contracts.Old
    else if bytes_eq word (codes "Result") then Some contracts.Result
    else None

abbrev pub duty_named : List ℕ → Option Contract
duty_named word =
    if bytes_eq word (codes "Level") then Some contracts.Level
    else if bytes_eq word (codes "MustTerminate") then Some contracts.MustTerminate
    else if bytes_eq word (codes "MustRelease") then Some contracts.MustRelease
    else if bytes_eq word (codes "MayJoin") then Some contracts.MayJoin
    else if bytes_eq word (codes "WaitLevel") then Some contracts.WaitLevel
    else None

-- the contract of this name
abbrev pub contract_named : List ℕ → Option Contract
contract_named word = option_or (heading_named word) (option_or (instance_named word) (option_or (term_named word) (duty_named word)))

-- the contract that a call of this name is
abbrev pub contract_of : Option (List ℕ) → Option Contract
contract_of word = option_and_then contract_named word

abbrev pub is_word : List ℕ → Option (List ℕ) → Bool
is_word word None = false
is_word word (Some n) = bytes_eq n word
