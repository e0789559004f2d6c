-- What the outside gives and takes, and how its failures are counted.
use Rattle.std.specs.Prelude.{◌≡◌, ◌⊎◌, ◌<◌, ◌≤◌, ◌+◌, ◌-◌, ◌^◌, ℕ, Bool, true, min, List, length, take, find, Option, IsSomeAnd, if◌then◌else◌, ◌==◌, bytes_eq}
use Rattle.std.specs.Option.{option_map}
use Rattle.std.specs.Io.KnownBytes.{Appends, Consumes}

-- files, as names and bytes; of two with one name the first is meant
abbrev pub Held : Type 0
Held = List (List ℕ × List ℕ)

-- the bytes of the file of this name
abbrev pub held_at : Held → List ℕ → Option (List ℕ)
held_at files name = option_map (λ file. file.1) (find (λ file. bytes_eq file.0 name) files)

-- a file is there, and has more bytes than the limit
abbrev pub IsTooLong : ℕ → Option (List ℕ) → Type 0
IsTooLong limit bytes = IsSomeAnd bytes (λ b. limit < length b)

-- a count went up, or stands at its last value
abbrev pub Rose : ℕ → ℕ → Type 0
Rose old new = (old < new) ⊎ (old ≡ 2 ^ 64 - 1)

-- one more, or the last value
abbrev pub next_count : ℕ → ℕ
next_count count = min (count + 1) (2 ^ 64 - 1)

-- a call that begins where failures have been counted is late, and so are the calls after it
abbrev pub late_after : ℕ → Bool → Bool
late_after faults late = if faults == 0 then late else true

-- known bytes grow by some front of the piece
abbrev pub AppendsPart : Option (List ℕ) → Option (List ℕ) → List ℕ → Type 0
AppendsPart old new piece = (n : ℕ) × (n ≤ length piece) × Appends old new (take n piece)

-- known bytes lose at most n at the front
abbrev pub ConsumesAtMost : Option (List ℕ) → Option (List ℕ) → ℕ → Type 0
ConsumesAtMost old new n = (bytes : List ℕ) × (length bytes ≤ n) × Consumes old new bytes
