-- What the statuses of the program say by themselves.
use Rattle.std.specs.Prelude.{◌≡◌, ◌≢◌, ◌⊎◌, ℕ}
use Rattle.nagini_cli.specs.declared.status.TheConstants.{FINISHED, STOPPED, SPENT, TOO_LARGE, READ_FAULT, NO_MEMORY, WRITE_FAULT}

-- memory was missing, or a write failed
abbrev pub IsCutShort : ℕ → Type 0
IsCutShort status = (status ≡ NO_MEMORY) ⊎ (status ≡ WRITE_FAULT)

-- neither was memory missing nor did a write fail
abbrev pub IsQuiet : ℕ → Type 0
IsQuiet status = (status ≢ NO_MEMORY) × (status ≢ WRITE_FAULT)

-- nor did a read fail
abbrev pub IsAnswered : ℕ → Type 0
IsAnswered status = IsQuiet status × (status ≢ READ_FAULT)

-- a run came to an end
abbrev pub IsEnd : ℕ → Type 0
IsEnd status = (status ≡ FINISHED) ⊎ ((status ≡ STOPPED) ⊎ ((status ≡ SPENT) ⊎ (status ≡ TOO_LARGE)))
