-- Words of the contracts of what reads a string.
use Rattle.std.specs.Prelude.{ℕ, ◌≡◌, List, [], ◌∷◌, ◌++◌, length, Option, None, Some, encode_utf8_all}
use Rattle.py_base.specs.declared.Place.{Place}
use Rattle.py_tokens.specs.declared.Shape.{Shape}
use Rattle.py_tokens.specs.StringForms.{Quotes, Single, Triple, quote_text, BeginsWith, OpensWith, Part, LoneBackslash, part_text, IsEscape, IsPart, GoesOn, StandsFor}
use Rattle.py_lexer.specs.PieceForms.{StandsAt}
use Rattle.py_lexer.specs.declared.strings.Opening.{Opening}
use Rattle.py_lexer.specs.declared.strings.Opening.TheVariants as openings
use Rattle.py_lexer.specs.declared.strings.Reading.{Reading}
use Rattle.py_lexer.specs.declared.strings.Reading.TheVariants as readings
use Rattle.py_lexer.specs.declared.strings.Stop.TheVariants as stops

abbrev pub quotes_of : Opening → Quotes
quotes_of (openings.Single q) = Single q
quotes_of (openings.Triple q) = Triple q

-- the part is in front of what is left of a string
abbrev pub StandsPart : Quotes → List ℕ → Part → List ℕ → Type 0
StandsPart quotes cs part more = (cs ≡ part_text part ++ more) × ¬ BeginsWith cs (quote_text quotes) × IsPart quotes part more

-- what is next in what is left of a string
abbrev pub StandsNext : Quotes → List ℕ → Reading → Type 0
StandsNext quotes cs (readings.Part n value) = (part : Part) × (more : List ℕ) × StandsPart quotes cs part more × StandsFor (part ∷ []) (value ∷ []) × (n ≡ length (part_text part))
StandsNext quotes cs (readings.Stop stops.Closing) = BeginsWith cs (quote_text quotes)
StandsNext quotes cs (readings.Stop stops.Unclosed) = ¬ BeginsWith cs (quote_text quotes) × ((part : Part) (more : List ℕ) → ¬ StandsPart quotes cs part more)
StandsNext quotes cs (readings.Stop stops.LoneBackslash) = (more : List ℕ) × StandsPart quotes cs LoneBackslash more

-- what a backslash and these characters behind it are
abbrev pub StandsBehindBackslash : List ℕ → Reading → Type 0
StandsBehindBackslash cs (readings.Part n value) = (c : ℕ) × (more : List ℕ) × (cs ≡ c ∷ more) × IsEscape c value × (n ≡ 2)
StandsBehindBackslash cs (readings.Stop stops.LoneBackslash) = (c v : ℕ) → IsEscape c v → ¬ BeginsWith cs (c ∷ [])
StandsBehindBackslash cs (readings.Stop other) = ⊥

-- Parts that stand for characters with these bytes are in front of the rest.
abbrev pub HasRead : Quotes → List ℕ → List ℕ → List ℕ → Type 0
HasRead quotes cs bytes rest = (parts : List Part) × (value : List ℕ) × GoesOn quotes cs parts rest × StandsFor parts value × (bytes ≡ encode_utf8_all value)

-- No parts lead to closing quotes.
abbrev pub NeverCloses : Quotes → List ℕ → Type 0
NeverCloses quotes cs = (parts : List Part) (rest : List ℕ) → ¬ GoesOn quotes cs parts (quote_text quotes ++ rest)

-- a string in front, if quotes are
abbrev pub StandsInFront : Place → List ℕ → Option (Shape × ℕ) → Type 0
StandsInFront p cs None = (quotes : Quotes) → ¬ OpensWith cs quotes
StandsInFront p cs (Some found) = StandsAt p cs found.1 found.0
