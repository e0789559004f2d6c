-- Strings by their characters. (Language Reference, "String and Bytes literals", with five of its escapes.)
use Rattle.std.specs.Prelude.{ℕ, List, [], ◌∷◌, ◌++◌, ◌≡◌, ◌⊎◌}

-- What encloses a string: one quote on each side, on one line, or three over lines. The quote is `'` or `"`.
pub data Quotes : Type 0 where
  Single : ℕ → Quotes
  Triple : ℕ → Quotes

abbrev pub quote_text : Quotes → List ℕ
quote_text (Single q) = q ∷ []
quote_text (Triple q) = q ∷ q ∷ q ∷ []

abbrev pub BeginsWith : List ℕ → List ℕ → Type 0
BeginsWith cs front = (rest : List ℕ) × (cs ≡ front ++ rest)

abbrev pub IsQuote : ℕ → Type 0
IsQuote q = (q ≡ 39) ⊎ (q ≡ 34)

-- The quotes at the beginning of some characters: three of them, or else one.
pub data OpensWith (cs : List ℕ) : Quotes → Type 0 where
  opens_triple : (q : ℕ) → IsQuote q → BeginsWith cs (q ∷ q ∷ q ∷ []) → OpensWith cs (Triple q)
  opens_single : (q : ℕ) → IsQuote q → BeginsWith cs (q ∷ []) → ¬ BeginsWith cs (q ∷ q ∷ q ∷ []) → OpensWith cs (Single q)

-- One part of a string: a character that stands for itself, an escape with what it stands for, or a backslash that begins no escape.
pub data Part : Type 0 where
  Plain : ℕ → Part
  Escape : ℕ → ℕ → Part
  LoneBackslash : Part

-- The escapes `\\ \' \" \n \t`: the character behind the backslash, and what they stand for.
pub data IsEscape : ℕ → ℕ → Type 0 where
  backslash : IsEscape 92 92
  apostrophe : IsEscape 39 39
  quotation : IsEscape 34 34
  line_feed : IsEscape 110 10
  tabulator : IsEscape 116 9

abbrev pub part_text : Part → List ℕ
part_text (Plain c) = c ∷ []
part_text (Escape c v) = 92 ∷ c ∷ []
part_text LoneBackslash = 92 ∷ []

-- whether a string on one line may have the character as a part
abbrev pub FitsLine : Quotes → ℕ → Type 0
FitsLine (Single q) c = ¬ (c ≡ 10)
FitsLine (Triple q) c = Unit {0}

-- the part in front of some characters of a string, with what follows it
abbrev pub IsPart : Quotes → Part → List ℕ → Type 0
IsPart quotes (Plain c) rest = ¬ (c ≡ 92) × FitsLine quotes c
IsPart quotes (Escape c v) rest = IsEscape c v
IsPart quotes LoneBackslash rest = (c v : ℕ) → IsEscape c v → ¬ BeginsWith rest (c ∷ [])

-- These parts, none of which begins with the closing quotes, and what stands behind the last.
abbrev pub GoesOn : Quotes → List ℕ → List Part → List ℕ → Type 0
GoesOn quotes cs [] rest = cs ≡ rest
GoesOn quotes cs (part ∷ parts) rest = (more : List ℕ) × (cs ≡ part_text part ++ more) × ¬ BeginsWith cs (quote_text quotes) × IsPart quotes part more × GoesOn quotes more parts rest

-- a string in front of some characters: its quotes, its parts, and what stands behind the closing quotes
abbrev pub SpellsString : List ℕ → Quotes → List Part → List ℕ → Type 0
SpellsString cs quotes parts rest = (inner : List ℕ) × OpensWith cs quotes × (cs ≡ quote_text quotes ++ inner) × GoesOn quotes inner parts (quote_text quotes ++ rest)

-- a string that opens and has no end
abbrev pub IsOpenString : List ℕ → Type 0
IsOpenString cs = ((quotes : Quotes) × OpensWith cs quotes) × ((quotes : Quotes) (parts : List Part) (rest : List ℕ) → ¬ SpellsString cs quotes parts rest)

-- what the parts of a string stand for, where each backslash begins an escape
abbrev pub StandsFor : List Part → List ℕ → Type 0
StandsFor [] value = value ≡ []
StandsFor (Plain c ∷ parts) value = (more : List ℕ) × (value ≡ c ∷ more) × StandsFor parts more
StandsFor (Escape c v ∷ parts) value = (more : List ℕ) × (value ≡ v ∷ more) × StandsFor parts more
StandsFor (LoneBackslash ∷ parts) value = ⊥

-- the characters that write the parts
abbrev pub characters_of : List Part → List ℕ
characters_of [] = []
characters_of (part ∷ parts) = part_text part ++ characters_of parts
