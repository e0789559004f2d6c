-- The schedule text: what each of its lines says, which schedule it reads as, and its first line that isn't of the form.
use Rattle.std.specs.Prelude.{◌≡◌, ◌≢◌, ◌<◌, ◌≤◌, ◌+◌, ◌^◌, ℕ, zero, suc, List, [], ◌∷◌, ◌++◌, sum_by, codes, slice_get, Option, Some, None, Result, Ok, Err}
use Rattle.std.specs.Str.{IsUtf8}
use Rattle.std.specs.Str.Lines.{lines}
use Rattle.std.specs.Fmt.{decimal}
use Rattle.schedule_runner.specs.declared.schedule.ScheduleLine.{ScheduleLine}
use Rattle.schedule_runner.specs.declared.schedule.ScheduleLine.TheVariants.{Give, Fair}

-- The lines of a text. Each ends in LF or CR LF, which may be missing at the last; a CR that no LF follows belongs to its line.
abbrev pub lines_of : List ℕ → List (List ℕ)
lines_of text = lines text

-- A number is decimal, without zeros in front, and has at most 18 digits.
pub record IsNumber (bytes : List ℕ) (n : ℕ) : Type 0 where
  pub written : bytes ≡ decimal n
  pub short : n < 10 ^ 18

-- A count is a number from 1 on.
pub record IsCount (bytes : List ℕ) (k : ℕ) : Type 0 where
  pub number : IsNumber bytes k
  pub some : 1 ≤ k

-- `N K`: thread N gets K steps
pub record IsGive (line : List ℕ) (n k : ℕ) : Type 0 where
  pub thread : List ℕ
  pub count : List ℕ
  pub whole : line ≡ thread ++ codes " " ++ count
  pub is_thread : IsNumber thread n
  pub is_count : IsCount count k

-- `fair K`: K steps go round
pub record IsFair (line : List ℕ) (k : ℕ) : Type 0 where
  pub count : List ℕ
  pub whole : line ≡ codes "fair " ++ count
  pub is_count : IsCount count k

-- A comment begins with `#`, and is UTF-8 as the whole text is.
pub record IsComment (line : List ℕ) : Type 0 where
  pub text : List ℕ
  pub whole : line ≡ codes "#" ++ text
  pub utf8 : IsUtf8 line

-- What a line behind the first says, if it says anything.
pub data IsLine (line : List ℕ) (says : Option ScheduleLine) : Type 0 where
  empty : line ≡ [] → says ≡ None → IsLine line says
  comment : IsComment line → says ≡ None → IsLine line says
  give : (n k : ℕ) → IsGive line n k → says ≡ Some (Give n k) → IsLine line says
  fair : (k : ℕ) → IsFair line k → says ≡ Some (Fair k) → IsLine line says

-- what a line says, in front of what later lines say
abbrev pub with_line : Option ScheduleLine → List ScheduleLine → List ScheduleLine
with_line None all = all
with_line (Some said) all = said ∷ all

-- These lines say all this.
abbrev pub LinesSay : List (List ℕ) → List ScheduleLine → Type 0
LinesSay [] all = all ≡ []
LinesSay (line ∷ more) all = (says : Option ScheduleLine) × (later : List ScheduleLine) × IsLine line says × LinesSay more later × (all ≡ with_line says later)

-- the first line of each schedule text
abbrev pub head : List ℕ
head = codes "schedule 1"

-- The text reads as this schedule.
abbrev pub ReadsAs : List ℕ → List ScheduleLine → Type 0
ReadsAs text all = (more : List (List ℕ)) × (lines_of text ≡ head ∷ more) × LinesSay more all

-- Line i, the first being 0, isn't of the form. The first has to be there.
abbrev pub IsBad : List (List ℕ) → ℕ → Type 0
IsBad all zero = slice_get all 0 ≢ Some head
IsBad all (suc i) = (line : List ℕ) × (slice_get all (suc i) ≡ Some line) × ((says : Option ScheduleLine) → ¬ IsLine line says)

-- Line n, the first being 1, is the first that isn't of the form.
pub record IsFirstBad (text : List ℕ) (n : ℕ) : Type 0 where
  pub index : ℕ
  pub is : n ≡ index + 1
  pub bad : IsBad (lines_of text) index
  pub first : (j : ℕ) → j < index → ¬ IsBad (lines_of text) j

abbrev pub count_in : ScheduleLine → ℕ
count_in (Give n k) = k
count_in (Fair k) = k

-- how many steps a schedule has
abbrev pub steps_of : List ScheduleLine → ℕ
steps_of all = sum_by count_in all
