-- The lines that the program writes. Each ends with LF, and numbers are decimal.
use Rattle.std.specs.Prelude.{ℕ, List, [], ◌∷◌, ◌++◌, flat_map, codes}
use Rattle.std.specs.Fmt.{decimal}
use Rattle.py_base.specs.declared.Place.{Place}
use Rattle.py_base.specs.declared.Kind.{Kind}
use Rattle.py_base.specs.Kinds.{number_of, name_of}

abbrev pub line_end : List ℕ
line_end = 10 ∷ []

-- a place, and what follows on its line
abbrev pub place_then : Place → List ℕ → List ℕ
place_then place rest = decimal place.line ++ (codes ":" ++ (decimal place.col ++ rest))

abbrev pub usage_line : List ℕ
usage_line = codes "usage: nagini check FILE | run FILE SCHEDULE" ++ line_end

abbrev pub limit_line : List ℕ → List ℕ
limit_line name = codes "limit " ++ (name ++ line_end)

abbrev pub read_fault_line : List ℕ → List ℕ
read_fault_line name = codes "read fault " ++ (name ++ line_end)

abbrev pub refusal_line : List ℕ → Place → List ℕ
refusal_line name place = codes "refused " ++ (name ++ (codes " " ++ place_then place line_end))

-- a typing rule is broken, which has this number
abbrev pub mistyped_line : Place → ℕ → List ℕ
mistyped_line place rule = codes "refused Mistyped " ++ place_then place (codes " rule " ++ (decimal rule ++ line_end))

-- so many functions are proved
abbrev pub accepted_line : ℕ → List ℕ
accepted_line count = codes "accepted " ++ (decimal count ++ line_end)

-- a fault at a place in a function
abbrev pub fault_line : Place → Kind → List ℕ → List ℕ
fault_line place kind method = place_then place (codes " " ++ (decimal (number_of kind) ++ (codes " " ++ (name_of kind ++ (codes " " ++ (method ++ line_end))))))

-- so many lines of faults stand before
abbrev pub not_proved_line : ℕ → List ℕ
not_proved_line count = codes "not proved " ++ (decimal count ++ line_end)

-- this line of a schedule isn't of the form
abbrev pub bad_schedule_line : ℕ → List ℕ
bad_schedule_line n = codes "refused BadSchedule line " ++ (decimal n ++ line_end)

-- a test of this kind failed at a place in a thread
abbrev pub stopped_line : Kind → Place → ℕ → List ℕ
stopped_line kind place thread = codes "stopped " ++ (decimal (number_of kind) ++ (codes " " ++ (name_of kind ++ (codes " " ++ place_then place (codes " thread " ++ (decimal thread ++ line_end))))))

-- a number behind a space
abbrev pub spaced : ℕ → List ℕ
spaced n = codes " " ++ decimal n

-- a front, and numbers each behind a space
abbrev pub numbers_line : List ℕ → List ℕ → List ℕ
numbers_line front numbers = front ++ (flat_map spaced numbers ++ line_end)

abbrev pub stuck_line : List ℕ → List ℕ
stuck_line threads = numbers_line (codes "stopped stuck threads") threads

abbrev pub spent_line : List ℕ → List ℕ
spent_line threads = numbers_line (codes "spent") threads

-- the expression at this place computes a number of more than 128 bits
abbrev pub too_large_line : Place → List ℕ
too_large_line place = codes "too large " ++ place_then place line_end
