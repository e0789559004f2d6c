-- Rows that small texts have.
use Rattle.std.specs.Prelude.{⊤, IsTrue}
use Rattle.std.specs.List.{list_all}
use Rattle.small_text.specs.TextLines.{is_printable}
use Rattle.small_text.specs.SmallForms.{is_number, is_name}
use Rattle.small_text.proofs.LineBits.{Operand, digits, word, Sum, alone, plus, minus, Said, passes, stores, checks, prints, Row, blank, remark, head, says}

abbrev pub IsOperand : Operand → Type 0
IsOperand (digits ds) = IsTrue (is_number ds)
IsOperand (word w) = IsTrue (is_name w)

abbrev pub IsSum : Sum → Type 0
IsSum (alone x) = IsOperand x
IsSum (plus x y) = IsOperand x × IsOperand y
IsSum (minus x y) = IsOperand x × IsOperand y

abbrev pub IsSaid : Said → Type 0
IsSaid passes = ⊤
IsSaid (stores n e) = IsTrue (is_name n) × IsSum e
IsSaid (checks a b) = IsSum a × IsSum b
IsSaid (prints e) = IsSum e

-- a line that is passed over
abbrev pub IsPassed : Row → Type 0
IsPassed (blank n) = ⊤
IsPassed (remark n text) = IsTrue (list_all is_printable text)
IsPassed r = ⊥

-- a line behind the head
abbrev pub IsBody : Row → Type 0
IsBody (says s) = IsSaid s
IsBody r = IsPassed r

-- a line of a small text
abbrev pub IsRow : Row → Type 0
IsRow head = ⊤
IsRow r = IsBody r
