-- The bits of a line of a small text are pieces, each in front of what follows it.
use Rattle.std.specs.Prelude.{codes, IsTrue, ⊤}
use Rattle.std.specs.List.{list_all, list_any}
use Rattle.std.proofs.Common.{ℕ, zero, suc, ◌≡◌, ◌||◌, ◌==◌, not, Bool, true, false, arith, refl, sym, ap, ◌∙◌, subst, List, [], ◌∷◌, ◌++◌, append_assoc, replicate, ne_eqb}
use Rattle.py_base.specs.declared.Place.{Place}
use Rattle.py_tokens.specs.declared.piece.Shape.TheVariants as shapes
use Rattle.py_tokens.specs.declared.token.TokenForm.TheVariants as forms
use Rattle.py_tokens.specs.declared.token.Keyword.{Keyword}
use Rattle.py_tokens.specs.declared.token.Keyword.TheVariants as keys
use Rattle.py_tokens.specs.declared.token.Mark.{Mark}
use Rattle.py_tokens.specs.declared.token.Mark.TheVariants as marks
use Rattle.py_tokens.specs.MarkForms.{mark_text}
use Rattle.py_tokens.specs.WordForms.{keyword_text}
use Rattle.py_tokens.specs.TextPieces.{IsPiece, IsWord, a_mark, a_space, a_comment}
use Rattle.unicode_ident.proofs.Computing.{unicode_ident}
use Rattle.small_text.specs.TextLines.{is_printable}
use Rattle.small_text.specs.SmallForms.{is_name}
use Rattle.small_text.proofs.LineBits.{Operand, digits, word, Sum, alone, plus, minus, Said, passes, stores, checks, prints, Row, blank, remark, head, says, Bit, bit, space, mark, operand_bit, sum_bits, said_bits, head_bits, row_bits, bits_text}
use Rattle.small_text.proofs.SmallRows.{IsOperand, IsSum, IsSaid, IsRow}
use Rattle.small_text.proofs.PassedTests.{all_weaker, bounds}
use Rattle.small_text.proofs.LongestFronts.{breaks, ends_line, marked, longest_comment, longest_closed_mark, longest_open_mark}
use Rattle.small_text.proofs.SmallNumbers.{number_piece, digits_are_printable}
use Rattle.small_text.proofs.SmallWords.{name_piece, name_is_printable, print_piece, main_piece, keyword_piece}

-- the bit is a piece in front of the rest, within a line
pub record Fits (b : Bit) (rest : List ℕ) : Type 0 where
  pub piece : (p : Place) → IsPiece p b.text rest b.shape
  pub printable : list_all is_printable b.text ≡ true

-- each of the bits fits in front of those behind it and of the rest
abbrev pub AllFit : List Bit → List ℕ → Type 0
AllFit [] rest = ⊤
AllFit (b ∷ bs) rest = Fits b (bits_text bs ++ rest) × AllFit bs rest

pub bits_text-append : (xs ys : List Bit) → bits_text (xs ++ ys) ≡ bits_text xs ++ bits_text ys
bits_text-append [] ys = refl
bits_text-append (x ∷ xs) ys = ap (λ t. x.text ++ t) (bits_text-append xs ys) ∙ sym (append_assoc x.text (bits_text xs) (bits_text ys))

fit_both : (xs ys : List Bit) (rest : List ℕ) → AllFit xs (bits_text ys ++ rest) → AllFit ys rest → AllFit (xs ++ ys) rest
fit_both [] ys rest h k = k
fit_both (x ∷ xs) ys rest (f, h) k =
    let e : bits_text xs ++ (bits_text ys ++ rest) ≡ bits_text (xs ++ ys) ++ rest = sym (append_assoc (bits_text xs) (bits_text ys) rest) ∙ ap (λ t. t ++ rest) (sym (bits_text-append xs ys)) in
    (subst (Fits x) e f, fit_both xs ys rest h k)

-- bits that fit in front of anything

space_fits : (rest : List ℕ) → Fits space rest
space_fits rest = record { piece = λ p. a_space refl; printable = refl }

closed_fits : (m : Mark) (rest : List ℕ) → ((d : ℕ) (more : List ℕ) → marked (mark_text m ++ d ∷ more) ≡ false) → list_all is_printable (mark_text m) ≡ true → Fits (mark m (mark_text m)) rest
closed_fits m rest n h = record { piece = λ p. a_mark m (longest_closed_mark m rest n) refl; printable = h }

equal_fits : (rest : List ℕ) → Fits (mark marks.Equal (codes "==")) rest
equal_fits rest = closed_fits marks.Equal rest (λ d more. refl) refl

arrow_fits : (rest : List ℕ) → Fits (mark marks.Arrow (codes "->")) rest
arrow_fits rest = closed_fits marks.Arrow rest (λ d more. refl) refl

opening_fits : (rest : List ℕ) → Fits (mark marks.OpenParen (codes "(")) rest
opening_fits rest = closed_fits marks.OpenParen rest (λ d more. refl) refl

closing_fits : (rest : List ℕ) → Fits (mark marks.CloseParen (codes ")")) rest
closing_fits rest = closed_fits marks.CloseParen rest (λ d more. refl) refl

colon_fits : (rest : List ℕ) → Fits (mark marks.Colon (codes ":")) rest
colon_fits rest = closed_fits marks.Colon rest (λ d more. refl) refl

-- bits that fit in front of a break

open_fits : (m : Mark) (c : ℕ) (rest : List ℕ) → mark_text m ≡ c ∷ [] → list_all is_printable (mark_text m) ≡ true → breaks rest ≡ true → Fits (mark m (mark_text m)) rest
open_fits m c rest e h b = record { piece = λ p. a_mark m (longest_open_mark m c rest e b) refl; printable = h }

keyword_fits : (k : Keyword) (rest : List ℕ) → IsWord (keyword_text k) → list_all is_printable (keyword_text k) ≡ true → breaks rest ≡ true → Fits (bit (shapes.Whole (forms.Key k)) (keyword_text k)) rest
keyword_fits k rest w h b = record { piece = λ p. keyword_piece p k rest w b; printable = h }

name_fits : (w rest : List ℕ) → IsTrue (is_name w) → breaks rest ≡ true → Fits (bit (shapes.Whole (forms.Name w)) w) rest
name_fits w rest h b = record { piece = λ p. name_piece p w rest h b; printable = name_is_printable w h }

operand_fits : (x : Operand) (rest : List ℕ) → IsOperand x → breaks rest ≡ true → Fits (operand_bit x) rest
operand_fits (digits ds) rest h b = record { piece = λ p. number_piece p ds rest h b; printable = digits_are_printable ds h }
operand_fits (word w) rest h b = name_fits w rest h b

sum_fits : (e : Sum) (rest : List ℕ) → IsSum e → breaks rest ≡ true → AllFit (sum_bits e) rest
sum_fits (alone x) rest h b = (operand_fits x rest h b, tt)
sum_fits (plus x y) rest (h, k) b = (operand_fits x _ h refl, (space_fits _, (open_fits marks.Plus 43 _ refl refl refl, (space_fits _, (operand_fits y rest k b, tt)))))
sum_fits (minus x y) rest (h, k) b = (operand_fits x _ h refl, (space_fits _, (open_fits marks.Minus 45 _ refl refl refl, (space_fits _, (operand_fits y rest k b, tt)))))

said_fits : (s : Said) (rest : List ℕ) → IsSaid s → breaks rest ≡ true → AllFit (said_bits s) rest
unfolding unicode_ident
said_fits passes rest h b = (keyword_fits keys.Pass rest refl refl b, tt)
said_fits (stores n e) rest (h, k) b = (name_fits n _ h refl, (space_fits _, (open_fits marks.Assign 61 _ refl refl refl, (space_fits _, sum_fits e rest k b))))
said_fits (checks x y) rest (h, k) b = (keyword_fits keys.Assert _ refl refl refl, (space_fits _, fit_both (sum_bits x) (space ∷ mark marks.Equal (codes "==") ∷ space ∷ sum_bits y) rest (sum_fits x _ h refl) (space_fits _, (equal_fits _, (space_fits _, sum_fits y rest k b)))))
said_fits (prints e) rest h b = (record { piece = λ p. print_piece p _ refl; printable = refl }, (opening_fits _, fit_both (sum_bits e) (mark marks.CloseParen (codes ")") ∷ []) rest (sum_fits e _ h refl) (closing_fits rest, tt)))

head_fits : (rest : List ℕ) → AllFit head_bits rest
unfolding unicode_ident
head_fits rest = (keyword_fits keys.Def _ refl refl refl, (space_fits _, (record { piece = λ p. main_piece p _ refl; printable = refl }, (opening_fits _, (closing_fits _, (space_fits _, (arrow_fits _, (space_fits _, (keyword_fits keys.None _ refl refl refl, (colon_fits rest, tt))))))))))

spaces_fit : (n : ℕ) (rest : List ℕ) → AllFit (replicate n space) rest
spaces_fit zero rest = tt
spaces_fit (suc n) rest = (space_fits _, spaces_fit n rest)

printable_in_line : (c : ℕ) → is_printable c ≡ true → not (c == 10) ≡ true
printable_in_line c h =
    let (from, to) = bounds 32 126 c h in
    ap not (ne_eqb c 10 (λ e. omega arith))

comment_fits : (text rest : List ℕ) → list_all is_printable text ≡ true → ends_line rest ≡ true → Fits (bit shapes.Comment (35 ∷ text)) rest
comment_fits text rest h s = record { piece = λ p. a_comment (longest_comment text rest (all_weaker is_printable (λ c. not (c == 10)) printable_in_line text h) s); printable = h }

line_end : (b others : Bool) → not (not b) ≡ true → (b || others) ≡ true
line_end true others h = refl
line_end false others h = cc

breaks_too : (rest : List ℕ) → ends_line rest ≡ true → breaks rest ≡ true
breaks_too [] h = refl
breaks_too (c ∷ rest) h = line_end (c == 10) (list_any (λ d. c == d) (32 ∷ 40 ∷ 41 ∷ 58 ∷ [])) h

pub row_fits : (r : Row) (rest : List ℕ) → IsRow r → ends_line rest ≡ true → AllFit (row_bits r) rest
row_fits (blank n) rest h s = spaces_fit n rest
row_fits (remark n text) rest h s = fit_both (replicate n space) (bit shapes.Comment (35 ∷ text) ∷ []) rest (spaces_fit n _) (comment_fits text rest h s, tt)
row_fits head rest h s = head_fits rest
row_fits (says x) rest h s = (space_fits _, (space_fits _, (space_fits _, (space_fits _, said_fits x rest h (breaks_too rest s)))))
