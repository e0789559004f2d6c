-- No line of a small text has many tokens.
use Rattle.std.proofs.Common.{sym, subst, ℕ, suc, ◌+◌, ◌≤◌, Bool, true, false, if◌then◌else◌, List, [], ◌∷◌, ◌++◌, length, length-append, append_assoc, codes, arith}
use Rattle.py_base.specs.declared.Place.{Place}
use Rattle.py_tokens.specs.declared.Shape.{Shape}
use Rattle.py_tokens.specs.declared.Shape.TheVariants as shapes
use Rattle.py_tokens.specs.declared.Token.{Token}
use Rattle.py_tokens.specs.declared.TokenForm.TheVariants as forms
use Rattle.py_tokens.specs.declared.Mark.TheVariants as marks
use Rattle.py_tokens.specs.LineLayout.{token_at}
use Rattle.py_parser.specs.Limits.{is_counted, ends_line, line_length, HasLongLine}
use Rattle.small_text.proofs.LineBits.{Sum, alone, plus, minus, Said, passes, stores, checks, prints, Row, blank, remark, head, says, Bit, space, mark, sum_bits, said_bits, head_bits, bits_text, at, shape_tokens, bits_tokens, line_tokens, body_tokens, small_tokens}

-- from each token on, few are in its line
AreShort : List Token → Type 0
AreShort [] = Unit {0}
AreShort (k ∷ ts) = (line_length (k ∷ ts) ≤ 2000) × AreShort ts

no_suffix_long : (before after : List Token) → AreShort (before ++ after) → line_length after ≤ 2000
unfolding AreShort
no_suffix_long [] [] h = omega arith
no_suffix_long [] (k ∷ after) h = h.0
no_suffix_long (j ∷ before) after h = no_suffix_long before after h.1

no_long_line : (ts : List Token) → AreShort ts → HasLongLine 2000 ts → ⊥
no_long_line ts short (before, after, is, long) =
    let below : line_length after ≤ 2000 = no_suffix_long before after (subst AreShort is short) in
    omega (arith, below, long)

counted : (ends counts : Bool) (n m : ℕ) → n ≤ m + 1 → (if ends then 1 else (if counts then suc n else n)) ≤ suc m + 1
counted true counts n m h = omega arith
counted false true n m h = omega (arith, h)
counted false false n m h = omega (arith, h)

line_below : (ts : List Token) (p : Place) (rest : List Token) → line_length (ts ++ token_at p forms.Newline ∷ rest) ≤ length ts + 1
line_below [] p rest = omega arith
line_below (k ∷ ts) p rest = counted (ends_line k.form) (is_counted k.form) (line_length (ts ++ token_at p forms.Newline ∷ rest)) (length ts) (line_below ts p rest)

short_line : (ts : List Token) (p : Place) (rest : List Token) → length ts ≤ 1999 → AreShort rest → AreShort (ts ++ token_at p forms.Newline ∷ rest)
unfolding AreShort
short_line [] p rest few h = (omega arith, h)
short_line (k ∷ ts) p rest few h =
    let below : line_length (k ∷ ts ++ token_at p forms.Newline ∷ rest) ≤ length (k ∷ ts) + 1 = line_below (k ∷ ts) p rest in
    (omega (arith, below, few), short_line ts p rest (omega (arith, few)) h)

one_token : (p q : Place) (s : Shape) (rest : List Token) → length (shape_tokens p q s ++ rest) ≤ suc (length rest)
one_token p q (shapes.Whole f) rest = omega arith
one_token p q s rest = omega arith

few_tokens : (line col : ℕ) (bs : List Bit) → length (bits_tokens line col bs) ≤ length bs
few_tokens line col [] = omega arith
few_tokens line col (b ∷ bs) = omega (arith, one_token (at line col) (at line (col + length b.text)) b.shape (bits_tokens line (col + length b.text) bs), few_tokens line (col + length b.text) bs)

few_in_sum : (x : Sum) → length (sum_bits x) ≤ 5
few_in_sum (alone x) = omega arith
few_in_sum (plus x y) = omega arith
few_in_sum (minus x y) = omega arith

few_bits : (x : Said) → length (said_bits x) ≤ 20
few_bits passes = omega arith
few_bits (stores n x) = omega (arith, few_in_sum x)
few_bits (checks a b) = omega (arith, few_in_sum a, few_in_sum b, length-append (sum_bits a) (space ∷ mark marks.Equal (codes "==") ∷ space ∷ sum_bits b))
few_bits (prints x) = omega (arith, few_in_sum x, length-append (sum_bits x) (mark marks.CloseParen (codes ")") ∷ []))

said_short : (line : ℕ) (x : Said) (rest : List Token) → AreShort rest → AreShort (line_tokens line 5 (said_bits x) ++ rest)
said_short line x rest h =
    let ts : List Token = bits_tokens line 5 (said_bits x) in
    let p : Place = at line (5 + length (bits_text (said_bits x))) in
    subst AreShort (sym (append_assoc ts (token_at p forms.Newline ∷ []) rest)) (short_line ts p rest (omega (arith, few_tokens line 5 (said_bits x), few_bits x)) h)

-- with the INDENT in front
first_short : (line : ℕ) (q : Place) (x : Said) (rest : List Token) → AreShort rest → AreShort (token_at q forms.Indent ∷ (line_tokens line 5 (said_bits x) ++ rest))
first_short line q x rest h =
    let ts : List Token = bits_tokens line 5 (said_bits x) in
    let p : Place = at line (5 + length (bits_text (said_bits x))) in
    subst (λ us. AreShort (token_at q forms.Indent ∷ us)) (sym (append_assoc ts (token_at p forms.Newline ∷ []) rest)) (short_line (token_at q forms.Indent ∷ ts) p rest (omega (arith, few_tokens line 5 (said_bits x), few_bits x)) h)

more_short : (line : ℕ) (rows : List Row) (rest : List Token) → AreShort rest → AreShort (body_tokens line true rows ++ rest)
more_short line [] rest h = h
more_short line (says x ∷ rows) rest h = subst AreShort (sym (append_assoc (line_tokens line 5 (said_bits x)) (body_tokens (line + 1) true rows) rest)) (said_short line x (body_tokens (line + 1) true rows ++ rest) (more_short (line + 1) rows rest h))
more_short line (blank n ∷ rows) rest h = more_short (line + 1) rows rest h
more_short line (remark n text ∷ rows) rest h = more_short (line + 1) rows rest h
more_short line (head ∷ rows) rest h = more_short (line + 1) rows rest h

body_short : (line : ℕ) (rows : List Row) (rest : List Token) → AreShort rest → AreShort (body_tokens line false rows ++ rest)
body_short line [] rest h = h
body_short line (says x ∷ rows) rest h =
    subst (λ ts. AreShort (token_at (at line 5) forms.Indent ∷ ts)) (sym (append_assoc (line_tokens line 5 (said_bits x)) (body_tokens (line + 1) true rows) rest))
    (first_short line (at line 5) x (body_tokens (line + 1) true rows ++ rest) (more_short (line + 1) rows rest h))
body_short line (blank n ∷ rows) rest h = body_short (line + 1) rows rest h
body_short line (remark n text ∷ rows) rest h = body_short (line + 1) rows rest h
body_short line (head ∷ rows) rest h = body_short (line + 1) rows rest h

-- what stands behind the last line
end_short : (p : Place) → AreShort (token_at p forms.Dedent ∷ token_at p forms.End ∷ [])
unfolding AreShort
end_short p = (omega arith, (omega arith, tt))

pub no_long_lines : (line : ℕ) (rows : List Row) → HasLongLine 2000 (small_tokens line rows) → ⊥
no_long_lines line rows =
    let p : Place = at (line + 1 + length rows) 1 in
    let ts : List Token = bits_tokens line 1 head_bits in
    let rest : List Token = body_tokens (line + 1) false rows ++ token_at p forms.Dedent ∷ token_at p forms.End ∷ [] in
    let few : length ts ≤ 1999 = omega arith in
    no_long_line (small_tokens line rows) (short_line ts (at line 20) rest few (body_short (line + 1) rows (token_at p forms.Dedent ∷ token_at p forms.End ∷ []) (end_short p)))
