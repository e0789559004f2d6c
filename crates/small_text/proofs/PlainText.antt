-- A text of ASCII without CR is its own characters, and within a line each character takes one column.
use Rattle.std.specs.Prelude.{nat_lt}
use Rattle.std.specs.List.{list_all}
use Rattle.std.specs.Str.{IsUtf8, IsAscii}
use Rattle.std.proofs.Common.{ℕ, zero, suc, ◌≡◌, ◌<◌, ◌+◌, ◌==◌, ◌&&◌, not, Bool, true, false, cond, arith, tests, refl, ap, ◌∙◌, List, [], ◌∷◌, length, lit<, ne_eqb}
use Rattle.std.proofs.lemmas.Bool.{and_parts, and_from, not-true}
use Rattle.std.proofs.lemmas.Str.{IsUtf8-from_ascii, chars-IsAscii}
use Rattle.py_tokens.specs.PlacedText.{without_order_mark, with_line_ends, begins_with_lf, text_characters, after, after_one}
use Rattle.small_text.specs.TextLines.{is_printable}
use Rattle.small_text.proofs.PassedTests.{bounds}
use Rattle.small_text.proofs.LineBits.{at}

-- ASCII without CR
abbrev pub is_plain : ℕ → Bool
is_plain c = nat_lt c 128 && not (c == 13)

pub printable_is_plain : (c : ℕ) → is_printable c ≡ true → is_plain c ≡ true
printable_is_plain c h =
    let (from, to) = bounds 32 126 c h in
    and_from (nat_lt c 128) (not (c == 13)) (grind (arith, tests)) (ap not (ne_eqb c 13 (λ e. omega arith)))

plain_bound : (c : ℕ) → is_plain c ≡ true → (c < 128) × ((c == 13) ≡ false)
plain_bound c h =
    let (low, no_return) = and_parts (nat_lt c 128) (not (c == 13)) h in
    (omega (arith, tests, low), not-true (c == 13) no_return)

pub plain_is_ascii : (cs : List ℕ) → list_all is_plain cs ≡ true → IsAscii cs
plain_is_ascii [] h i = lit< tt
plain_is_ascii (c ∷ cs) h zero = (plain_bound c (and_parts (is_plain c) (list_all is_plain cs) h).0).0
plain_is_ascii (c ∷ cs) h (suc i) = plain_is_ascii cs (and_parts (is_plain c) (list_all is_plain cs) h).1 i

no_mark : (cs : List ℕ) → list_all is_plain cs ≡ true → without_order_mark cs ≡ cs
no_mark [] h = refl
no_mark (c ∷ cs) h =
    let (low, no_return) = plain_bound c (and_parts (is_plain c) (list_all is_plain cs) h).0 in
    ap (λ b. cond b cs (c ∷ cs)) (ne_eqb c 65279 (λ e. omega arith))

same_ends : (cs : List ℕ) → list_all is_plain cs ≡ true → with_line_ends cs ≡ cs
same_ends [] h = refl
same_ends (c ∷ cs) h =
    let (first, more) = and_parts (is_plain c) (list_all is_plain cs) h in
    ap (λ b. cond b (cond (begins_with_lf cs) (with_line_ends cs) (10 ∷ with_line_ends cs)) (c ∷ with_line_ends cs)) (plain_bound c first).1 ∙ ap (λ t. c ∷ t) (same_ends cs more)

pub plain_is_utf8 : (cs : List ℕ) → list_all is_plain cs ≡ true → IsUtf8 cs
plain_is_utf8 cs h = IsUtf8-from_ascii cs (plain_is_ascii cs h)

pub own_characters : (cs : List ℕ) → list_all is_plain cs ≡ true → text_characters cs ≡ cs
own_characters cs h =
    ap (λ (t : List ℕ). with_line_ends (without_order_mark t)) (chars-IsAscii cs (plain_is_ascii cs h)) ∙ ap with_line_ends (no_mark cs h) ∙ same_ends cs h

after_one_printable : (c line col : ℕ) → is_printable c ≡ true → after_one (at line col) c ≡ at line (col + 1)
after_one_printable c line col h =
    let (from, to) = bounds 32 126 c h in
    ap (λ b. cond b (at (line + 1) 1) (at line (col + 1))) (ne_eqb c 10 (λ e. omega arith))

pub after_printable : (cs : List ℕ) (line col : ℕ) → list_all is_printable cs ≡ true → after (at line col) cs ≡ at line (col + length cs)
after_printable [] line col h = ap (at line) (omega arith)
after_printable (c ∷ cs) line col h =
    let (first, more) = and_parts (is_printable c) (list_all is_printable cs) h in
    let step : col + 1 + length cs ≡ col + suc (length cs) = omega arith in
    ap (λ p. after p cs) (after_one_printable c line col first) ∙ after_printable cs line (col + 1) more ∙ ap (at line) step
