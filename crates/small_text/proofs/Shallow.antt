-- No token of a small text is nested deep: its indent is one, and `print` opens one bracket more.
use Rattle.std.proofs.Common.{◌≡◌, refl, sym, ap, subst, ◌∙◌, ℕ, suc, ◌+◌, ◌≤◌, Bool, true, false, not, ◌&&◌, nat_le, if◌then◌else◌, List, [], ◌∷◌, ◌++◌, length, Option, Some, None, append_assoc, append-nil, arith}
use Rattle.std.proofs.lemmas.Bool.{leb-true, false≢true}
use Rattle.py_tokens.specs.declared.Token.{Token}
use Rattle.py_tokens.specs.declared.TokenForm.{TokenForm}
use Rattle.py_tokens.specs.declared.TokenForm.TheVariants as forms
use Rattle.py_tokens.specs.declared.Keyword.TheVariants as keys
use Rattle.py_tokens.specs.declared.Mark.TheVariants as marks
use Rattle.py_tokens.specs.LineLayout.{token_at}
use Rattle.py_grammar.specs.Nesting.{open_after, ends_operand, is_prefix, Depth, depth_after, depth_of}
use Rattle.py_parser.specs.Depths.{IsNowhereDeep}
use Rattle.small_text.proofs.LineBits.{digits, word, Sum, alone, plus, minus, Said, passes, stores, checks, prints, Row, blank, remark, head, says, Bit, sum_bits, said_bits, at, bits_tokens, line_tokens, body_tokens, small_tokens}
use Rattle.small_text.proofs.PassedTests.{three}
use Rattle.small_text.proofs.SmallTrees.{sum_end}

-- the form is no prefix, where the token before it ends an operand or doesn't
abbrev is_no_prefix : Bool → TokenForm → Bool
is_no_prefix operand (forms.Key keys.Not) = false
is_no_prefix operand (forms.Mark marks.Minus) = operand
is_no_prefix operand f = true

-- with so many open ones, no token is a prefix or nested deeper than 100
abbrev pub is_calm : ℕ → Bool → List Token → Bool
is_calm n operand [] = true
is_calm n operand (k ∷ ts) = is_no_prefix operand k.form && nat_le (open_after n k.form) 100 && is_calm (open_after n k.form) (ends_operand k.form) ts

abbrev opens : Option TokenForm → Bool
opens None = false
opens (Some f) = ends_operand f

never_prefix : (last : Option TokenForm) (f : TokenForm) → is_no_prefix (opens last) f ≡ true → is_prefix last f ≡ false
never_prefix last (forms.Key keys.Not) h = absurd (false≢true h)
never_prefix None (forms.Mark marks.Minus) h = absurd (false≢true h)
never_prefix (Some (forms.Key keys.Is)) (forms.Mark marks.Minus) h = ap not h
never_prefix (Some f) (forms.Mark marks.Minus) h = ap not h
never_prefix None f h = refl
never_prefix (Some (forms.Key keys.Is)) f h = refl
never_prefix (Some g) f h = refl

abbrev standing : ℕ → Option TokenForm → Depth
standing n last = record { open_ones = n; prefixes = 0; last = last }

abbrev depth_at : Depth → Token → ℕ
depth_at d k = open_after d.open_ones k.form + d.prefixes

steps : (n : ℕ) (last : Option TokenForm) (f : TokenForm) → is_no_prefix (opens last) f ≡ true → depth_after (standing n last) f ≡ standing (open_after n f) (Some f)
steps n last f h = ap (λ (b : Bool). record { open_ones = open_after n f; prefixes = if b then suc 0 else 0; last = Some f }) (never_prefix last f h)

calm_below : (front behind : List Token) (k : Token) (n : ℕ) (last : Option TokenForm) → is_calm n (opens last) (front ++ k ∷ behind) ≡ true → depth_at (depth_of (standing n last) front) k ≤ 100
calm_below [] behind k n last h =
    let parts = three (is_no_prefix (opens last) k.form) (nat_le (open_after n k.form) 100) (is_calm (open_after n k.form) (ends_operand k.form) behind) h in
    let below : open_after n k.form ≤ 100 = leb-true (open_after n k.form) 100 parts.1 in
    omega (arith, below)
calm_below (j ∷ front) behind k n last h =
    let parts = three (is_no_prefix (opens last) j.form) (nat_le (open_after n j.form) 100) (is_calm (open_after n j.form) (ends_operand j.form) (front ++ k ∷ behind)) h in
    let more = calm_below front behind k (open_after n j.form) (Some j.form) parts.2 in
    subst (λ d. depth_at (depth_of d front) k ≤ 100) (sym (steps n last j.form parts.0)) more

nowhere_deep : (ts : List Token) → is_calm 0 false ts ≡ true → IsNowhereDeep 100 ts
nowhere_deep ts h front behind k is = calm_below front behind k 0 None (ap (is_calm 0 false) (sym is) ∙ h)

once : (b c : Bool) → b ≡ true → (b && c) ≡ c
once b c h = ap (λ x. x && c) h

thrice : (b c : Bool) → b ≡ true → (b && (b && (b && c))) ≡ c
thrice b c h = ap (λ x. x && (x && (x && c))) h

calm_sum : (n : ℕ) (o : Bool) (line col : ℕ) (x : Sum) (bs : List Bit) (more rest : List Token) → nat_le n 100 ≡ true → is_calm n o (bits_tokens line col (sum_bits x ++ bs) ++ more ++ rest) ≡ is_calm n true (bits_tokens line (sum_end col x) bs ++ more ++ rest)
calm_sum n o line col (alone (digits ds)) bs more rest h = once (nat_le n 100) _ h
calm_sum n o line col (alone (word w)) bs more rest h = once (nat_le n 100) _ h
calm_sum n o line col (plus (digits ds) (digits es)) bs more rest h = thrice (nat_le n 100) _ h
calm_sum n o line col (plus (digits ds) (word v)) bs more rest h = thrice (nat_le n 100) _ h
calm_sum n o line col (plus (word w) (digits es)) bs more rest h = thrice (nat_le n 100) _ h
calm_sum n o line col (plus (word w) (word v)) bs more rest h = thrice (nat_le n 100) _ h
calm_sum n o line col (minus (digits ds) (digits es)) bs more rest h = thrice (nat_le n 100) _ h
calm_sum n o line col (minus (digits ds) (word v)) bs more rest h = thrice (nat_le n 100) _ h
calm_sum n o line col (minus (word w) (digits es)) bs more rest h = thrice (nat_le n 100) _ h
calm_sum n o line col (minus (word w) (word v)) bs more rest h = thrice (nat_le n 100) _ h

-- a sum that ends its line
calm_last : (n : ℕ) (o : Bool) (line col : ℕ) (x : Sum) (more rest : List Token) → nat_le n 100 ≡ true → is_calm n o (bits_tokens line col (sum_bits x) ++ more ++ rest) ≡ is_calm n true (more ++ rest)
calm_last n o line col x more rest h = ap (λ bs. is_calm n o (bits_tokens line col bs ++ more ++ rest)) (sym (append-nil (sum_bits x))) ∙ calm_sum n o line col x [] more rest h

calm_said : (o : Bool) (line : ℕ) (x : Said) (rest : List Token) → is_calm 1 o (line_tokens line 5 (said_bits x) ++ rest) ≡ is_calm 1 false rest
calm_said o line passes rest = refl
calm_said o line (stores n x) rest = calm_last 1 false line (5 + length n + 1 + 1 + 1) x _ rest refl
calm_said o line (checks a b) rest = calm_sum 1 false line 12 a _ _ rest refl ∙ calm_last 1 false line (sum_end 12 a + 1 + 2 + 1) b _ rest refl
calm_said o line (prints x) rest = calm_sum 2 false line 11 x _ _ rest refl

calm_more : (line : ℕ) (rows : List Row) (rest : List Token) → is_calm 1 false (body_tokens line true rows ++ rest) ≡ is_calm 1 false rest
calm_more line [] rest = refl
calm_more line (says x ∷ rows) rest = ap (is_calm 1 false) (append_assoc (line_tokens line 5 (said_bits x)) (body_tokens (line + 1) true rows) rest) ∙ calm_said false line x (body_tokens (line + 1) true rows ++ rest) ∙ calm_more (line + 1) rows rest
calm_more line (blank n ∷ rows) rest = calm_more (line + 1) rows rest
calm_more line (remark n text ∷ rows) rest = calm_more (line + 1) rows rest
calm_more line (head ∷ rows) rest = calm_more (line + 1) rows rest

-- the lines behind the head, where those behind them are calm
calm_body : (line : ℕ) (rows : List Row) (rest : List Token) → is_calm 0 false rest ≡ true → is_calm 1 false rest ≡ true → is_calm 0 false (body_tokens line false rows ++ rest) ≡ true
calm_body line [] rest shallow deeper = shallow
calm_body line (says x ∷ rows) rest shallow deeper = ap (is_calm 1 false) (append_assoc (line_tokens line 5 (said_bits x)) (body_tokens (line + 1) true rows) rest) ∙ calm_said false line x (body_tokens (line + 1) true rows ++ rest) ∙ calm_more (line + 1) rows rest ∙ deeper
calm_body line (blank n ∷ rows) rest shallow deeper = calm_body (line + 1) rows rest shallow deeper
calm_body line (remark n text ∷ rows) rest shallow deeper = calm_body (line + 1) rows rest shallow deeper
calm_body line (head ∷ rows) rest shallow deeper = calm_body (line + 1) rows rest shallow deeper

pub shallow : (line : ℕ) (rows : List Row) → IsNowhereDeep 100 (small_tokens line rows)
shallow line rows =
    let rest : List Token = token_at (at (line + 1 + length rows) 1) forms.Dedent ∷ token_at (at (line + 1 + length rows) 1) forms.End ∷ [] in
    nowhere_deep (small_tokens line rows) (calm_body (line + 1) rows rest refl refl)
