-- Words, numbers, marks and comments are told apart by their first character, and each text has one longest form.
use Rattle.std.proofs.Common.{ℕ, ◌≡◌, ◌<◌, ◌≤◌, ◌==◌, ◌&&◌, ◌||◌, ◌⊎◌, inl, inr, Bool, true, false, cond, arith, refl, sym, ap, ◌∙◌, subst, List, [], ◌∷◌, ◌++◌, append-nil, nat_le, tests, lit<}
use Rattle.std.specs.Char.{is_ascii_alphabetic}
use Rattle.unicode_ident.proofs.IdentLemmas.{is_xid_start-ascii}
use Rattle.py_tokens.specs.declared.token.Keyword.{Keyword}
use Rattle.py_tokens.specs.declared.token.Keyword.TheVariants as keys
use Rattle.py_tokens.specs.declared.token.Mark.{Mark}
use Rattle.py_tokens.specs.declared.token.Mark.TheVariants as marks
use Rattle.py_tokens.specs.WordForms.{begins_word, is_digit, is_word, is_number, is_empty, are_more_digits, keyword_text}
use Rattle.py_tokens.specs.MarkForms.{mark_text}
use Rattle.py_tokens.specs.TextPieces.{Longest}

-- Of two fronts of one text one goes on from the other.
pub fronts : (f g r s : List ℕ) → f ++ r ≡ g ++ s → ((m : List ℕ) × (g ≡ f ++ m) × (r ≡ m ++ s)) ⊎ ((m : List ℕ) × (f ≡ g ++ m) × (s ≡ m ++ r))
fronts [] g r s e = inl (g, refl, e)
fronts (x ∷ f) [] r s e = inr (x ∷ f, refl, sym e)
fronts (x ∷ f) (y ∷ g) r s e =
    let t : f ++ r ≡ g ++ s = cc in
    let h : x ≡ y = cc in
    more (fronts f g r s t) h
  where
    more : ((m : List ℕ) × (g ≡ f ++ m) × (r ≡ m ++ s)) ⊎ ((m : List ℕ) × (f ≡ g ++ m) × (s ≡ m ++ r)) → x ≡ y → ((m : List ℕ) × (y ∷ g ≡ x ∷ f ++ m) × (r ≡ m ++ s)) ⊎ ((m : List ℕ) × (x ∷ f ≡ y ∷ g ++ m) × (s ≡ m ++ r))
    more (inl t) h = let (m, k, l) = t in inl (m, cc, l)
    more (inr t) h = let (m, k, l) = t in inr (m, cc, l)

-- There is one longest front of a form.
pub same_longest : (Has : List ℕ → Type 0) (f g r s : List ℕ) → f ++ r ≡ g ++ s → Longest Has f r → Longest Has g s → (f ≡ g) × (r ≡ s)
same_longest Has f g r s e p q = by (fronts f g r s e)
  where
    by : ((m : List ℕ) × (g ≡ f ++ m) × (r ≡ m ++ s)) ⊎ ((m : List ℕ) × (f ≡ g ++ m) × (s ≡ m ++ r)) → (f ≡ g) × (r ≡ s)
    by (inl t) =
        let (m, k, l) = t in
        let none : m ≡ [] = p.1 m s l (subst Has k q.0) in
        (sym (k ∙ ap (λ (n : List ℕ). f ++ n) none ∙ append-nil f), l ∙ ap (λ (n : List ℕ). n ++ s) none)
    by (inr t) =
        let (m, k, l) = t in
        let none : m ≡ [] = q.1 m r l (subst Has k p.0) in
        (k ∙ ap (λ (n : List ℕ). g ++ n) none ∙ append-nil g, sym (l ∙ ap (λ (n : List ℕ). n ++ r) none))

-- What a character begins, where it begins a piece that isn't stray.
pub data Beginning : Type 0 where
  Word : Beginning
  Number : Beginning
  Comment : Beginning
  Quoted : Beginning
  Space : Beginning
  Tab : Beginning
  LineEnd : Beginning
  Other : Beginning

abbrev pub plain_beginning : ℕ → Beginning
plain_beginning c = cond (c == 35) Comment (cond (c == 39) Quoted (cond (c == 34) Quoted (cond (c == 32) Space (cond (c == 9) Tab (cond (c == 10) LineEnd Other)))))

abbrev pub beginning : ℕ → Beginning
beginning c = cond (begins_word c) Word (cond (is_digit c) Number (plain_beginning c))

abbrev pub beginning_of : List ℕ → Beginning
beginning_of [] = Other
beginning_of (c ∷ cs) = beginning c

both : (a b : Bool) → (a && b) ≡ true → (a ≡ true) × (b ≡ true)
both true b h = (refl, h)
both false b h = cc

no_word : (c : ℕ) → c < 128 → is_ascii_alphabetic c ≡ false → (c == 95) ≡ false → begins_word c ≡ false
no_word c l a u = ap (λ b. b || (c == 95)) (is_xid_start-ascii c l ∙ a) ∙ u

-- a character of ASCII that is no letter, digit or underscore
pub plain_begins : (c : ℕ) → c < 128 → is_ascii_alphabetic c ≡ false → (c == 95) ≡ false → is_digit c ≡ false → beginning c ≡ plain_beginning c
plain_begins c l a u d = ap (λ b. cond b Word (cond (is_digit c) Number (plain_beginning c))) (no_word c l a u) ∙ ap (λ b. cond b Number (plain_beginning c)) d

no_letter : (c : ℕ) → c ≤ 57 → is_ascii_alphabetic c ≡ false
no_letter c l = grind (arith, tests)

digit_begins : (c : ℕ) → is_digit c ≡ true → beginning c ≡ Number
digit_begins c h =
    let (from, to) = both (nat_le 48 c) (nat_le c 57) h in
    let high : c ≤ 57 = omega (arith, tests, to) in
    ap (λ b. cond b Word (cond (is_digit c) Number (plain_beginning c))) (no_word c (omega arith) (no_letter c high) (grind (arith, tests, high))) ∙ ap (λ b. cond b Number (plain_beginning c)) h

pub word_begins : (front rest : List ℕ) → is_word front ≡ true → beginning_of (front ++ rest) ≡ Word
word_begins [] rest h = cc
word_begins (c ∷ cs) rest h = ap (λ b. cond b Word (cond (is_digit c) Number (plain_beginning c))) (both (begins_word c) _ h).0

number_digit : (b : Bool) (c : ℕ) (cs : List ℕ) → (c == 48) ≡ b → cond b (is_empty cs) (is_digit c && are_more_digits cs) ≡ true → is_digit c ≡ true
number_digit true c cs e h = let k : c ≡ 48 = grind (arith, tests) in subst (λ (d : ℕ). is_digit d ≡ true) (sym k) refl
number_digit false c cs e h = (both (is_digit c) (are_more_digits cs) h).0

pub number_begins : (front rest : List ℕ) → is_number front ≡ true → beginning_of (front ++ rest) ≡ Number
number_begins [] rest h = cc
number_begins (c ∷ cs) rest h = digit_begins c (number_digit (c == 48) c cs refl h)

abbrev pub same_text : List ℕ → List ℕ → Bool
same_text [] [] = true
same_text (c ∷ cs) (d ∷ ds) = (c == d) && same_text cs ds
same_text cs ds = false

-- the first of these that has the text, or else the last resort
abbrev pub first_with : {A : Type 0} → (A → List ℕ) → List ℕ → A → List A → A
first_with text cs a [] = a
first_with text cs a (b ∷ bs) = cond (same_text cs (text b)) b (first_with text cs a bs)

abbrev pub keyword_of : List ℕ → Keyword
keyword_of cs = first_with keyword_text cs keys.False (keys.False ∷ keys.None ∷ keys.True ∷ keys.And ∷ keys.As ∷ keys.Assert ∷ keys.Async ∷ keys.Await ∷ keys.Break ∷ keys.Class ∷ keys.Continue ∷ keys.Def ∷ keys.Del ∷ keys.Elif ∷ keys.Else ∷ keys.Except ∷ keys.Finally ∷ keys.For ∷ keys.From ∷ keys.Global ∷ keys.If ∷ keys.Import ∷ keys.In ∷ keys.Is ∷ keys.Lambda ∷ keys.Nonlocal ∷ keys.Not ∷ keys.Or ∷ keys.Pass ∷ keys.Raise ∷ keys.Return ∷ keys.Try ∷ keys.While ∷ keys.With ∷ keys.Yield ∷ [])

-- A text finds its keyword.
pub keyword_found : (k : Keyword) → keyword_of (keyword_text k) ≡ k
keyword_found keys.False = refl
keyword_found keys.None = refl
keyword_found keys.True = refl
keyword_found keys.And = refl
keyword_found keys.As = refl
keyword_found keys.Assert = refl
keyword_found keys.Async = refl
keyword_found keys.Await = refl
keyword_found keys.Break = refl
keyword_found keys.Class = refl
keyword_found keys.Continue = refl
keyword_found keys.Def = refl
keyword_found keys.Del = refl
keyword_found keys.Elif = refl
keyword_found keys.Else = refl
keyword_found keys.Except = refl
keyword_found keys.Finally = refl
keyword_found keys.For = refl
keyword_found keys.From = refl
keyword_found keys.Global = refl
keyword_found keys.If = refl
keyword_found keys.Import = refl
keyword_found keys.In = refl
keyword_found keys.Is = refl
keyword_found keys.Lambda = refl
keyword_found keys.Nonlocal = refl
keyword_found keys.Not = refl
keyword_found keys.Or = refl
keyword_found keys.Pass = refl
keyword_found keys.Raise = refl
keyword_found keys.Return = refl
keyword_found keys.Try = refl
keyword_found keys.While = refl
keyword_found keys.With = refl
keyword_found keys.Yield = refl

-- Each keyword has a text of its own.
pub same_keyword : (k l : Keyword) → keyword_text k ≡ keyword_text l → k ≡ l
same_keyword k l e = sym (keyword_found k) ∙ ap keyword_of e ∙ keyword_found l

abbrev pub mark_of : List ℕ → Mark
mark_of cs = first_with mark_text cs marks.OpenParen (marks.OpenParen ∷ marks.CloseParen ∷ marks.OpenBracket ∷ marks.CloseBracket ∷ marks.Colon ∷ marks.Comma ∷ marks.Dot ∷ marks.Assign ∷ marks.Arrow ∷ marks.At ∷ marks.Plus ∷ marks.Minus ∷ marks.Star ∷ marks.Slash ∷ marks.TwoSlashes ∷ marks.Percent ∷ marks.Less ∷ marks.LessEqual ∷ marks.Greater ∷ marks.GreaterEqual ∷ marks.Equal ∷ marks.NotEqual ∷ marks.PlusAssign ∷ marks.MinusAssign ∷ marks.StarAssign ∷ marks.TwoSlashesAssign ∷ marks.PercentAssign ∷ [])

-- A text finds its mark.
pub mark_found : (m : Mark) → mark_of (mark_text m) ≡ m
mark_found marks.OpenParen = refl
mark_found marks.CloseParen = refl
mark_found marks.OpenBracket = refl
mark_found marks.CloseBracket = refl
mark_found marks.Colon = refl
mark_found marks.Comma = refl
mark_found marks.Dot = refl
mark_found marks.Assign = refl
mark_found marks.Arrow = refl
mark_found marks.At = refl
mark_found marks.Plus = refl
mark_found marks.Minus = refl
mark_found marks.Star = refl
mark_found marks.Slash = refl
mark_found marks.TwoSlashes = refl
mark_found marks.Percent = refl
mark_found marks.Less = refl
mark_found marks.LessEqual = refl
mark_found marks.Greater = refl
mark_found marks.GreaterEqual = refl
mark_found marks.Equal = refl
mark_found marks.NotEqual = refl
mark_found marks.PlusAssign = refl
mark_found marks.MinusAssign = refl
mark_found marks.StarAssign = refl
mark_found marks.TwoSlashesAssign = refl
mark_found marks.PercentAssign = refl

-- Each mark has a text of its own.
pub same_mark : (m n : Mark) → mark_text m ≡ mark_text n → m ≡ n
same_mark m n e = sym (mark_found m) ∙ ap mark_of e ∙ mark_found n

pub mark_filled : (m : Mark) → mark_text m ≡ [] → ⊥
mark_filled m e =
    let first : m ≡ marks.OpenParen = sym (mark_found m) ∙ ap mark_of e in
    let bad : mark_text marks.OpenParen ≡ [] = sym (ap mark_text first) ∙ e in
    cc

pub mark_begins : (m : Mark) (rest : List ℕ) → beginning_of (mark_text m ++ rest) ≡ Other
mark_begins marks.OpenParen rest = plain_begins 40 (lit< tt) refl refl refl
mark_begins marks.CloseParen rest = plain_begins 41 (lit< tt) refl refl refl
mark_begins marks.OpenBracket rest = plain_begins 91 (lit< tt) refl refl refl
mark_begins marks.CloseBracket rest = plain_begins 93 (lit< tt) refl refl refl
mark_begins marks.Colon rest = plain_begins 58 (lit< tt) refl refl refl
mark_begins marks.Comma rest = plain_begins 44 (lit< tt) refl refl refl
mark_begins marks.Dot rest = plain_begins 46 (lit< tt) refl refl refl
mark_begins marks.Assign rest = plain_begins 61 (lit< tt) refl refl refl
mark_begins marks.Arrow rest = plain_begins 45 (lit< tt) refl refl refl
mark_begins marks.At rest = plain_begins 64 (lit< tt) refl refl refl
mark_begins marks.Plus rest = plain_begins 43 (lit< tt) refl refl refl
mark_begins marks.Minus rest = plain_begins 45 (lit< tt) refl refl refl
mark_begins marks.Star rest = plain_begins 42 (lit< tt) refl refl refl
mark_begins marks.Slash rest = plain_begins 47 (lit< tt) refl refl refl
mark_begins marks.TwoSlashes rest = plain_begins 47 (lit< tt) refl refl refl
mark_begins marks.Percent rest = plain_begins 37 (lit< tt) refl refl refl
mark_begins marks.Less rest = plain_begins 60 (lit< tt) refl refl refl
mark_begins marks.LessEqual rest = plain_begins 60 (lit< tt) refl refl refl
mark_begins marks.Greater rest = plain_begins 62 (lit< tt) refl refl refl
mark_begins marks.GreaterEqual rest = plain_begins 62 (lit< tt) refl refl refl
mark_begins marks.Equal rest = plain_begins 61 (lit< tt) refl refl refl
mark_begins marks.NotEqual rest = plain_begins 33 (lit< tt) refl refl refl
mark_begins marks.PlusAssign rest = plain_begins 43 (lit< tt) refl refl refl
mark_begins marks.MinusAssign rest = plain_begins 45 (lit< tt) refl refl refl
mark_begins marks.StarAssign rest = plain_begins 42 (lit< tt) refl refl refl
mark_begins marks.TwoSlashesAssign rest = plain_begins 47 (lit< tt) refl refl refl
mark_begins marks.PercentAssign rest = plain_begins 37 (lit< tt) refl refl refl

pub comment_begins : (text rest : List ℕ) → beginning_of (35 ∷ text ++ rest) ≡ Comment
comment_begins text rest = plain_begins 35 (lit< tt) refl refl refl
