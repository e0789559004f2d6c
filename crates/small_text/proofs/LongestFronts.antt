-- The longest word, number, mark and comment in front of a text, told by the first character behind it.
use Rattle.std.specs.List.{list_all, list_any, AllByRecursion}
use Rattle.std.proofs.Common.{ℕ, ◌≡◌, ◌==◌, ◌&&◌, ◌||◌, not, Bool, true, false, cond, arith, tests, refl, sym, ap, ◌∙◌, subst, List, [], ◌∷◌, ◌++◌}
use Rattle.std.proofs.lemmas.List.Folds.{list_all-append}
use Rattle.std.proofs.lemmas.Bool.{and_parts, and_from, not-true, eqb-true}
use Rattle.unicode_ident.specs.Ident.{is_xid_start, is_xid_continue}
use Rattle.unicode_ident.proofs.Computing.{unicode_ident}
use Rattle.unicode_ident.proofs.IdentLemmas.{is_xid_start-ascii, is_xid_start-is_xid_continue}
use Rattle.py_tokens.specs.declared.token.Mark.{Mark}
use Rattle.py_tokens.specs.declared.token.Mark.TheVariants as marks
use Rattle.py_tokens.specs.MarkForms.{mark_text}
use Rattle.py_tokens.specs.WordForms.{begins_word, is_digit, are_more_digits, begins_with_digit, is_empty}
use Rattle.py_tokens.specs.TextPieces.{Longest, IsWord, IsNumber, IsMark, IsComment}
use Rattle.small_text.specs.SmallForms.{is_letter}
use Rattle.small_text.proofs.PassedTests.{bounds, all_weaker}

-- the text is empty, or its first character fails the test
abbrev pub stops : (ℕ → Bool) → List ℕ → Bool
stops goes [] = true
stops goes (c ∷ cs) = not (goes c)

-- A form that goes on only by characters that pass a test is longest where the text behind it stops.
pub longest_where : (Has : List ℕ → Type 0) (goes : ℕ → Bool) (front rest : List ℕ) → Has front → ((d : ℕ) (more : List ℕ) → Has (front ++ d ∷ more) → goes d ≡ true) → stops goes rest ≡ true → Longest Has front rest
longest_where Has goes front rest h on s = (h, none rest s)
  where
    none : (rest : List ℕ) → stops goes rest ≡ true → (more behind : List ℕ) → rest ≡ more ++ behind → Has (front ++ more) → more ≡ []
    none rest s [] behind e i = refl
    none [] s (d ∷ more) behind e i = cc
    none (c ∷ rest) s (d ∷ more) behind e i =
        let k : c ≡ d = cc in
        let l : goes c ≡ true = subst (λ (x : ℕ). goes x ≡ true) (sym k) (on d more i) in
        let m : goes c ≡ false = not-true (goes c) s in
        cc

holds_by : (P : ℕ → Type 0) (c x : ℕ) (others b : Bool) → (c == x) ≡ b → P x → (others ≡ true → P c) → (b || others) ≡ true → P c
holds_by P c x others true e p more h = subst P (sym (eqb-true c x e)) p
holds_by P c x others false e p more h = more h

-- what holds of each of some numbers holds of one that is among them
holds_among : (P : ℕ → Type 0) (c : ℕ) (xs : List ℕ) → AllByRecursion P xs → list_any (λ x. c == x) xs ≡ true → P c
holds_among P c [] h i = cc
holds_among P c (x ∷ xs) (p, ps) i = holds_by P c x (list_any (λ y. c == y) xs) (c == x) refl p (λ k. holds_among P c xs ps k) i

-- Neither a word nor a number nor any mark goes on with a line end, a space, a parenthesis or a colon.
abbrev pub break_characters : List ℕ
break_characters = 10 ∷ 32 ∷ 40 ∷ 41 ∷ 58 ∷ []

abbrev pub breaks : List ℕ → Bool
breaks [] = true
breaks (c ∷ cs) = list_any (λ d. c == d) break_characters

stops_at_break : (goes : ℕ → Bool) → AllByRecursion (λ c. goes c ≡ false) break_characters → (rest : List ℕ) → breaks rest ≡ true → stops goes rest ≡ true
stops_at_break goes all [] h = refl
stops_at_break goes all (c ∷ rest) h = ap not (holds_among (λ d. goes d ≡ false) c break_characters all h)

-- words

all_behind : (p : ℕ → Bool) (xs ys : List ℕ) → list_all p (xs ++ ys) ≡ true → list_all p ys ≡ true
all_behind p xs ys h = (and_parts (list_all p xs) (list_all p ys) (sym (list_all-append p xs ys) ∙ h)).1

word_goes_on : (w : List ℕ) (d : ℕ) (more : List ℕ) → IsWord w → IsWord (w ++ d ∷ more) → is_xid_continue d ≡ true
word_goes_on [] d more h i = cc
word_goes_on (c ∷ cs) d more h i =
    let behind : list_all is_xid_continue (d ∷ more) ≡ true = all_behind is_xid_continue cs (d ∷ more) (and_parts (begins_word c) (list_all is_xid_continue (cs ++ d ∷ more)) i).1 in
    (and_parts (is_xid_continue d) (list_all is_xid_continue more) behind).0

pub longest_word : (w rest : List ℕ) → IsWord w → breaks rest ≡ true → Longest IsWord w rest
unfolding unicode_ident
longest_word w rest h b = longest_where IsWord is_xid_continue w rest h (λ d more i. word_goes_on w d more h i) (stops_at_break is_xid_continue (refl, (refl, (refl, (refl, (refl, tt))))) rest b)

letter_begins : (c : ℕ) → is_letter c ≡ true → is_xid_start c ≡ true
letter_begins c h =
    let (from, to) = bounds 97 122 c h in
    is_xid_start-ascii c (omega arith) ∙ grind (arith, tests)

pub letters_are_word : (c : ℕ) (cs : List ℕ) → list_all is_letter (c ∷ cs) ≡ true → IsWord (c ∷ cs)
letters_are_word c cs h =
    let (first, more) = and_parts (is_letter c) (list_all is_letter cs) h in
    and_from (begins_word c) (list_all is_xid_continue cs) (ap (λ b. b || (c == 95)) (letter_begins c first)) (all_weaker is_letter is_xid_continue (λ d l. is_xid_start-is_xid_continue d (letter_begins d l)) cs more)

-- numbers

-- whether a number may go on with the character
abbrev pub is_figure : ℕ → Bool
is_figure c = is_digit c || (c == 95)

figure_by : (b figure digit : Bool) → cond b figure digit ≡ true → (digit || b) ≡ true
figure_by true figure true h = refl
figure_by true figure false h = refl
figure_by false figure true h = refl
figure_by false figure false h = cc

more_figures : (cs : List ℕ) (d : ℕ) (more : List ℕ) → are_more_digits (cs ++ d ∷ more) ≡ true → is_figure d ≡ true
more_figures [] d more h = figure_by (d == 95) (begins_with_digit more) (is_digit d) (and_parts (cond (d == 95) (begins_with_digit more) (is_digit d)) (are_more_digits more) h).0
more_figures (c ∷ cs) d more h = more_figures cs d more (and_parts (cond (c == 95) (begins_with_digit (cs ++ d ∷ more)) (is_digit c)) (are_more_digits (cs ++ d ∷ more)) h).1

not_empty : (cs : List ℕ) (d : ℕ) (more : List ℕ) → is_empty (cs ++ d ∷ more) ≡ false
not_empty [] d more = refl
not_empty (c ∷ cs) d more = refl

figures_behind : (b : Bool) (c : ℕ) (cs : List ℕ) (d : ℕ) (more : List ℕ) → cond b (is_empty (cs ++ d ∷ more)) (is_digit c && are_more_digits (cs ++ d ∷ more)) ≡ true → is_figure d ≡ true
figures_behind true c cs d more h = let n = not_empty cs d more in cc
figures_behind false c cs d more h = more_figures cs d more (and_parts (is_digit c) (are_more_digits (cs ++ d ∷ more)) h).1

number_goes_on : (ds : List ℕ) (d : ℕ) (more : List ℕ) → IsNumber ds → IsNumber (ds ++ d ∷ more) → is_figure d ≡ true
number_goes_on [] d more h i = cc
number_goes_on (c ∷ ds) d more h i = figures_behind (c == 48) c ds d more i

pub longest_number : (ds rest : List ℕ) → IsNumber ds → breaks rest ≡ true → Longest IsNumber ds rest
longest_number ds rest h b = longest_where IsNumber is_figure ds rest h (λ d more i. number_goes_on ds d more h i) (stops_at_break is_figure (refl, (refl, (refl, (refl, (refl, tt))))) rest b)

-- comments

comment_goes_on : (text : List ℕ) (d : ℕ) (more : List ℕ) → IsComment (35 ∷ text ++ d ∷ more) → not (d == 10) ≡ true
comment_goes_on text d more h =
    let (all, e, i) = h in
    let k : text ++ d ∷ more ≡ all = cc in
    let behind : list_all (λ c. not (c == 10)) (d ∷ more) ≡ true = all_behind (λ c. not (c == 10)) text (d ∷ more) (ap (list_all (λ c. not (c == 10))) k ∙ i) in
    (and_parts (not (d == 10)) (list_all (λ c. not (c == 10)) more) behind).0

-- a text is empty or begins with a line end
abbrev pub ends_line : List ℕ → Bool
ends_line rest = stops (λ c. not (c == 10)) rest

pub longest_comment : (text rest : List ℕ) → list_all (λ c. not (c == 10)) text ≡ true → ends_line rest ≡ true → Longest IsComment (35 ∷ text) rest
longest_comment text rest h s = longest_where IsComment (λ c. not (c == 10)) (35 ∷ text) rest (text, refl, h) (λ d more i. comment_goes_on text d more i) s

-- marks

-- A mark of two characters or three has `=`, `>` or `/` second, and none of the three marks that go on with nothing first; one of three has `/` first.
abbrev is_single : ℕ → Bool
is_single c = (c == 40) || (c == 41) || (c == 58)

abbrev pub is_second : ℕ → Bool
is_second d = (d == 61) || (d == 62) || (d == 47)

abbrev pub marked : List ℕ → Bool
marked [] = true
marked (c ∷ []) = true
marked (c ∷ d ∷ more) = not (is_single c) && (is_second d && (is_empty more || (c == 47)))

each_mark : (m : Mark) → marked (mark_text m) ≡ true
each_mark marks.OpenParen = refl
each_mark marks.CloseParen = refl
each_mark marks.OpenBracket = refl
each_mark marks.CloseBracket = refl
each_mark marks.Colon = refl
each_mark marks.Comma = refl
each_mark marks.Dot = refl
each_mark marks.Assign = refl
each_mark marks.Arrow = refl
each_mark marks.At = refl
each_mark marks.Plus = refl
each_mark marks.Minus = refl
each_mark marks.Star = refl
each_mark marks.Slash = refl
each_mark marks.TwoSlashes = refl
each_mark marks.Percent = refl
each_mark marks.Less = refl
each_mark marks.LessEqual = refl
each_mark marks.Greater = refl
each_mark marks.GreaterEqual = refl
each_mark marks.Equal = refl
each_mark marks.NotEqual = refl
each_mark marks.PlusAssign = refl
each_mark marks.MinusAssign = refl
each_mark marks.StarAssign = refl
each_mark marks.TwoSlashesAssign = refl
each_mark marks.PercentAssign = refl

mark_passes : (cs : List ℕ) → IsMark cs → marked cs ≡ true
mark_passes cs h = let (m, e) = h in ap marked e ∙ each_mark m

stops_anywhere : (rest : List ℕ) → stops (λ c. false) rest ≡ true
stops_anywhere [] = refl
stops_anywhere (c ∷ rest) = refl

-- a mark with which no longer one begins
pub longest_closed_mark : (m : Mark) (rest : List ℕ) → ((d : ℕ) (more : List ℕ) → marked (mark_text m ++ d ∷ more) ≡ false) → Longest IsMark (mark_text m) rest
longest_closed_mark m rest n = longest_where IsMark (λ c. false) (mark_text m) rest (m, refl) (λ d more i. sym (n d more) ∙ mark_passes (mark_text m ++ d ∷ more) i) (stops_anywhere rest)

second_goes_on : (c d : ℕ) (more : List ℕ) → marked (c ∷ d ∷ more) ≡ true → is_second d ≡ true
second_goes_on c d more h = (and_parts (is_second d) (is_empty more || (c == 47)) (and_parts (not (is_single c)) (is_second d && (is_empty more || (c == 47))) h).1).0

-- a mark of one character in front of a break
pub longest_open_mark : (m : Mark) (c : ℕ) (rest : List ℕ) → mark_text m ≡ c ∷ [] → breaks rest ≡ true → Longest IsMark (mark_text m) rest
longest_open_mark m c rest e b = longest_where IsMark is_second (mark_text m) rest (m, refl) (λ d more i. second_goes_on c d more (mark_passes (c ∷ d ∷ more) (subst (λ (t : List ℕ). IsMark (t ++ d ∷ more)) e i))) (stops_at_break is_second (refl, (refl, (refl, (refl, (refl, tt))))) rest b)
