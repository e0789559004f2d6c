-- A word, a number, a mark or a comment is in front of some characters, or none is.
use Rattle.std.proofs.Common.{ℕ, zero, suc, ◌≡◌, ◌<◌, ◌≤◌, ◌^◌, ◌+◌, ◌==◌, ◌&&◌, ◌⊎◌, inl, inr, Bool, true, false, cond, arith, tests, refl, sym, ap, ◌∙◌, subst, List, [], ◌∷◌, ◌++◌, length, take, drop, take-append-drop, append_assoc, append-nil, nat_le, eqb-true, Option, Some, None, encode_utf8_all, pos}
use Rattle.std.proofs.Math.Decide.{ℕ_discrete, dec_lt}
use Rattle.std.proofs.lemmas.List.Elements.{All-nil}
use Rattle.std.specs.List.{prefix_len}
use Rattle.py_base.specs.declared.Place.{Place}
use Rattle.py_tokens.specs.declared.Mark.{Mark}
use Rattle.py_tokens.specs.declared.TokenForm.TheVariants as forms
use Rattle.py_tokens.specs.declared.Shape.{Shape}
use Rattle.py_tokens.specs.declared.Shape.TheVariants as shapes
use Rattle.py_tokens.specs.WordForms.{word_len, keyword_text, is_digit, begins_with_digit, are_more_digits, is_empty, number_value}
use Rattle.py_tokens.specs.MarkForms.{mark_text}
use Rattle.py_tokens.specs.StringForms.{BeginsWith}
use Rattle.py_tokens.specs.TextPieces.{Longest, IsWord, IsNumber, IsMark, IsComment}
use Rattle.py_tokens.specs.WordLaws.{same_text, keyword_of, keyword_found}
use Rattle.py_lexer.specs.LongestForms.{IsLongestOf, AreMoreDigits, is_in_line}
use Rattle.py_lexer.specs.PieceForms.{IsWordShape, IsNumberShape, StandsAt}
use Rattle.py_lexer.specs.declared.marks.TheConstants.{MARKS}
use Rattle.py_lexer.proofs.Begins.{begins_all, begins_more, more_begins, first_begins, nothing_begins}
use Rattle.py_lexer.proofs.LongestWord.{both, longest_word, no_word, none_more}
use Rattle.py_lexer.proofs.LongestNumber.{one_still, both_are, digits_behind}
use Rattle.py_lexer.proofs.LongestMark.{longest_if_not, longest_if_first, longest_if_longer, longest_if_shorter, no_mark, mark_longest}
use Rattle.py_lexer.proofs.LongestComment.{comment_in_front}
use Rattle.py_lexer.proofs.PieceInFront.{BeginsNot, word_piece, number_piece, mark_piece, comment_piece}

-- a piece is in front of the characters
abbrev pub HasPiece : Place → List ℕ → Type 0
HasPiece p cs = (n : ℕ) × (shape : Shape) × StandsAt p cs n shape

text_of_itself : (cs : List ℕ) → same_text cs cs ≡ true
text_of_itself [] = refl
text_of_itself (c ∷ cs) = both_are (c == c) (same_text cs cs) (grind (arith, tests)) (text_of_itself cs)

is_same_text : (cs ds : List ℕ) → same_text cs ds ≡ true → cs ≡ ds
is_same_text [] [] h = refl
is_same_text [] (d ∷ ds) h = absurd cc
is_same_text (c ∷ cs) [] h = absurd cc
is_same_text (c ∷ cs) (d ∷ ds) h =
    let (first, more) = both (c == d) (same_text cs ds) h in
    let e : c ≡ d = eqb-true c d first in
    let f : cs ≡ ds = is_same_text cs ds more in
    cc

word_by : (word : List ℕ) (b : Bool) → same_text word (keyword_text (keyword_of word)) ≡ b → (shape : Shape) × IsWordShape word shape
word_by word true e = (shapes.Whole (forms.Key (keyword_of word)), inl (keyword_of word, is_same_text word (keyword_text (keyword_of word)) e, refl))
word_by word false e = (
  shapes.Whole (forms.Name (encode_utf8_all word)),
  inr (
    (λ (k, h).
        let same : keyword_text (keyword_of word) ≡ word = ap keyword_text (ap keyword_of h ∙ keyword_found k) ∙ sym h in
        let t : same_text word (keyword_text (keyword_of word)) ≡ true = subst (λ (x : List ℕ). same_text word x ≡ true) (sym same) (text_of_itself word) in
        cc),
    refl,
  ),
)

word_shape : (word : List ℕ) → (shape : Shape) × IsWordShape word shape
word_shape word = word_by word (same_text word (keyword_text (keyword_of word))) refl

words_by : (p : Place) (cs : List ℕ) (n : ℕ) → word_len cs ≡ n → HasPiece p cs ⊎ BeginsNot IsWord cs
words_by p cs zero e = inr (no_word cs e)
words_by p cs (suc n) e =
    let word : List ℕ = take (word_len cs) cs in
    let (shape, is) = word_shape word in
    inl (length word, shape, word_piece p cs word (drop (word_len cs) cs) shape (sym (take-append-drop (word_len cs) cs)) (longest_word cs (λ z. omega (arith, e, z))) is)

pub word_or_none : (p : Place) (cs : List ℕ) → HasPiece p cs ⊎ BeginsNot IsWord cs
word_or_none p cs = words_by p cs (word_len cs) refl

-- the longest front of more digits
abbrev MoreDigits : List ℕ → Type 0
MoreDigits cs = (front : List ℕ) × (rest : List ℕ) × (cs ≡ front ++ rest) × Longest AreMoreDigits front rest

-- whether one more digit begins with the first character
abbrev one_more : ℕ → List ℕ → Bool
one_more c cs = cond (c == 95) (begins_with_digit cs) (is_digit c)

no_digits_here : (c : ℕ) (cs more behind : List ℕ) → one_more c cs ≡ false → c ∷ cs ≡ more ++ behind → AreMoreDigits more → more ≡ []
no_digits_here c cs [] behind h e k = refl
no_digits_here c cs (d ∷ more) behind h e k =
    let first : one_more d more ≡ true = (both (one_more d more) (are_more_digits more) k).0 in
    let still : one_more d (more ++ behind) ≡ true = one_still (d == 95) d more behind first in
    let same : d ≡ c = cc in
    let rest : more ++ behind ≡ cs = cc in
    let here : one_more c cs ≡ true = subst (λ (x : List ℕ). one_more c x ≡ true) rest (subst (λ (x : ℕ). one_more x (more ++ behind) ≡ true) same still) in
    cc

digit_alone : (c : ℕ) → is_digit c ≡ true → AreMoreDigits (c ∷ [])
digit_alone c h =
    let (from, to) = both (nat_le 48 c) (nat_le c 57) h in
    let high : c ≤ 57 = omega (arith, tests, to) in
    let other : (c == 95) ≡ false = grind (arith, tests, high) in
    both_are (cond (c == 95) false (is_digit c)) true (ap (λ b. cond b false (is_digit c)) other ∙ h) refl

-- a digit in front is in the longest front of digits
digit_taken : (front rest : List ℕ) → begins_with_digit (front ++ rest) ≡ true → Longest AreMoreDigits front rest → begins_with_digit front ≡ true
digit_taken (d ∷ front) rest h l = h
digit_taken [] [] h l = cc
digit_taken [] (c ∷ rest) h l = let none : c ∷ [] ≡ [] = l.1 (c ∷ []) rest refl (digit_alone c h) in cc

one_taken : (b : Bool) (c : ℕ) (front rest : List ℕ) → cond b (begins_with_digit (front ++ rest)) (is_digit c) ≡ true → Longest AreMoreDigits front rest → cond b (begins_with_digit front) (is_digit c) ≡ true
one_taken true c front rest h l = digit_taken front rest h l
one_taken false c front rest h l = h

digits_by : (c : ℕ) (cs : List ℕ) (b : Bool) → one_more c cs ≡ b → MoreDigits cs → MoreDigits (c ∷ cs)
digits_by c cs false h m = ([], c ∷ cs, refl, (refl, λ more behind e k. no_digits_here c cs more behind h e k))
digits_by c cs true h (front, rest, e, l) =
    let first : one_more c front ≡ true = one_taken (c == 95) c front rest (subst (λ (x : List ℕ). one_more c x ≡ true) e h) l in (
      c ∷ front,
      rest,
      ap (λ x. c ∷ x) e,
      (both_are (one_more c front) (are_more_digits front) first l.0, λ more behind f k. l.1 more behind f (digits_behind (c ∷ []) (front ++ more) k)),
    )

more_digits : (cs : List ℕ) → MoreDigits cs
more_digits [] = ([], [], refl, (refl, λ more behind e k. none_more more behind e))
more_digits (c ∷ cs) = digits_by c cs (one_more c cs) refl (more_digits cs)

not_less : (n m : ℕ) → ¬ (n < m) → m ≤ n
not_less n m h = omega (arith, h)

number_by : (number : List ℕ) → Dec (number_value number < 2 ^ 127) → (shape : Shape) × IsNumberShape number shape
number_by number (yes l) = (shapes.Whole (forms.Number (pos (number_value number))), inl (l, refl))
number_by number (no l) = (shapes.LargeNumber, inr (not_less (number_value number) (2 ^ 127) l, refl))

number_here : (p : Place) (cs front rest : List ℕ) → cs ≡ front ++ rest → Longest IsNumber front rest → HasPiece p cs
number_here p cs front rest e l = let (shape, is) = number_by front (dec_lt (number_value front) (2 ^ 127)) in (length front, shape, number_piece p cs front rest shape e l is)

-- what a first character and the characters behind it are as a number
abbrev as_number : Bool → ℕ → List ℕ → Bool
as_number zero_first c cs = cond zero_first (is_empty cs) (is_digit c && are_more_digits cs)

emptied : (cs : List ℕ) → is_empty cs ≡ true → cs ≡ []
emptied [] h = refl
emptied (c ∷ cs) h = absurd cc

number_first : (b : Bool) (c : ℕ) (cs : List ℕ) → as_number b c cs ≡ true → b ≡ false → is_digit c ≡ true
number_first true c cs h e = absurd cc
number_first false c cs h e = (both (is_digit c) (are_more_digits cs) h).0

no_number : (c : ℕ) (cs front rest : List ℕ) → (c == 48) ≡ false → is_digit c ≡ false → c ∷ cs ≡ front ++ rest → IsNumber front → ⊥
no_number c cs [] rest z d e h = cc
no_number c cs (x ∷ front) rest z d e h =
    let same : c ≡ x = cc in
    let digit : is_digit x ≡ true = number_first (x == 48) x front h (subst (λ (y : ℕ). (y == 48) ≡ false) same z) in
    let here : is_digit c ≡ true = subst (λ (y : ℕ). is_digit y ≡ true) (sym same) digit in
    cc

numbers_by : (p : Place) (c : ℕ) (cs : List ℕ) (a b : Bool) → (c == 48) ≡ a → is_digit c ≡ b → MoreDigits cs → HasPiece p (c ∷ cs) ⊎ BeginsNot IsNumber (c ∷ cs)
numbers_by p c cs true b z d m =
    let is : IsNumber (c ∷ []) = ap (λ x. as_number x c []) z in
    inl (number_here p (c ∷ cs) (c ∷ []) cs refl (is, λ more behind e h. emptied more (sym (ap (λ x. as_number x c more) z) ∙ h)))
numbers_by p c cs false true z d (front, rest, e, l) =
    let is : IsNumber (c ∷ front) = ap (λ x. as_number x c front) z ∙ both_are (is_digit c) (are_more_digits front) d l.0 in
    inl (number_here p (c ∷ cs) (c ∷ front) rest (ap (λ x. c ∷ x) e) (is, λ more behind f h. l.1 more behind f (both (is_digit c) (are_more_digits (front ++ more)) (sym (ap (λ x. as_number x c (front ++ more)) z) ∙ h)).1))
numbers_by p c cs false false z d m = inr (λ front rest e h. no_number c cs front rest z d e h)

pub number_or_none : (p : Place) (c : ℕ) (cs : List ℕ) → HasPiece p (c ∷ cs) ⊎ BeginsNot IsNumber (c ∷ cs)
number_or_none p c cs = numbers_by p c cs (c == 48) (is_digit c) refl refl (more_digits cs)

begins_by : (c b : ℕ) (cs text : List ℕ) → Dec (c ≡ b) → Dec (BeginsWith cs text) → Dec (BeginsWith (c ∷ cs) (b ∷ text))
begins_by c b cs text (yes e) (yes h) = yes (begins_more c b cs text e h)
begins_by c b cs text (yes e) (no h) = no (λ i. h (more_begins c b cs text i))
begins_by c b cs text (no e) h = no (λ i. e (first_begins c b cs text i))

-- whether some characters begin with a text
pub begins_or_not : (cs text : List ℕ) → Dec (BeginsWith cs text)
begins_or_not cs [] = yes (begins_all cs)
begins_or_not [] (b ∷ text) = no (nothing_begins b text)
begins_or_not (c ∷ cs) (b ∷ text) = begins_by c b cs text (ℕ_discrete c b) (begins_or_not cs text)

-- a longest of the marks, if one is in front
abbrev HasLongest : List ℕ → List Mark → Type 0
HasLongest cs tried = (found : Option Mark) × IsLongestOf cs tried found

longer_of : (cs : List ℕ) (tried : List Mark) (mark best : Mark) → BeginsWith cs (mark_text mark) → Dec (length (mark_text best) < length (mark_text mark)) → IsLongestOf cs tried (Some best) → HasLongest cs (tried ++ mark ∷ [])
longer_of cs tried mark best b (yes l) h = (Some mark, longest_if_longer cs tried best mark b l h)
longer_of cs tried mark best b (no l) h = (Some best, longest_if_shorter cs tried best mark (not_less (length (mark_text best)) (length (mark_text mark)) l) h)

one_tried : (cs : List ℕ) (tried : List Mark) (mark : Mark) (found : Option Mark) → Dec (BeginsWith cs (mark_text mark)) → IsLongestOf cs tried found → HasLongest cs (tried ++ mark ∷ [])
one_tried cs tried mark found (no b) h = (found, longest_if_not cs tried found mark b h)
one_tried cs tried mark None (yes b) h = (Some mark, longest_if_first cs tried mark b h)
one_tried cs tried mark (Some best) (yes b) h = longer_of cs tried mark best b (dec_lt (length (mark_text best)) (length (mark_text mark))) h

all_tried : (cs : List ℕ) (left tried : List Mark) → HasLongest cs tried → HasLongest cs (tried ++ left)
all_tried cs [] tried h = subst (HasLongest cs) (sym (append-nil tried)) h
all_tried cs (mark ∷ left) tried (found, h) = subst (HasLongest cs) (append_assoc tried (mark ∷ []) left) (all_tried cs left (tried ++ mark ∷ []) (one_tried cs tried mark found (begins_or_not cs (mark_text mark)) h))

mark_here : (p : Place) (cs : List ℕ) (mark : Mark) → IsLongestOf cs MARKS (Some mark) → BeginsWith cs (mark_text mark) → HasPiece p cs
mark_here p cs mark h (rest, e) = (length (mark_text mark), shapes.Whole (forms.Mark mark), mark_piece p cs (mark_text mark) rest mark e refl (mark_longest cs (mark_text mark) rest mark h e refl))

marks_by : (p : Place) (cs : List ℕ) (found : Option Mark) → IsLongestOf cs MARKS found → HasPiece p cs ⊎ BeginsNot IsMark cs
marks_by p cs None h = inr (no_mark cs h)
marks_by p cs (Some mark) h = inl (mark_here p cs mark h h.0)

pub mark_or_none : (p : Place) (cs : List ℕ) → HasPiece p cs ⊎ BeginsNot IsMark cs
mark_or_none p cs = let (found, h) = all_tried cs MARKS [] (None, All-nil (λ mark. ¬ BeginsWith cs (mark_text mark))) in marks_by p cs found h

no_comment : (c : ℕ) (cs front rest : List ℕ) → ¬ (c ≡ 35) → c ∷ cs ≡ front ++ rest → IsComment front → ⊥
no_comment c cs front rest h e (text, f, t) = let same : c ∷ cs ≡ 35 ∷ (text ++ rest) = e ∙ ap (λ x. x ++ rest) f in h (cc)

comments_by : (p : Place) (c : ℕ) (cs : List ℕ) → Dec (c ≡ 35) → HasPiece p (c ∷ cs) ⊎ BeginsNot IsComment (c ∷ cs)
comments_by p c cs (no h) = inr (λ front rest e k. no_comment c cs front rest h e k)
comments_by p c cs (yes h) =
    let n : ℕ = 1 + prefix_len is_in_line cs in
    let front : List ℕ = take n (c ∷ cs) in
    let rest : List ℕ = drop n (c ∷ cs) in
    inl (length front, shapes.Comment, comment_piece p (c ∷ cs) front rest (sym (take-append-drop n (c ∷ cs))) (comment_in_front (c ∷ cs) front rest (prefix_len is_in_line cs) c (omega arith) h refl refl refl))

pub comment_or_none : (p : Place) (c : ℕ) (cs : List ℕ) → HasPiece p (c ∷ cs) ⊎ BeginsNot IsComment (c ∷ cs)
comment_or_none p c cs = comments_by p c cs (ℕ_discrete c 35)
