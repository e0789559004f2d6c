-- Every mark is tried, and the longest that fits is the longest mark in front.
use Rattle.std.proofs.Common.{ℕ, ◌≡◌, ◌≤◌, ◌<◌, arith, refl, sym, ap, subst, ◌∙◌, List, [], ◌∷◌, ◌++◌, length, take, All, Some, None, Option, length-append, append_assoc, lit<}
use Rattle.std.proofs.lemmas.List.Elements.{All-push}
use Rattle.py_tokens.specs.declared.Mark.{Mark}
use Rattle.py_tokens.specs.declared.Mark.TheVariants as marks
use Rattle.py_tokens.specs.MarkForms.{mark_text}
use Rattle.py_tokens.specs.StringForms.{BeginsWith}
use Rattle.py_tokens.specs.TextPieces.{Longest, IsMark}
use Rattle.py_lexer.specs.LongestForms.{IsLongestOf}
use Rattle.py_lexer.specs.declared.marks.TheConstants.{MARKS}

pub every_mark : (P : Mark → Type 0) → All P MARKS → (m : Mark) → P m
every_mark P h marks.OpenParen = h 0 marks.Dot (lit< tt)
every_mark P h marks.CloseParen = h 1 marks.Dot (lit< tt)
every_mark P h marks.OpenBracket = h 2 marks.Dot (lit< tt)
every_mark P h marks.CloseBracket = h 3 marks.Dot (lit< tt)
every_mark P h marks.Colon = h 4 marks.Dot (lit< tt)
every_mark P h marks.Comma = h 5 marks.Dot (lit< tt)
every_mark P h marks.Dot = h 6 marks.Dot (lit< tt)
every_mark P h marks.Assign = h 7 marks.Dot (lit< tt)
every_mark P h marks.Arrow = h 8 marks.Dot (lit< tt)
every_mark P h marks.At = h 9 marks.Dot (lit< tt)
every_mark P h marks.Plus = h 10 marks.Dot (lit< tt)
every_mark P h marks.Minus = h 11 marks.Dot (lit< tt)
every_mark P h marks.Star = h 12 marks.Dot (lit< tt)
every_mark P h marks.Slash = h 13 marks.Dot (lit< tt)
every_mark P h marks.TwoSlashes = h 14 marks.Dot (lit< tt)
every_mark P h marks.Percent = h 15 marks.Dot (lit< tt)
every_mark P h marks.Less = h 16 marks.Dot (lit< tt)
every_mark P h marks.LessEqual = h 17 marks.Dot (lit< tt)
every_mark P h marks.Greater = h 18 marks.Dot (lit< tt)
every_mark P h marks.GreaterEqual = h 19 marks.Dot (lit< tt)
every_mark P h marks.Equal = h 20 marks.Dot (lit< tt)
every_mark P h marks.NotEqual = h 21 marks.Dot (lit< tt)
every_mark P h marks.PlusAssign = h 22 marks.Dot (lit< tt)
every_mark P h marks.MinusAssign = h 23 marks.Dot (lit< tt)
every_mark P h marks.StarAssign = h 24 marks.Dot (lit< tt)
every_mark P h marks.TwoSlashesAssign = h 25 marks.Dot (lit< tt)
every_mark P h marks.PercentAssign = h 26 marks.Dot (lit< tt)

pub longest_if_not : (cs : List ℕ) (tried : List Mark) (best : Option Mark) (mark : Mark) → ¬ BeginsWith cs (mark_text mark) → IsLongestOf cs tried best → IsLongestOf cs (tried ++ mark ∷ []) best
longest_if_not cs tried None mark k h = All-push (λ m. ¬ BeginsWith cs (mark_text m)) tried mark h k
longest_if_not cs tried (Some best) mark k (a, b) = (a, All-push (λ m. BeginsWith cs (mark_text m) → length (mark_text m) ≤ length (mark_text best)) tried mark b (λ x. absurd (k x)))

pub longest_if_first : (cs : List ℕ) (tried : List Mark) (mark : Mark) → BeginsWith cs (mark_text mark) → IsLongestOf cs tried None → IsLongestOf cs (tried ++ mark ∷ []) (Some mark)
longest_if_first cs tried mark b h = (b, All-push (λ m. BeginsWith cs (mark_text m) → length (mark_text m) ≤ length (mark_text mark)) tried mark (λ k d l x. absurd (h k d l x)) (λ x. omega arith))

pub longest_if_longer : (cs : List ℕ) (tried : List Mark) (best mark : Mark) → BeginsWith cs (mark_text mark) → length (mark_text best) < length (mark_text mark) → IsLongestOf cs tried (Some best) → IsLongestOf cs (tried ++ mark ∷ []) (Some mark)
longest_if_longer cs tried best mark b l (x, h) = (b, All-push (λ m. BeginsWith cs (mark_text m) → length (mark_text m) ≤ length (mark_text mark)) tried mark (λ k d i y. let e = h k d i y in omega arith) (λ x. omega arith))

pub longest_if_shorter : (cs : List ℕ) (tried : List Mark) (best mark : Mark) → length (mark_text mark) ≤ length (mark_text best) → IsLongestOf cs tried (Some best) → IsLongestOf cs (tried ++ mark ∷ []) (Some best)
longest_if_shorter cs tried best mark l (x, h) = (x, All-push (λ m. BeginsWith cs (mark_text m) → length (mark_text m) ≤ length (mark_text best)) tried mark h (λ y. l))

front_begins : (front rest text : List ℕ) → front ≡ text → BeginsWith (front ++ rest) text
front_begins front rest text e = (rest, ap (λ f. f ++ rest) e)

pub no_mark : (cs : List ℕ) → IsLongestOf cs MARKS None → (front rest : List ℕ) → cs ≡ front ++ rest → IsMark front → ⊥
no_mark cs h front rest e (m, k) = every_mark (λ m. ¬ BeginsWith cs (mark_text m)) h m (rest, e ∙ ap (λ f. f ++ rest) k)

nothing_more : (front more : List ℕ) → length (front ++ more) ≤ length front → more ≡ []
nothing_more front [] h = refl
nothing_more front (m ∷ more) h = let e = length-append front (m ∷ more) in absurd (omega arith)

pub mark_longest : (cs front rest : List ℕ) (mark : Mark) → IsLongestOf cs MARKS (Some mark) → cs ≡ front ++ rest → front ≡ mark_text mark → Longest IsMark front rest
mark_longest cs front rest mark (b, h) e k = (
  (mark, k),
  λ more behind r (m, i).
      let fits : BeginsWith cs (mark_text m) = (behind, e ∙ ap (λ x. front ++ x) r ∙ sym (append_assoc front more behind) ∙ ap (λ x. x ++ behind) i) in
      let l : length (mark_text m) ≤ length (mark_text mark) = every_mark (λ m. BeginsWith cs (mark_text m) → length (mark_text m) ≤ length (mark_text mark)) h m fits in
      nothing_more front more (subst (λ (x : List ℕ). length x ≤ length front) (sym i) (subst (λ (x : List ℕ). length (mark_text m) ≤ length x) (sym k) l)),
)

pub text_in_front : (cs text : List ℕ) → BeginsWith cs text → take (length text) cs ≡ text
text_in_front cs [] h = refl
text_in_front [] (b ∷ text) (rest, h) = cc
text_in_front (c ∷ cs) (b ∷ text) (rest, h) = let i = text_in_front cs text (rest, cc) in let e : c ≡ b = cc in grind arith

pub text_within : (cs text : List ℕ) → BeginsWith cs text → length text ≤ length cs
text_within cs text (rest, h) = let e = length-append text rest in subst (λ (x : List ℕ). length text ≤ length x) (sym h) (omega arith)
