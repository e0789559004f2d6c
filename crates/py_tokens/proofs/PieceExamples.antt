-- The pieces of some texts.
use Rattle.std.specs.Prelude.{codes}
use Rattle.std.specs.List.{list_all}
use Rattle.std.proofs.Common.{ℕ, pos, ◌≡◌, ◌==◌, ◌&&◌, ◌⊎◌, inl, inr, not, Bool, true, false, arith, refl, sym, ap, ◌∙◌, subst, List, [], ◌∷◌, ◌++◌, append_assoc, lit<, tests}
use Rattle.unicode_ident.proofs.Computing.{unicode_ident}
use Rattle.py_base.specs.declared.Place.{Place}
use Rattle.py_tokens.specs.declared.piece.Shape.TheVariants as shapes
use Rattle.py_tokens.specs.declared.token.TokenForm.TheVariants as forms
use Rattle.py_tokens.specs.declared.token.Keyword.TheVariants as keys
use Rattle.py_tokens.specs.declared.token.Mark.{Mark}
use Rattle.py_tokens.specs.declared.token.Mark.TheVariants as marks
use Rattle.py_tokens.specs.WordForms.{is_word, is_number, keyword_text}
use Rattle.py_tokens.specs.MarkForms.{mark_text}
use Rattle.py_tokens.specs.StringForms.{Quotes, OpensWith}
use Rattle.py_tokens.specs.WordLaws as word
use Rattle.py_tokens.specs.WordLaws.{beginning, plain_begins, same_text, keyword_of, keyword_found, mark_of, mark_found}
use Rattle.py_tokens.specs.PieceLaws.{opens_begins}
use Rattle.py_tokens.specs.TextPieces.{Longest, IsKeyword, IsMark, IsComment, IsPiece, a_name, a_keyword, a_number, a_mark, a_comment, a_stray}

-- no longer front of the text passes the test
abbrev pub none_longer : (List ℕ → Bool) → List ℕ → List ℕ → Bool
none_longer test front [] = true
none_longer test front (c ∷ rest) = not (test (front ++ c ∷ [])) && none_longer test (front ++ c ∷ []) rest

both : (a b : Bool) → (a && b) ≡ true → (a ≡ true) × (b ≡ true)
both true b h = (refl, h)
both false b h = cc

not_both : (b : Bool) → not b ≡ true → b ≡ true → ⊥
not_both true h i = cc
not_both false h i = cc

no_longer : (test : List ℕ → Bool) (rest front more behind : List ℕ) → none_longer test front rest ≡ true → rest ≡ more ++ behind → test (front ++ more) ≡ true → more ≡ []
no_longer test rest front [] behind h e t = refl
no_longer test [] front (m ∷ more) behind h e t = cc
no_longer test (c ∷ rest) front (m ∷ []) behind h e t =
    let k : m ≡ c = cc in
    absurd (not_both (test (front ++ c ∷ [])) (both (not (test (front ++ c ∷ []))) (none_longer test (front ++ c ∷ []) rest) h).0 (subst (λ (d : ℕ). test (front ++ d ∷ []) ≡ true) k t))
no_longer test (c ∷ rest) front (m ∷ n ∷ more) behind h e t =
    let k : m ≡ c = cc in
    let l : rest ≡ n ∷ more ++ behind = cc in
    let u : test (front ++ c ∷ [] ++ n ∷ more) ≡ true = subst (λ (d : ℕ). test (front ++ d ∷ [] ++ n ∷ more) ≡ true) k (subst (λ (cs : List ℕ). test cs ≡ true) (sym (append_assoc front (m ∷ []) (n ∷ more))) t) in
    let none : n ∷ more ≡ [] = no_longer test rest (front ++ c ∷ []) (n ∷ more) behind (both (not (test (front ++ c ∷ []))) (none_longer test (front ++ c ∷ []) rest) h).1 l u in
    cc

pub longest_by : (test : List ℕ → Bool) (front rest : List ℕ) → test front ≡ true → none_longer test front rest ≡ true → Longest (λ cs. test cs ≡ true) front rest
longest_by test front rest h i = (h, λ more behind. no_longer test rest front more behind i)

no_front : (test : List ℕ → Bool) (cs : List ℕ) → test [] ≡ false → none_longer test [] cs ≡ true → (front rest : List ℕ) → cs ≡ front ++ rest → test front ≡ true → ⊥
no_front test cs h i front rest e t =
    let none : front ≡ [] = no_longer test cs [] front rest i e t in
    let k : test [] ≡ true = subst (λ (f : List ℕ). test f ≡ true) none t in cc

-- the tests that marks and comments pass
abbrev pub is_mark : List ℕ → Bool
is_mark cs = same_text cs (mark_text (mark_of cs))

same_itself : (cs : List ℕ) → same_text cs cs ≡ true
same_itself [] = refl
same_itself (c ∷ cs) = ap (λ b. b && same_text cs cs) (equal_itself c) ∙ same_itself cs
  where
    equal_itself : (c : ℕ) → (c == c) ≡ true
    equal_itself c = grind (arith, tests)

mark_passes : (cs : List ℕ) → IsMark cs → is_mark cs ≡ true
mark_passes cs h =
    let (m, e) = h in
    let k : mark_of cs ≡ m = ap mark_of e ∙ mark_found m in
    let same : mark_text (mark_of cs) ≡ cs = ap mark_text k ∙ sym e in
    ap (same_text cs) same ∙ same_itself cs

abbrev is_comment : List ℕ → Bool
is_comment [] = false
is_comment (c ∷ cs) = (c == 35) && list_all (λ c. not (c == 10)) cs

comment_passes : (cs : List ℕ) → IsComment cs → is_comment cs ≡ true
comment_passes cs h = let (text, e, t) = h in ap is_comment e ∙ t

pub longest_mark : (m : Mark) (rest : List ℕ) → none_longer is_mark (mark_text m) rest ≡ true → Longest IsMark (mark_text m) rest
longest_mark m rest h = ((m, refl), λ more behind e i. no_longer is_mark rest (mark_text m) more behind h e (mark_passes (mark_text m ++ more) i))

pub number_example : (p : Place) → IsPiece p (codes "1_0") (codes "__0") (shapes.Whole (forms.Number (pos 10)))
number_example p = a_number (longest_by is_number (codes "1_0") (codes "__0") refl refl) (lit< tt)

pub zero_example : (p : Place) → IsPiece p (codes "0") (codes "07") (shapes.Whole (forms.Number (pos 0)))
zero_example p = a_number (longest_by is_number (codes "0") (codes "07") refl refl) (lit< tt)

pub mark_example : (p : Place) → IsPiece p (codes "<=") (codes "=1") (shapes.Whole (forms.Mark marks.LessEqual))
mark_example p = a_mark marks.LessEqual (longest_mark marks.LessEqual (codes "=1") refl) refl

pub keyword_example : (p : Place) → IsPiece p (codes "class") (codes " y") (shapes.Whole (forms.Key keys.Class))
unfolding unicode_ident
keyword_example p = a_keyword keys.Class (longest_by is_word (codes "class") (codes " y") refl refl) refl

no_keyword : IsKeyword (codes "classy") → ⊥
no_keyword h =
    let (k, e) = h in
    let same : keys.False ≡ k = ap keyword_of e ∙ keyword_found k in
    let bad : codes "classy" ≡ codes "False" = e ∙ sym (ap keyword_text same) in
    cc

pub name_example : (p : Place) → IsPiece p (codes "classy") (codes ":") (shapes.Whole (forms.Name (codes "classy")))
unfolding unicode_ident lib.Utf8.encode
name_example p = a_name (longest_by is_word (codes "classy") (codes ":") refl refl) no_keyword

pub comment_example : (p : Place) → IsPiece p (codes "# 'a") (10 ∷ codes "b") shapes.Comment
comment_example p = a_comment ((codes " 'a", refl, refl), λ more behind e i. no_longer is_comment (10 ∷ codes "b") (codes "# 'a") more behind refl e (comment_passes (codes "# 'a" ++ more) i))

opens_none : (quotes : Quotes) → OpensWith (codes "! =") quotes → ⊥
opens_none quotes h = let k : beginning 33 ≡ word.Quoted = opens_begins (codes "! =") quotes h in let l : beginning 33 ≡ word.Other = plain_begins 33 (lit< tt) refl refl refl in cc

no_separator : (c : ℕ) → c ≡ 33 → (c ≡ 32) ⊎ ((c ≡ 9) ⊎ (c ≡ 10)) → ⊥
no_separator c k (inl e) = omega (arith, e, k)
no_separator c k (inr (inl e)) = omega (arith, e, k)
no_separator c k (inr (inr e)) = omega (arith, e, k)

pub stray_example : (p : Place) → IsPiece p (codes "!") (codes " =") shapes.Stray
unfolding unicode_ident
stray_example p = a_stray 33 refl (record {
  no_word = no_front is_word (codes "! =") refl refl;
  no_number = no_front is_number (codes "! =") refl refl;
  no_mark = λ front rest e h. no_front is_mark (codes "! =") refl refl front rest e (mark_passes front h);
  no_comment = λ front rest e h. no_front is_comment (codes "! =") refl refl front rest e (comment_passes front h);
  no_string = opens_none;
  no_separator = no_separator 33 refl;
})
