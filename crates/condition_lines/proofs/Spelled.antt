-- The words of terms, and of terms that are put on a stack.
use Rattle.std.specs.Prelude.{◌≡◌, ℕ, ◌==◌, ℤ, pos, Bool, IsTrue, List, [], ◌∷◌, ◌++◌, map, length, codes, decimal, Option, Some, None, IfSome, Result, Ok, Err, OnOk, IfOk}
use Rattle.std.specs.Fmt.{signed_decimal}
use Rattle.std.specs.List.{slice_split, join_with_byte}
use Rattle.std.proofs.Common.{Bor, refl, ap, sym, ◌∙◌, rules, append_assoc, append-nil}
use Rattle.std.proofs.lemmas.List.{length-map}
use Rattle.std.proofs.lemmas.List.Splits.{join_with_byte-slice_split}
use Rattle.terms.specs.declared.Term.{Term, Term-F, Sym, Lit, Add, Scale, App, RefSym, RefLit, Nil, map-Term, out-Term, fold_out-Term, the_lemmas}
use Rattle.condition_lines.specs.declared.literals.Relation.{Relation}
use Rattle.condition_lines.specs.declared.literals.Relation.TheVariants as relation
use Rattle.condition_lines.specs.declared.literals.Sides.{Sides}
use Rattle.condition_lines.specs.declared.lines.Line.{Line}
use Rattle.condition_lines.specs.Lines.{AreWordsOf, IsLine}
use Rattle.condition_lines.specs.Written.{joined, term_step, words_of, stacked, literal_words, relation_text, related}

words_by : (t : Term) (x : Term-F Term) → out-Term t ≡ x → words_of t ≡ term_step (map-Term Term (List (List ℕ)) words_of x)
words_by t x e =
    fold_out-Term (List (List ℕ)) term_step t ∙ ap (λ y. term_step (map-Term Term (List (List ℕ)) words_of y)) e

pub words-Sym : (n : ℕ) → words_of (Sym n) ≡ (codes "x" ++ decimal n) ∷ []
words-Sym n = words_by (Sym n) (Term-F.Sym n) (search (rules, the_lemmas))

pub words-Lit : (z : ℤ) → words_of (Lit z) ≡ signed_decimal z ∷ []
words-Lit z = words_by (Lit z) (Term-F.Lit z) (search (rules, the_lemmas))

pub words-Add : (a b : Term) → words_of (Add a b) ≡ codes "+" ∷ (words_of a ++ words_of b)
words-Add a b = words_by (Add a b) (Term-F.Add a b) (search (rules, the_lemmas))

pub words-Scale : (k : ℤ) (a : Term) → words_of (Scale k a) ≡ codes "*" ∷ signed_decimal k ∷ words_of a
words-Scale k a = words_by (Scale k a) (Term-F.Scale k a) (search (rules, the_lemmas))

pub words-App : (operator : ℕ) (all : List Term) → words_of (App operator all) ≡ (codes "f" ++ decimal operator) ∷ decimal (length all) ∷ joined (map words_of all)
words-App operator all =
    words_by (App operator all) (Term-F.App operator all) (search (rules, the_lemmas)) ∙ ap (λ n. (codes "f" ++ decimal operator) ∷ decimal n ∷ joined (map words_of all)) (length-map all words_of)

pub words-RefSym : (n : ℕ) → words_of (RefSym n) ≡ (codes "r" ++ decimal n) ∷ []
words-RefSym n = words_by (RefSym n) (Term-F.RefSym n) (search (rules, the_lemmas))

pub words-RefLit : (n : ℕ) → words_of (RefLit n) ≡ (codes "@" ++ decimal n) ∷ []
words-RefLit n = words_by (RefLit n) (Term-F.RefLit n) (search (rules, the_lemmas))

pub words-Nil : words_of Nil ≡ codes "nil" ∷ []
words-Nil = words_by Nil Term-F.Nil (search (rules, the_lemmas))

pub stacked-push : (s : List Term) (t : Term) → stacked (s ++ t ∷ []) ≡ words_of t ++ stacked s
stacked-push [] t = sym (append-nil (words_of t))
stacked-push (u ∷ s) t =
    ap (λ ws. ws ++ words_of u) (stacked-push s t) ∙ append_assoc (words_of t) (stacked s) (words_of u)

pub joined-push : (all : List Term) (t : Term) → joined (map words_of (all ++ t ∷ [])) ≡ joined (map words_of all) ++ words_of t
joined-push [] t = append-nil (words_of t)
joined-push (u ∷ all) t =
    ap (λ ws. words_of u ++ ws) (joined-push all t) ∙ sym (append_assoc (words_of u) (joined (map words_of all)) (words_of t))

-- what is put on a stack has the words of a term in front
pub pushed : {E : Type 0} (r : Result Bool E) (s : List (List ℕ)) (new : List Term) (ws : List (List ℕ)) (all : List (List ℕ)) → ws ++ s ≡ all → OnOk r (stacked new ≡ ws ++ s) → IfOk r (λ done. IsTrue done → stacked new ≡ all)
pushed (Ok x) s new ws all e h = λ done. h ∙ e
pushed (Err x) s new ws all e h = tt

-- a word in front, where a term is of that word
pub leaf : (ws s : List (List ℕ)) (w : List ℕ) → ws ≡ w ∷ [] → ws ++ s ≡ w ∷ s
leaf ws s w e = ap (λ vs. vs ++ s) e

-- the sum of the first two terms
pub of_sum : (s0 s1 s2 : List Term) (a b t : Term) → s0 ≡ s1 ++ a ∷ [] → s1 ≡ s2 ++ b ∷ [] → t ≡ Add a b → words_of t ++ stacked s2 ≡ codes "+" ∷ stacked s0
of_sum s0 s1 s2 a b t e f g =
    ap (λ u. words_of u ++ stacked s2) g ∙ ap (λ ws. ws ++ stacked s2) (words-Add a b) ∙ ap (λ ws. codes "+" ∷ ws) (append_assoc (words_of a) (words_of b) (stacked s2) ∙ ap (λ ws. words_of a ++ ws) (sym (ap stacked f ∙ stacked-push s2 b)) ∙ sym (ap stacked e ∙ stacked-push s1 a))

-- a multiple of the first term behind a number
pub of_multiple : (ws : List (List ℕ)) (k : ℤ) (s1 s2 : List Term) (a b : Term) → ws ≡ signed_decimal k ∷ stacked s1 → s1 ≡ s2 ++ a ∷ [] → b ≡ a → words_of (Scale k b) ++ stacked s2 ≡ codes "*" ∷ ws
of_multiple ws k s1 s2 a b e f g =
    ap (λ u. words_of (Scale k u) ++ stacked s2) g ∙ ap (λ vs. vs ++ stacked s2) (words-Scale k a) ∙ ap (λ vs. codes "*" ∷ signed_decimal k ∷ vs) (sym (ap stacked f ∙ stacked-push s2 a)) ∙ ap (λ vs. codes "*" ∷ vs) (sym e)

-- an application to the first terms behind their count
pub of_application : (ws : List (List ℕ)) (operator count : ℕ) (z : ℤ) (s1 s2 all : List Term) (t : Term) → ws ≡ signed_decimal z ∷ stacked s1 → z ≡ pos count → stacked s1 ≡ joined (map words_of all) ++ stacked s2 → length all ≡ count → t ≡ App operator all → words_of t ++ stacked s2 ≡ (codes "f" ++ decimal operator) ∷ ws
of_application ws operator count z s1 s2 all t e f g h i =
    ap (λ u. words_of u ++ stacked s2) i ∙ ap (λ vs. vs ++ stacked s2) (words-App operator all) ∙ ap (λ n. (codes "f" ++ decimal operator) ∷ decimal n ∷ (joined (map words_of all) ++ stacked s2)) h ∙ ap (λ y. (codes "f" ++ decimal operator) ∷ signed_decimal y ∷ (joined (map words_of all) ++ stacked s2)) (sym f) ∙ ap (λ vs. (codes "f" ++ decimal operator) ∷ signed_decimal z ∷ vs) (sym g) ∙ ap (λ vs. (codes "f" ++ decimal operator) ∷ vs) (sym e)

-- one term more is taken
pub taken : (ws : List (List ℕ)) (all s1 s2 : List Term) (t : Term) → ws ≡ joined (map words_of all) ++ stacked s1 → s1 ≡ s2 ++ t ∷ [] → ws ≡ joined (map words_of (all ++ t ∷ [])) ++ stacked s2
taken ws all s1 s2 t e f =
    e ∙ ap (λ us. joined (map words_of all) ++ us) (ap stacked f ∙ stacked-push s2 t) ∙ sym (append_assoc (joined (map words_of all)) (words_of t) (stacked s2)) ∙ ap (λ us. us ++ stacked s2) (sym (joined-push all t))

-- a number in front is taken
pub popped : (r : Option ℤ) (s0 s1 : List Term) (t : Term) → s0 ≡ s1 ++ t ∷ [] → IfSome r (λ z. words_of t ≡ signed_decimal z ∷ []) → IfSome r (λ z. stacked s0 ≡ signed_decimal z ∷ stacked s1)
popped (Some z) s0 s1 t e h = ap stacked e ∙ stacked-push s1 t ∙ ap (λ ws. ws ++ stacked s1) h
popped None s0 s1 t e h = tt

-- the terms of a stack of two
pub two_there : (s0 s1 s2 : List Term) (a b : Term) → s0 ≡ s1 ++ a ∷ [] → s1 ≡ s2 ++ b ∷ [] → s2 ≡ [] → words_of a ++ words_of b ≡ stacked s0
two_there s0 s1 s2 a b e f g =
    sym (ap stacked e ∙ stacked-push s1 a ∙ ap (λ ws. words_of a ++ ws) (ap stacked f ∙ stacked-push s2 b ∙ ap (λ s. words_of b ++ stacked s) g ∙ append-nil (words_of b)))

pub sides_there : (r : Option Sides) (s : List Term) (ws : List (List ℕ)) → stacked s ≡ ws ++ [] → IfSome r (λ x. words_of x.left ++ words_of x.right ≡ stacked s) → IfSome r (λ x. words_of x.left ++ words_of x.right ≡ ws)
sides_there (Some x) s ws e h = h ∙ e ∙ append-nil ws
sides_there None s ws e h = tt

-- the words of two terms that are related
pub related_words : (r : Relation) (a b : Term) → literal_words (related r a b) ≡ relation_text r ∷ (words_of a ++ words_of b)
related_words relation.AtMost a b = refl
related_words relation.Same a b = refl
related_words relation.Apart a b = refl

pub related_there : (r : Relation) (a b : Term) (w : List ℕ) (ws : List (List ℕ)) → relation_text r ≡ w → words_of a ++ words_of b ≡ ws → literal_words (related r a b) ≡ w ∷ ws
related_there r a b w ws e f = related_words r a b ∙ ap (λ v. v ∷ (words_of a ++ words_of b)) e ∙ ap (λ vs. w ∷ vs) f

-- the texts of words
abbrev pub texts : List (Bor (List ℕ)) → List (List ℕ)
texts ws = map (λ w. w.now) ws

-- a line of words says what the words say
pub line_of : {E : Type 0} (r : Result Line E) (text : List ℕ) (ws : List (List ℕ)) → ws ≡ slice_split (λ b. b == 32) text → IfOk r (λ line. AreWordsOf line ws) → IfOk r (λ line. IsLine text line)
line_of (Ok line) text ws e h =
    (ws, sym (ap (join_with_byte 32) e ∙ join_with_byte-slice_split 32 text), h)
line_of (Err x) text ws e h = tt
