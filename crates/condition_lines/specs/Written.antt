-- How terms and literals are written: as words, an operator in front of what it is applied to.
use Rattle.std.specs.Prelude.{ℕ, Bool, true, false, List, [], ◌∷◌, ◌++◌, length, codes, decimal}
use Rattle.std.specs.Fmt.{signed_decimal}
use Rattle.terms.specs.declared.Term.{Term, Term-F, fold-Term}
use Rattle.terms.specs.declared.Literal.{Literal}
use Rattle.terms.specs.declared.Literal.TheVariants as lit
use Rattle.condition_lines.specs.declared.words.Word.{Word}
use Rattle.condition_lines.specs.declared.words.Word.TheVariants as word
use Rattle.condition_lines.specs.declared.literals.Relation.{Relation}
use Rattle.condition_lines.specs.declared.literals.Relation.TheVariants as relation

abbrev pub joined : List (List (List ℕ)) → List (List ℕ)
joined [] = []
joined (ws ∷ more) = ws ++ joined more

-- `x3`, `-12`, `+ T T`, `* K T`, `f2 COUNT T ..` with the symbol of the result last, `r1`, `@4` and `nil`
abbrev pub term_step : Term-F (List (List ℕ)) → List (List ℕ)
term_step (Term-F.Sym n) = (codes "x" ++ decimal n) ∷ []
term_step (Term-F.Lit z) = signed_decimal z ∷ []
term_step (Term-F.Add a b) = codes "+" ∷ (a ++ b)
term_step (Term-F.Scale k a) = codes "*" ∷ signed_decimal k ∷ a
term_step (Term-F.App operator all) = (codes "f" ++ decimal operator) ∷ decimal (length all) ∷ joined all
term_step (Term-F.RefSym n) = (codes "r" ++ decimal n) ∷ []
term_step (Term-F.RefLit n) = (codes "@" ++ decimal n) ∷ []
term_step Term-F.Nil = codes "nil" ∷ []

-- the words of a term
abbrev pub words_of : Term → List (List ℕ)
words_of = fold-Term (List (List ℕ)) term_step

-- the words of a flag
abbrev pub flag_words : List ℕ → Bool → List (List ℕ)
flag_words number true = codes "flag" ∷ number ∷ []
flag_words number false = codes "not" ∷ codes "flag" ∷ number ∷ []

-- `<= T T`, `= T T`, `/= T T`, `flag N` and `not flag N`
abbrev pub literal_words : Literal → List (List ℕ)
literal_words (lit.AtMost a b) = codes "<=" ∷ (words_of a ++ words_of b)
literal_words (lit.Same a b) = codes "=" ∷ (words_of a ++ words_of b)
literal_words (lit.Apart a b) = codes "/=" ∷ (words_of a ++ words_of b)
literal_words (lit.Flag n held) = flag_words (decimal n) held

-- one word of a term
abbrev pub text_of : Word → List ℕ
text_of (word.Sym n) = codes "x" ++ decimal n
text_of (word.Lit z) = signed_decimal z
text_of word.Add = codes "+"
text_of word.Scale = codes "*"
text_of (word.Apply n) = codes "f" ++ decimal n
text_of (word.RefSym n) = codes "r" ++ decimal n
text_of (word.RefLit n) = codes "@" ++ decimal n
text_of word.Nil = codes "nil"

abbrev pub relation_text : Relation → List ℕ
relation_text relation.AtMost = codes "<="
relation_text relation.Same = codes "="
relation_text relation.Apart = codes "/="

-- the literal that relates two terms
abbrev pub related : Relation → Term → Term → Literal
related relation.AtMost a b = lit.AtMost a b
related relation.Same a b = lit.Same a b
related relation.Apart a b = lit.Apart a b

-- the words of terms, the last of them first
abbrev pub stacked : List Term → List (List ℕ)
stacked [] = []
stacked (t ∷ ts) = stacked ts ++ words_of t
