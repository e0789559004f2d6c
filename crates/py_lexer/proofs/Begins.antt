-- What some characters begin with.
use Rattle.std.proofs.Common.{ℕ, ◌≡◌, ◌<◌, ◌-◌, refl, ap, arith, List, [], ◌∷◌, ◌++◌, length, take, drop, length-drop, sym, ◌∙◌}
use Rattle.std.proofs.lemmas.List.{take-append-drop, take_all}
use Rattle.py_tokens.specs.StringForms.{BeginsWith}

pub begins_all : (cs : List ℕ) → BeginsWith cs []
begins_all cs = (cs, refl)

pub begins_more : (c b : ℕ) (cs text : List ℕ) → c ≡ b → BeginsWith cs text → BeginsWith (c ∷ cs) (b ∷ text)
begins_more c b cs text e (rest, h) = (rest, cc)

pub more_begins : (c b : ℕ) (cs text : List ℕ) → BeginsWith (c ∷ cs) (b ∷ text) → BeginsWith cs text
more_begins c b cs text (rest, h) = (rest, cc)

pub first_begins : (c b : ℕ) (cs text : List ℕ) → BeginsWith (c ∷ cs) (b ∷ text) → c ≡ b
first_begins c b cs text (rest, h) = cc

pub nothing_begins : (b : ℕ) (text : List ℕ) → BeginsWith [] (b ∷ text) → ⊥
nothing_begins b text (rest, h) = cc

pub begins_nothing : (cs text : List ℕ) → length text < 1 → BeginsWith cs text
begins_nothing cs [] h = (cs, refl)
begins_nothing cs (b ∷ text) h = absurd (omega arith)

pub cut_whole : (cs : List ℕ) (n : ℕ) (front rest : List ℕ) → front ≡ take n cs → rest ≡ drop n cs → cs ≡ front ++ rest
cut_whole cs n front rest e f = sym (take-append-drop n cs) ∙ ap (λ x. x ++ drop n cs) (sym e) ∙ ap (λ x. front ++ x) (sym f)

-- all that stands behind the first character
pub all_behind : (cs : List ℕ) → take (length cs - 1) (drop 1 cs) ≡ drop 1 cs
all_behind cs = take_all (length cs - 1) (drop 1 cs) (let e = length-drop 1 cs in omega arith)
