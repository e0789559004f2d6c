-- One list of tokens has one answer.
use Rattle.std.proofs.Common.{◌<◌, ◌≤◌, arith, ◌≡◌, refl, sym, ◌∙◌, ap, List, [], ◌∷◌, ◌++◌, append_assoc, Result, Ok, Err}
use Rattle.py_base.specs.declared.Place.{Place}
use Rattle.py_tokens.specs.declared.Token.{Token}
use Rattle.raw_syntax.specs.declared.Raw.{Raw}
use Rattle.py_grammar.specs.Nesting.{nesting}
use Rattle.py_grammar.specs.Spelling.{Spells, IsFirstBad}
use Rattle.py_parser.specs.Counts.{statements_of, methods_of}
use Rattle.py_parser.specs.Parsing.{IsSyntaxFault, IsDepthFault, IsRead, IsAnswer}
use Rattle.py_parser.specs.declared.fault.ParseFault.{ParseFault}
use Rattle.py_parser.specs.declared.fault.ParseFault.TheVariants as faults
use Rattle.py_parser.proofs.TokenSplits.{Apart, stands_before, is_it, stands_behind, apart}
use Rattle.py_parser.proofs.Faults.{none_is_bad, one_is_bad, one_is_deep, spelled_begins}

-- A list of tokens spells at most one tree.
abbrev pub HasOneTree : List Token → Type 0
HasOneTree ts = (a b : Raw) → Spells ts a → Spells ts b → a ≡ b

bad_of : (ts : List Token) (p : Place) → IsSyntaxFault ts p → IsFirstBad ts p
bad_of ts p h = (h.before, h.after, h.k, h.is, h.at, h.begins, h.stops)

-- what is read goes on with a module everywhere, and is nowhere too deep
read_or_bad : (ts : List Token) (tree : Raw) (p : Place) → IsRead ts tree → IsSyntaxFault ts p → ⊥
read_or_bad ts tree p h g = none_is_bad ts p (spelled_begins ts tree h.spelled) (bad_of ts p g)

read_or_deep : (ts : List Token) (tree : Raw) (p : Place) → IsRead ts tree → IsDepthFault ts p → ⊥
read_or_deep ts tree p h g = let low = h.depth g.before g.after g.k g.deep.is in let high = g.deep.deep in omega (arith, low, high)

-- Where no module goes on in front of what is nested too deep, the fault of depth has that place. Elsewhere a token up to it
-- is nested too deep.
bad_or_deep_by : (ts : List Token) (p q : Place) (h : IsSyntaxFault ts p) (g : IsDepthFault ts q) → Apart h.before h.k h.after g.before g.k g.after → ⊥
bad_or_deep_by ts p q h g (stands_before r m n) = h.elsewhere g.before g.after g.k g.deep (g.at ∙ sym (g.here p (h.before, r, h.k, m, h.at, h.begins, h.stops)))
bad_or_deep_by ts p q h g (is_it m n o) =
    let low = h.shallow h.before [] h.k refl in
    let high = g.deep.deep in
    let same : nesting h.before h.k ≡ nesting g.before g.k = cc in
    omega (arith, low, high, same)
bad_or_deep_by ts p q h g (stands_behind r m n) =
    let low = h.shallow g.before (r ++ h.k ∷ []) g.k (ap (λ (us : List Token). us ++ h.k ∷ []) m ∙ append_assoc g.before (g.k ∷ r) (h.k ∷ [])) in
    let high = g.deep.deep in
    omega (arith, low, high)

bad_or_deep : (ts : List Token) (p q : Place) → IsSyntaxFault ts p → IsDepthFault ts q → ⊥
bad_or_deep ts p q h g = bad_or_deep_by ts p q h g (apart h.before h.k h.after g.before g.k g.after (sym h.is ∙ g.deep.is))

one_bad_place : (ts : List Token) (p q : Place) → IsSyntaxFault ts p → IsSyntaxFault ts q → p ≡ q
one_bad_place ts p q h g = one_is_bad ts p q (bad_of ts p h) (bad_of ts q g)

one_deep_place : (ts : List Token) (p q : Place) → IsDepthFault ts p → IsDepthFault ts q → p ≡ q
one_deep_place ts p q h g = sym h.at ∙ ap (λ (k : Token). k.place) (one_is_deep 100 ts h.before h.after g.before g.after h.k g.k h.deep g.deep) ∙ g.at

-- two trees that are read have equally many statements, and equally many functions
same_statements : (ts : List Token) → HasOneTree ts → (a b : Raw) → IsRead ts a → IsRead ts b → statements_of a ≡ statements_of b
same_statements ts one a b h g = ap statements_of (one a b h.spelled g.spelled)

same_methods : (ts : List Token) → HasOneTree ts → (a b : Raw) → IsRead ts a → IsRead ts b → methods_of a ≡ methods_of b
same_methods ts one a b h g = ap methods_of (one a b h.spelled g.spelled)

few_or_many : (ts : List Token) → HasOneTree ts → (a b : Raw) → IsRead ts a → IsRead ts b → statements_of a ≤ 20000 → 20000 < statements_of b → ⊥
few_or_many ts one a b h g few many = let same = same_statements ts one a b h g in omega (arith, few, many, same)

few_or_many_methods : (ts : List Token) → HasOneTree ts → (a b : Raw) → IsRead ts a → IsRead ts b → methods_of a ≤ 1000 → 1000 < methods_of b → ⊥
few_or_many_methods ts one a b h g few many = let same = same_methods ts one a b h g in omega (arith, few, many, same)

pub one_answer : (ts : List Token) → HasOneTree ts → (a b : Result Raw ParseFault) → IsAnswer ts a → IsAnswer ts b → (a ≡ Err faults.OutOfMemory → ⊥) → (b ≡ Err faults.OutOfMemory → ⊥) → a ≡ b
one_answer ts one (Err faults.OutOfMemory) b h g m n = absurd (m refl)
one_answer ts one a (Err faults.OutOfMemory) h g m n = absurd (n refl)
one_answer ts one (Ok x) (Ok y) (h, hs, hm) (g, gs, gm) m n = ap Ok (one x y h.spelled g.spelled)
one_answer ts one (Ok x) (Err faults.LineTooLong) (h, hs, hm) g m n = absurd (h.lines g)
one_answer ts one (Ok x) (Err (faults.Syntax q)) (h, hs, hm) (gl, g) m n = absurd (read_or_bad ts x q h g)
one_answer ts one (Ok x) (Err (faults.TooDeep q)) (h, hs, hm) (gl, g) m n = absurd (read_or_deep ts x q h g)
one_answer ts one (Ok x) (Err faults.TooManyStatements) (h, hs, hm) (y, g, gs) m n = absurd (few_or_many ts one x y h g hs gs)
one_answer ts one (Ok x) (Err faults.TooManyMethods) (h, hs, hm) (y, g, gs, gm) m n = absurd (few_or_many_methods ts one x y h g hm gm)
one_answer ts one (Err faults.LineTooLong) (Ok y) h (g, gs, gm) m n = absurd (g.lines h)
one_answer ts one (Err faults.LineTooLong) (Err faults.LineTooLong) h g m n = refl
one_answer ts one (Err faults.LineTooLong) (Err (faults.Syntax q)) h (gl, g) m n = absurd (gl h)
one_answer ts one (Err faults.LineTooLong) (Err (faults.TooDeep q)) h (gl, g) m n = absurd (gl h)
one_answer ts one (Err faults.LineTooLong) (Err faults.TooManyStatements) h (y, g, gs) m n = absurd (g.lines h)
one_answer ts one (Err faults.LineTooLong) (Err faults.TooManyMethods) h (y, g, gs, gm) m n = absurd (g.lines h)
one_answer ts one (Err (faults.Syntax p)) (Ok y) (hl, h) (g, gs, gm) m n = absurd (read_or_bad ts y p g h)
one_answer ts one (Err (faults.Syntax p)) (Err faults.LineTooLong) (hl, h) g m n = absurd (hl g)
one_answer ts one (Err (faults.Syntax p)) (Err (faults.Syntax q)) (hl, h) (gl, g) m n = ap (λ (r : Place). Err (faults.Syntax r)) (one_bad_place ts p q h g)
one_answer ts one (Err (faults.Syntax p)) (Err (faults.TooDeep q)) (hl, h) (gl, g) m n = absurd (bad_or_deep ts p q h g)
one_answer ts one (Err (faults.Syntax p)) (Err faults.TooManyStatements) (hl, h) (y, g, gs) m n = absurd (read_or_bad ts y p g h)
one_answer ts one (Err (faults.Syntax p)) (Err faults.TooManyMethods) (hl, h) (y, g, gs, gm) m n = absurd (read_or_bad ts y p g h)
one_answer ts one (Err (faults.TooDeep p)) (Ok y) (hl, h) (g, gs, gm) m n = absurd (read_or_deep ts y p g h)
one_answer ts one (Err (faults.TooDeep p)) (Err faults.LineTooLong) (hl, h) g m n = absurd (hl g)
one_answer ts one (Err (faults.TooDeep p)) (Err (faults.Syntax q)) (hl, h) (gl, g) m n = absurd (bad_or_deep ts q p g h)
one_answer ts one (Err (faults.TooDeep p)) (Err (faults.TooDeep q)) (hl, h) (gl, g) m n = ap (λ (r : Place). Err (faults.TooDeep r)) (one_deep_place ts p q h g)
one_answer ts one (Err (faults.TooDeep p)) (Err faults.TooManyStatements) (hl, h) (y, g, gs) m n = absurd (read_or_deep ts y p g h)
one_answer ts one (Err (faults.TooDeep p)) (Err faults.TooManyMethods) (hl, h) (y, g, gs, gm) m n = absurd (read_or_deep ts y p g h)
one_answer ts one (Err faults.TooManyStatements) (Ok y) (x, h, hs) (g, gs, gm) m n = absurd (few_or_many ts one y x g h gs hs)
one_answer ts one (Err faults.TooManyStatements) (Err faults.LineTooLong) (x, h, hs) g m n = absurd (h.lines g)
one_answer ts one (Err faults.TooManyStatements) (Err (faults.Syntax q)) (x, h, hs) (gl, g) m n = absurd (read_or_bad ts x q h g)
one_answer ts one (Err faults.TooManyStatements) (Err (faults.TooDeep q)) (x, h, hs) (gl, g) m n = absurd (read_or_deep ts x q h g)
one_answer ts one (Err faults.TooManyStatements) (Err faults.TooManyStatements) (x, h, hs) (y, g, gs) m n = refl
one_answer ts one (Err faults.TooManyStatements) (Err faults.TooManyMethods) (x, h, hs) (y, g, gs, gm) m n = absurd (few_or_many ts one y x g h gs hs)
one_answer ts one (Err faults.TooManyMethods) (Ok y) (x, h, hs, hm) (g, gs, gm) m n = absurd (few_or_many_methods ts one y x g h gm hm)
one_answer ts one (Err faults.TooManyMethods) (Err faults.LineTooLong) (x, h, hs, hm) g m n = absurd (h.lines g)
one_answer ts one (Err faults.TooManyMethods) (Err (faults.Syntax q)) (x, h, hs, hm) (gl, g) m n = absurd (read_or_bad ts x q h g)
one_answer ts one (Err faults.TooManyMethods) (Err (faults.TooDeep q)) (x, h, hs, hm) (gl, g) m n = absurd (read_or_deep ts x q h g)
one_answer ts one (Err faults.TooManyMethods) (Err faults.TooManyStatements) (x, h, hs, hm) (y, g, gs) m n = absurd (few_or_many ts one x y h g hs gs)
one_answer ts one (Err faults.TooManyMethods) (Err faults.TooManyMethods) (x, h, hs, hm) (y, g, gs, gm) m n = refl
