-- What an expression begins with, and what may stand behind one.
use Rattle.std.proofs.Common.{ℕ, Bool, true, false, ◌≡◌, ◌≤◌, arith, refl, List, [], ◌∷◌}
use Rattle.py_base.specs.declared.Place.{Place}
use Rattle.py_tokens.specs.declared.Token.{Token}
use Rattle.py_tokens.specs.declared.TokenForm.{TokenForm}
use Rattle.py_tokens.specs.declared.TokenForm.TheVariants as forms
use Rattle.py_tokens.specs.declared.Keyword.TheVariants as keys
use Rattle.py_tokens.specs.declared.Mark.TheVariants as marks
use Rattle.py_grammar.specs.TokenFronts.{Has}
use Rattle.py_grammar.specs.Symbols.{Value, Sym, make, neg, tail_post, tail_prod, tail_sum, tail_cmp, tail_and, tail_or, links, bracket_tail, elements_tail, arg_tail, args_tail, Move, take, skip, stop}
use Rattle.py_grammar.specs.Makers.{make_not, make_link, make_element}
use Rattle.py_grammar.specs.Moves.{made, and_then, starts_expr, next_un, next_neg, next_post, next_prod, next_sum, next_link, next_and, next_or, next_is, next_in_bracket, next_elements, next_args}
use Rattle.py_grammar.proofs.Rows.{To, skipped}
use Rattle.raw_syntax.specs.declared.Comparison.TheVariants as compares

-- how tightly a token binds what stands before it
abbrev pub strength : TokenForm → ℕ
strength (forms.Mark marks.Dot) = 6
strength (forms.Mark marks.OpenParen) = 6
strength (forms.Mark marks.Star) = 5
strength (forms.Mark marks.Slash) = 5
strength (forms.Mark marks.TwoSlashes) = 5
strength (forms.Mark marks.Percent) = 5
strength (forms.Mark marks.Plus) = 4
strength (forms.Mark marks.Minus) = 4
strength (forms.Mark marks.Less) = 3
strength (forms.Mark marks.LessEqual) = 3
strength (forms.Mark marks.Greater) = 3
strength (forms.Mark marks.GreaterEqual) = 3
strength (forms.Mark marks.Equal) = 3
strength (forms.Mark marks.NotEqual) = 3
strength (forms.Key keys.Is) = 3
strength (forms.Key keys.And) = 2
strength (forms.Key keys.Or) = 1
strength f = 0

-- The first token binds no more tightly than this.
abbrev pub Stops : ℕ → List Token → Type 0
Stops m ts = (p : Place) × (f : TokenForm) × (r : List Token) × Has p f ts r × (strength f ≤ m)

pub stops : {m : ℕ} {p : Place} {f : TokenForm} {ts r : List Token} → Has p f ts r → strength f ≤ m → Stops m ts
stops {m} {p} {f} {ts} {r} h l = (p, f, r, h, l)

pub weaker : {m n : ℕ} {ts : List Token} → Stops m ts → m ≤ n → Stops n ts
weaker (p, f, r, h, l) k = (p, f, r, h, omega (arith, l, k))

post_skips : (p : Place) (f : TokenForm) → strength f ≤ 5 → next_post p f ≡ skip
post_skips p (forms.Mark marks.Dot) l = absurd (omega (arith, l))
post_skips p (forms.Mark marks.OpenParen) l = absurd (omega (arith, l))
post_skips p _ l = refl

prod_skips : (p : Place) (f : TokenForm) → strength f ≤ 4 → next_prod p f ≡ skip
prod_skips p (forms.Mark marks.Star) l = absurd (omega (arith, l))
prod_skips p (forms.Mark marks.Slash) l = absurd (omega (arith, l))
prod_skips p (forms.Mark marks.TwoSlashes) l = absurd (omega (arith, l))
prod_skips p (forms.Mark marks.Percent) l = absurd (omega (arith, l))
prod_skips p _ l = refl

sum_skips : (p : Place) (f : TokenForm) → strength f ≤ 3 → next_sum p f ≡ skip
sum_skips p (forms.Mark marks.Plus) l = absurd (omega (arith, l))
sum_skips p (forms.Mark marks.Minus) l = absurd (omega (arith, l))
sum_skips p _ l = refl

link_skips : (vs : List Value) (p : Place) (f : TokenForm) → strength f ≤ 2 → next_link vs p f ≡ skip
link_skips vs p (forms.Mark marks.Less) l = absurd (omega (arith, l))
link_skips vs p (forms.Mark marks.LessEqual) l = absurd (omega (arith, l))
link_skips vs p (forms.Mark marks.Greater) l = absurd (omega (arith, l))
link_skips vs p (forms.Mark marks.GreaterEqual) l = absurd (omega (arith, l))
link_skips vs p (forms.Mark marks.Equal) l = absurd (omega (arith, l))
link_skips vs p (forms.Mark marks.NotEqual) l = absurd (omega (arith, l))
link_skips vs p (forms.Key keys.Is) l = absurd (omega (arith, l))
link_skips vs p _ l = refl

and_skips : (p : Place) (f : TokenForm) → strength f ≤ 1 → next_and p f ≡ skip
and_skips p (forms.Key keys.And) l = absurd (omega (arith, l))
and_skips p _ l = refl

or_skips : (p : Place) (f : TokenForm) → strength f ≤ 0 → next_or p f ≡ skip
or_skips p (forms.Key keys.Or) l = absurd (omega (arith, l))
or_skips p _ l = refl

pub skip_post : {m : ℕ} {S : List Sym} {V : List Value} {ts : List Token} → Stops m ts → m ≤ 5 → To ts (tail_post ∷ S) V ts S V
skip_post (p, f, r, h, l) k = skipped h (post_skips p f (omega (arith, l, k)))

pub skip_prod : {m : ℕ} {S : List Sym} {V : List Value} {ts : List Token} → Stops m ts → m ≤ 4 → To ts (tail_prod ∷ S) V ts S V
skip_prod (p, f, r, h, l) k = skipped h (prod_skips p f (omega (arith, l, k)))

pub skip_sum : {m : ℕ} {S : List Sym} {V : List Value} {ts : List Token} → Stops m ts → m ≤ 3 → To ts (tail_sum ∷ S) V ts S V
skip_sum (p, f, r, h, l) k = skipped h (sum_skips p f (omega (arith, l, k)))

pub skip_cmp : {m : ℕ} {S : List Sym} {V : List Value} {ts : List Token} → Stops m ts → m ≤ 2 → To ts (tail_cmp ∷ S) V ts S V
skip_cmp (p, f, r, h, l) k = skipped h (link_skips _ p f (omega (arith, l, k)))

pub skip_links : {m : ℕ} {S : List Sym} {V : List Value} {ts : List Token} → Stops m ts → m ≤ 2 → To ts (links ∷ S) V ts S (made links V)
skip_links (p, f, r, h, l) k = skipped h (link_skips _ p f (omega (arith, l, k)))

pub skip_and : {m : ℕ} {S : List Sym} {V : List Value} {ts : List Token} → Stops m ts → m ≤ 1 → To ts (tail_and ∷ S) V ts S V
skip_and (p, f, r, h, l) k = skipped h (and_skips p f (omega (arith, l, k)))

pub skip_or : {S : List Sym} {V : List Value} {ts : List Token} → Stops 0 ts → To ts (tail_or ∷ S) V ts S V
skip_or (p, f, r, h, l) = skipped h (or_skips p f l)

-- Some operand of arithmetic begins with this token.
abbrev pub starts_un : TokenForm → Bool
starts_un (forms.Key keys.Not) = false
starts_un f = starts_expr f

abbrev pub StartsUn : List Token → Type 0
StartsUn ts = (p : Place) × (f : TokenForm) × (r : List Token) × Has p f ts r × (starts_un f ≡ true)

abbrev pub StartsExpr : List Token → Type 0
StartsExpr ts = (p : Place) × (f : TokenForm) × (r : List Token) × Has p f ts r × (starts_expr f ≡ true)

pub impossible : false ≡ true → ⊥
impossible h = cc

pub un_never_skips : (p : Place) (f : TokenForm) → next_un p f ≡ skip → ⊥
un_never_skips p (forms.Name n) h = cc
un_never_skips p (forms.Number n) h = cc
un_never_skips p (forms.Str n) h = cc
un_never_skips p (forms.Key keys.True) h = cc
un_never_skips p (forms.Key keys.False) h = cc
un_never_skips p (forms.Key keys.None) h = cc
un_never_skips p (forms.Mark marks.OpenParen) h = cc
un_never_skips p (forms.Mark marks.Minus) h = cc
un_never_skips p _ h = cc

pub then_never_skips : (m : Move) (zs : List Sym) → (m ≡ skip → ⊥) → and_then m zs ≡ skip → ⊥
then_never_skips (take ys vs) zs n h = cc
then_never_skips skip zs n h = n refl
then_never_skips stop zs n h = cc

pub took_not_skipped : (ys : List Sym) (vs : List Value) → take ys vs ≡ skip → ⊥
took_not_skipped ys vs h = cc

pub neg_never_skips : (p : Place) (f : TokenForm) → next_neg p f ≡ skip → ⊥
neg_never_skips p (forms.Key keys.Not) h = took_not_skipped (neg ∷ make (make_not p) ∷ []) [] h
neg_never_skips p f h = then_never_skips (next_un p f) (tail_prod ∷ tail_sum ∷ tail_cmp ∷ []) (un_never_skips p f) h

pub neg_opens : (p : Place) (f : TokenForm) → starts_un f ≡ true → next_neg p f ≡ and_then (next_un p f) (tail_prod ∷ tail_sum ∷ tail_cmp ∷ [])
neg_opens p (forms.Key keys.Not) h = absurd (impossible h)
neg_opens p f h = refl

pub is_opens : (q p : Place) (f : TokenForm) → starts_un f ≡ true → next_is q p f ≡ and_then (next_un p f) (tail_prod ∷ tail_sum ∷ make (make_link q compares.Is) ∷ links ∷ [])
is_opens q p (forms.Key keys.Not) h = absurd (impossible h)
is_opens q p f h = refl

pub bracket_opens : (q p : Place) (f : TokenForm) → starts_expr f ≡ true → next_in_bracket q p f ≡ and_then (next_neg p f) (tail_and ∷ tail_or ∷ bracket_tail q ∷ [])
bracket_opens q p (forms.Mark marks.CloseParen) h = absurd (impossible h)
bracket_opens q p f h = refl

pub elements_open : (q p : Place) (f : TokenForm) → starts_expr f ≡ true → next_elements q p f ≡ and_then (next_neg p f) (tail_and ∷ tail_or ∷ make make_element ∷ elements_tail q ∷ [])
elements_open q p (forms.Mark marks.CloseParen) h = absurd (impossible h)
elements_open q p f h = refl

pub args_open : (p : Place) (f : TokenForm) → starts_expr f ≡ true → next_args p f ≡ and_then (next_neg p f) (tail_and ∷ tail_or ∷ arg_tail ∷ args_tail ∷ [])
args_open p (forms.Mark marks.CloseParen) h = absurd (impossible h)
args_open p f h = refl
