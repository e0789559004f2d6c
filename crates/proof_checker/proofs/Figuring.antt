-- The numbers that terms reply are those of their linear forms.
use Rattle.std.specs.Prelude.{◌≡◌, ℕ, ◌==◌, if◌then◌else◌, Bool, true, false, ℤ, pos, ◌+ℤ◌, ◌*ℤ◌, List, [], ◌∷◌, ◌++◌, map, All, FitsSigned}
use Rattle.std.specs.Int.{w128}
use Rattle.std.proofs.Common.{refl, ap, sym, subst, ◌∙◌, arith}
use Rattle.std.proofs.lemmas.Int.{ints}
use Rattle.std.proofs.lemmas.List.Elements.{All-nil, All-cons, All-head, All-tail, All-append}
use Rattle.terms.specs.declared.Term.{Term, Term-F, map-Term, roll-Term, out-Term, out-roll-Term, fold-roll-Term, ind-Term}
use Rattle.terms.specs.Within.{terms_within, parts_of, joined}
use Rattle.terms.specs.Forms.{Form, form_of, form_step, form_sum, form_multiple, form_units, form_symbol, last_form, AllFormsFit}
use Rattle.proof_checker.specs.declared.replies.Figure.{Figure}
use Rattle.proof_checker.specs.declared.replies.Figure.TheVariants.{Coefficient, Units}
use Rattle.proof_checker.specs.declared.replies.Query.TheVariants as query
use Rattle.proof_checker.specs.declared.replies.Reply.{Reply}
use Rattle.proof_checker.specs.declared.replies.Reply.TheVariants as reply
use Rattle.proof_checker.specs.Figures.{asked, FigureFits, symbol_reply, literal_reply, nothing_reply, sum_reply, multiple_reply, rest_reply, list_reply, reply_step, reply_to, checked}
use Rattle.proof_checker.proofs.Reading.{within_below, below-itself}
use Rattle.proof_checker.proofs.Narrow.{by_checked}

-- the terms within the parts of a form
abbrev pub parts : Term-F Term → List Term
parts x = parts_of (map-Term Term (List Term) terms_within x)

pub within_is : (t : Term) (x : Term-F Term) → out-Term t ≡ x → terms_within t ≡ t ∷ parts x
within_is t x e =
    ap terms_within (sym (below-itself t)) ∙ within_below (λ u. u) t (out-Term t) refl
    ∙ ap (λ u. u ∷ parts (map-Term Term Term (λ w. w) (out-Term t))) (below-itself t)
    ∙ ap (λ y. t ∷ parts y) (sym (out-roll-Term (map-Term Term Term (λ u. u) (out-Term t))) ∙ ap out-Term (below-itself t) ∙ e)

pub within-roll : (x : Term-F Term) → terms_within (roll-Term x) ≡ roll-Term x ∷ parts x
within-roll x = within_is (roll-Term x) x (out-roll-Term x)

-- the two parts of a list
pub front_all : {X : Type 0} (P : X → Type 0) (xs ys : List X) → All P (xs ++ ys) → All P xs
front_all P [] ys h = All-nil P
front_all P (x ∷ xs) ys h = All-cons P x xs (All-head P x (xs ++ ys) h) (front_all P xs ys (All-tail P x (xs ++ ys) h))

pub rest_all : {X : Type 0} (P : X → Type 0) (xs ys : List X) → All P (xs ++ ys) → All P ys
rest_all P [] ys h = h
rest_all P (x ∷ xs) ys h = rest_all P xs ys (All-tail P x (xs ++ ys) h)

pub zero_fits : FitsSigned w128 (pos 0)
zero_fits = omega (arith, ints)

one_fits : FitsSigned w128 (pos 1)
one_fits = omega (arith, ints)

-- a number that is asked for, of forms made of others
asked-sum : (f : Figure) (a b : Form) → asked f (form_sum a b) ≡ asked f a +ℤ asked f b
asked-sum (Coefficient v) a b = refl
asked-sum Units a b = refl

asked-multiple : (f : Figure) (k : ℤ) (a : Form) → asked f (form_multiple k a) ≡ k *ℤ asked f a
asked-multiple (Coefficient v) k a = refl
asked-multiple Units k a = refl

asked-none : (f : Figure) → asked f (form_units (pos 0)) ≡ pos 0
asked-none (Coefficient v) = refl
asked-none Units = refl

module _ (f : Figure) where
  abbrev pub Fits : Term → Type 0
  Fits u = FitsSigned w128 (asked f (form_of u))

  -- a number that is `z` where all terms fit, and none where they don't
  abbrev pub Says : List Term → ℤ → Reply → Type 0
  Says ts z (reply.Number y) = All Fits ts × (y ≡ z)
  Says ts z reply.None = ¬ (All Fits ts)
  Says ts z (reply.Symbol n) = ⊥

  -- the same where `z` has to fit too
  abbrev SaysFit : List Term → ℤ → Reply → Type 0
  SaysFit ts z (reply.Number y) = All Fits ts × FitsSigned w128 z × (y ≡ z)
  SaysFit ts z reply.None = ¬ (All Fits ts × FitsSigned w128 z)
  SaysFit ts z (reply.Symbol n) = ⊥

  says_node : (t : Term) (ts : List Term) (z : ℤ) (r : Reply) → asked f (form_of t) ≡ z → SaysFit ts z r → Says (t ∷ ts) z r
  says_node t ts z (reply.Number y) e (all, fits, is) = (All-cons Fits t ts (subst (λ x. FitsSigned w128 x) (sym e) fits) all, is)
  says_node t ts z reply.None e h = λ all. h (All-tail Fits t ts all, subst (λ x. FitsSigned w128 x) e (All-head Fits t ts all))
  says_node t ts z (reply.Symbol n) e h = h

  says_leaf : (z y : ℤ) → FitsSigned w128 z → y ≡ z → SaysFit [] z (reply.Number y)
  says_leaf z y fits e = (All-nil Fits, fits, e)

  says_units : (z : ℤ) → SaysFit [] z (checked z)
  says_units z = by_checked (λ r. SaysFit [] z r) z (λ fits. says_leaf z z fits refl) (λ wide h. wide h.1)

  says_sum : (as_ bs : List Term) (m n z : ℤ) (r s : Reply) → z ≡ m +ℤ n → Says as_ m r → Says bs n s → SaysFit (as_ ++ bs) z (sum_reply r s)
  says_sum as_ bs m n z (reply.Number x) (reply.Number y) e (p, d) (q, g) =
      let is : x +ℤ y ≡ z = ap (λ w. w +ℤ y) d ∙ ap (λ w. m +ℤ w) g ∙ sym e in
      by_checked (λ r. SaysFit (as_ ++ bs) z r) (x +ℤ y) (λ fits. (All-append Fits as_ bs p q, subst (λ w. FitsSigned w128 w) is fits, is)) (λ wide h. wide (subst (λ w. FitsSigned w128 w) (sym is) h.1))
  says_sum as_ bs m n z (reply.Number x) reply.None e (p, d) h = λ all. h (rest_all Fits as_ bs all.0)
  says_sum as_ bs m n z (reply.Number x) (reply.Symbol k) e h g = absurd g
  says_sum as_ bs m n z reply.None (reply.Number y) e h g = λ all. h (front_all Fits as_ bs all.0)
  says_sum as_ bs m n z reply.None reply.None e h g = λ all. h (front_all Fits as_ bs all.0)
  says_sum as_ bs m n z reply.None (reply.Symbol k) e h g = absurd g
  says_sum as_ bs m n z (reply.Symbol k) s e h g = absurd h

  says_multiple : (k : ℤ) (as_ : List Term) (m z : ℤ) (r : Reply) → z ≡ k *ℤ m → Says as_ m r → SaysFit as_ z (multiple_reply k r)
  says_multiple k as_ m z (reply.Number x) e (p, d) =
      let is : k *ℤ x ≡ z = ap (λ w. k *ℤ w) d ∙ sym e in
      by_checked (λ r. SaysFit as_ z r) (k *ℤ x) (λ fits. (p, subst (λ w. FitsSigned w128 w) is fits, is)) (λ wide h. wide (subst (λ w. FitsSigned w128 w) (sym is) h.1))
  says_multiple k as_ m z reply.None e h = λ all. h all.0
  says_multiple k as_ m z (reply.Symbol n) e h = h

  says_rest : (as_ bs : List Term) (m z : ℤ) (r s : Reply) → Says as_ m r → SaysFit bs z s → SaysFit (as_ ++ bs) z (rest_reply r s)
  says_rest as_ bs m z (reply.Number x) (reply.Number y) (p, d) (q, fits, g) = (All-append Fits as_ bs p q, fits, g)
  says_rest as_ bs m z (reply.Number x) reply.None (p, d) h = λ all. h (rest_all Fits as_ bs all.0, all.1)
  says_rest as_ bs m z (reply.Number x) (reply.Symbol n) h g = g
  says_rest as_ bs m z reply.None (reply.Number y) h g = λ all. h (front_all Fits as_ bs all.0)
  says_rest as_ bs m z reply.None reply.None h g = λ all. h (front_all Fits as_ bs all.0)
  says_rest as_ bs m z reply.None (reply.Symbol n) h g = absurd g
  says_rest as_ bs m z (reply.Symbol n) s h g = absurd h

  -- a term's own number fits where all within do
  own : (t : Term) → All Fits (terms_within t) → Fits t
  own t all = All-head Fits t (parts (out-Term t)) (subst (All Fits) (within_is t (out-Term t) refl) all)

  says_last : (t : Term) (r : Reply) → Says (terms_within t) (asked f (form_of t)) r → SaysFit (terms_within t ++ []) (asked f (form_of t)) r
  says_last t (reply.Number y) (all, e) = (All-append Fits (terms_within t) [] all (All-nil Fits), own t all, e)
  says_last t reply.None h = λ all. h (front_all Fits (terms_within t) [] all.0)
  says_last t (reply.Symbol n) h = h

  abbrev pub Replies : Term → Type 0
  Replies t = Says (terms_within t) (asked f (form_of t)) (reply_to (query.Number f) t)

  abbrev Known : Type 0
  Known = (t : Term) × Replies t

  abbrev terms_of : List Known → List Term
  terms_of all = map (λ e. e.0) all

  abbrev form_known : Term-F Known → Term-F Term
  form_known y = map-Term Known Term (λ e. e.0) y

  list_says : (all : List Known) → SaysFit (joined (map terms_within (terms_of all))) (asked f (last_form (map form_of (terms_of all)))) (list_reply (query.Number f) (map (reply_to (query.Number f)) (terms_of all)))
  list_says [] = says_leaf (asked f (form_units (pos 0))) (pos 0) (subst (λ z. FitsSigned w128 z) (sym (asked-none f)) zero_fits) (sym (asked-none f))
  list_says (e ∷ []) = says_last e.0 (reply_to (query.Number f) e.0) e.1
  list_says (e ∷ d ∷ more) =
      says_rest (terms_within e.0) (joined (map terms_within (terms_of (d ∷ more)))) (asked f (form_of e.0)) (asked f (last_form (map form_of (terms_of (d ∷ more))))) (reply_to (query.Number f) e.0) (list_reply (query.Number f) (map (reply_to (query.Number f)) (terms_of (d ∷ more)))) e.1 (list_says (d ∷ more))

-- of a number symbol, of units and of a reference
symbol_says : (f : Figure) (n : ℕ) → SaysFit f [] (asked f (form_symbol n)) (symbol_reply (query.Number f) n)
symbol_says (Coefficient v) n = says_leaf (Coefficient v) (if v == n then pos 1 else pos 0) (if v == n then pos 1 else pos 0) (by_test (v == n)) refl
  where
    by_test : (b : Bool) → FitsSigned w128 (if b then pos 1 else pos 0)
    by_test true = one_fits
    by_test false = zero_fits
symbol_says Units n = says_leaf Units (pos 0) (pos 0) zero_fits refl

literal_says : (f : Figure) (z : ℤ) → SaysFit f [] (asked f (form_units z)) (literal_reply (query.Number f) z)
literal_says (Coefficient v) z = says_leaf (Coefficient v) (pos 0) (pos 0) zero_fits refl
literal_says Units z = says_units Units z

nothing_says : (f : Figure) → SaysFit f [] (asked f (form_units (pos 0))) (nothing_reply (query.Number f))
nothing_says (Coefficient v) = says_leaf (Coefficient v) (pos 0) (pos 0) zero_fits refl
nothing_says Units = says_leaf Units (pos 0) (pos 0) zero_fits refl

module _ (f : Figure) where
  abbrev Rolled : Term-F Term → Type 0
  Rolled x = SaysFit f (parts x) (asked f (form_step (map-Term Term Form form_of x))) (reply_step (query.Number f) (map-Term Term Reply (reply_to (query.Number f)) x))

  layer : (y : Term-F (Known f)) → Rolled (form_known f y)
  layer (Term-F.Sym n) = symbol_says f n
  layer (Term-F.Lit z) = literal_says f z
  layer (Term-F.Add a b) =
      says_sum f (terms_within a.0) (terms_within b.0) (asked f (form_of a.0)) (asked f (form_of b.0)) (asked f (form_sum (form_of a.0) (form_of b.0))) (reply_to (query.Number f) a.0) (reply_to (query.Number f) b.0) (asked-sum f (form_of a.0) (form_of b.0)) a.1 b.1
  layer (Term-F.Scale k a) =
      says_multiple f k (terms_within a.0) (asked f (form_of a.0)) (asked f (form_multiple k (form_of a.0))) (reply_to (query.Number f) a.0) (asked-multiple f k (form_of a.0)) a.1
  layer (Term-F.App operator all) = list_says f all
  layer (Term-F.RefSym n) = nothing_says f
  layer (Term-F.RefLit n) = nothing_says f
  layer Term-F.Nil = nothing_says f

  rolled : (x : Term-F Term) → Rolled x → Replies f (roll-Term x)
  rolled x h =
      let z = asked f (form_step (map-Term Term Form form_of x)) in
      let r = reply_step (query.Number f) (map-Term Term Reply (reply_to (query.Number f)) x) in
      let e : asked f (form_of (roll-Term x)) ≡ z = ap (asked f) (fold-roll-Term Form form_step x) in
      let a : Says f (roll-Term x ∷ parts x) z r = says_node f (roll-Term x) (parts x) z r e h in
      let b : Says f (terms_within (roll-Term x)) z r = subst (λ ts. Says f ts z r) (sym (within-roll x)) a in
      let d : Says f (terms_within (roll-Term x)) (asked f (form_of (roll-Term x))) r = subst (λ w. Says f (terms_within (roll-Term x)) w r) (sym e) b in
      subst (λ s. Says f (terms_within (roll-Term x)) (asked f (form_of (roll-Term x))) s) (sym (fold-roll-Term Reply (reply_step (query.Number f)) x)) d

  -- what a term replies to a question for a number
  pub replies : (t : Term) → Replies f t
  replies = ind-Term (Replies f) (λ x y is. subst (λ z. Replies f (roll-Term z)) is (rolled (form_known f y) (layer y)))

-- a figure that fits, and one that doesn't, by the reply
pub figure_is : (f : Figure) (t : Term) (z : ℤ) → reply.Number z ≡ reply_to (query.Number f) t → FigureFits f t × (z ≡ asked f (form_of t))
figure_is f t z e =
    let h : Says f (terms_within t) (asked f (form_of t)) (reply.Number z) = subst (λ r. Says f (terms_within t) (asked f (form_of t)) r) (sym e) (replies f t) in
    (record { within = h.0 }, h.1)

pub figure_none : (f : Figure) (t : Term) → reply.None ≡ reply_to (query.Number f) t → ¬ (FigureFits f t)
figure_none f t e =
    let h : ¬ (All (Fits f) (terms_within t)) = subst (λ r. Says f (terms_within t) (asked f (form_of t)) r) (sym e) (replies f t) in
    λ fits. h fits.within

pub figure_symbol : (f : Figure) (t : Term) (n : ℕ) → reply.Symbol n ≡ reply_to (query.Number f) t → ⊥
figure_symbol f t n e = subst (λ r. Says f (terms_within t) (asked f (form_of t)) r) (sym e) (replies f t)

-- the number of the term itself fits
pub own_figure_fits : (f : Figure) (t : Term) → FigureFits f t → FitsSigned w128 (asked f (form_of t))
own_figure_fits f t h = own f t h.within

-- all numbers fit where each does
pub all_figures_fit : (t : Term) → ((v : ℕ) → FigureFits (Coefficient v) t) → FigureFits Units t → AllFormsFit t
all_figures_fit t h u = record { within = λ k d lt. record { coefs = λ v. (h v).within k d lt; units = u.within k d lt } }

pub coefficient_fits : (t : Term) (v : ℕ) → AllFormsFit t → FigureFits (Coefficient v) t
coefficient_fits t v h = record { within = λ k d lt. (h.within k d lt).coefs v }

pub units_fit : (t : Term) → AllFormsFit t → FigureFits Units t
units_fit t h = record { within = λ k d lt. (h.within k d lt).units }
