-- The symbols that terms reply, and the coefficients of symbols that don't stand in a term.
use Rattle.std.specs.Prelude.{◌≡◌, ℕ, ◌<◌, ◌≤◌, ◌==◌, nat_le, ◌⊎◌, if◌then◌else◌, Bool, true, false, ℤ, pos, ◌+ℤ◌, ◌*ℤ◌, List, [], ◌∷◌, ◌++◌, map, All, Contains, FitsSigned}
use Rattle.std.specs.Int.{w128}
use Rattle.std.proofs.Common.{refl, ap, sym, subst, ◌∙◌, arith, rules, inl, inr, ⊎_elim}
use Rattle.std.proofs.lemmas.Int.{ints}
use Rattle.std.proofs.lemmas.Bool.Decides.{nat_tests}
use Rattle.std.proofs.lemmas.List.Elements.{All-nil, All-cons, All-head, All-append, All-weaker, Contains-push, Contains-push_cases, Contains-append_left, Contains-append_right, Contains-append_cases}
use Rattle.terms.specs.declared.Term.{Term, Term-F, Sym, map-Term, roll-Term, out-Term, out-roll-Term, roll-out-Term, fold-roll-Term, ind-Term, the_lemmas}
use Rattle.terms.specs.Within.{terms_within, joined}
use Rattle.terms.specs.Forms.{Form, form_of, form_step, last_form}
use Rattle.terms.specs.SamenessLaws.{nat_same}
use Rattle.proof_checker.specs.declared.replies.Figure.TheVariants.{Coefficient}
use Rattle.proof_checker.specs.declared.replies.Query.TheVariants as query
use Rattle.proof_checker.specs.declared.replies.Reply.{Reply}
use Rattle.proof_checker.specs.declared.replies.Reply.TheVariants as reply
use Rattle.proof_checker.specs.Figures.{FigureFits, HasSymbol, sum_reply, multiple_reply, rest_reply, list_reply, reply_step, reply_to}
use Rattle.proof_checker.proofs.Figuring.{parts, within_is, within-roll, zero_fits}

out-Sym : (n : ℕ) → out-Term (Sym n) ≡ Term-F.Sym n
out-Sym n = search (rules, the_lemmas)

roll-Sym : (n : ℕ) → roll-Term (Term-F.Sym n) ≡ Sym n
roll-Sym n = ap roll-Term (sym (out-Sym n)) ∙ roll-out-Term (Sym n)

same_symbol : (m n : ℕ) → Sym m ≡ Sym n → m ≡ n
same_symbol m n e = same m n (sym (out-Sym m) ∙ ap out-Term e ∙ out-Sym n)
  where
    same : (m n : ℕ) → ◌≡◌ {A = Term-F Term} (Term-F.Sym m) (Term-F.Sym n) → m ≡ n
    same m n q = cc

abbrev IsNoSymbol : Term-F Term → Type 0
IsNoSymbol (Term-F.Sym n) = ⊥
IsNoSymbol x = Unit {0}

no_symbol : (x : Term-F Term) (w : ℕ) → IsNoSymbol x → x ≡ Term-F.Sym w → ⊥
no_symbol (Term-F.Sym n) w k e = k
no_symbol (Term-F.Lit z) w k e = absurd (cc)
no_symbol (Term-F.Add a b) w k e = absurd (cc)
no_symbol (Term-F.Scale l a) w k e = absurd (cc)
no_symbol (Term-F.App f all) w k e = absurd (cc)
no_symbol (Term-F.RefSym n) w k e = absurd (cc)
no_symbol (Term-F.RefLit n) w k e = absurd (cc)
no_symbol Term-F.Nil w k e = absurd (cc)

not_symbol : (x : Term-F Term) (w : ℕ) → IsNoSymbol x → roll-Term x ≡ Sym w → ⊥
not_symbol x w k e = no_symbol x w k (sym (out-roll-Term x) ∙ ap out-Term e ∙ out-Sym w)

-- members of a list
none_there : (a : Term) → Contains [] a → ⊥
none_there a h = let lt : h.0 < 0 = h.1 in absurd (omega arith)

at_first : (t a : Term) (ts : List Term) → t ≡ a → Contains (t ∷ ts) a
at_first t a ts e = Contains-append_left (t ∷ []) ts a (subst (Contains (t ∷ [])) e (Contains-push [] t))

later : (t a : Term) (ts : List Term) → Contains ts a → Contains (t ∷ ts) a
later t a ts h = Contains-append_right (t ∷ []) ts a h

first_or_later : (t a : Term) (ts : List Term) → Contains (t ∷ ts) a → (t ≡ a) ⊎ Contains ts a
first_or_later t a ts h = elim (Contains-append_cases (t ∷ []) ts a h) [
  | inl one ↦ elim (Contains-push_cases [] t a one) [
    | inl no_ ↦ absurd (none_there a no_)
    | inr e ↦ inl e
  ]
  | inr more ↦ inr more
]

at_most : (m n : ℕ) → nat_le m n ≡ true → m ≤ n
at_most m n h = grind (arith, nat_tests)

above : (m n : ℕ) → nat_le m n ≡ false → n < m
above m n h = grind (arith, nat_tests)

-- ---- the least symbol in a list that isn't below a number
module _ (from : ℕ) where
  abbrev pub NextIn : List Term → Reply → Type 0
  NextIn ts (reply.Symbol v) = Contains ts (Sym v) × (from ≤ v) × ((w : ℕ) → Contains ts (Sym w) → from ≤ w → v ≤ w)
  NextIn ts reply.None = (w : ℕ) → Contains ts (Sym w) → ¬ (from ≤ w)
  NextIn ts (reply.Number z) = ⊥

  abbrev IsLeast : List Term → ℕ → Type 0
  IsLeast ts v = (w : ℕ) → Contains ts (Sym w) → from ≤ w → v ≤ w

  least_below : (ts : List Term) (m n : ℕ) → m ≤ n → IsLeast ts n → IsLeast ts m
  least_below ts m n le h w c d = let k = h w c d in omega (arith, le, k)

  least_of_none : (ts : List Term) (m : ℕ) → NextIn ts reply.None → IsLeast ts m
  least_of_none ts m h w c d = absurd (h w c d)

  least_both : (as_ bs : List Term) (m : ℕ) → IsLeast as_ m → IsLeast bs m → IsLeast (as_ ++ bs) m
  least_both as_ bs m p q w c d = elim (Contains-append_cases as_ bs (Sym w) c) [
    | inl h ↦ p w h d
    | inr h ↦ q w h d
  ]

  in_left : (as_ bs : List Term) (m : ℕ) → NextIn as_ (reply.Symbol m) → IsLeast bs m → NextIn (as_ ++ bs) (reply.Symbol m)
  in_left as_ bs m (here, le, least) h = (Contains-append_left as_ bs (Sym m) here, le, least_both as_ bs m least h)

  in_right : (as_ bs : List Term) (m : ℕ) → IsLeast as_ m → NextIn bs (reply.Symbol m) → NextIn (as_ ++ bs) (reply.Symbol m)
  in_right as_ bs m h (here, le, least) = (Contains-append_right as_ bs (Sym m) here, le, least_both as_ bs m h least)

  next_lesser : (as_ bs : List Term) (m n : ℕ) (b : Bool) → nat_le m n ≡ b → NextIn as_ (reply.Symbol m) → NextIn bs (reply.Symbol n) → NextIn (as_ ++ bs) (if b then reply.Symbol m else reply.Symbol n)
  next_lesser as_ bs m n true e p q = in_left as_ bs m p (least_below bs m n (at_most m n e) q.2)
  next_lesser as_ bs m n false e p q =
      let lt = above m n e in
      in_right as_ bs n (least_below as_ n m (omega (arith, lt)) p.2) q

  next_sum : (as_ bs : List Term) (r s : Reply) → NextIn as_ r → NextIn bs s → NextIn (as_ ++ bs) (sum_reply r s)
  next_sum as_ bs (reply.Symbol m) (reply.Symbol n) p q = next_lesser as_ bs m n (nat_le m n) refl p q
  next_sum as_ bs (reply.Symbol m) reply.None p q = in_left as_ bs m p (least_of_none bs m q)
  next_sum as_ bs (reply.Symbol m) (reply.Number y) p q = absurd q
  next_sum as_ bs reply.None (reply.Symbol n) p q = in_right as_ bs n (least_of_none as_ n p) q
  next_sum as_ bs reply.None reply.None p q = λ w c. ⊎_elim (λ h. p w h) (λ h. q w h) (Contains-append_cases as_ bs (Sym w) c)
  next_sum as_ bs reply.None (reply.Number y) p q = absurd q
  next_sum as_ bs (reply.Number x) s p q = absurd p

  next_rest : (as_ bs : List Term) (r s : Reply) → NextIn as_ r → NextIn bs s → NextIn (as_ ++ bs) (rest_reply r s)
  next_rest as_ bs (reply.Symbol m) s p q = next_sum as_ bs (reply.Symbol m) s p q
  next_rest as_ bs reply.None s p q = next_sum as_ bs reply.None s p q
  next_rest as_ bs (reply.Number x) s p q = absurd p

  next_multiple : (k : ℤ) (ts : List Term) (r : Reply) → NextIn ts r → NextIn ts (multiple_reply k r)
  next_multiple k ts (reply.Symbol m) p = p
  next_multiple k ts reply.None p = p
  next_multiple k ts (reply.Number x) p = absurd p

  none_in_none : NextIn [] reply.None
  none_in_none w c = absurd (none_there (Sym w) c)

  next_last : (ts : List Term) (r : Reply) → NextIn ts r → NextIn (ts ++ []) r
  next_last ts (reply.Symbol m) p = in_left ts [] m p (least_of_none [] m none_in_none)
  next_last ts reply.None p = next_sum ts [] reply.None reply.None p none_in_none
  next_last ts (reply.Number x) p = absurd p

  -- a term that is no symbol, before the terms within it
  next_node : (x : Term-F Term) (r : Reply) → IsNoSymbol x → NextIn (parts x) r → NextIn (roll-Term x ∷ parts x) r
  next_node x (reply.Symbol v) k (here, le, least) = (
    later (roll-Term x) (Sym v) (parts x) here,
    le,
    λ w c d. elim (first_or_later (roll-Term x) (Sym w) (parts x) c) [
      | inl e ↦ absurd (not_symbol x w k e)
      | inr h ↦ least w h d
    ],
  )
  next_node x reply.None k none = λ w c. ⊎_elim (λ e. absurd (not_symbol x w k e)) (λ h. none w h) (first_or_later (roll-Term x) (Sym w) (parts x) c)
  next_node x (reply.Number z) k h = h

  only_itself : (n w : ℕ) → Contains (roll-Term (Term-F.Sym n) ∷ []) (Sym w) → n ≡ w
  only_itself n w c = elim (first_or_later (roll-Term (Term-F.Sym n)) (Sym w) [] c) [
    | inl e ↦ same_symbol n w (sym (roll-Sym n) ∙ e)
    | inr no_ ↦ absurd (none_there (Sym w) no_)
  ]

  next_leaf : (n : ℕ) (b : Bool) → nat_le from n ≡ b → NextIn (roll-Term (Term-F.Sym n) ∷ []) (if b then reply.Symbol n else reply.None)
  next_leaf n true e = (at_first (roll-Term (Term-F.Sym n)) (Sym n) [] (roll-Sym n), at_most from n e, λ w c d. let same = only_itself n w c in omega (arith, same))
  next_leaf n false e = λ w c d. let same = only_itself n w c in let lt = above from n e in absurd (omega (arith, same, lt, d))

  abbrev pub RepliesNext : Term → Type 0
  RepliesNext t = NextIn (terms_within t) (reply_to (query.Next from) t)

  abbrev Known : Type 0
  Known = (t : Term) × RepliesNext t

  abbrev terms_of : List Known → List Term
  terms_of all = map (λ e. e.0) all

  abbrev form_known : Term-F Known → Term-F Term
  form_known y = map-Term Known Term (λ e. e.0) y

  list_next : (all : List Known) → NextIn (joined (map terms_within (terms_of all))) (list_reply (query.Next from) (map (reply_to (query.Next from)) (terms_of all)))
  list_next [] = none_in_none
  list_next (e ∷ []) = next_last (terms_within e.0) (reply_to (query.Next from) e.0) e.1
  list_next (e ∷ d ∷ more) =
      next_rest (terms_within e.0) (joined (map terms_within (terms_of (d ∷ more)))) (reply_to (query.Next from) e.0) (list_reply (query.Next from) (map (reply_to (query.Next from)) (terms_of (d ∷ more)))) e.1 (list_next (d ∷ more))

  abbrev Rolled : Term-F Term → Type 0
  Rolled x = NextIn (roll-Term x ∷ parts x) (reply_step (query.Next from) (map-Term Term Reply (reply_to (query.Next from)) x))

  layer : (y : Term-F Known) → Rolled (form_known y)
  layer (Term-F.Sym n) = next_leaf n (nat_le from n) refl
  layer (Term-F.Lit z) = next_node (Term-F.Lit z) reply.None tt none_in_none
  layer (Term-F.Add a b) =
      next_node (Term-F.Add a.0 b.0) (sum_reply (reply_to (query.Next from) a.0) (reply_to (query.Next from) b.0)) tt (next_sum (terms_within a.0) (terms_within b.0) (reply_to (query.Next from) a.0) (reply_to (query.Next from) b.0) a.1 b.1)
  layer (Term-F.Scale k a) =
      next_node (Term-F.Scale k a.0) (multiple_reply k (reply_to (query.Next from) a.0)) tt (next_multiple k (terms_within a.0) (reply_to (query.Next from) a.0) a.1)
  layer (Term-F.App operator all) =
      next_node (Term-F.App operator (terms_of all)) (list_reply (query.Next from) (map (reply_to (query.Next from)) (terms_of all))) tt (list_next all)
  layer (Term-F.RefSym n) = next_node (Term-F.RefSym n) reply.None tt none_in_none
  layer (Term-F.RefLit n) = next_node (Term-F.RefLit n) reply.None tt none_in_none
  layer Term-F.Nil = next_node Term-F.Nil reply.None tt none_in_none

  rolled : (x : Term-F Term) → Rolled x → RepliesNext (roll-Term x)
  rolled x h =
      let r = reply_step (query.Next from) (map-Term Term Reply (reply_to (query.Next from)) x) in
      let a : NextIn (terms_within (roll-Term x)) r = subst (λ ts. NextIn ts r) (sym (within-roll x)) h in
      subst (λ s. NextIn (terms_within (roll-Term x)) s) (sym (fold-roll-Term Reply (reply_step (query.Next from)) x)) a

  -- what a term replies to a question for the next symbol
  pub replies_next : (t : Term) → RepliesNext t
  replies_next = ind-Term RepliesNext (λ x y is. subst (λ z. RepliesNext (roll-Term z)) is (rolled (form_known y) (layer y)))

pub next_is : (from : ℕ) (t : Term) (v : ℕ) → reply.Symbol v ≡ reply_to (query.Next from) t → HasSymbol v t × (from ≤ v) × ((w : ℕ) → HasSymbol w t → from ≤ w → v ≤ w)
next_is from t v e = subst (λ r. NextIn from (terms_within t) r) (sym e) (replies_next from t)

pub next_none : (from : ℕ) (t : Term) → reply.None ≡ reply_to (query.Next from) t → (w : ℕ) → HasSymbol w t → ¬ (from ≤ w)
next_none from t e = subst (λ r. NextIn from (terms_within t) r) (sym e) (replies_next from t)

pub next_number : (from : ℕ) (t : Term) (z : ℤ) → reply.Number z ≡ reply_to (query.Next from) t → ⊥
next_number from t z e = subst (λ r. NextIn from (terms_within t) r) (sym e) (replies_next from t)

-- ---- the coefficients of a symbol that doesn't stand in a term
module _ (v : ℕ) where
  abbrev pub IsZero : Term → Type 0
  IsZero u = (form_of u).coefs v ≡ pos 0

  abbrev IsAbsent : List Term → Type 0
  IsAbsent ts = ¬ (Contains ts (Sym v))

  abbrev AreZero : Term → Type 0
  AreZero t = IsAbsent (terms_within t) → All IsZero (terms_within t)

  own_zero : (t : Term) → All IsZero (terms_within t) → IsZero t
  own_zero t all = All-head IsZero t (parts (out-Term t)) (subst (All IsZero) (within_is t (out-Term t) refl) all)

  absent_front : (as_ bs : List Term) → IsAbsent (as_ ++ bs) → IsAbsent as_
  absent_front as_ bs h c = h (Contains-append_left as_ bs (Sym v) c)

  absent_rest : (as_ bs : List Term) → IsAbsent (as_ ++ bs) → IsAbsent bs
  absent_rest as_ bs h c = h (Contains-append_right as_ bs (Sym v) c)

  abbrev KnownZero : Type 0
  KnownZero = (t : Term) × AreZero t

  abbrev terms_in_all : List KnownZero → List Term
  terms_in_all all = map (λ e. e.0) all

  abbrev form_zero : Term-F KnownZero → Term-F Term
  form_zero y = map-Term KnownZero Term (λ e. e.0) y

  zero_sum : (x y : ℤ) → x ≡ pos 0 → y ≡ pos 0 → x +ℤ y ≡ pos 0
  zero_sum x y p q = omega (arith, ints)

  zero_multiple : (k x : ℤ) → x ≡ pos 0 → k *ℤ x ≡ pos 0
  zero_multiple k x p = ap (λ y. k *ℤ y) p ∙ none k
    where
      none : (k : ℤ) → k *ℤ pos 0 ≡ pos 0
      none k = omega (arith, ints)

  zero_list : (all : List KnownZero) → IsAbsent (joined (map terms_within (terms_in_all all))) → All IsZero (joined (map terms_within (terms_in_all all))) × ((last_form (map form_of (terms_in_all all))).coefs v ≡ pos 0)
  zero_list [] h = (All-nil IsZero, refl)
  zero_list (e ∷ []) h =
      let all = e.1 (absent_front (terms_within e.0) [] h) in
      (All-append IsZero (terms_within e.0) [] all (All-nil IsZero), own_zero e.0 all)
  zero_list (e ∷ d ∷ more) h =
      let rest_ = joined (map terms_within (terms_in_all (d ∷ more))) in
      let all = e.1 (absent_front (terms_within e.0) rest_ h) in
      let below_ = zero_list (d ∷ more) (absent_rest (terms_within e.0) rest_ h) in
      (All-append IsZero (terms_within e.0) rest_ all below_.0, below_.1)

  other_symbol : (n : ℕ) (b : Bool) → (v == n) ≡ b → IsAbsent (roll-Term (Term-F.Sym n) ∷ []) → (if b then pos 1 else pos 0) ≡ pos 0
  other_symbol n true e h =
      absurd (h (at_first (roll-Term (Term-F.Sym n)) (Sym v) [] (roll-Sym n ∙ ap (λ m. Sym m) (sym (nat_same v n e)))))
  other_symbol n false e h = refl

  abbrev RolledZero : Term-F Term → Type 0
  RolledZero x = IsAbsent (roll-Term x ∷ parts x) → All IsZero (parts x) × ((form_step (map-Term Term Form form_of x)).coefs v ≡ pos 0)

  zero_layer : (y : Term-F KnownZero) → RolledZero (form_zero y)
  zero_layer (Term-F.Sym n) h = (All-nil IsZero, other_symbol n (v == n) refl h)
  zero_layer (Term-F.Lit z) h = (All-nil IsZero, refl)
  zero_layer (Term-F.Add a b) h =
      let both = absent_rest (roll-Term (Term-F.Add a.0 b.0) ∷ []) (terms_within a.0 ++ terms_within b.0) h in
      let p = a.1 (absent_front (terms_within a.0) (terms_within b.0) both) in
      let q = b.1 (absent_rest (terms_within a.0) (terms_within b.0) both) in
      (All-append IsZero (terms_within a.0) (terms_within b.0) p q, zero_sum ((form_of a.0).coefs v) ((form_of b.0).coefs v) (own_zero a.0 p) (own_zero b.0 q))
  zero_layer (Term-F.Scale k a) h =
      let p = a.1 (absent_rest (roll-Term (Term-F.Scale k a.0) ∷ []) (terms_within a.0) h) in
      (p, zero_multiple k ((form_of a.0).coefs v) (own_zero a.0 p))
  zero_layer (Term-F.App operator all) h =
      zero_list all (absent_rest (roll-Term (Term-F.App operator (terms_in_all all)) ∷ []) (joined (map terms_within (terms_in_all all))) h)
  zero_layer (Term-F.RefSym n) h = (All-nil IsZero, refl)
  zero_layer (Term-F.RefLit n) h = (All-nil IsZero, refl)
  zero_layer Term-F.Nil h = (All-nil IsZero, refl)

  zero_rolled : (x : Term-F Term) → RolledZero x → AreZero (roll-Term x)
  zero_rolled x f h =
      let k = f (subst IsAbsent (within-roll x) h) in
      let own_ : IsZero (roll-Term x) = ap (λ (g : Form). g.coefs v) (fold-roll-Term Form form_step x) ∙ k.1 in
      subst (All IsZero) (sym (within-roll x)) (All-cons IsZero (roll-Term x) (parts x) own_ k.0)

  -- it is 0 in the term, and in each term within
  pub no_coefficients : (t : Term) → ¬ (HasSymbol v t) → All IsZero (terms_within t)
  no_coefficients = ind-Term AreZero (λ x y is. subst (λ z. AreZero (roll-Term z)) is (zero_rolled (form_zero y) (zero_layer y)))

  pub no_coefficient : (t : Term) → ¬ (HasSymbol v t) → (form_of t).coefs v ≡ pos 0
  no_coefficient t h = own_zero t (no_coefficients t h)

  pub absent_fits : (t : Term) → ¬ (HasSymbol v t) → FigureFits (Coefficient v) t
  absent_fits t h = record {
    within = All-weaker IsZero (λ u. FitsSigned w128 ((form_of u).coefs v)) (λ u e. subst (λ z. FitsSigned w128 z) (sym e) zero_fits) (terms_within t) (no_coefficients t h);
  }
