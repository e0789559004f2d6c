-- What one step from the literals and the classes says.
use Rattle.std.specs.Prelude.{◌≡◌, ◌⊎◌, ◌↔◌, ℕ, ◌==◌, IsTrue, Bool, true, false, ◌&&◌, ◌||◌, ℤ, List, [], ◌∷◌, ◌++◌, length, Contains, Some, slice_get}
use Rattle.std.specs.List.{list_any}
use Rattle.std.specs.Ordering.{int_eq}
use Rattle.std.proofs.Common.{refl, ap, sym, subst, ◌∙◌, inl, inr, arith, zero, suc}
use Rattle.terms.specs.declared.Term.{Term, Term-F, Add, Scale, App, RefLit, Nil, out-Term, roll-Term, roll-out-Term}
use Rattle.terms.specs.declared.Literal.{Literal}
use Rattle.terms.specs.declared.Literal.TheVariants as lit
use Rattle.terms.specs.Fitting.{Application, Applies}
use Rattle.ref_solver.specs.Following.{Stands, Follows, assumed, none, result, applied, sum, multiple}
use Rattle.terms.specs.Sameness.{same_term}
use Rattle.ref_solver.specs.Classes.{AreTogether, has, has_both, together, says, both_end, fronts_together, last_is, congruent, ends_in, linked}
use Rattle.ref_solver.proofs.Standing.{first_in, rest_in, none_in, cons_cases, out-App}
use Rattle.ref_solver.proofs.Meant.{out-Add, out-Scale, out-RefLit, out-Nil}
use Rattle.terms.specs.SamenessLaws.{same_is_equal, equal_is_same, both, and_both, nat_same, nat_itself, int_same, int_itself}

-- tests of lists
some_step : {X : Type 0} (p : X → Bool) (x : X) (xs : List X) → (list_any p xs ≡ true → (y : X) × Contains xs y × (p y ≡ true)) → (b : Bool) → p x ≡ b → list_any p (x ∷ xs) ≡ true → (y : X) × Contains (x ∷ xs) y × (p y ≡ true)
some_step p x xs more true e h = (x, first_in x xs, e)
some_step p x xs more false e h =
    let rest : list_any p xs ≡ true = sym (ap (λ b. b || list_any p xs) e) ∙ h in
    let (y, there, is) = more rest in
    (y, rest_in x xs y there, is)

pub some_of : {X : Type 0} (p : X → Bool) (xs : List X) → list_any p xs ≡ true → (x : X) × Contains xs x × (p x ≡ true)
some_of p [] h = absurd (cc)
some_of p (x ∷ xs) h = some_step p x xs (some_of p xs) (p x) refl h

pub or_right : (a b : Bool) → b ≡ true → (a || b) ≡ true
or_right true b h = refl
or_right false b h = h

pub or_left : (a b : Bool) → a ≡ true → (a || b) ≡ true
or_left true b h = refl
or_left false b h = absurd (cc)

pub or_cases : (a b : Bool) → (a || b) ≡ true → (a ≡ true) ⊎ (b ≡ true)
or_cases true b h = inl refl
or_cases false b h = inr h

pub any_from : {X : Type 0} (p : X → Bool) (xs : List X) (x : X) → Contains xs x → p x ≡ true → list_any p xs ≡ true
any_from p [] x h e = absurd (none_in x h)
any_from p (y ∷ xs) x h e = elim (cons_cases y xs x h) [
  | inl is ↦ or_left (p y) (list_any p xs) (ap p is ∙ e)
  | inr more ↦ or_right (p y) (list_any p xs) (any_from p xs x more e)
]

pub has_it : (t : Term) (c : List Term) → has t c ≡ true → Contains c t
has_it t c h =
    let (u, there, is) = some_of (same_term t) c h in
    subst (λ v. Contains c v) (sym (same_is_equal t u is)) there

pub it_has : (t : Term) (c : List Term) → Contains c t → has t c ≡ true
it_has t c h = any_from (same_term t) c t h (equal_is_same t t refl)

pub are_together : (cs : List (List Term)) (s t : Term) → together cs s t ≡ true → AreTogether cs s t
are_together cs s t h =
    let (c, there, is) = some_of (has_both s t) cs h in
    let (p, q) = both (has s c) (has t c) is in
    (c, there, has_it s c p, has_it t c q)

pub together_are : (cs : List (List Term)) (s t : Term) → AreTogether cs s t → together cs s t ≡ true
together_are cs s t (c, there, p, q) =
    any_from (has_both s t) cs c there (and_both (has s c) (has t c) (it_has s c p) (it_has t c q))

pub told_together : (cs : List (List Term)) (s t : Term) (b : Bool) → b ≡ together cs s t → IsTrue b ↔ AreTogether cs s t
told_together cs s t b e =
    (λ h. are_together cs s t (sym e ∙ h), λ h. e ∙ together_are cs s t h)

-- a term by its form
by_form : (s t : Term) (x : Term-F Term) → out-Term s ≡ x → out-Term t ≡ x → s ≡ t
by_form s t x e f =
    sym (roll-out-Term s) ∙ ap roll-Term (e ∙ sym f) ∙ roll-out-Term t

-- the ends of two lists of operands
record Ended (cs : List (List Term)) (xs ys : List Term) : Type 0 where
  front : List Term
  last : Term
  other_front : List Term
  other_last : Term
  is : xs ≡ front ++ last ∷ []
  other_is : ys ≡ other_front ++ other_last ∷ []
  long : length front ≡ length other_front
  equal : (k : ℕ) (a b : Term) → slice_get front k ≡ Some a → slice_get other_front k ≡ Some b → AreTogether cs a b

Some_same : {X : Type 0} (x y : X) → Some x ≡ Some y → x ≡ y
Some_same x y e = cc

more_equal : (cs : List (List Term)) (x y : Term) (xs ys : List Term) → AreTogether cs x y → ((k : ℕ) (a b : Term) → slice_get xs k ≡ Some a → slice_get ys k ≡ Some b → AreTogether cs a b) → (k : ℕ) (a b : Term) → slice_get (x ∷ xs) k ≡ Some a → slice_get (y ∷ ys) k ≡ Some b → AreTogether cs a b
more_equal cs x y xs ys h more zero a b p q =
    subst (λ v. AreTogether cs a v) (Some_same y b q) (subst (λ u. AreTogether cs u y) (Some_same x a p) h)
more_equal cs x y xs ys h more (suc k) a b p q = more k a b p q

ended : (cs : List (List Term)) (xs ys : List Term) → fronts_together cs xs ys ≡ true → Ended cs xs ys
ended cs [] ys h = absurd (cc)
ended cs (x ∷ xs) [] h = absurd (cc)
ended cs (x ∷ []) (y ∷ []) h = record {
  front = [];
  last = x;
  other_front = [];
  other_last = y;
  is = refl;
  other_is = refl;
  long = refl;
  equal = λ k a b p q. absurd (cc);
}
ended cs (x ∷ []) (y ∷ w ∷ ys) h =
    let (p, q) = both (together cs x y) (fronts_together cs [] (w ∷ ys)) h in
    absurd (cc)
ended cs (x ∷ v ∷ xs) (y ∷ ys) h =
    let (p, q) = both (together cs x y) (fronts_together cs (v ∷ xs) ys) h in
    let e = ended cs (v ∷ xs) ys q in
    record {
      front = x ∷ e.front;
      last = e.last;
      other_front = y ∷ e.other_front;
      other_last = e.other_last;
      is = ap (λ ts. x ∷ ts) e.is;
      other_is = ap (λ ts. y ∷ ts) e.other_is;
      long = ap (λ (n : ℕ). suc n) e.long;
      equal = more_equal cs x y e.front e.other_front (are_together cs x y p) e.equal;
    }

pub fronts_from : (cs : List (List Term)) (xs ys : List Term) (x y : Term) → length xs ≡ length ys → ((k : ℕ) (a b : Term) → slice_get xs k ≡ Some a → slice_get ys k ≡ Some b → AreTogether cs a b) → fronts_together cs (xs ++ x ∷ []) (ys ++ y ∷ []) ≡ true
fronts_from cs [] [] x y e h = refl
fronts_from cs [] (w ∷ ys) x y e h = absurd (omega arith)
fronts_from cs (v ∷ xs) [] x y e h = absurd (omega arith)
fronts_from cs (v ∷ xs) (w ∷ ys) x y e h =
    let rest : length xs ≡ length ys = omega arith in
    or_right (both_end (xs ++ x ∷ []) (ys ++ y ∷ [])) (together cs v w && fronts_together cs (xs ++ x ∷ []) (ys ++ y ∷ [])) (and_both (together cs v w) (fronts_together cs (xs ++ x ∷ []) (ys ++ y ∷ [])) (together_are cs v w (h 0 v w refl refl)) (fronts_from cs xs ys x y rest (λ k a b p q. h (suc k) a b p q)))

last_found : (t : Term) (xs : List Term) → last_is t xs ≡ true → (front : List Term) × (xs ≡ front ++ t ∷ [])
last_found t [] h = absurd (cc)
last_found t (x ∷ []) h = elim (or_cases (same_term t x) false h) [
  | inl p ↦ ([], ap (λ u. u ∷ []) (sym (same_is_equal t x p)))
  | inr q ↦ absurd (cc)
]
last_found t (x ∷ y ∷ xs) h =
    let (front, is) = last_found t (y ∷ xs) h in
    (x ∷ front, ap (λ ts. x ∷ ts) is)

last_from : (t : Term) (front : List Term) → last_is t (front ++ t ∷ []) ≡ true
last_from t [] = or_left (same_term t t) false (equal_is_same t t refl)
last_from t (x ∷ front) =
    or_right (both_end (front ++ t ∷ []) [] && same_term t x) (last_is t (front ++ t ∷ [])) (last_from t front)

said : (s t : Term) (l : Literal) → says s t l ≡ true → lit.Same s t ≡ l
said s t (lit.Same a b) h =
    let (p, q) = both (same_term s a) (same_term t b) h in
    ap (λ u. lit.Same u t) (same_is_equal s a p) ∙ ap (λ u. lit.Same a u) (same_is_equal t b q)
said s t (lit.AtMost a b) h = absurd (cc)
said s t (lit.Apart a b) h = absurd (cc)
said s t (lit.Flag n held) h = absurd (cc)

module _ (ls : List Literal) (cs : List (List Term)) where
  abbrev pub IsSound : Type 0
  IsSound = (s t : Term) → AreTogether cs s t → Follows ls s t

  said_follows : (s t : Term) → list_any (says s t) ls ≡ true → Follows ls s t
  said_follows s t h =
      let (l, there, is) = some_of (says s t) ls h in
      assumed s t (subst (λ j. Contains ls j) (sym (said s t l is)) there)

  end_follows : (s t : Term) (x : Term-F Term) → out-Term s ≡ x → Stands ls s → ends_in t x ≡ true → Follows ls s t
  end_follows s t (Term-F.App p xs) e stands h =
      let (front, is) = last_found t xs h in
      let f : Application = record { operator = p; operands = front; result = t } in
      result s f stands (by_form s (App p (front ++ t ∷ [])) (Term-F.App p xs) e (out-App p (front ++ t ∷ []) ∙ ap (λ ts. Term-F.App p ts) (sym is)))
  end_follows s t (Term-F.Sym n) e stands h = absurd (cc)
  end_follows s t (Term-F.Lit z) e stands h = absurd (cc)
  end_follows s t (Term-F.Add a b) e stands h = absurd (cc)
  end_follows s t (Term-F.Scale k a) e stands h = absurd (cc)
  end_follows s t (Term-F.RefSym n) e stands h = absurd (cc)
  end_follows s t (Term-F.RefLit n) e stands h = absurd (cc)
  end_follows s t Term-F.Nil e stands h = absurd (cc)

  applied_follows : (s t : Term) (p : ℕ) (xs ys : List Term) → IsSound → out-Term s ≡ Term-F.App p xs → out-Term t ≡ Term-F.App p ys → Stands ls s → Stands ls t → Ended cs xs ys → Follows ls s t
  applied_follows s t p xs ys sound e d stands other h =
      let f : Application = record { operator = p; operands = h.front; result = h.last } in
      let g : Application = record { operator = p; operands = h.other_front; result = h.other_last } in
      let left : Applies s f = by_form s (App p (h.front ++ h.last ∷ [])) (Term-F.App p xs) e (out-App p (h.front ++ h.last ∷ []) ∙ ap (λ ts. Term-F.App p ts) (sym h.is)) in
      let right : Applies t g = by_form t (App p (h.other_front ++ h.other_last ∷ [])) (Term-F.App p ys) d (out-App p (h.other_front ++ h.other_last ∷ []) ∙ ap (λ ts. Term-F.App p ts) (sym h.other_is)) in
      applied s t f g stands other left right refl h.long (λ k a b u v. sound a b (h.equal k a b u v))

  congruent_follows : (s t : Term) (x y : Term-F Term) → IsSound → out-Term s ≡ x → out-Term t ≡ y → Stands ls s → Stands ls t → congruent cs x y ≡ true → Follows ls s t
  congruent_follows s t (Term-F.Add a b) (Term-F.Add c d) sound e f stands other h =
      let (p, q) = both (together cs a c) (together cs b d) h in
      let left : s ≡ Add a b = by_form s (Add a b) (Term-F.Add a b) e (out-Add a b) in
      let right : t ≡ Add c d = by_form t (Add c d) (Term-F.Add c d) f (out-Add c d) in
      let is : Follows ls (Add a b) (Add c d) = sum a b c d (subst (Stands ls) left stands) (subst (Stands ls) right other) (sound a c (are_together cs a c p)) (sound b d (are_together cs b d q)) in
      subst (λ u. Follows ls u t) (sym left) (subst (λ u. Follows ls (Add a b) u) (sym right) is)
  congruent_follows s t (Term-F.Scale k a) (Term-F.Scale l b) sound e f stands other h =
      let (p, q) = both (int_eq k l) (together cs a b) h in
      let left : s ≡ Scale k a = by_form s (Scale k a) (Term-F.Scale k a) e (out-Scale k a) in
      let right : t ≡ Scale k b = by_form t (Scale k b) (Term-F.Scale l b) f (out-Scale k b ∙ ap (λ (n : ℤ). Term-F.Scale n b) (int_same k l p)) in
      let is : Follows ls (Scale k a) (Scale k b) = multiple k a b (subst (Stands ls) left stands) (subst (Stands ls) right other) (sound a b (are_together cs a b q)) in
      subst (λ u. Follows ls u t) (sym left) (subst (λ u. Follows ls (Scale k a) u) (sym right) is)
  congruent_follows s t (Term-F.App p xs) (Term-F.App q ys) sound e f stands other h =
      let (one, more) = both (p == q) (fronts_together cs xs ys) h in
      applied_follows s t p xs ys sound e (f ∙ ap (λ (n : ℕ). Term-F.App n ys) (sym (nat_same p q one))) stands other (ended cs xs ys more)
  congruent_follows s t Term-F.Nil (Term-F.RefLit n) sound e f stands other h =
      let left : s ≡ Nil = by_form s Nil Term-F.Nil e out-Nil in
      let right : t ≡ RefLit 0 = by_form t (RefLit 0) (Term-F.RefLit n) f (out-RefLit 0 ∙ ap (λ (m : ℕ). Term-F.RefLit m) (sym (nat_same n 0 h))) in
      let is : Follows ls Nil (RefLit 0) = none (subst (Stands ls) left stands) (subst (Stands ls) right other) in
      subst (λ u. Follows ls u t) (sym left) (subst (λ u. Follows ls Nil u) (sym right) is)
  congruent_follows s t x y sound e f stands other h = absurd (cc)

  pub linked_follows : (s t : Term) → IsSound → Stands ls s → Stands ls t → linked ls cs s t ≡ true → Follows ls s t
  linked_follows s t sound stands other h =
      elim (or_cases (list_any (says s t) ls) (ends_in t (out-Term s) || congruent cs (out-Term s) (out-Term t)) h) [
        | inl p ↦ said_follows s t p
        | inr q ↦ elim (or_cases (ends_in t (out-Term s)) (congruent cs (out-Term s) (out-Term t)) q) [
          | inl u ↦ end_follows s t (out-Term s) refl stands u
          | inr v ↦ congruent_follows s t (out-Term s) (out-Term t) sound refl refl stands other v
        ]
      ]

  -- each rule is one step
  by_congruence : (s t : Term) → congruent cs (out-Term s) (out-Term t) ≡ true → linked ls cs s t ≡ true
  by_congruence s t h =
      or_right (list_any (says s t) ls) (ends_in t (out-Term s) || congruent cs (out-Term s) (out-Term t)) (or_right (ends_in t (out-Term s)) (congruent cs (out-Term s) (out-Term t)) h)

  pub assumed_linked : (a b : Term) → Contains ls (lit.Same a b) → linked ls cs a b ≡ true
  assumed_linked a b h =
      or_left (list_any (says a b) ls) (ends_in b (out-Term a) || congruent cs (out-Term a) (out-Term b)) (any_from (says a b) ls (lit.Same a b) h (and_both (same_term a a) (same_term b b) (equal_is_same a a refl) (equal_is_same b b refl)))

  pub none_linked : linked ls cs Nil (RefLit 0) ≡ true
  none_linked =
      by_congruence Nil (RefLit 0) (ap (λ x. congruent cs x (out-Term (RefLit 0))) out-Nil ∙ ap (λ y. congruent cs Term-F.Nil y) (out-RefLit 0))

  pub result_linked : (t : Term) (f : Application) → Applies t f → linked ls cs t f.result ≡ true
  result_linked t f is =
      let all : List Term = f.operands ++ f.result ∷ [] in
      let end : ends_in f.result (out-Term t) ≡ true = ap (ends_in f.result) (ap out-Term is ∙ out-App f.operator all) ∙ last_from f.result f.operands in
      or_right (list_any (says t f.result) ls) (ends_in f.result (out-Term t) || congruent cs (out-Term t) (out-Term f.result)) (or_left (ends_in f.result (out-Term t)) (congruent cs (out-Term t) (out-Term f.result)) end)

  pub applied_linked : (t u : Term) (f g : Application) → Applies t f → Applies u g → f.operator ≡ g.operator → length f.operands ≡ length g.operands → ((k : ℕ) (a b : Term) → slice_get f.operands k ≡ Some a → slice_get g.operands k ≡ Some b → AreTogether cs a b) → linked ls cs t u ≡ true
  applied_linked t u f g is are same long equal =
      let xs : List Term = f.operands ++ f.result ∷ [] in
      let ys : List Term = g.operands ++ g.result ∷ [] in
      let one : (f.operator == g.operator) ≡ true = ap (λ (n : ℕ). f.operator == n) (sym same) ∙ nat_itself f.operator in
      by_congruence t u (ap (λ x. congruent cs x (out-Term u)) (ap out-Term is ∙ out-App f.operator xs) ∙ ap (λ y. congruent cs (Term-F.App f.operator xs) y) (ap out-Term are ∙ out-App g.operator ys) ∙ and_both (f.operator == g.operator) (fronts_together cs xs ys) one (fronts_from cs f.operands g.operands f.result g.result long equal))

  pub sum_linked : (a b c d : Term) → AreTogether cs a c → AreTogether cs b d → linked ls cs (Add a b) (Add c d) ≡ true
  sum_linked a b c d p q =
      by_congruence (Add a b) (Add c d) (ap (λ x. congruent cs x (out-Term (Add c d))) (out-Add a b) ∙ ap (λ y. congruent cs (Term-F.Add a b) y) (out-Add c d) ∙ and_both (together cs a c) (together cs b d) (together_are cs a c p) (together_are cs b d q))

  pub multiple_linked : (k : ℤ) (a b : Term) → AreTogether cs a b → linked ls cs (Scale k a) (Scale k b) ≡ true
  multiple_linked k a b p =
      by_congruence (Scale k a) (Scale k b) (ap (λ x. congruent cs x (out-Term (Scale k b))) (out-Scale k a) ∙ ap (λ y. congruent cs (Term-F.Scale k a) y) (out-Scale k b) ∙ and_both (int_eq k k) (together cs a b) (int_itself k) (together_are cs a b p))
