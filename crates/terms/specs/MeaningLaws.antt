-- The number that a term of numbers is.
use Rattle.std.specs.Prelude.{◌≡◌, Bool, true, false, ◌&&◌, ℤ, ◌+ℤ◌, ◌*ℤ◌, List, [], ◌∷◌, map}
use Rattle.std.proofs.Common.{refl, ap, sym, subst, ◌∙◌}
use Rattle.terms.specs.declared.term.Term.{Term, Term-F, fold-roll-Term, ind-Term, map-Term, roll-Term}
use Rattle.terms.specs.Sorts.{of_numbers, number_step as sort_step, every, some_and_every}
use Rattle.terms.specs.Meanings.{Valued, Meaning, Number, Reference, sum_of, multiple_of, applied, meaning_at, meaning_step, number_at, number_step, last_number}

-- what a term means, where its sort and its number are these
abbrev pub Agrees : Bool → ℤ → Meaning → Type 0
Agrees sort z (Number x) = x ≡ z
Agrees true z (Reference n) = ⊥
Agrees false z (Reference n) = Unit {0}

sums_agree : (a b : Bool) (y z : ℤ) (p q : Meaning) → Agrees a y p → Agrees b z q → Agrees (a && b) (y +ℤ z) (sum_of p q)
sums_agree a b y z (Number p) (Number q) h k = ap (λ w. w +ℤ q) h ∙ ap (λ w. y +ℤ w) k
sums_agree true true y z (Number p) (Reference q) h k = k
sums_agree true false y z (Number p) (Reference q) h k = tt
sums_agree false b y z (Number p) (Reference q) h k = tt
sums_agree true b y z (Reference p) q h k = absurd h
sums_agree false b y z (Reference p) (Number q) h k = tt
sums_agree false b y z (Reference p) (Reference q) h k = tt

multiples_agree : (a : Bool) (k z : ℤ) (p : Meaning) → Agrees a z p → Agrees a (k *ℤ z) (multiple_of k p)
multiples_agree a k z (Number p) h = ap (λ w. k *ℤ w) h
multiples_agree true k z (Reference p) h = h
multiples_agree false k z (Reference p) h = tt

module _ (m : Valued) where
  abbrev AgreesAt : Term → Type 0
  AgreesAt t = Agrees (of_numbers t) (number_at m t) (meaning_at m t)

  abbrev Known : Type 0
  Known = (t : Term) × AgreesAt t

  abbrev terms_of : List Known → List Term
  terms_of all = map (λ e. e.0) all

  -- whatever stands before a reference in an application
  none_agrees : (a : Bool) (z : ℤ) (n : _) (more : List Bool) (y : ℤ) → Agrees a z (Reference n) → Agrees (a && every more) y (Reference n)
  none_agrees true z n more y h = absurd h
  none_agrees false z n more y h = tt

  ends_agree : (a : Bool) (z : ℤ) (p : Meaning) → Agrees a z p → Agrees (a && true) z (applied (p ∷ []))
  ends_agree a z (Number x) h = h
  ends_agree true z (Reference n) h = h
  ends_agree false z (Reference n) h = tt

  first_agrees : (a b : Bool) (y z : ℤ) (p q : Meaning) (more : List Meaning) → Agrees a y p → Agrees b z (applied (q ∷ more)) → Agrees (a && b) z (applied (p ∷ q ∷ more))
  first_agrees true b y z (Number x) q more h k = k
  first_agrees false b y z (Number x) q more h k = weaker b (applied (q ∷ more)) k
    where
      weaker : (b : Bool) (r : Meaning) → Agrees b z r → Agrees false z r
      weaker b (Number w) k = k
      weaker true (Reference n) k = tt
      weaker false (Reference n) k = tt
  first_agrees true b y z (Reference n) q more h k = absurd h
  first_agrees false b y z (Reference n) q more h k = tt

  applications_agree : (all : List Known) → Agrees (some_and_every (map of_numbers (terms_of all))) (last_number (map (number_at m) (terms_of all))) (applied (map (meaning_at m) (terms_of all)))
  applications_agree [] = tt
  applications_agree (e ∷ []) = ends_agree (of_numbers e.0) (number_at m e.0) (meaning_at m e.0) e.1
  applications_agree (e ∷ d ∷ more) =
      first_agrees (of_numbers e.0) (some_and_every (map of_numbers (terms_of (d ∷ more)))) (number_at m e.0) (last_number (map (number_at m) (terms_of (d ∷ more)))) (meaning_at m e.0) (meaning_at m d.0) (map (meaning_at m) (terms_of more)) e.1 (applications_agree (d ∷ more))

  layer : (y : Term-F Known) → Agrees (sort_step (map-Term Term Bool of_numbers (map-Term Known Term (λ e. e.0) y))) (number_step m (map-Term Term ℤ (number_at m) (map-Term Known Term (λ e. e.0) y))) (meaning_step m (map-Term Term Meaning (meaning_at m) (map-Term Known Term (λ e. e.0) y)))
  layer (Term-F.Sym n) = refl
  layer (Term-F.Lit z) = refl
  layer (Term-F.Add a b) = sums_agree (of_numbers a.0) (of_numbers b.0) (number_at m a.0) (number_at m b.0) (meaning_at m a.0) (meaning_at m b.0) a.1 b.1
  layer (Term-F.Scale k a) = multiples_agree (of_numbers a.0) k (number_at m a.0) (meaning_at m a.0) a.1
  layer (Term-F.App operator all) = applications_agree all
  layer (Term-F.RefSym n) = tt
  layer (Term-F.RefLit n) = tt
  layer Term-F.Nil = tt

  rolled : (x : Term-F Term) → Agrees (sort_step (map-Term Term Bool of_numbers x)) (number_step m (map-Term Term ℤ (number_at m) x)) (meaning_step m (map-Term Term Meaning (meaning_at m) x)) → AgreesAt (roll-Term x)
  rolled x h =
      let sort = fold-roll-Term Bool sort_step x in
      let number = fold-roll-Term ℤ (number_step m) x in
      let meaning = fold-roll-Term Meaning (meaning_step m) x in
      subst (λ b. Agrees b (number_at m (roll-Term x)) (meaning_at m (roll-Term x))) (sym sort) (subst (λ z. Agrees (sort_step (map-Term Term Bool of_numbers x)) z (meaning_at m (roll-Term x))) (sym number) (subst (λ p. Agrees (sort_step (map-Term Term Bool of_numbers x)) (number_step m (map-Term Term ℤ (number_at m) x)) p) (sym meaning) h))

  pub agrees : (t : Term) → AgreesAt t
  agrees = ind-Term AgreesAt (λ x y is. subst (λ z. AgreesAt (roll-Term z)) is (rolled (map-Term Known Term (λ e. e.0) y) (layer y)))

-- a term of numbers is its number
pub number_meant : (m : Valued) (t : Term) → of_numbers t ≡ true → meaning_at m t ≡ Number (number_at m t)
number_meant m t e = seen (meaning_at m t) (subst (λ b. Agrees b (number_at m t) (meaning_at m t)) e (agrees m t))
  where
    seen : (p : Meaning) → Agrees true (number_at m t) p → p ≡ Number (number_at m t)
    seen (Number x) h = ap (λ (z : ℤ). Number z) h
    seen (Reference n) h = absurd h

-- a term that is a number is the one of its symbols
pub meant_number : (m : Valued) (t : Term) (x : ℤ) → meaning_at m t ≡ Number x → x ≡ number_at m t
meant_number m t x e = subst (Agrees (of_numbers t) (number_at m t)) e (agrees m t)
