-- The linear form of a term gives its number, at every valuation and unit.
use Rattle.std.specs.Prelude.{◌≡◌, ℕ, ◌==◌, Bool, true, false, if◌then◌else◌, ℤ, pos, ◌+ℤ◌, ◌*ℤ◌, List, [], ◌∷◌, ◌++◌, map}
use Rattle.std.proofs.Common.{refl, ap, sym, subst, ◌∙◌, arith}
use Rattle.std.proofs.lemmas.Int.{ints}
use Rattle.lin_rows.specs.Terms.{IsNormal, coef_at, value_at}
use Rattle.lin_rows.specs.TermLaws.{coef-append, value-same, value-mixed, same_terms}
use Rattle.lin_rows.specs.Ring.{+ℤ-*ℤ, *ℤ_assoc, *ℤ-+ℤ}
use Rattle.terms.specs.declared.term.Term.{Term, Term-F, fold-roll-Term, ind-Term, map-Term, roll-Term}
use Rattle.terms.specs.declared.linear.Linear.{Linear}
use Rattle.terms.specs.Forms.{Form, form_of, form_step, form_in, form_sum, form_multiple, form_units, form_symbol, last_form}
use Rattle.terms.specs.Meanings.{Valued, number_at, number_step, last_number}

-- a list of terms with the coefficients of the form, whose value and units give the number
pub record Gives (m : Valued) (f : Form) (z : ℤ) : Type 0 where
  pub terms : List (ℕ × ℤ)
  pub coefs : (v : ℕ) → coef_at terms v ≡ f.coefs v
  pub number : z ≡ value_at m.numbers terms +ℤ f.units *ℤ m.unit

-- each coefficient times `k`
scaled : ℤ → List (ℕ × ℤ) → List (ℕ × ℤ)
scaled k [] = []
scaled k (t ∷ ts) = (t.0, k *ℤ t.1) ∷ scaled k ts

coef-scaled : (k : ℤ) (ts : List (ℕ × ℤ)) (v : ℕ) → coef_at (scaled k ts) v ≡ k *ℤ coef_at ts v
unfolding scaled
coef-scaled k [] v = none k
  where
    none : (k : ℤ) → pos 0 ≡ k *ℤ pos 0
    none k = omega (arith, ints)
coef-scaled k (t ∷ ts) v = by_test (v == t.0) t.1 (coef_at (scaled k ts) v) (coef_at ts v) (coef-scaled k ts v)
  where
    by_test : (b : Bool) (c whole rest : ℤ) → whole ≡ k *ℤ rest → (if b then k *ℤ c +ℤ whole else whole) ≡ k *ℤ (if b then c +ℤ rest else rest)
    by_test true c whole rest e = ap (λ z. k *ℤ c +ℤ z) e ∙ sym (*ℤ-+ℤ k c rest)
    by_test false c whole rest e = e

gives_units : (m : Valued) (z : ℤ) → Gives m (form_units z) (z *ℤ m.unit)
gives_units m z = record { terms = []; coefs = λ v. refl; number = none (z *ℤ m.unit) }
  where
    none : (z : ℤ) → z ≡ pos 0 +ℤ z
    none z = omega (arith, ints)

gives_none : (m : Valued) → Gives m (form_units (pos 0)) (pos 0)
gives_none m = record { terms = []; coefs = λ v. refl; number = none m.unit }
  where
    none : (q : ℤ) → pos 0 ≡ pos 0 +ℤ pos 0 *ℤ q
    none q = omega (arith, ints)

gives_symbol : (m : Valued) (n : ℕ) → Gives m (form_symbol n) (m.numbers n)
gives_symbol m n = record {
  terms = (n, pos 1) ∷ [];
  coefs = λ v. by_test (v == n);
  number = once (m.numbers n) m.unit;
}
  where
    by_test : (b : Bool) → (if b then pos 1 +ℤ pos 0 else pos 0) ≡ (if b then pos 1 else pos 0)
    by_test true = refl
    by_test false = refl

    once : (z q : ℤ) → z ≡ (pos 1 *ℤ z +ℤ pos 0) +ℤ pos 0 *ℤ q
    once z q = omega (arith, ints)

gives_sum : (m : Valued) (f g : Form) (y z : ℤ) → Gives m f y → Gives m g z → Gives m (form_sum f g) (y +ℤ z)
gives_sum m f g y z a b =
    let value = value-mixed (pos 1) (pos 1) m.numbers a.terms b.terms (a.terms ++ b.terms) (λ v. coef-append a.terms b.terms v ∙ ones (coef_at a.terms v) (coef_at b.terms v)) in
    record {
      terms = a.terms ++ b.terms;
      coefs = λ v. coef-append a.terms b.terms v ∙ ap (λ c. c +ℤ coef_at b.terms v) (a.coefs v) ∙ ap (λ c. f.coefs v +ℤ c) (b.coefs v);
      number =
          joined y z (value_at m.numbers a.terms) (value_at m.numbers b.terms) (value_at m.numbers (a.terms ++ b.terms)) (f.units *ℤ m.unit) (g.units *ℤ m.unit) ((f.units +ℤ g.units) *ℤ m.unit) a.number b.number (value ∙ sym (ones (value_at m.numbers a.terms) (value_at m.numbers b.terms))) (+ℤ-*ℤ f.units g.units m.unit);
    }
  where
    ones : (x y : ℤ) → x +ℤ y ≡ pos 1 *ℤ x +ℤ pos 1 *ℤ y
    ones x y = omega (arith, ints)

    joined : (y z s t whole c d e : ℤ) → y ≡ s +ℤ c → z ≡ t +ℤ d → whole ≡ s +ℤ t → e ≡ c +ℤ d → y +ℤ z ≡ whole +ℤ e
    joined y z s t whole c d e p q r u = omega (arith, ints)

gives_multiple : (m : Valued) (k : ℤ) (f : Form) (z : ℤ) → Gives m f z → Gives m (form_multiple k f) (k *ℤ z)
gives_multiple m k f z a =
    let value = value-mixed k (pos 0) m.numbers a.terms a.terms (scaled k a.terms) (λ v. coef-scaled k a.terms v ∙ more (k *ℤ coef_at a.terms v) (coef_at a.terms v)) in
    record {
      terms = scaled k a.terms;
      coefs = λ v. coef-scaled k a.terms v ∙ ap (λ c. k *ℤ c) (a.coefs v);
      number =
          ap (λ y. k *ℤ y) a.number ∙ *ℤ-+ℤ k (value_at m.numbers a.terms) (f.units *ℤ m.unit) ∙ ap (λ y. y +ℤ k *ℤ (f.units *ℤ m.unit)) (more (k *ℤ value_at m.numbers a.terms) (value_at m.numbers a.terms) ∙ sym value) ∙ ap (λ y. value_at m.numbers (scaled k a.terms) +ℤ y) (sym (*ℤ_assoc k f.units m.unit));
    }
  where
    more : (y z : ℤ) → y ≡ y +ℤ pos 0 *ℤ z
    more y z = omega (arith, ints)

module _ (m : Valued) where
  abbrev HasForm : Term → Type 0
  HasForm t = Gives m (form_of t) (number_at m t)

  abbrev Known : Type 0
  Known = (t : Term) × HasForm t

  last_known : (all : List Known) → Gives m (last_form (map form_of (map (λ e. e.0) all))) (last_number (map (number_at m) (map (λ e. e.0) all)))
  last_known [] = gives_none m
  last_known (e ∷ []) = e.1
  last_known (e ∷ d ∷ more) = last_known (d ∷ more)

  layer : (y : Term-F Known) → Gives m (form_step (map-Term Term Form form_of (map-Term Known Term (λ e. e.0) y))) (number_step m (map-Term Term ℤ (number_at m) (map-Term Known Term (λ e. e.0) y)))
  layer (Term-F.Sym n) = gives_symbol m n
  layer (Term-F.Lit z) = gives_units m z
  layer (Term-F.Add a b) = gives_sum m (form_of a.0) (form_of b.0) (number_at m a.0) (number_at m b.0) a.1 b.1
  layer (Term-F.Scale k a) = gives_multiple m k (form_of a.0) (number_at m a.0) a.1
  layer (Term-F.App operator all) = last_known all
  layer (Term-F.RefSym n) = gives_none m
  layer (Term-F.RefLit n) = gives_none m
  layer Term-F.Nil = gives_none m

  rolled : (x : Term-F Term) → Gives m (form_step (map-Term Term Form form_of x)) (number_step m (map-Term Term ℤ (number_at m) x)) → HasForm (roll-Term x)
  rolled x g =
      subst (λ f. Gives m f (number_at m (roll-Term x))) (sym (fold-roll-Term Form form_step x)) (subst (λ z. Gives m (form_step (map-Term Term Form form_of x)) z) (sym (fold-roll-Term ℤ (number_step m) x)) g)

  pub has_form : (t : Term) → HasForm t
  has_form = ind-Term HasForm (λ x y is. subst (λ z. HasForm (roll-Term z)) is (rolled (map-Term Known Term (λ e. e.0) y) (layer y)))

-- the number of a term is the value of its linear form and of the units
pub number_of_form : (m : Valued) (t : Term) (l : Linear) → form_in l ≡ form_of t → number_at m t ≡ value_at m.numbers l.coefs +ℤ l.bound *ℤ m.unit
number_of_form m t l e =
    let g = has_form m t in
    let same = value-same m.numbers g.terms l.coefs (λ v. g.coefs v ∙ sym (ap (λ (f : Form). f.coefs v) e)) in
    g.number ∙ ap (λ z. z +ℤ (form_of t).units *ℤ m.unit) same ∙ ap (λ z. value_at m.numbers l.coefs +ℤ z *ℤ m.unit) (sym (ap (λ (f : Form). f.units) e))

abbrev linear_with : List (ℕ × ℤ) → ℤ → Linear
linear_with ts z = record { coefs = ts; bound = z }

-- a linear form has one list of terms
pub same_linear : (l k : Linear) → IsNormal l.coefs → IsNormal k.coefs → form_in l ≡ form_in k → l ≡ k
same_linear l k p q e =
    let terms : l.coefs ≡ k.coefs = same_terms l.coefs k.coefs p q (λ v. ap (λ (f : Form). f.coefs v) e) in
    ap (λ (ts : List (ℕ × ℤ)). linear_with ts l.bound) terms ∙ ap (λ (z : ℤ). linear_with k.coefs z) (ap (λ (f : Form). f.units) e)
