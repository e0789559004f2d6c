-- The test of equal terms is exact.
use Rattle.std.specs.Prelude.{◌≡◌, ℕ, Bool, true, false, ◌&&◌, ◌==◌, ℤ, List, [], ◌∷◌, map}
use Rattle.std.specs.Ordering.{int_eq}
use Rattle.std.proofs.Common.{refl, ap, sym, subst, ◌∙◌, arith}
use Rattle.std.proofs.lemmas.Bool.Decides.{nat_tests, Decides-int_eq}
use Rattle.terms.specs.declared.term.Term.{Term, Term-F, map-Term, out-Term, out-roll-Term, roll-Term, roll-out-Term, fold-roll-Term, ind-Term}
use Rattle.terms.specs.Sameness.{same_all, same_form, same_term}

pub nat_same : (m n : ℕ) → (m == n) ≡ true → m ≡ n
nat_same m n h = grind (arith, nat_tests)

pub int_same : (y z : ℤ) → int_eq y z ≡ true → y ≡ z
int_same y z h = grind (arith, Decides-int_eq)

pub both : (a b : Bool) → (a && b) ≡ true → (a ≡ true) × (b ≡ true)
both true b h = (refl, h)
both false b h = absurd (cc)

abbrev IsKnown : Term → Type 0
IsKnown t = (u : Term) → same_term t u ≡ true → t ≡ u

abbrev Known : Type 0
Known = (t : Term) × IsKnown t

abbrev terms_of : List Known → List Term
terms_of all = map (λ e. e.0) all

all_same : (all : List Known) (us : List Term) → same_all (map same_term (terms_of all)) us ≡ true → terms_of all ≡ us
all_same [] [] h = refl
all_same [] (u ∷ us) h = absurd (cc)
all_same (e ∷ all) [] h = absurd (cc)
all_same (e ∷ all) (u ∷ us) h =
    let (first, rest) = both (same_term e.0 u) (same_all (map same_term (terms_of all)) us) h in
    ap (λ t. t ∷ terms_of all) (e.1 u first) ∙ ap (λ ts. u ∷ ts) (all_same all us rest)

abbrev form_of : Term-F Known → Term-F Term
form_of y = map-Term Known Term (λ e. e.0) y

abbrev tests_of : Term-F Known → Term-F (Term → Bool)
tests_of y = map-Term Term (Term → Bool) same_term (form_of y)

layer : (y : Term-F Known) (z : Term-F Term) → same_form (tests_of y) z ≡ true → form_of y ≡ z
layer (Term-F.Sym m) (Term-F.Sym n) h = ap (λ (k : ℕ). Term-F.Sym k) (nat_same m n h)
layer (Term-F.Sym m) z h = absurd (cc)
layer (Term-F.Lit x) (Term-F.Lit z) h = ap (λ (k : ℤ). Term-F.Lit k) (int_same x z h)
layer (Term-F.Lit x) z h = absurd (cc)
layer (Term-F.Add e d) (Term-F.Add a b) h =
    let (left, right) = both (same_term e.0 a) (same_term d.0 b) h in
    ap (λ t. Term-F.Add t d.0) (e.1 a left) ∙ ap (λ t. Term-F.Add a t) (d.1 b right)
layer (Term-F.Add e d) z h = absurd (cc)
layer (Term-F.Scale k e) (Term-F.Scale l a) h =
    let (left, right) = both (int_eq k l) (same_term e.0 a) h in
    ap (λ (x : ℤ). Term-F.Scale x e.0) (int_same k l left) ∙ ap (λ t. Term-F.Scale l t) (e.1 a right)
layer (Term-F.Scale k e) z h = absurd (cc)
layer (Term-F.App p all) (Term-F.App q us) h =
    let (left, right) = both (p == q) (same_all (map same_term (terms_of all)) us) h in
    ap (λ (x : ℕ). Term-F.App x (terms_of all)) (nat_same p q left) ∙ ap (λ ts. Term-F.App q ts) (all_same all us right)
layer (Term-F.App p all) z h = absurd (cc)
layer (Term-F.RefSym m) (Term-F.RefSym n) h = ap (λ (k : ℕ). Term-F.RefSym k) (nat_same m n h)
layer (Term-F.RefSym m) z h = absurd (cc)
layer (Term-F.RefLit m) (Term-F.RefLit n) h = ap (λ (k : ℕ). Term-F.RefLit k) (nat_same m n h)
layer (Term-F.RefLit m) z h = absurd (cc)
layer Term-F.Nil Term-F.Nil h = refl
layer Term-F.Nil z h = absurd (cc)

rolled : (x : Term-F Term) → ((z : Term-F Term) → same_form (map-Term Term (Term → Bool) same_term x) z ≡ true → x ≡ z) → IsKnown (roll-Term x)
rolled x s u h =
    let test = ap (λ (f : Term → Bool). f u) (fold-roll-Term (Term → Bool) (λ y t. same_form y (out-Term t)) x) in
    ap roll-Term (s (out-Term u) (sym test ∙ h)) ∙ roll-out-Term u

-- terms that are the same are equal
pub same_is_equal : (t u : Term) → same_term t u ≡ true → t ≡ u
same_is_equal = ind-Term IsKnown (λ x y is. subst (λ z. IsKnown (roll-Term z)) is (rolled (form_of y) (layer y)))

-- equal terms are the same
abbrev IsItself : Term → Type 0
IsItself t = same_term t t ≡ true

abbrev Itself : Type 0
Itself = (t : Term) × IsItself t

abbrev own_form : Term-F Itself → Term-F Term
own_form y = map-Term Itself Term (λ e. e.0) y

pub nat_itself : (n : ℕ) → (n == n) ≡ true
nat_itself n = grind (arith, nat_tests)

pub int_itself : (z : ℤ) → int_eq z z ≡ true
int_itself z = grind (arith, Decides-int_eq)

pub and_both : (a b : Bool) → a ≡ true → b ≡ true → (a && b) ≡ true
and_both true b e f = f
and_both false b e f = e

all_itself : (all : List Itself) → same_all (map same_term (map (λ e. e.0) all)) (map (λ e. e.0) all) ≡ true
all_itself [] = refl
all_itself (e ∷ all) =
    and_both (same_term e.0 e.0) (same_all (map same_term (map (λ e. e.0) all)) (map (λ e. e.0) all)) e.1 (all_itself all)

own_layer : (y : Term-F Itself) → same_form (map-Term Term (Term → Bool) same_term (own_form y)) (own_form y) ≡ true
own_layer (Term-F.Sym n) = nat_itself n
own_layer (Term-F.Lit z) = int_itself z
own_layer (Term-F.Add a b) = and_both (same_term a.0 a.0) (same_term b.0 b.0) a.1 b.1
own_layer (Term-F.Scale k a) = and_both (int_eq k k) (same_term a.0 a.0) (int_itself k) a.1
own_layer (Term-F.App operator all) =
    and_both (operator == operator) (same_all (map same_term (map (λ e. e.0) all)) (map (λ e. e.0) all)) (nat_itself operator) (all_itself all)
own_layer (Term-F.RefSym n) = nat_itself n
own_layer (Term-F.RefLit n) = nat_itself n
own_layer Term-F.Nil = refl

own_rolled : (x : Term-F Term) → same_form (map-Term Term (Term → Bool) same_term x) x ≡ true → IsItself (roll-Term x)
own_rolled x h =
    let test = ap (λ (f : Term → Bool). f (roll-Term x)) (fold-roll-Term (Term → Bool) (λ y t. same_form y (out-Term t)) x) in
    test ∙ ap (same_form (map-Term Term (Term → Bool) same_term x)) (out-roll-Term x) ∙ h

itself : (t : Term) → IsItself t
itself = ind-Term IsItself (λ x y is. subst (λ z. IsItself (roll-Term z)) is (own_rolled (own_form y) (own_layer y)))

pub equal_is_same : (t u : Term) → t ≡ u → same_term t u ≡ true
equal_is_same t u e = subst (λ z. same_term t z ≡ true) e (itself t)
