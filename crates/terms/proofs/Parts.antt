-- The equation of `terms_within`, and what fits in terms made of others.
use Rattle.std.specs.Prelude.{◌≡◌, ℕ, ℤ, List, [], ◌∷◌, ◌++◌, map, All}
use Rattle.std.proofs.Common.{refl, ap, sym, subst, ◌∙◌, rules}
use Rattle.std.proofs.lemmas.List.Elements.{All-nil, All-cons, All-head, All-tail, All-append}
use Rattle.terms.specs.declared.term.Term.{Term, Term-F, fold_out-Term, map-Term, roll-Term, out-Term, Sym, Lit, Add, Scale, App, RefSym, RefLit, Nil, para-roll-Term, roll-out-Term, the_lemmas}
use Rattle.terms.specs.Within.{joined, parts_of, within_step, terms_within}
use Rattle.terms.specs.Forms.{Form, FormFits, AllFormsFit, form_of, form_step}

firsts : (ts : List Term) → map {A = Term × List Term} (λ e. e.0) (map (λ y. (y, terms_within y)) ts) ≡ ts
firsts [] = refl
firsts (t ∷ ts) = ap (λ us. t ∷ us) (firsts ts)

seconds : (ts : List Term) → map {A = Term × List Term} (λ e. e.1) (map (λ y. (y, terms_within y)) ts) ≡ map terms_within ts
seconds [] = refl
seconds (t ∷ ts) = ap (λ us. terms_within t ∷ us) (seconds ts)

layer : (x : Term-F Term) → within_step (map-Term Term (Term × List Term) (λ y. (y, terms_within y)) x) ≡ roll-Term x ∷ parts_of (map-Term Term (List Term) terms_within x)
layer (Term-F.Sym n) = refl
layer (Term-F.Lit z) = refl
layer (Term-F.Add a b) = refl
layer (Term-F.Scale k a) = refl
layer (Term-F.App operator all) = rw (firsts all, seconds all)
layer (Term-F.RefSym n) = refl
layer (Term-F.RefLit n) = refl
layer Term-F.Nil = refl

-- the terms within the parts of a form
abbrev pub below : Term-F Term → List Term
below x = parts_of (map-Term Term (List Term) terms_within x)

within-roll : (x : Term-F Term) → terms_within (roll-Term x) ≡ roll-Term x ∷ below x
within-roll x = para-roll-Term (List Term) within_step x ∙ layer x

pub within_is : (t : Term) → terms_within t ≡ t ∷ below (out-Term t)
within_is t =
    ap terms_within (sym (roll-out-Term t)) ∙ within-roll (out-Term t) ∙ ap (λ u. u ∷ below (out-Term t)) (roll-out-Term t)

-- the linear form of a term fits
abbrev pub Fits : Term → Type 0
Fits u = FormFits (form_of u)

pub fits_from : (t : Term) (x : Term-F Term) → out-Term t ≡ x → Fits t → All Fits (below x) → AllFormsFit t
fits_from t x e f g = record {
  within = subst (All Fits) (sym (within_is t ∙ ap (λ y. t ∷ below y) e)) (All-cons Fits t (below x) f g);
}

pub own_fits : (t : Term) → AllFormsFit t → Fits t
own_fits t h = All-head Fits t (below (out-Term t)) (subst (All Fits) (within_is t) h.within)

pub parts_fit : (t : Term) (x : Term-F Term) → out-Term t ≡ x → AllFormsFit t → All Fits (below x)
parts_fit t x e h =
    All-tail Fits t (below x) (subst (All Fits) (within_is t ∙ ap (λ y. t ∷ below y) e) h.within)

-- the two parts of a list
pub front_all : {X : Type 0} (P : X → Type 0) (xs ys : List X) → All P (xs ++ ys) → All P xs
front_all P [] ys h = All-nil P
front_all P (x ∷ xs) ys h = All-cons P x xs (All-head P x (xs ++ ys) h) (front_all P xs ys (All-tail P x (xs ++ ys) h))

pub rest_all : {X : Type 0} (P : X → Type 0) (xs ys : List X) → All P (xs ++ ys) → All P ys
rest_all P [] ys h = h
rest_all P (x ∷ xs) ys h = rest_all P xs ys (All-tail P x (xs ++ ys) h)

pub all_fit_joined : (ts : List Term) → All AllFormsFit ts → All Fits (joined (map terms_within ts))
all_fit_joined [] h = All-nil Fits
all_fit_joined (t ∷ ts) h =
    All-append Fits (terms_within t) (joined (map terms_within ts)) (All-head AllFormsFit t ts h).within (all_fit_joined ts (All-tail AllFormsFit t ts h))

pub joined_all_fit : (ts : List Term) → All Fits (joined (map terms_within ts)) → All AllFormsFit ts
joined_all_fit [] h = All-nil AllFormsFit
joined_all_fit (t ∷ ts) h =
    All-cons AllFormsFit t ts (record { within = front_all Fits (terms_within t) (joined (map terms_within ts)) h }) (joined_all_fit ts (rest_all Fits (terms_within t) (joined (map terms_within ts)) h))

-- the linear form of a term is that of its parts
pub form_is : (t : Term) (x : Term-F Term) → out-Term t ≡ x → form_of t ≡ form_step (map-Term Term Form form_of x)
form_is t x e = fold_out-Term Form form_step t ∙ ap (λ y. form_step (map-Term Term Form form_of y)) e

pub out-Sym : (n : ℕ) → out-Term (Sym n) ≡ Term-F.Sym n
out-Sym n = search (rules, the_lemmas)

pub out-Lit : (z : ℤ) → out-Term (Lit z) ≡ Term-F.Lit z
out-Lit z = search (rules, the_lemmas)

pub out-Add : (a b : Term) → out-Term (Add a b) ≡ Term-F.Add a b
out-Add a b = search (rules, the_lemmas)

pub out-Scale : (k : ℤ) (a : Term) → out-Term (Scale k a) ≡ Term-F.Scale k a
out-Scale k a = search (rules, the_lemmas)

pub out-App : (operator : ℕ) (all : List Term) → out-Term (App operator all) ≡ Term-F.App operator all
out-App operator all = search (rules, the_lemmas)

pub out-RefSym : (n : ℕ) → out-Term (RefSym n) ≡ Term-F.RefSym n
out-RefSym n = search (rules, the_lemmas)

pub out-RefLit : (n : ℕ) → out-Term (RefLit n) ≡ Term-F.RefLit n
out-RefLit n = search (rules, the_lemmas)

pub out-Nil : out-Term Nil ≡ Term-F.Nil
out-Nil = search (rules, the_lemmas)
