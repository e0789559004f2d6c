-- The terms of literals, one after another.
use Rattle.std.specs.Prelude.{◌≡◌, ℕ, suc, ◌+◌, ◌<◌, ℤ, List, [], ◌∷◌, ◌++◌, map, length, take, get_or}
use Rattle.std.proofs.Common.{refl, ap, sym, subst, ◌∙◌, rules, arith, append_assoc}
use Rattle.std.proofs.Math.Seq.{take-suc}
use Rattle.std.proofs.lemmas.List.{append-nil}
use Rattle.terms.specs.declared.Term.{Term, Term-F, Sym, Lit, RefSym, out-Term, the_lemmas}
use Rattle.terms.specs.declared.Literal.{Literal}
use Rattle.terms.specs.Within.{joined, terms_within}
use Rattle.terms.specs.Fitting.{terms_in, within_sides, sides_of}
use Rattle.ref_solver.specs.Classes.{with_term, with_terms}
use Rattle.ref_solver.proofs.Standing.{below, within_is, terms_in-append}

abbrev Parted : Type 0
Parted = List (List Term)

pub with_all : (xs ys : List Term) (cs : Parted) → with_terms (xs ++ ys) cs ≡ with_terms ys (with_terms xs cs)
with_all [] ys cs = refl
with_all (x ∷ xs) ys cs = with_all xs ys (with_term x cs)

pub within_steps : (t : Term) (x : Term-F Term) (old new : Parted) → out-Term t ≡ x → new ≡ with_term t old → with_terms (below x) new ≡ with_terms (terms_within t) old
within_steps t x old new is e =
    ap (with_terms (below x)) e ∙ sym (ap (λ ts. with_terms ts old) (within_is t ∙ ap (λ y. t ∷ below y) is))

pub leaf_step : (t : Term) (x : Term-F Term) (old new : Parted) → out-Term t ≡ x → below x ≡ [] → new ≡ with_term t old → new ≡ with_terms (terms_within t) old
leaf_step t x old new is none e =
    subst (λ ts. with_terms ts new ≡ with_terms (terms_within t) old) none (within_steps t x old new is e)

pub pair_step : (a b : Term) (old new : Parted) → new ≡ with_terms (terms_within a) old → with_terms (terms_within b) new ≡ with_terms (terms_within a ++ terms_within b) old
pair_step a b old new e =
    ap (with_terms (terms_within b)) e ∙ sym (with_all (terms_within a) (terms_within b) old)

pub add_step : (t a b p q : Term) (old new next : Parted) → out-Term t ≡ Term-F.Add a b → p ≡ a → q ≡ b → new ≡ with_term t old → next ≡ with_terms (terms_within p) new → with_terms (terms_within q) next ≡ with_terms (terms_within t) old
add_step t a b p q old new next is f g e h =
    ap (λ u. with_terms (terms_within u) next) g ∙ pair_step a b new next (h ∙ ap (λ u. with_terms (terms_within u) new) f) ∙ within_steps t (Term-F.Add a b) old new is e

pub scale_step : (t a p : Term) (k : ℤ) (old new : Parted) → out-Term t ≡ Term-F.Scale k a → p ≡ a → new ≡ with_term t old → with_terms (terms_within p) new ≡ with_terms (terms_within t) old
scale_step t a p k old new is f e =
    ap (λ u. with_terms (terms_within u) new) f ∙ within_steps t (Term-F.Scale k a) old new is e

pub take_step : {X : Type 0} (xs : List X) (i : ℕ) (x : X) → i < length xs → get_or xs i x ≡ x → take (i + 1) xs ≡ take i xs ++ x ∷ []
take_step xs i x lt is =
    let next : i + 1 ≡ suc i = omega arith in
    ap (λ (n : ℕ). take n xs) next ∙ take-suc xs i x lt ∙ ap (λ u. take i xs ++ u ∷ []) is

joined_pushed : (ts : List Term) (t : Term) → joined (map terms_within (ts ++ t ∷ [])) ≡ joined (map terms_within ts) ++ terms_within t
joined_pushed [] t = append-nil (terms_within t)
joined_pushed (u ∷ ts) t =
    ap (λ us. terms_within u ++ us) (joined_pushed ts t) ∙ sym (append_assoc (terms_within u) (joined (map terms_within ts)) (terms_within t))

pub terms_step : (xs : List Term) (i : ℕ) (t : Term) (old new next : Parted) → i < length xs → get_or xs i t ≡ t → new ≡ with_terms (joined (map terms_within (take i xs))) old → next ≡ with_terms (terms_within t) new → next ≡ with_terms (joined (map terms_within (take (i + 1) xs))) old
terms_step xs i t old new next lt is e h =
    let more = ap (λ us. joined (map terms_within us)) (take_step xs i t lt is) ∙ joined_pushed (take i xs) t in
    h ∙ ap (with_terms (terms_within t)) e ∙ sym (with_all (joined (map terms_within (take i xs))) (terms_within t) old) ∙ sym (ap (λ us. with_terms us old) more)

pub literals_step : (ls : List Literal) (i : ℕ) (l : Literal) (new next : Parted) → i < length ls → get_or ls i l ≡ l → new ≡ with_terms (terms_in (take i ls)) [] → next ≡ with_terms (within_sides (sides_of l)) new → next ≡ with_terms (terms_in (take (i + 1) ls)) []
literals_step ls i l new next lt is e h =
    let side = within_sides (sides_of l) in
    let more = ap terms_in (take_step ls i l lt is) ∙ terms_in-append (take i ls) (l ∷ []) ∙ ap (λ us. terms_in (take i ls) ++ us) (append-nil side) in
    h ∙ ap (with_terms side) e ∙ sym (with_all (terms_in (take i ls)) side []) ∙ sym (ap (λ us. with_terms us []) more)

pub out-Sym : (n : ℕ) → out-Term (Sym n) ≡ Term-F.Sym n
out-Sym n = search (rules, the_lemmas)

pub out-Lit : (z : ℤ) → out-Term (Lit z) ≡ Term-F.Lit z
out-Lit z = search (rules, the_lemmas)

pub out-RefSym : (n : ℕ) → out-Term (RefSym n) ≡ Term-F.RefSym n
out-RefSym n = search (rules, the_lemmas)
