-- The numbers of terms at a point.
use Rattle.std.specs.Prelude.{◌≡◌, ℕ, suc, ◌-◌, ◌<◌, ◌≤◌, Bool, IsTrue, ℤ, ◌+ℤ◌, ◌*ℤ◌, ◌≤ℤ◌, ◌⊎◌, List, [], ◌∷◌, ◌++◌, map, take, length, get_or, Option, Some, None, IfSome}
use Rattle.std.proofs.Common.{refl, ap, sym, subst, ◌∙◌, rules, arith}
use Rattle.std.proofs.Math.Seq.{take-suc}
use Rattle.std.proofs.lemmas.List.{take_all}
use Rattle.lin_rows.specs.declared.Point.{Point}
use Rattle.terms.specs.declared.Term.{Term, Term-F, Sym, Lit, Add, Scale, App, RefSym, RefLit, Nil, map-Term, out-Term, fold_out-Term, the_lemmas}
use Rattle.terms.specs.Sorts.{of_numbers}
use Rattle.terms.specs.Meanings.{Valued, Number, number_at, number_step, last_number, meaning_at, AreApart}
use Rattle.terms.specs.MeaningLaws.{number_meant}
use Rattle.proof_checker.specs.Derivations.{AreNumbers}
use Rattle.cond_plan.specs.declared.gap.Gap.{Gap}
use Rattle.cond_plan.specs.declared.gap.Gap.TheVariants as gap
use Rattle.cond_plan.specs.PointValues.{valued_at, AreApartAt}
use Rattle.cond_plan.specs.Needs.{IsGap}
use Rattle.cond_plan.specs.Known.{IsNumberAt, IsLastNumberAt, IsSumOf, IsMultipleOf, IsGapOf}

pub out-Sym : (n : ℕ) → out-Term (Sym n) ≡ Term-F.Sym n
out-Sym n = search (rules, the_lemmas)

pub out-Lit : (z : ℤ) → out-Term (Lit z) ≡ Term-F.Lit z
out-Lit z = search (rules, the_lemmas)

pub out-Add : (a b : Term) → out-Term (Add a b) ≡ Term-F.Add a b
out-Add a b = search (rules, the_lemmas)

pub out-Scale : (k : ℤ) (a : Term) → out-Term (Scale k a) ≡ Term-F.Scale k a
out-Scale k a = search (rules, the_lemmas)

pub out-App : (operator : ℕ) (all : List Term) → out-Term (App operator all) ≡ Term-F.App operator all
out-App operator all = search (rules, the_lemmas)

pub out-RefSym : (n : ℕ) → out-Term (RefSym n) ≡ Term-F.RefSym n
out-RefSym n = search (rules, the_lemmas)

pub out-RefLit : (n : ℕ) → out-Term (RefLit n) ≡ Term-F.RefLit n
out-RefLit n = search (rules, the_lemmas)

pub out-Nil : out-Term Nil ≡ Term-F.Nil
out-Nil = search (rules, the_lemmas)

-- the number of a term by its form
pub number_is : (m : Valued) (t : Term) (x : Term-F Term) → out-Term t ≡ x → number_at m t ≡ number_step m (map-Term Term ℤ (number_at m) x)
number_is m t x e =
    fold_out-Term ℤ (number_step m) t ∙ ap (λ y. number_step m (map-Term Term ℤ (number_at m) y)) e

pub sum_is : (p : Point) (t a b : Term) (x y r : Option ℤ) → out-Term t ≡ Term-F.Add a b → IfSome x (IsNumberAt p a) → IfSome y (IsNumberAt p b) → IfSome r (IsSumOf x y) → IfSome r (IsNumberAt p t)
sum_is p t a b (Some x) (Some y) (Some z) e h k is =
    λ references flags.
    let m = valued_at p references flags in
    number_is m t (Term-F.Add a b) e ∙ ap (λ w. w +ℤ number_at m b) (h references flags) ∙ ap (λ w. x +ℤ w) (k references flags) ∙ sym is
sum_is p t a b (Some x) None (Some z) e h k is = absurd is
sum_is p t a b None y (Some z) e h k is = absurd is
sum_is p t a b x y None e h k is = tt

pub multiple_is : (p : Point) (t a : Term) (l : ℤ) (x r : Option ℤ) → out-Term t ≡ Term-F.Scale l a → IfSome x (IsNumberAt p a) → IfSome r (IsMultipleOf l x) → IfSome r (IsNumberAt p t)
multiple_is p t a l (Some x) (Some z) e h is =
    λ references flags.
    let m = valued_at p references flags in
    number_is m t (Term-F.Scale l a) e ∙ ap (λ w. l *ℤ w) (h references flags) ∙ sym is
multiple_is p t a l None (Some z) e h is = absurd is
multiple_is p t a l x None e h is = tt

pub application_is : (p : Point) (t : Term) (operator : ℕ) (all : List Term) (r : Option ℤ) → out-Term t ≡ Term-F.App operator all → IfSome r (IsLastNumberAt p all) → IfSome r (IsNumberAt p t)
application_is p t operator all (Some z) e h =
    λ references flags.
    let m = valued_at p references flags in
    number_is m t (Term-F.App operator all) e ∙ h references flags
application_is p t operator all None e h = tt

-- the last of terms
last_pushed : (f : Term → ℤ) (ts : List Term) (t : Term) → last_number (map f (ts ++ t ∷ [])) ≡ f t
last_pushed f [] t = refl
last_pushed f (u ∷ []) t = refl
last_pushed f (u ∷ w ∷ ts) t = last_pushed f (w ∷ ts) t

pub last_is : (p : Point) (all ts : List Term) (t : Term) (r : Option ℤ) → all ≡ ts ++ t ∷ [] → IfSome r (IsNumberAt p t) → IfSome r (IsLastNumberAt p all)
last_is p all ts t (Some z) e h =
    λ references flags.
    let m = valued_at p references flags in
    ap (λ us. last_number (map (number_at m) us)) e ∙ last_pushed (number_at m) ts t ∙ h references flags
last_is p all ts t None e h = tt

-- two numbers at a point
pub meant_at : (p : Point) (t : Term) (z : ℤ) → IsTrue (of_numbers t) → IsNumberAt p t z → (references : ℕ → ℕ) (flags : ℕ → Bool) → meaning_at (valued_at p references flags) t ≡ Number z
meant_at p t z n h references flags =
    number_meant (valued_at p references flags) t n ∙ ap (λ (w : ℤ). Number w) (h references flags)

apart_at : (p : Point) (a b : Term) (x y : ℤ) → AreNumbers a b → IsNumberAt p a x → IsNumberAt p b y → ((x +ℤ p.q) ≤ℤ y) ⊎ ((y +ℤ p.q) ≤ℤ x) → AreApartAt p a b
apart_at p a b x y n h k d references flags =
    let m = valued_at p references flags in
    subst (λ u. AreApart p.q u (meaning_at m b)) (sym (meant_at p a x n.left h references flags)) (subst (λ u. AreApart p.q (Number x) u) (sym (meant_at p b y n.right k references flags)) d)

pub gap_is : (p : Point) (a b : Term) (x y : ℤ) (g : Gap) → AreNumbers a b → IsNumberAt p a x → IsNumberAt p b y → IsGapOf p.q x y g → IsGap p a b g
gap_is p a b x y gap.Equal n h k is =
    λ references flags. meant_at p a x n.left h references flags ∙ ap (λ (w : ℤ). Number w) is ∙ sym (meant_at p b y n.right k references flags)
gap_is p a b x y gap.Far n h k is = apart_at p a b x y n h k is
gap_is p a b x y gap.Unknown n h k is = tt

-- a list and its last item
pub last_split : (xs : List Term) (t : Term) → 1 ≤ length xs → t ≡ get_or xs (length xs - 1) t → xs ≡ take (length xs - 1) xs ++ t ∷ []
last_split xs t le is =
    let lt : length xs - 1 < length xs = omega arith in
    let long : length xs ≤ suc (length xs - 1) = omega arith in
    sym (take_all (suc (length xs - 1)) xs long) ∙ take-suc xs (length xs - 1) t lt ∙ ap (λ u. take (length xs - 1) xs ++ u ∷ []) (sym is)
