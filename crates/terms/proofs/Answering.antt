-- The answers for terms made of others.
use Rattle.std.specs.Prelude.{◌≡◌, ℕ, suc, ◌+◌, ◌<◌, ◌≤◌, ◌==◌, Bool, true, false, if◌then◌else◌, ℤ, pos, ◌+ℤ◌, ◌*ℤ◌, List, [], ◌∷◌, ◌++◌, map, length, take, get_or, All, FitsSigned, Result, Ok, Err, IfOk, IfErr}
use Rattle.std.specs.Int.{w128}
use Rattle.std.proofs.Common.{refl, ap, sym, subst, ◌∙◌, rules, arith}
use Rattle.std.proofs.Math.Seq.{take-suc}
use Rattle.std.proofs.lemmas.List.{take_all}
use Rattle.std.proofs.Math.Path.{fun_ext}
use Rattle.std.proofs.lemmas.Int.{ints}
use Rattle.std.proofs.lemmas.List.Elements.{All-nil, All-cons, All-head, All-tail, All-append}
use Rattle.lin_rows.specs.declared.Row.{Row}
use Rattle.lin_rows.specs.declared.RowFault.{RowFault}
use Rattle.lin_rows.specs.declared.RowFault.TheVariants.{OutOfMemory}
use Rattle.lin_rows.specs.Rows as rows
use Rattle.lin_rows.specs.Terms.{coef_at}
use Rattle.terms.specs.declared.term.Term.{Term, Term-F, map-Term, out-Term}
use Rattle.terms.specs.declared.linear.Linear.{Linear}
use Rattle.terms.specs.Within.{terms_within}
use Rattle.terms.specs.Forms.{Form, FormFits, AllFormsFit, form_of, form_step, form_in, form_sum, form_multiple, form_units, form_symbol, last_form}
use Rattle.terms.specs.FormAnswers.{SumFits, Answers, AnswersSum, AnswersMultiple, form_row, row_in, form_mix}
use Rattle.terms.proofs.Parts.{below, Fits, fits_from, own_fits, parts_fit, front_all, rest_all, all_fit_joined, joined_all_fit, form_is}

abbrev form_with : (ℕ → ℤ) → ℤ → Form
form_with c z = record { coefs = c; units = z }

pub form_same : (f g : Form) → ((v : ℕ) → f.coefs v ≡ g.coefs v) → f.units ≡ g.units → f ≡ g
form_same f g p q =
    ap (λ (c : ℕ → ℤ). form_with c f.units) (fun_ext p) ∙ ap (λ (z : ℤ). form_with g.coefs z) q

pub answers_along : (f g : Form) (P Q : Type 0) → f ≡ g → (P → Q) → (Q → P) → (r : Result Linear RowFault) → Answers f P r → Answers g Q r
answers_along f g P Q e to from (Ok l) h = (h.0 ∙ e, to h.1)
answers_along f g P Q e to from (Err d) h = λ w q. h w (from q)

pub mixed_ok : (k l : ℤ) (a b r : Row) → rows.IsSum k l a b r → form_row r ≡ form_mix k (form_row a) l (form_row b)
mixed_ok k l a b r is =
    form_same (form_row r) (form_mix k (form_row a) l (form_row b)) is.coefs is.bound

one_times : (x : ℤ) → pos 1 *ℤ x ≡ x
one_times x = omega (arith, ints)

both_once : (x y : ℤ) → pos 1 *ℤ x +ℤ pos 1 *ℤ y ≡ x +ℤ y
both_once x y = omega (arith, ints)

none_more : (k x y : ℤ) → y ≡ pos 0 → k *ℤ x +ℤ pos 0 *ℤ y ≡ k *ℤ x
none_more k x y e = omega (arith, ints)

no_times : (y : ℤ) → pos 0 *ℤ y ≡ pos 0
no_times y = omega (arith, ints)

pub zero_fits : FitsSigned w128 (pos 0)
zero_fits = search rules

pub one_fits : FitsSigned w128 (pos 1)
one_fits = search rules

abbrev At : ℤ → Type 0
At z = FitsSigned w128 z

once_fits : (x y : ℤ) → rows.MixFits (pos 1) x (pos 1) y → At x × At y × At (x +ℤ y)
once_fits x y h =
    (subst At (one_times x) h.0, subst At (one_times y) h.1, subst At (both_once x y) h.2)

fits_once : (x y : ℤ) → At x → At y → At (x +ℤ y) → rows.MixFits (pos 1) x (pos 1) y
fits_once x y f g h =
    (subst At (sym (one_times x)) f, subst At (sym (one_times y)) g, subst At (sym (both_once x y)) h)

sum_fits : (a b : Row) → rows.SumFits (pos 1) (pos 1) a b → SumFits (form_row a) (form_row b)
sum_fits a b h = (
  record { coefs = λ v. (once_fits (coef_at a.coefs v) (coef_at b.coefs v) (h.coefs v)).0; units = (once_fits a.bound b.bound h.bound).0 },
  record { coefs = λ v. (once_fits (coef_at a.coefs v) (coef_at b.coefs v) (h.coefs v)).1; units = (once_fits a.bound b.bound h.bound).1 },
  record { coefs = λ v. (once_fits (coef_at a.coefs v) (coef_at b.coefs v) (h.coefs v)).2; units = (once_fits a.bound b.bound h.bound).2 },
)

fits_sum : (a b : Row) → SumFits (form_row a) (form_row b) → rows.SumFits (pos 1) (pos 1) a b
fits_sum a b (f, g, h) = record {
  coefs = λ v. fits_once (coef_at a.coefs v) (coef_at b.coefs v) (f.coefs v) (g.coefs v) (h.coefs v);
  bound = fits_once a.bound b.bound f.units g.units h.units;
}

mix-ones : (f g : Form) → form_mix (pos 1) f (pos 1) g ≡ form_sum f g
mix-ones f g = form_same (form_mix (pos 1) f (pos 1) g) (form_sum f g) (λ v. both_once (f.coefs v) (g.coefs v)) (both_once f.units g.units)

-- the sum of two forms by the sum of their rows
pub sum_answers : (l m : Linear) (r : Result Linear RowFault) → Answers (form_mix (pos 1) (form_in l) (pos 1) (form_in m)) (rows.SumFits (pos 1) (pos 1) (row_in l) (row_in m)) r → AnswersSum (Ok l) (Ok m) r
sum_answers l m r h =
    answers_along (form_mix (pos 1) (form_in l) (pos 1) (form_in m)) (form_sum (form_in l) (form_in m)) (rows.SumFits (pos 1) (pos 1) (row_in l) (row_in m)) (SumFits (form_in l) (form_in m)) (mix-ones (form_in l) (form_in m)) (sum_fits (row_in l) (row_in m)) (fits_sum (row_in l) (row_in m)) r h

times_fits : (k x y : ℤ) → y ≡ pos 0 → At (k *ℤ x) → rows.MixFits k x (pos 0) y
times_fits k x y e f =
    (f, subst At (sym (no_times y)) zero_fits, subst At (sym (none_more k x y e)) f)

-- a multiple of a form by a sum of rows
pub multiple_answers : (k : ℤ) (l none : Linear) (r : Result Linear RowFault) → form_in none ≡ form_units (pos 0) → Answers (form_mix k (form_in l) (pos 0) (form_in none)) (rows.SumFits k (pos 0) (row_in l) (row_in none)) r → AnswersMultiple k (Ok l) r
multiple_answers k l none r e h =
    let coefs : (v : ℕ) → coef_at none.coefs v ≡ pos 0 = λ v. ap (λ (f : Form). f.coefs v) e in
    let units : none.bound ≡ pos 0 = ap (λ (f : Form). f.units) e in
    answers_along (form_mix k (form_in l) (pos 0) (form_in none)) (form_multiple k (form_in l)) (rows.SumFits k (pos 0) (row_in l) (row_in none)) (FormFits (form_multiple k (form_in l)))
    (form_same (form_mix k (form_in l) (pos 0) (form_in none)) (form_multiple k (form_in l)) (λ v. none_more k (coef_at l.coefs v) (coef_at none.coefs v) (coefs v)) (none_more k l.bound none.bound units))
    (λ f. record { coefs = λ v. (f.coefs v).0; units = f.bound.0 })
    (λ f. record {
      coefs = λ v. times_fits k (coef_at l.coefs v) (coef_at none.coefs v) (coefs v) (f.coefs v);
      bound = times_fits k l.bound none.bound units f.units;
    })
    r h

pub add_answers : (t x y : Term) (a b r : Result Linear RowFault) → out-Term t ≡ Term-F.Add x y → Answers (form_of x) (AllFormsFit x) a → Answers (form_of y) (AllFormsFit y) b → AnswersSum a b r → Answers (form_of t) (AllFormsFit t) r
add_answers t x y (Ok l) (Ok m) r e p q h =
    let is : form_sum (form_in l) (form_in m) ≡ form_of t =
    ap (λ (f : Form). form_sum f (form_in m)) p.0 ∙ ap (λ (g : Form). form_sum (form_of x) g) q.0 ∙ sym (form_is t (Term-F.Add x y) e) in
    answers_along (form_sum (form_in l) (form_in m)) (form_of t) (SumFits (form_in l) (form_in m)) (AllFormsFit t) is
    (λ s. fits_from t (Term-F.Add x y) e (subst FormFits is s.2) (All-append Fits (terms_within x) (terms_within y) p.1.within q.1.within))
    (λ f. (subst FormFits (sym p.0) (own_fits x p.1), subst FormFits (sym q.0) (own_fits y q.1), subst FormFits (sym is) (own_fits t f)))
    r h
add_answers t x y (Ok l) (Err d) r e p q h =
    subst (Answers (form_of t) (AllFormsFit t)) (sym h) (λ w f. q w (record { within = rest_all Fits (terms_within x) (terms_within y) (parts_fit t (Term-F.Add x y) e f) }))
add_answers t x y (Err d) b r e p q h =
    subst (Answers (form_of t) (AllFormsFit t)) (sym h) (λ w f. p w (record { within = front_all Fits (terms_within x) (terms_within y) (parts_fit t (Term-F.Add x y) e f) }))

pub scale_answers : (t x : Term) (k : ℤ) (a r : Result Linear RowFault) → out-Term t ≡ Term-F.Scale k x → Answers (form_of x) (AllFormsFit x) a → AnswersMultiple k a r → Answers (form_of t) (AllFormsFit t) r
scale_answers t x k (Ok l) r e p h =
    let is : form_multiple k (form_in l) ≡ form_of t =
    ap (λ (f : Form). form_multiple k f) p.0 ∙ sym (form_is t (Term-F.Scale k x) e) in
    answers_along (form_multiple k (form_in l)) (form_of t) (FormFits (form_multiple k (form_in l))) (AllFormsFit t) is
    (λ s. fits_from t (Term-F.Scale k x) e (subst FormFits is s) p.1.within)
    (λ f. subst FormFits (sym is) (own_fits t f))
    r h
scale_answers t x k (Err d) r e p h =
    subst (Answers (form_of t) (AllFormsFit t)) (sym h) (λ w f. p w (record { within = parts_fit t (Term-F.Scale k x) e f }))

pub units_fit : (z : ℤ) → At z → FormFits (form_units z)
units_fit z f = record { coefs = λ v. zero_fits; units = f }

symbol_fits : (n : ℕ) → FormFits (form_symbol n)
symbol_fits n = record { coefs = λ v. either (v == n); units = zero_fits }
  where
    either : (b : Bool) → At (if b then pos 1 else pos 0)
    either true = one_fits
    either false = zero_fits

last_fits : (ts : List Term) → All AllFormsFit ts → FormFits (last_form (map form_of ts))
last_fits [] h = units_fit (pos 0) zero_fits
last_fits (t ∷ []) h = own_fits t (All-head AllFormsFit t [] h)
last_fits (t ∷ u ∷ ts) h = last_fits (u ∷ ts) (All-tail AllFormsFit t (u ∷ ts) h)

pub app_answers : (t : Term) (operator : ℕ) (all : List Term) (r : Result Linear RowFault) → out-Term t ≡ Term-F.App operator all → Answers (last_form (map form_of all)) (All AllFormsFit all) r → Answers (form_of t) (AllFormsFit t) r
app_answers t operator all r e h =
    let is : last_form (map form_of all) ≡ form_of t = sym (form_is t (Term-F.App operator all) e) in
    answers_along (last_form (map form_of all)) (form_of t) (All AllFormsFit all) (AllFormsFit t) is
    (λ s. fits_from t (Term-F.App operator all) e (subst FormFits is (last_fits all s)) (all_fit_joined all s))
    (λ f. joined_all_fit all (parts_fit t (Term-F.App operator all) e f))
    r h

-- a term without parts
pub leaf_answers : (t : Term) (x : Term-F Term) (l : Linear) → out-Term t ≡ x → below x ≡ [] → FormFits (form_step (map-Term Term Form form_of x)) → form_in l ≡ form_step (map-Term Term Form form_of x) → Answers (form_of t) (AllFormsFit t) (Ok l)
leaf_answers t x l e none fits is =
    let form = form_is t x e in
    (is ∙ sym form, fits_from t x e (subst FormFits (sym form) fits) (subst (All Fits) (sym none) (All-nil Fits)))

pub symbol_answers : (t : Term) (n : ℕ) (r : Result Linear RowFault) → out-Term t ≡ Term-F.Sym n → IfOk r (λ l. form_in l ≡ form_symbol n) → IfErr r (λ d. d ≡ OutOfMemory) → Answers (form_of t) (AllFormsFit t) r
symbol_answers t n (Ok l) e is err =
    leaf_answers t (Term-F.Sym n) l e refl (symbol_fits n) is
symbol_answers t n (Err d) e is err = λ w f. absurd (cc)

-- the loop over the terms of an application
last_pushed : (ts : List Term) (t : Term) → last_form (map form_of (ts ++ t ∷ [])) ≡ form_of t
last_pushed [] t = refl
last_pushed (u ∷ []) t = refl
last_pushed (u ∷ w ∷ ts) t = last_pushed (w ∷ ts) t

abbrev pub IsLast : Linear → List Term → Type 0
IsLast l ts = (form_in l ≡ last_form (map form_of ts)) × All AllFormsFit ts

pub last_step : (xs : List Term) (i : ℕ) (t : Term) (l : Linear) → i < length xs → get_or xs i t ≡ t → (form_in l ≡ form_of t) × AllFormsFit t → All AllFormsFit (take i xs) → IsLast l (take (i + 1) xs)
last_step xs i t l lt is h all =
    let next : i + 1 ≡ suc i = omega arith in
    let e : take (i + 1) xs ≡ take i xs ++ t ∷ [] = ap (λ (n : ℕ). take n xs) next ∙ take-suc xs i t lt ∙ ap (λ u. take i xs ++ u ∷ []) is in
    (h.0 ∙ sym (ap (λ ts. last_form (map form_of ts)) e ∙ last_pushed (take i xs) t), subst (All AllFormsFit) (sym e) (All-append AllFormsFit (take i xs) (t ∷ []) all (All-cons AllFormsFit t [] h.1 (All-nil AllFormsFit))))

pub last_end : (xs ys : List Term) (i : ℕ) (l : Linear) → length xs ≤ i → xs ≡ ys → IsLast l (take i xs) → IsLast l ys
last_end xs ys i l le e h = subst (IsLast l) (take_all i xs le ∙ e) h

pub one_fits_of_all : (xs ys : List Term) (i : ℕ) (t : Term) → i < length xs → xs ≡ ys → get_or xs i t ≡ t → All AllFormsFit ys → AllFormsFit t
one_fits_of_all xs ys i t lt e is h =
    let all = subst (All AllFormsFit) (sym e) h in
    subst AllFormsFit is (all i t lt)
