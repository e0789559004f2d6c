-- Laws of applications that are counted.
use Rattle.std.specs.Prelude.{◌≡◌, ℕ, zero, suc, ◌+◌, ◌-◌, ◌≤◌, Bool, true, false, if◌then◌else◌, ◌||◌, List, [], ◌∷◌, ◌++◌, map, length, take, drop, get_or, Option, Some, None, slice_get}
use Rattle.std.proofs.Common.{refl, ap, sym, subst, ◌∙◌, arith, rules, Bor, append_assoc, append-nil}
use Rattle.std.proofs.lemmas.List.{take_all, length-append}
use Rattle.std.proofs.Math.Seq.{take-suc}
use Rattle.terms.specs.declared.Term.{Term, Term-F, App, map-Term, out-Term, roll-Term, roll-out-Term, out-roll-Term, the_lemmas}
use Rattle.terms.specs.Fitting.{Application, Applies, sides_of, within_sides}
use Rattle.terms.specs.declared.Literal.{Literal}
use Rattle.terms.specs.Sameness.{same_term}
use Rattle.proof_checker.specs.declared.walk.Before.{Before, More, Within, Sides}
use Rattle.proof_checker.specs.declared.walk.Before as cells
use Rattle.terms.specs.Within.{terms_within, parts_of}
use Rattle.proof_checker.specs.declared.walk.Counted.{Counted}
use Rattle.proof_checker.specs.declared.walk.Counted.TheVariants.{Is, Past}
use Rattle.proof_checker.specs.Views.{has, size, sizes}
use Rattle.proof_checker.specs.Uses.{applied, applied_form, applied_by, terms_below, Chosen, chosen_at, chosen_in, IsCounted, seen}
use Rattle.proof_checker.proofs.Reading.{within_below, below-itself, has-append}

-- ---- counting over two lists
pub front : (fs gs : List Application) (n : ℕ) (f : Application) → slice_get fs n ≡ Some f → slice_get (fs ++ gs) n ≡ Some f
front [] gs n f e = absurd (cc)
front (g ∷ fs) gs zero f e = e
front (g ∷ fs) gs (suc n) f e = front fs gs n f e

behind : (fs gs : List Application) (n k : ℕ) → n ≡ length fs + k → slice_get (fs ++ gs) n ≡ slice_get gs k
behind [] gs n k e = let same : n ≡ k = omega (arith, e) in ap (slice_get gs) same
behind (f ∷ fs) gs zero k e = absurd (omega (arith, e))
behind (f ∷ fs) gs (suc n) k e = behind fs gs n k (omega (arith, e))

pub after : (fs gs : List Application) (n k : ℕ) (r : Counted) → n ≡ length fs + k → IsCounted gs k r → IsCounted (fs ++ gs) n r
after fs gs n k (Is u) e h = behind fs gs n k e ∙ h
after fs gs n k (Past j) e h =
    let long : length (fs ++ gs) ≡ length fs + length gs = length-append fs gs in
    omega (arith, e, h, long)

pub chosen-append : (p : Chosen) (before xs ys : List Term) → chosen_in p before (xs ++ ys) ≡ chosen_in p before xs ++ chosen_in p (before ++ xs) ys
chosen-append p before [] ys = ap (λ b. chosen_in p b ys) (sym (append-nil before))
chosen-append p before (x ∷ xs) ys =
    let first = chosen_at (p before x) (applied_by x) in
    let more = chosen_in p (before ++ x ∷ []) xs in
    ap (λ z. first ++ z) (chosen-append p (before ++ x ∷ []) xs ys)
    ∙ ap (λ b. first ++ (more ++ chosen_in p b ys)) (append_assoc before (x ∷ []) xs)
    ∙ sym (append_assoc first more (chosen_in p (before ++ x ∷ xs) ys))

-- what is counted first over two lists
pub counted_before : (p : Chosen) (before xs ys : List Term) (n : ℕ) (f : Application) → slice_get (chosen_in p before xs) n ≡ Some f → slice_get (chosen_in p before (xs ++ ys)) n ≡ Some f
counted_before p before xs ys n f e =
    ap (λ fs. slice_get fs n) (chosen-append p before xs ys) ∙ front (chosen_in p before xs) (chosen_in p (before ++ xs) ys) n f e

pub counted_after : (p : Chosen) (before xs ys : List Term) (n k : ℕ) (r : Counted) → n ≡ length (chosen_in p before xs) + k → IsCounted (chosen_in p (before ++ xs) ys) k r → IsCounted (chosen_in p before (xs ++ ys)) n r
counted_after p before xs ys n k r e h =
    subst (λ fs. IsCounted fs n r) (sym (chosen-append p before xs ys)) (after (chosen_in p before xs) (chosen_in p (before ++ xs) ys) n k r e h)

pub chosen-none : (p : Application → Bool) (o : Option Application) → o ≡ None → chosen_at p o ≡ []
chosen-none p o e = ap (chosen_at p) e

pub chosen-some : (p : Application → Bool) (o : Option Application) (f : Application) (b : Bool) → o ≡ Some f → p f ≡ b → chosen_at p o ≡ (if b then f ∷ [] else [])
chosen-some p o f b e h = ap (chosen_at p) e ∙ ap (λ (c : Bool). if c then f ∷ [] else []) h

pub nothing_counted : (fs : List Application) (n : ℕ) → fs ≡ [] → n ≡ length fs + n
nothing_counted fs n e = let none : length fs ≡ 0 = ap length e in omega (arith, none)

pub one_counted : (fs : List Application) (f : Application) (n : ℕ) → fs ≡ f ∷ [] → 1 ≤ n → n ≡ length fs + (n - 1)
one_counted fs f n e le = let one : length fs ≡ 1 = ap length e in omega (arith, one, le)

pub first_counted : (fs : List Application) (f : Application) (n : ℕ) → fs ≡ f ∷ [] → n ≡ 0 → slice_get fs n ≡ Some f
first_counted fs f n e z = ap (slice_get fs) z ∙ ap (λ gs. slice_get gs 0) e

-- ---- the terms within a term
pub within_is : (t : Term) → terms_within t ≡ t ∷ terms_below t
within_is t =
    let form : map-Term Term Term (λ u. u) (out-Term t) ≡ out-Term t = sym (out-roll-Term (map-Term Term Term (λ u. u) (out-Term t))) ∙ ap out-Term (below-itself t) in
    ap terms_within (sym (below-itself t))
    ∙ within_below (λ u. u) t (out-Term t) refl
    ∙ ap (λ u. u ∷ parts_of (map-Term Term (List Term) terms_within (map-Term Term Term (λ z. z) (out-Term t)))) (below-itself t)
    ∙ ap (λ x. t ∷ parts_of (map-Term Term (List Term) terms_within x)) form

pub below_is : (t : Term) (x : Term-F Term) → out-Term t ≡ x → terms_below t ≡ parts_of (map-Term Term (List Term) terms_within x)
below_is t x e = ap (λ y. parts_of (map-Term Term (List Term) terms_within y)) e

pub out-App : (operator : ℕ) (all : List Term) → out-Term (App operator all) ≡ Term-F.App operator all
out-App operator all = search (rules, the_lemmas)

roll-App : (operator : ℕ) (all : List Term) → roll-Term (Term-F.App operator all) ≡ App operator all
roll-App operator all = ap roll-Term (sym (out-App operator all)) ∙ roll-out-Term (App operator all)

-- ---- the application that a term is
length_one : (xs : List Term) (x : Term) → length (xs ++ x ∷ []) ≡ suc (length xs)
length_one [] x = refl
length_one (y ∷ xs) x = ap suc (length_one xs x)

front_of : (xs : List Term) (x : Term) → take (length xs) (xs ++ x ∷ []) ≡ xs
front_of [] x = refl
front_of (y ∷ xs) x = ap (λ ys. y ∷ ys) (front_of xs x)

last_of : (xs : List Term) (x d : Term) → get_or (xs ++ x ∷ []) (length xs) d ≡ x
last_of [] x d = refl
last_of (y ∷ xs) x d = last_of xs x d

abbrev application : ℕ → List Term → Term → Application
application operator operands result = record { operator = operator; operands = operands; result = result }

applied-end : (operator : ℕ) (xs : List Term) (x : Term) → applied operator (xs ++ x ∷ []) ≡ Some (application operator xs x)
applied-end operator [] x = refl
applied-end operator (y ∷ xs) x =
    ap (λ n. Some (application operator (take n (y ∷ xs ++ x ∷ [])) (get_or (y ∷ xs ++ x ∷ []) n y))) (length_one xs x)
    ∙ ap (λ ys. Some (application operator (y ∷ ys) (get_or (xs ++ x ∷ []) (length xs) y))) (front_of xs x)
    ∙ ap (λ z. Some (application operator (y ∷ xs) z)) (last_of xs x y)

pub applies_is : (t : Term) (f : Application) → Applies t f → applied_by t ≡ Some f
applies_is t f e =
    ap applied_by e ∙ ap applied_form (out-App f.operator (f.operands ++ f.result ∷ [])) ∙ applied-end f.operator f.operands f.result

pub split_end : (xs : List Term) (n : ℕ) (d : Term) → length xs ≡ suc n → xs ≡ take n xs ++ get_or xs n d ∷ []
split_end xs n d e = sym (take_all (suc n) xs (omega (arith, e))) ∙ take-suc xs n d (omega (arith, e))

one_application : (f g : Application) → ◌≡◌ {A = Option Application} (Some f) (Some g) → f ≡ g
one_application f g e = cc

no_application : (f : Application) → ◌≡◌ {A = Option Application} None (Some f) → ⊥
no_application f e = absurd (cc)

form_applies : (t : Term) (x : Term-F Term) (f : Application) → out-Term t ≡ x → applied_form x ≡ Some f → Applies t f
form_applies t (Term-F.App operator []) f e h = absurd (no_application f h)
form_applies t (Term-F.App operator (y ∷ ys)) f e h =
    let is = one_application (application operator (take (length ys) (y ∷ ys)) (get_or (y ∷ ys) (length ys) y)) f h in
    sym (roll-out-Term t) ∙ ap roll-Term e ∙ roll-App operator (y ∷ ys) ∙ ap (App operator) (split_end (y ∷ ys) (length ys) y refl) ∙ ap (λ (g : Application). App g.operator (g.operands ++ g.result ∷ [])) is
form_applies t (Term-F.Sym n) f e h = absurd (no_application f h)
form_applies t (Term-F.Lit z) f e h = absurd (no_application f h)
form_applies t (Term-F.Add a b) f e h = absurd (no_application f h)
form_applies t (Term-F.Scale k a) f e h = absurd (no_application f h)
form_applies t (Term-F.RefSym n) f e h = absurd (no_application f h)
form_applies t (Term-F.RefLit n) f e h = absurd (no_application f h)
form_applies t Term-F.Nil f e h = absurd (no_application f h)

pub is_applies : (t : Term) (f : Application) → applied_by t ≡ Some f → Applies t f
is_applies t f h = form_applies t (out-Term t) f refl h

-- ---- what falls while terms are read
abbrev pub term_measure : Term → ℕ
term_measure t = size t + size t + size t + size t + 3

abbrev pub parts_measure : Term → ℕ
parts_measure t = size t + size t + size t + size t + 2

abbrev pub two_measure : Term → Term → ℕ
two_measure a b = size a + size a + size a + size a + (size b + size b + size b + size b) + 4

abbrev pub list_measure : List Term → ℕ
list_measure ts = sizes (map size ts) + sizes (map size ts) + sizes (map size ts) + sizes (map size ts) + 1

-- ---- the terms that stand before
pub seen-More : (before : Bor Before) (t : Bor Term) → seen (More before t) ≡ seen before.now ++ t.now ∷ []
seen-More before t = search (rules, cells.the_lemmas)

pub seen-Within : (before : Bor Before) (t : Bor Term) → seen (Within before t) ≡ seen before.now ++ terms_within t.now
seen-Within before t = search (rules, cells.the_lemmas)

pub seen-Sides : (before : Bor Before) (l : Bor Literal) → seen (Sides before l) ≡ seen before.now ++ within_sides (sides_of l.now)
seen-Sides before l = search (rules, cells.the_lemmas)

pub has_last : (xs ys : List Term) (t : Term) → has ys t ≡ true → has (xs ++ ys) t ≡ true
has_last xs ys t e = has-append xs ys t ∙ last (has xs t) (has ys t) e
  where
    last : (a b : Bool) → b ≡ true → (a || b) ≡ true
    last true b h = refl
    last false b h = h

pub has_others : (xs ys : List Term) (t : Term) → has ys t ≡ false → has (xs ++ ys) t ≡ has xs t
has_others xs ys t e = has-append xs ys t ∙ others (has xs t) (has ys t) e
  where
    others : (a b : Bool) → b ≡ false → (a || b) ≡ a
    others true b h = refl
    others false b h = h

pub has_one : (u t : Term) (b : Bool) → same_term u t ≡ b → has (u ∷ []) t ≡ b
has_one u t true e = ap (λ z. z || false) e
has_one u t false e = ap (λ z. z || false) e

-- a list of literals by its first one
pub first_literal : (ls : List Literal) (l : Literal) → 1 ≤ length ls → get_or ls 0 l ≡ l → ls ≡ l ∷ take (length ls - 1) (drop 1 ls)
first_literal [] l a d = absurd (omega arith)
first_literal (k ∷ ls) l a d = ap (λ z. z ∷ ls) d ∙ ap (λ zs. l ∷ zs) (sym (take_all (length (k ∷ ls) - 1) ls (omega arith)))
