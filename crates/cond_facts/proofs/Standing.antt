-- Terms that stand in a condition, and the symbols that have coefficients in them.
use Rattle.std.specs.Prelude.{◌≡◌, ℕ, zero, suc, ◌<◌, ◌⊎◌, Bool, true, false, pos, List, [], ◌∷◌, ◌++◌, map, Contains, Option, Some, None, slice_get}
use Rattle.std.proofs.Common.{refl, ap, sym, subst, ◌∙◌, inl, inr, arith}
use Rattle.std.proofs.lemmas.List.Elements.{Contains-append_left, Contains-append_right, Contains-append_cases, Contains-push, Contains-push_cases}
use Rattle.terms.specs.declared.Term.{Term, Term-F, Sym, map-Term, roll-Term, out-Term, ind-Term}
use Rattle.terms.specs.declared.Literal.{Literal}
use Rattle.terms.specs.Within.{terms_within, joined}
use Rattle.terms.specs.Fitting.{Application, AppliedIn, sides_of, within_sides, terms_in}
use Rattle.terms.specs.Forms.{form_of}
use Rattle.proof_checker.specs.Views.{has}
use Rattle.proof_checker.proofs.Figuring.{parts, within_is, within-roll}
use Rattle.proof_checker.proofs.Counting.{out-App}
use Rattle.proof_checker.proofs.Sides.{there, has_it}
use Rattle.proof_checker.proofs.Symbols.{no_coefficient}

pub none_there : {X : Type 0} (a : X) → Contains [] a → ⊥
none_there a h = let lt : h.0 < 0 = h.1 in absurd (omega arith)

pub at_first : {X : Type 0} (t a : X) (ts : List X) → t ≡ a → Contains (t ∷ ts) a
at_first t a ts e = Contains-append_left (t ∷ []) ts a (subst (Contains (t ∷ [])) e (Contains-push [] t))

pub later : {X : Type 0} (t a : X) (ts : List X) → Contains ts a → Contains (t ∷ ts) a
later t a ts h = Contains-append_right (t ∷ []) ts a h

pub first_or_later : {X : Type 0} (t a : X) (ts : List X) → Contains (t ∷ ts) a → (t ≡ a) ⊎ Contains ts a
first_or_later t a ts h = elim (Contains-append_cases (t ∷ []) ts a h) [
  | inl one ↦ elim (Contains-push_cases [] t a one) [
    | inl no_ ↦ absurd (none_there a no_)
    | inr e ↦ inl e
  ]
  | inr more ↦ inr more
]

-- the terms within those of a list stand in it
abbrev pub IsClosed : List Term → Type 0
IsClosed ts = (u w : Term) → Contains ts u → Contains (terms_within u) w → Contains ts w

closed_none : IsClosed []
closed_none u w h k = absurd (none_there u h)

closed_both : (as_ bs : List Term) → IsClosed as_ → IsClosed bs → IsClosed (as_ ++ bs)
closed_both as_ bs p q u w h k = elim (Contains-append_cases as_ bs u h) [
  | inl x ↦ Contains-append_left as_ bs w (p u w x k)
  | inr y ↦ Contains-append_right as_ bs w (q u w y k)
]

closed_node : (x : Term-F Term) → IsClosed (parts x) → IsClosed (roll-Term x ∷ parts x)
closed_node x p u w h k = elim (first_or_later (roll-Term x) u (parts x) h) [
  | inl e ↦ subst (λ ts. Contains ts w) (ap terms_within (sym e) ∙ within-roll x) k
  | inr y ↦ later (roll-Term x) w (parts x) (p u w y k)
]

abbrev IsClosedIn : Term → Type 0
IsClosedIn t = IsClosed (terms_within t)

abbrev Known : Type 0
Known = (t : Term) × IsClosedIn t

abbrev terms_of : List Known → List Term
terms_of all = map (λ e. e.0) all

abbrev form_known : Term-F Known → Term-F Term
form_known y = map-Term Known Term (λ e. e.0) y

closed_list : (all : List Known) → IsClosed (joined (map terms_within (terms_of all)))
closed_list [] = closed_none
closed_list (e ∷ all) =
    closed_both (terms_within e.0) (joined (map terms_within (terms_of all))) e.1 (closed_list all)

closed_layer : (y : Term-F Known) → IsClosed (parts (form_known y))
closed_layer (Term-F.Sym n) = closed_none
closed_layer (Term-F.Lit z) = closed_none
closed_layer (Term-F.Add a b) = closed_both (terms_within a.0) (terms_within b.0) a.1 b.1
closed_layer (Term-F.Scale k a) = a.1
closed_layer (Term-F.App operator all) = closed_list all
closed_layer (Term-F.RefSym n) = closed_none
closed_layer (Term-F.RefLit n) = closed_none
closed_layer Term-F.Nil = closed_none

closed_rolled : (x : Term-F Term) → IsClosed (parts x) → IsClosedIn (roll-Term x)
closed_rolled x p = subst IsClosed (sym (within-roll x)) (closed_node x p)

pub closed : (t : Term) → IsClosed (terms_within t)
closed = ind-Term IsClosedIn (λ x y is. subst (λ z. IsClosedIn (roll-Term z)) is (closed_rolled (form_known y) (closed_layer y)))

closed_sides : (o : Option (Term × Term)) → IsClosed (within_sides o)
closed_sides (Some (a, b)) = closed_both (terms_within a) (terms_within b) (closed a) (closed b)
closed_sides None = closed_none

pub closed_in : (ls : List Literal) → IsClosed (terms_in ls)
closed_in [] = closed_none
closed_in (l ∷ ls) =
    closed_both (within_sides (sides_of l)) (terms_in ls) (closed_sides (sides_of l)) (closed_in ls)

pub itself : (t : Term) → Contains (terms_within t) t
itself t =
    subst (λ ts. Contains ts t) (sym (within_is t (out-Term t) refl)) (at_first t t (parts (out-Term t)) refl)

-- what stands in one of the literals
pub in_literal : (ls : List Literal) (n : ℕ) (l : Literal) (t : Term) → slice_get ls n ≡ Some l → Contains (terms_in (l ∷ [])) t → Contains (terms_in ls) t
in_literal [] n l t e h = absurd (cc)
in_literal (k ∷ ls) zero l t e h =
    let same : k ≡ l = cc in
    elim (Contains-append_cases (within_sides (sides_of l)) [] t h) [
      | inl x ↦ Contains-append_left (within_sides (sides_of k)) (terms_in ls) t (subst (λ j. Contains (within_sides (sides_of j)) t) (sym same) x)
      | inr no_ ↦ absurd (none_there t no_)
    ]
in_literal (k ∷ ls) (suc n) l t e h =
    Contains-append_right (within_sides (sides_of k)) (terms_in ls) t (in_literal ls n l t e h)

-- the sides of a literal
pub sides_in : (l : Literal) (a b : Term) → sides_of l ≡ Some (a, b) → Contains (terms_in (l ∷ [])) a × Contains (terms_in (l ∷ [])) b
sides_in l a b e =
    let both = terms_within a ++ terms_within b in
    let there_ : (t : Term) → Contains both t → Contains (terms_in (l ∷ [])) t = λ t h. subst (λ o. Contains (within_sides o ++ []) t) (sym e) (Contains-append_left both [] t h) in (
      there_ a (Contains-append_left (terms_within a) (terms_within b) a (itself a)),
      there_ b (Contains-append_right (terms_within a) (terms_within b) b (itself b)),
    )

in_joined : (ts : List Term) (a : Term) → Contains ts a → Contains (joined (map terms_within ts)) a
in_joined [] a h = absurd (none_there a h)
in_joined (t ∷ ts) a h = elim (first_or_later t a ts h) [
  | inl e ↦ Contains-append_left (terms_within t) (joined (map terms_within ts)) a (subst (λ u. Contains (terms_within u) a) (sym e) (itself a))
  | inr more ↦ Contains-append_right (terms_within t) (joined (map terms_within ts)) a (in_joined ts a more)
]

-- an operand or the result of an application
pub operand_in : (ls : List Literal) (f : Application) (a : Term) → AppliedIn ls f → Contains (f.operands ++ f.result ∷ []) a → Contains (terms_in ls) a
operand_in ls f a (t, h, e) k =
    let all = f.operands ++ f.result ∷ [] in
    let is : terms_within t ≡ t ∷ parts (Term-F.App f.operator all) = within_is t (Term-F.App f.operator all) (ap out-Term e ∙ out-App f.operator all) in
    closed_in ls t a h (subst (λ ts. Contains ts a) (sym is) (later t a (parts (Term-F.App f.operator all)) (in_joined all a k)))

-- a symbol has the coefficient 0 in a term, or stands in it
pub zero_or_stands : (v : ℕ) (t : Term) → ((form_of t).coefs v ≡ pos 0) ⊎ Contains (terms_within t) (Sym v)
zero_or_stands v t = by_test (has (terms_within t) (Sym v)) refl
  where
    by_test : (b : Bool) → has (terms_within t) (Sym v) ≡ b → ((form_of t).coefs v ≡ pos 0) ⊎ Contains (terms_within t) (Sym v)
    by_test true e = inr (there (terms_within t) (Sym v) e)
    by_test false e = inl (no_coefficient v t (λ h. let on = has_it (terms_within t) (Sym v) h in absurd (cc (on, e))))
