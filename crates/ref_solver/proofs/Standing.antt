-- What stands in literals.
use Rattle.std.specs.Prelude.{◌≡◌, ◌⊎◌, ℕ, List, [], ◌∷◌, ◌++◌, map, Contains, Option, Some, None}
use Rattle.std.proofs.Common.{refl, ap, sym, subst, ◌∙◌, inl, inr, rules, arith, append_assoc}
use Rattle.std.proofs.lemmas.List.Elements.{Contains-push, Contains-push_cases, Contains-append_left, Contains-append_right, Contains-append_cases}
use Rattle.terms.specs.declared.Term.{Term, Term-F, App, map-Term, roll-Term, out-Term, ind-Term, para-roll-Term, roll-out-Term, the_lemmas}
use Rattle.terms.specs.declared.Literal.{Literal}
use Rattle.terms.specs.declared.Literal.TheVariants as lit
use Rattle.terms.specs.Within.{joined, parts_of, within_step, terms_within}
use Rattle.terms.specs.Fitting.{Application, Applies, terms_in, within_sides, sides_of}
use Rattle.ref_solver.specs.Following.{Stands, Follows, assumed, none, result, applied, sum, multiple, itself, turned, through}

-- members of lists
pub first_in : {X : Type 0} (x : X) (xs : List X) → Contains (x ∷ xs) x
first_in x xs = Contains-append_left (x ∷ []) xs x (Contains-push [] x)

pub rest_in : {X : Type 0} (x : X) (xs : List X) (y : X) → Contains xs y → Contains (x ∷ xs) y
rest_in x xs y h = Contains-append_right (x ∷ []) xs y h

pub none_in : {X : Type 0} (x : X) → Contains [] x → ⊥
none_in x (k, lt, is) = omega arith

pub cons_cases : {X : Type 0} (x : X) (xs : List X) (y : X) → Contains (x ∷ xs) y → (x ≡ y) ⊎ Contains xs y
cons_cases x xs y h = elim (Contains-append_cases (x ∷ []) xs y h) [
  | inl a ↦ elim (Contains-push_cases [] x y a) [
    | inl b ↦ absurd (none_in y b)
    | inr e ↦ inl e
  ]
  | inr b ↦ inr b
]

-- the equation of the terms within
firsts : (ts : List Term) → map {A = Term × List Term} (λ e. e.0) (map (λ y. (y, terms_within y)) ts) ≡ ts
firsts [] = refl
firsts (t ∷ ts) = ap (λ us. t ∷ us) (firsts ts)

seconds : (ts : List Term) → map {A = Term × List Term} (λ e. e.1) (map (λ y. (y, terms_within y)) ts) ≡ map terms_within ts
seconds [] = refl
seconds (t ∷ ts) = ap (λ us. terms_within t ∷ us) (seconds ts)

-- the terms within the parts of a form
abbrev pub below : Term-F Term → List Term
below x = parts_of (map-Term Term (List Term) terms_within x)

within_layer : (x : Term-F Term) → within_step (map-Term Term (Term × List Term) (λ y. (y, terms_within y)) x) ≡ roll-Term x ∷ below x
within_layer (Term-F.Sym n) = refl
within_layer (Term-F.Lit z) = refl
within_layer (Term-F.Add a b) = refl
within_layer (Term-F.Scale k a) = refl
within_layer (Term-F.App operator all) = rw (firsts all, seconds all)
within_layer (Term-F.RefSym n) = refl
within_layer (Term-F.RefLit n) = refl
within_layer Term-F.Nil = refl

within-roll : (x : Term-F Term) → terms_within (roll-Term x) ≡ roll-Term x ∷ below x
within-roll x = para-roll-Term (List Term) within_step x ∙ within_layer x

pub within_is : (t : Term) → terms_within t ≡ t ∷ below (out-Term t)
within_is t =
    ap terms_within (sym (roll-out-Term t)) ∙ within-roll (out-Term t) ∙ ap (λ u. u ∷ below (out-Term t)) (roll-out-Term t)

pub itself_within : (t : Term) → Contains (terms_within t) t
itself_within t = subst (λ ts. Contains ts t) (sym (within_is t)) (first_in t (below (out-Term t)))

pub part_within : (t u : Term) (x : Term-F Term) → out-Term t ≡ x → Contains (below x) u → Contains (terms_within t) u
part_within t u x e h =
    subst (λ ts. Contains ts u) (sym (within_is t ∙ ap (λ y. t ∷ below y) e)) (rest_in t (below x) u h)

-- what is within a term within a term is within it
abbrev IsWhole : Term → Type 0
IsWhole t = (u v : Term) → Contains (terms_within t) u → Contains (terms_within u) v → Contains (terms_within t) v

abbrev Whole : Type 0
Whole = (t : Term) × IsWhole t

abbrev form_of : Term-F Whole → Term-F Term
form_of y = map-Term Whole Term (λ e. e.0) y

whole_all : (all : List Whole) (u v : Term) → Contains (joined (map terms_within (map (λ e. e.0) all))) u → Contains (terms_within u) v → Contains (joined (map terms_within (map (λ e. e.0) all))) v
whole_all [] u v h k = absurd (none_in u h)
whole_all (e ∷ all) u v h k =
    let rest = joined (map terms_within (map (λ d. d.0) all)) in
    elim (Contains-append_cases (terms_within e.0) rest u h) [
      | inl a ↦ Contains-append_left (terms_within e.0) rest v (e.1 u v a k)
      | inr b ↦ Contains-append_right (terms_within e.0) rest v (whole_all all u v b k)
    ]

whole_layer : (y : Term-F Whole) (u v : Term) → Contains (below (form_of y)) u → Contains (terms_within u) v → Contains (below (form_of y)) v
whole_layer (Term-F.Add a b) u v h k =
    elim (Contains-append_cases (terms_within a.0) (terms_within b.0) u h) [
      | inl p ↦ Contains-append_left (terms_within a.0) (terms_within b.0) v (a.1 u v p k)
      | inr q ↦ Contains-append_right (terms_within a.0) (terms_within b.0) v (b.1 u v q k)
    ]
whole_layer (Term-F.Scale n a) u v h k = a.1 u v h k
whole_layer (Term-F.App operator all) u v h k = whole_all all u v h k
whole_layer (Term-F.Sym n) u v h k = absurd (none_in u h)
whole_layer (Term-F.Lit z) u v h k = absurd (none_in u h)
whole_layer (Term-F.RefSym n) u v h k = absurd (none_in u h)
whole_layer (Term-F.RefLit n) u v h k = absurd (none_in u h)
whole_layer Term-F.Nil u v h k = absurd (none_in u h)

whole_rolled : (x : Term-F Term) → ((u v : Term) → Contains (below x) u → Contains (terms_within u) v → Contains (below x) v) → IsWhole (roll-Term x)
whole_rolled x s u v h k =
    elim (cons_cases (roll-Term x) (below x) u (subst (λ ts. Contains ts u) (within-roll x) h)) [
      | inl e ↦ subst (λ t. Contains (terms_within t) v) (sym e) k
      | inr p ↦ subst (λ ts. Contains ts v) (sym (within-roll x)) (rest_in (roll-Term x) (below x) v (s u v p k))
    ]

pub within_within : (t : Term) → IsWhole t
within_within = ind-Term IsWhole (λ x y is. subst (λ z. IsWhole (roll-Term z)) is (whole_rolled (form_of y) (whole_layer y)))

-- literals
sides_hold : (o : Option (Term × Term)) (u v : Term) → Contains (within_sides o) u → Contains (terms_within u) v → Contains (within_sides o) v
sides_hold (Some (a, b)) u v h k =
    elim (Contains-append_cases (terms_within a) (terms_within b) u h) [
      | inl p ↦ Contains-append_left (terms_within a) (terms_within b) v (within_within a u v p k)
      | inr q ↦ Contains-append_right (terms_within a) (terms_within b) v (within_within b u v q k)
    ]
sides_hold None u v h k = absurd (none_in u h)

pub stands_within : (ls : List Literal) (t u : Term) → Stands ls t → Contains (terms_within t) u → Stands ls u
stands_within [] t u h k = absurd (none_in t h)
stands_within (l ∷ ls) t u h k =
    let first = within_sides (sides_of l) in
    elim (Contains-append_cases first (terms_in ls) t h) [
      | inl p ↦ Contains-append_left first (terms_in ls) u (sides_hold (sides_of l) t u p k)
      | inr q ↦ Contains-append_right first (terms_in ls) u (stands_within ls t u q k)
    ]

pub sides_stand : (ls : List Literal) (l : Literal) (u : Term) → Contains ls l → Contains (within_sides (sides_of l)) u → Stands ls u
sides_stand [] l u h k = absurd (none_in l h)
sides_stand (j ∷ ls) l u h k =
    elim (cons_cases j ls l h) [
      | inl e ↦ Contains-append_left (within_sides (sides_of j)) (terms_in ls) u (subst (λ i. Contains (within_sides (sides_of i)) u) (sym e) k)
      | inr q ↦ Contains-append_right (within_sides (sides_of j)) (terms_in ls) u (sides_stand ls l u q k)
    ]

pub terms_in-append : (ls more : List Literal) → terms_in (ls ++ more) ≡ terms_in ls ++ terms_in more
terms_in-append [] more = refl
terms_in-append (l ∷ ls) more =
    ap (λ ts. within_sides (sides_of l) ++ ts) (terms_in-append ls more) ∙ sym (append_assoc (within_sides (sides_of l)) (terms_in ls) (terms_in more))

pub stands_more : (ls more : List Literal) (t : Term) → Stands ls t → Stands (ls ++ more) t
stands_more ls more t h =
    subst (λ ts. Contains ts t) (sym (terms_in-append ls more)) (Contains-append_left (terms_in ls) (terms_in more) t h)

pub contains_more : (ls more : List Literal) (l : Literal) → Contains ls l → Contains (ls ++ more) l
contains_more ls more l h = Contains-append_left ls more l h

pub follows_more : (ls more : List Literal) (s t : Term) → Follows ls s t → Follows (ls ++ more) s t
follows_more ls more _ _ (assumed a b h) =
    assumed a b (contains_more ls more (lit.Same a b) h)
follows_more ls more _ _ (none h k) = none (stands_more ls more _ h) (stands_more ls more _ k)
follows_more ls more _ _ (result t f h is) = result t f (stands_more ls more t h) is
follows_more ls more _ _ (applied t u f g h k is are same long operands) =
    applied t u f g (stands_more ls more t h) (stands_more ls more u k) is are same long (λ n a b p q. follows_more ls more a b (operands n a b p q))
follows_more ls more _ _ (sum a b c d h k p q) =
    sum a b c d (stands_more ls more _ h) (stands_more ls more _ k) (follows_more ls more a c p) (follows_more ls more b d q)
follows_more ls more _ _ (multiple k a b h j p) =
    multiple k a b (stands_more ls more _ h) (stands_more ls more _ j) (follows_more ls more a b p)
follows_more ls more _ _ (itself t h) = itself t (stands_more ls more t h)
follows_more ls more _ _ (turned s t p) = turned s t (follows_more ls more s t p)
follows_more ls more _ _ (through s t u p q) =
    through s t u (follows_more ls more s t p) (follows_more ls more t u q)

-- the result of an application stands where it does
last_joined : (front : List Term) (r : Term) → Contains (joined (map terms_within (front ++ r ∷ []))) r
last_joined [] r = Contains-append_left (terms_within r) [] r (itself_within r)
last_joined (t ∷ front) r =
    Contains-append_right (terms_within t) (joined (map terms_within (front ++ r ∷ []))) r (last_joined front r)

pub out-App : (operator : ℕ) (all : List Term) → out-Term (App operator all) ≡ Term-F.App operator all
out-App operator all = search (rules, the_lemmas)

pub result_within : (t : Term) (f : Application) → Applies t f → Contains (terms_within t) f.result
result_within t f is =
    part_within t f.result (Term-F.App f.operator (f.operands ++ f.result ∷ [])) (ap out-Term is ∙ out-App f.operator (f.operands ++ f.result ∷ [])) (last_joined f.operands f.result)

-- both terms of an equality that follows stand
pub both_stand : (ls : List Literal) (s t : Term) → Follows ls s t → Stands ls s × Stands ls t
both_stand ls _ _ (assumed a b h) =
    (sides_stand ls (lit.Same a b) a h (Contains-append_left (terms_within a) (terms_within b) a (itself_within a)), sides_stand ls (lit.Same a b) b h (Contains-append_right (terms_within a) (terms_within b) b (itself_within b)))
both_stand ls _ _ (none h k) = (h, k)
both_stand ls _ _ (result t f h is) = (h, stands_within ls t f.result h (result_within t f is))
both_stand ls _ _ (applied t u f g h k is are same long operands) = (h, k)
both_stand ls _ _ (sum a b c d h k p q) = (h, k)
both_stand ls _ _ (multiple k a b h j p) = (h, j)
both_stand ls _ _ (itself t h) = (h, h)
both_stand ls _ _ (turned s t p) = ((both_stand ls s t p).1, (both_stand ls s t p).0)
both_stand ls _ _ (through s t u p q) = ((both_stand ls s t p).0, (both_stand ls t u q).1)
