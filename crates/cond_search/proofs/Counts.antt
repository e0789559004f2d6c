-- How many questions are open: fewer with each answer that is assumed.
use Rattle.std.specs.Prelude.{◌≡◌, ℕ, ◌+◌, ◌*◌, ◌<◌, ◌≤◌, Bool, true, false, ◌&&◌, ◌||◌, ◌==◌, not, List, [], ◌∷◌, ◌++◌, map, All, Contains, ◌⊎◌}
use Rattle.std.proofs.Common.{refl, ap, sym, subst, ◌∙◌, inl, inr, arith}
use Rattle.std.proofs.lemmas.List.Elements.{All-head, All-tail, Contains-append_left, Contains-append_right}
use Rattle.terms.specs.declared.Term.{Term}
use Rattle.terms.specs.declared.Literal.{Literal}
use Rattle.terms.specs.declared.Literal.TheVariants as lit
use Rattle.terms.specs.Sameness.{same_term}
use Rattle.terms.specs.SamenessLaws.{same_is_equal, equal_is_same, nat_same, nat_itself, both, and_both}
use Rattle.proof_checker.specs.Conditions.{plus_one}
use Rattle.cond_plan.specs.declared.Plan.{Plan}
use Rattle.cond_plan.specs.declared.Applied.{Applied}
use Rattle.cond_plan.specs.declared.Comparison.{Comparison}
use Rattle.cond_facts.proofs.Standing.{none_there, at_first, later, first_or_later}
use Rattle.cond_search.specs.Questions.{IsQuestion, of_equality, of_side, of_results, IsAnswer}

-- ---- whether two literals are one
abbrev same_bool : Bool → Bool → Bool
same_bool true b = b
same_bool false b = not b

bool_same : (a b : Bool) → same_bool a b ≡ true → a ≡ b
bool_same true b h = sym h
bool_same false false h = refl
bool_same false true h = absurd (cc)

bool_itself : (a : Bool) → same_bool a a ≡ true
bool_itself true = refl
bool_itself false = refl

abbrev same_literal : Literal → Literal → Bool
same_literal (lit.AtMost a b) (lit.AtMost c d) = same_term a c && same_term b d
same_literal (lit.Same a b) (lit.Same c d) = same_term a c && same_term b d
same_literal (lit.Apart a b) (lit.Apart c d) = same_term a c && same_term b d
same_literal (lit.Flag m s) (lit.Flag n t) = m == n && same_bool s t
same_literal l k = false

two : (f : Term → Term → Literal) (a b c d : Term) → (same_term a c && same_term b d) ≡ true → f a b ≡ f c d
two f a b c d h =
    let (p, q) = both (same_term a c) (same_term b d) h in
    ap (λ z. f z b) (same_is_equal a c p) ∙ ap (f c) (same_is_equal b d q)

literal_same : (l k : Literal) → same_literal l k ≡ true → l ≡ k
literal_same (lit.AtMost a b) (lit.AtMost c d) h = two lit.AtMost a b c d h
literal_same (lit.Same a b) (lit.Same c d) h = two lit.Same a b c d h
literal_same (lit.Apart a b) (lit.Apart c d) h = two lit.Apart a b c d h
literal_same (lit.Flag m s) (lit.Flag n t) h =
    let (p, q) = both (m == n) (same_bool s t) h in
    ap (λ (z : ℕ). lit.Flag z s) (nat_same m n p) ∙ ap (λ (z : Bool). lit.Flag n z) (bool_same s t q)
literal_same (lit.AtMost a b) k h = absurd (cc)
literal_same (lit.Same a b) k h = absurd (cc)
literal_same (lit.Apart a b) k h = absurd (cc)
literal_same (lit.Flag m s) k h = absurd (cc)

two_themselves : (a b : Term) → (same_term a a && same_term b b) ≡ true
two_themselves a b =
    and_both (same_term a a) (same_term b b) (equal_is_same a a refl) (equal_is_same b b refl)

literal_itself : (l : Literal) → same_literal l l ≡ true
literal_itself (lit.AtMost a b) = two_themselves a b
literal_itself (lit.Same a b) = two_themselves a b
literal_itself (lit.Apart a b) = two_themselves a b
literal_itself (lit.Flag n s) = and_both (n == n) (same_bool s s) (nat_itself n) (bool_itself s)

-- ---- whether a question is settled
abbrev is_assumed : List Literal → Literal → Bool
is_assumed [] l = false
is_assumed (f ∷ fs) l = same_literal f l || is_assumed fs l

-- one of its answers is assumed
abbrev is_settled : List Literal → List Literal → Bool
is_settled fs [] = false
is_settled fs (l ∷ ls) = is_assumed fs l || is_settled fs ls

or_left : (a b : Bool) → a ≡ true → (a || b) ≡ true
or_left true b e = refl
or_left false b e = absurd (cc)

or_right : (a b : Bool) → b ≡ true → (a || b) ≡ true
or_right true b e = refl
or_right false b e = e

or_cases : (a b : Bool) → (a || b) ≡ true → (a ≡ true) ⊎ (b ≡ true)
or_cases true b e = inl refl
or_cases false b e = inr e

assumed_there : (fs : List Literal) (l : Literal) → is_assumed fs l ≡ true → Contains fs l
assumed_there [] l h = absurd (cc)
assumed_there (f ∷ fs) l h = elim (or_cases (same_literal f l) (is_assumed fs l) h) [
  | inl e ↦ at_first f l fs (literal_same f l e)
  | inr e ↦ later f l fs (assumed_there fs l e)
]

assumed_kept : (fs gs : List Literal) (l : Literal) → is_assumed fs l ≡ true → is_assumed (fs ++ gs) l ≡ true
assumed_kept [] gs l h = absurd (cc)
assumed_kept (f ∷ fs) gs l h = elim (or_cases (same_literal f l) (is_assumed fs l) h) [
  | inl e ↦ or_left (same_literal f l) (is_assumed (fs ++ gs) l) e
  | inr e ↦ or_right (same_literal f l) (is_assumed (fs ++ gs) l) (assumed_kept fs gs l e)
]

assumed_last : (fs : List Literal) (l : Literal) → is_assumed (fs ++ l ∷ []) l ≡ true
assumed_last [] l = or_left (same_literal l l) false (literal_itself l)
assumed_last (f ∷ fs) l = or_right (same_literal f l) (is_assumed (fs ++ l ∷ []) l) (assumed_last fs l)

settled_kept : (fs gs q : List Literal) → is_settled fs q ≡ true → is_settled (fs ++ gs) q ≡ true
settled_kept fs gs [] h = absurd (cc)
settled_kept fs gs (l ∷ ls) h = elim (or_cases (is_assumed fs l) (is_settled fs ls) h) [
  | inl e ↦ or_left (is_assumed (fs ++ gs) l) (is_settled (fs ++ gs) ls) (assumed_kept fs gs l e)
  | inr e ↦ or_right (is_assumed (fs ++ gs) l) (is_settled (fs ++ gs) ls) (settled_kept fs gs ls e)
]

settled_by : (fs q : List Literal) (l : Literal) → Contains q l → is_settled (fs ++ l ∷ []) q ≡ true
settled_by fs [] l h = absurd (none_there l h)
settled_by fs (k ∷ ks) l h = elim (first_or_later k l ks h) [
  | inl e ↦ or_left (is_assumed (fs ++ l ∷ []) k) (is_settled (fs ++ l ∷ []) ks) (subst (λ z. is_assumed (fs ++ l ∷ []) z ≡ true) (sym e) (assumed_last fs l))
  | inr more ↦ or_right (is_assumed (fs ++ l ∷ []) k) (is_settled (fs ++ l ∷ []) ks) (settled_by fs ks l more)
]

not_settled : (fs q : List Literal) → All (λ m. ¬ (Contains fs m)) q → is_settled fs q ≡ true → ⊥
not_settled fs [] open_ h = absurd (cc)
not_settled fs (l ∷ ls) open_ h = elim (or_cases (is_assumed fs l) (is_settled fs ls) h) [
  | inl e ↦ All-head (λ m. ¬ (Contains fs m)) l ls open_ (assumed_there fs l e)
  | inr e ↦ not_settled fs ls (All-tail (λ m. ¬ (Contains fs m)) l ls open_) e
]

-- ---- how many are open
one_if_open : Bool → ℕ
one_if_open true = 0
one_if_open false = 1

abbrev open_among : List Literal → List (List Literal) → ℕ
open_among fs [] = 0
open_among fs (q ∷ qs) = one_if_open (is_settled fs q) + open_among fs qs

no_more : (a b : Bool) → (a ≡ true → b ≡ true) → one_if_open b ≤ one_if_open a
unfolding one_if_open
no_more true true h = omega arith
no_more true false h = let e : false ≡ true = h refl in absurd (cc)
no_more false true h = omega arith
no_more false false h = omega arith

one_less : (a b : Bool) → (a ≡ true → ⊥) → b ≡ true → one_if_open b < one_if_open a
unfolding one_if_open
one_less true b h e = absurd (h refl)
one_less false true h e = omega arith
one_less false false h e = absurd (cc)

no_more_open : (fs gs : List Literal) (qs : List (List Literal)) → open_among (fs ++ gs) qs ≤ open_among fs qs
no_more_open fs gs [] = omega arith
no_more_open fs gs (q ∷ qs) =
    let first = no_more (is_settled fs q) (is_settled (fs ++ gs) q) (settled_kept fs gs q) in
    let rest = no_more_open fs gs qs in
    omega (arith, first, rest)

fewer_open : (fs : List Literal) (qs : List (List Literal)) (q : List Literal) (l : Literal) → Contains qs q → All (λ m. ¬ (Contains fs m)) q → Contains q l → open_among (fs ++ l ∷ []) qs < open_among fs qs
fewer_open fs [] q l h open_ answers = absurd (none_there q h)
fewer_open fs (k ∷ ks) q l h open_ answers = elim (first_or_later k q ks h) [
  | inl e ↦
      let first : one_if_open (is_settled (fs ++ l ∷ []) k) < one_if_open (is_settled fs k) = one_less (is_settled fs k) (is_settled (fs ++ l ∷ []) k) (subst (λ z. is_settled fs z ≡ true → ⊥) (sym e) (not_settled fs q open_)) (subst (λ z. is_settled (fs ++ l ∷ []) z ≡ true) (sym e) (settled_by fs q l answers)) in
      let rest = no_more_open fs (l ∷ []) ks in
      omega (arith, first, rest)
  | inr more ↦
      let first = no_more (is_settled fs k) (is_settled (fs ++ l ∷ []) k) (settled_kept fs (l ∷ []) k) in
      let rest = fewer_open fs ks q l more open_ answers in
      omega (arith, first, rest)
]

-- ---- the questions of a plan
abbrev equality_of : Comparison → List Literal
equality_of k = lit.Same k.left k.right ∷ lit.Apart k.left k.right ∷ []

abbrev side_of : Comparison → List Literal
side_of k = lit.AtMost (plus_one k.left) k.right ∷ lit.AtMost (plus_one k.right) k.left ∷ []

abbrev results_of : Applied → Applied → List Literal
results_of f g = lit.Same f.result g.result ∷ []

abbrev all_results : List Applied → List Applied → List (List Literal)
all_results [] gs = []
all_results (f ∷ fs) gs = map (results_of f) gs ++ all_results fs gs

abbrev questions : Plan → List (List Literal)
questions p =
    map equality_of p.comparisons ++ (map side_of p.comparisons ++ all_results p.applications p.applications)

mapped : {X Y : Type 0} (f : X → Y) (xs : List X) (x : X) → Contains xs x → Contains (map f xs) (f x)
mapped f [] x h = absurd (none_there x h)
mapped f (y ∷ ys) x h = elim (first_or_later y x ys h) [
  | inl e ↦ at_first (f y) (f x) (map f ys) (ap f e)
  | inr more ↦ later (f y) (f x) (map f ys) (mapped f ys x more)
]

among_results : (fs gs : List Applied) (f g : Applied) → Contains fs f → Contains gs g → Contains (all_results fs gs) (results_of f g)
among_results [] gs f g h k = absurd (none_there f h)
among_results (e ∷ es) gs f g h k = elim (first_or_later e f es h) [
  | inl same ↦ Contains-append_left (map (results_of e) gs) (all_results es gs) (results_of f g) (subst (λ z. Contains (map (results_of e) gs) (results_of z g)) same (mapped (results_of e) gs g k))
  | inr more ↦ Contains-append_right (map (results_of e) gs) (all_results es gs) (results_of f g) (among_results es gs f g more k)
]

-- the question of a comparison is that of its terms
along : (Q : Term → Term → List Literal) (qs : List (List Literal)) (u v a b : Term) → u ≡ a → v ≡ b → Contains qs (Q u v) → Contains qs (Q a b)
along Q qs u v a b e f h = subst (λ z. Contains qs (Q z b)) e (subst (λ z. Contains qs (Q u z)) f h)

among_questions : (p : Plan) (q : List Literal) → IsQuestion p q → Contains (questions p) q
among_questions p _ (of_equality a b (k, there, e, f)) =
    along (λ u v. lit.Same u v ∷ lit.Apart u v ∷ []) (questions p) k.left k.right a b e f (Contains-append_left (map equality_of p.comparisons) (map side_of p.comparisons ++ all_results p.applications p.applications) (equality_of k) (mapped equality_of p.comparisons k there))
among_questions p _ (of_side a b (k, there, e, f)) =
    along (λ u v. lit.AtMost (plus_one u) v ∷ lit.AtMost (plus_one v) u ∷ []) (questions p) k.left k.right a b e f (Contains-append_right (map equality_of p.comparisons) (map side_of p.comparisons ++ all_results p.applications p.applications) (side_of k) (Contains-append_left (map side_of p.comparisons) (all_results p.applications p.applications) (side_of k) (mapped side_of p.comparisons k there)))
among_questions p _ (of_results f g at_f at_g) =
    Contains-append_right (map equality_of p.comparisons) (map side_of p.comparisons ++ all_results p.applications p.applications) (results_of f g) (Contains-append_right (map side_of p.comparisons) (all_results p.applications p.applications) (results_of f g) (among_results p.applications p.applications f g at_f at_g))

-- how many questions of a plan are open
pub questions_open : Plan → List Literal → ℕ
questions_open p fs = open_among fs (questions p)

pub one_fewer : (p : Plan) (fs : List Literal) (l : Literal) → IsAnswer p fs l → questions_open p (fs ++ l ∷ []) < questions_open p fs
unfolding questions_open
one_fewer p fs l is =
    fewer_open fs (questions p) is.question l (among_questions p is.question is.asked) is.open_ is.answers

-- the number of the search falls where an answer is assumed
pub goes_down : (p : Plan) (fs gs : List Literal) (l : Literal) (t : ℕ) → gs ≡ fs ++ l ∷ [] → IsAnswer p fs l → questions_open p fs * 4 ≡ t → questions_open p gs * 4 + 3 < t
goes_down p fs gs l t e is h =
    let same : questions_open p gs ≡ questions_open p (fs ++ l ∷ []) = ap (questions_open p) e in
    let less = one_fewer p fs l is in
    omega (arith, same, less, h)
