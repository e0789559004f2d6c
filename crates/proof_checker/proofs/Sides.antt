-- Laws of sides.
use Rattle.std.specs.Prelude.{◌≡◌, ◌≢◌, ℕ, ◌<◌, ◌==◌, not, Bool, true, false, ◌||◌, pos, IsTrue, List, [], ◌∷◌, ◌++◌, Contains}
use Rattle.std.proofs.Common.{refl, ap, sym, subst, ◌∙◌, arith, rules, Bor, inl, inr}
use Rattle.std.proofs.lemmas.List.Elements.{Contains-append_left, Contains-append_right, Contains-append_cases, Contains-push, Contains-push_cases}
use Rattle.std.proofs.lemmas.Bool.Decides.{nat_tests}
use Rattle.terms.specs.declared.Literal.{Literal}
use Rattle.terms.specs.declared.Literal.TheVariants as lit
use Rattle.terms.specs.Fitting.{terms_in}
use Rattle.terms.specs.Within.{terms_within}
use Rattle.proof_checker.specs.declared.view.Kind.{Kind}
use Rattle.proof_checker.specs.declared.view.Kind.TheVariants as kind
use Rattle.proof_checker.specs.Chains.{compared}
use Rattle.proof_checker.specs.Derivations.{IsFalse, apart_itself, same_numbers, StandsIn, Replaced, forth, back}
use Rattle.proof_checker.specs.Replacing.{put_in}
use Rattle.terms.specs.declared.Term.{Term, Term-F, Lit, RefLit, Add, map-Term, out-Term, roll-Term, roll-out-Term, out-roll-Term, the_lemmas}
use Rattle.terms.specs.Sameness.{same_term}
use Rattle.terms.specs.SamenessLaws.{same_is_equal, equal_is_same}
use Rattle.proof_checker.specs.declared.origin.Origin.{Origin}
use Rattle.proof_checker.specs.declared.puts.Puts.{Puts}
use Rattle.proof_checker.specs.declared.puts.Todo.{With}
use Rattle.proof_checker.specs.Conditions.{plus_one}
use Rattle.proof_checker.specs.Views.{node_term, below, Question, question, has}
use Rattle.proof_checker.proofs.Reading.{question-With}

pub same_iff : (b : Bool) (t u : Term) → b ≡ same_term t u → (IsTrue b → t ≡ u) × (t ≡ u → IsTrue b)
same_iff b t u e = (λ h. same_is_equal t u (sym e ∙ h), λ q. e ∙ equal_is_same t u q)

pub asked-With : (o : Origin) (p : Bor Puts) (u : Term) → (question (With o p)).answer u ≡ same_term (node_term o p.now) u
asked-With o p u = ap (λ (z : Question). z.answer u) (question-With o p)

none_there : (a : Term) → Contains [] a → ⊥
none_there a h = let lt : h.0 < 0 = h.1 in absurd (omega arith)

at_first : (t a : Term) (ts : List Term) → t ≡ a → Contains (t ∷ ts) a
at_first t a ts e = Contains-append_left (t ∷ []) ts a (subst (Contains (t ∷ [])) e (Contains-push [] t))

pub there : (ts : List Term) (a : Term) → IsTrue (has ts a) → Contains ts a
there [] a h = absurd (cc)
there (t ∷ ts) a h = elim (same_term t a) as (λ b. same_term t a ≡ b → IsTrue (b || has ts a) → Contains (t ∷ ts) a) [
  | true ↦ λ e k. at_first t a ts (same_is_equal t a e)
  | false ↦ λ e k. Contains-append_right (t ∷ []) ts a (there ts a k)
] refl h

or_left : (b c : Bool) → b ≡ true → IsTrue (b || c)
or_left b c e = ap (λ z. z || c) e

or_right : (b c : Bool) → IsTrue c → IsTrue (b || c)
or_right true c e = refl
or_right false c e = e

pub has_it : (ts : List Term) (a : Term) → Contains ts a → IsTrue (has ts a)
has_it [] a h = absurd (none_there a h)
has_it (t ∷ ts) a h = elim (Contains-append_cases (t ∷ []) ts a h) [
  | inl one ↦ elim (Contains-push_cases [] t a one) [
    | inl no_ ↦ absurd (none_there a no_)
    | inr e ↦ or_left (same_term t a) (has ts a) (equal_is_same t a e)
  ]
  | inr more ↦ or_right (same_term t a) (has ts a) (has_it ts a more)
]

out-Add : (a b : Term) → out-Term (Add a b) ≡ Term-F.Add a b
out-Add a b = search (rules, the_lemmas)

out-RefLit : (n : ℕ) → out-Term (RefLit n) ≡ Term-F.RefLit n
out-RefLit n = search (rules, the_lemmas)

roll-Add : (a b : Term) → roll-Term (Term-F.Add a b) ≡ Add a b
roll-Add a b = ap roll-Term (sym (out-Add a b)) ∙ roll-out-Term (Add a b)

pub roll-RefLit : (n : ℕ) → roll-Term (Term-F.RefLit n) ≡ RefLit n
roll-RefLit n = ap roll-Term (sym (out-RefLit n)) ∙ roll-out-Term (RefLit n)

-- a sum has one pair of parts
pub sum_parts : (a b c d : Term) → Add a b ≡ Add c d → (a ≡ c) × (b ≡ d)
sum_parts a b c d e = parts a b c d (sym (out-Add a b) ∙ ap out-Term e ∙ out-Add c d)
  where
    parts : (a b c d : Term) → Term-F.Add a b ≡ Term-F.Add c d → (a ≡ c) × (b ≡ d)
    parts a b c d q = (cc, cc)

pub same_number : (m n : ℕ) → RefLit m ≡ RefLit n → m ≡ n
same_number m n e = same m n (sym (out-RefLit m) ∙ ap out-Term e ∙ out-RefLit n)
  where
    same : (m n : ℕ) → ◌≡◌ {A = Term-F Term} (Term-F.RefLit m) (Term-F.RefLit n) → m ≡ n
    same m n q = cc

pub sum_below : (h : Term → Term) (t b d : Term) → out-Term t ≡ Term-F.Add b d → below h t ≡ Add (h b) (h d)
sum_below h t b d e = ap (λ x. roll-Term (map-Term Term Term h x)) e ∙ roll-Add (h b) (h d)

-- the form of a term with replacements in its parts
pub form_below : (h : Term → Term) (t : Term) (x y : Term-F Term) → out-Term t ≡ x → below h t ≡ roll-Term y → map-Term Term Term h x ≡ y
form_below h t x y e is =
    sym (ap (λ z. map-Term Term Term h z) e) ∙ sym (out-roll-Term (map-Term Term Term h (out-Term t))) ∙ ap out-Term is ∙ out-roll-Term y

-- forms that aren't sums, and those that aren't reference numbers
abbrev pub IsNoSum : Term-F Term → Type 0
IsNoSum (Term-F.Add a b) = ⊥
IsNoSum x = Unit {0}

abbrev pub IsNoNumber : Term-F Term → Type 0
IsNoNumber (Term-F.RefLit n) = ⊥
IsNoNumber x = Unit {0}

no_sum : (h : Term → Term) (x : Term-F Term) (b d : Term) → IsNoSum x → map-Term Term Term h x ≡ Term-F.Add b d → ⊥
no_sum h (Term-F.Sym n) b d k e = absurd (cc)
no_sum h (Term-F.Lit z) b d k e = absurd (cc)
no_sum h (Term-F.Add a a') b d k e = k
no_sum h (Term-F.Scale l a) b d k e = absurd (cc)
no_sum h (Term-F.App f all) b d k e = absurd (cc)
no_sum h (Term-F.RefSym n) b d k e = absurd (cc)
no_sum h (Term-F.RefLit n) b d k e = absurd (cc)
no_sum h Term-F.Nil b d k e = absurd (cc)

no_number : (h : Term → Term) (x : Term-F Term) (m : ℕ) → IsNoNumber x → map-Term Term Term h x ≡ Term-F.RefLit m → ⊥
no_number h (Term-F.Sym n) m k e = absurd (cc)
no_number h (Term-F.Lit z) m k e = absurd (cc)
no_number h (Term-F.Add a a') m k e = absurd (cc)
no_number h (Term-F.Scale l a) m k e = absurd (cc)
no_number h (Term-F.App f all) m k e = absurd (cc)
no_number h (Term-F.RefSym n) m k e = absurd (cc)
no_number h (Term-F.RefLit n) m k e = k
no_number h Term-F.Nil m k e = absurd (cc)

pub not_sum : (h : Term → Term) (t : Term) (x : Term-F Term) (b : Term) → IsNoSum x → out-Term t ≡ x → below h t ≡ plus_one b → ⊥
not_sum h t x b k e is = no_sum h x b (Lit (pos 1)) k (form_below h t x (Term-F.Add b (Lit (pos 1))) e (is ∙ sym (roll-Add b (Lit (pos 1)))))

pub not_number : (h : Term → Term) (t : Term) (x : Term-F Term) (m : ℕ) → IsNoNumber x → out-Term t ≡ x → below h t ≡ RefLit m → ⊥
not_number h t x m k e is = no_number h x m k (form_below h t x (Term-F.RefLit m) e (is ∙ sym (roll-RefLit m)))

-- ---- literals that are false by themselves
apart_from : (l : Literal) → IsFalse l → (a b : Term) → l ≡ lit.Apart a b → a ≡ b
apart_from _ (apart_itself x) a b e = let p : x ≡ a = cc in let q : x ≡ b = cc in sym p ∙ q
apart_from _ (same_numbers m n other) a b e = absurd (cc)

pub apart_false : (l : Literal) (a b : Term) → l ≡ lit.Apart a b → (a ≡ b → IsFalse l) × (IsFalse l → a ≡ b)
apart_false l a b e = (λ q. subst IsFalse (sym e) (subst (λ z. IsFalse (lit.Apart a z)) q (apart_itself a)), λ h. apart_from l h a b e)

numbers_from : (l : Literal) → IsFalse l → (m n : ℕ) → l ≡ lit.Same (RefLit m) (RefLit n) → m ≢ n
numbers_from _ (apart_itself x) m n e = absurd (cc)
numbers_from _ (same_numbers i j other) m n e =
    let p : RefLit i ≡ RefLit m = cc in
    let q : RefLit j ≡ RefLit n = cc in
    λ s. other (same_number i m p ∙ s ∙ sym (same_number j n q))

differ : (m n : ℕ) → IsTrue (not (m == n)) → m ≢ n
differ m n h e = let b : (m == n) ≡ true = grind (arith, nat_tests) in absurd (cc (b, h))

differ_test : (m n : ℕ) → m ≢ n → IsTrue (not (m == n))
differ_test m n h = grind (arith, nat_tests)

pub numbers_false : (a b : Term) (m n : ℕ) → a ≡ RefLit m → b ≡ RefLit n → (IsTrue (not (m == n)) → IsFalse (lit.Same a b)) × (IsFalse (lit.Same a b) → IsTrue (not (m == n)))
numbers_false a b m n e f =
    let is : lit.Same a b ≡ lit.Same (RefLit m) (RefLit n) = ap (λ z. lit.Same z b) e ∙ ap (λ z. lit.Same (RefLit m) z) f in
    (λ h. subst IsFalse (sym is) (same_numbers m n (differ m n h)), λ h. differ_test m n (numbers_from (lit.Same a b) h m n is))

-- ---- terms that stand in literals
terms_compared : (k : Kind) (b c : Term) → terms_in (compared k b c ∷ []) ≡ (terms_within b ++ terms_within c) ++ []
terms_compared kind.AtMost b c = refl
terms_compared kind.Same b c = refl
terms_compared kind.Apart b c = refl

-- it stands in the second side where it doesn't stand in the first
pub stands_second : (k : Kind) (a b c : Term) (p q : Bool) → (Contains (terms_within b) a → IsTrue p) → ((IsTrue q → Contains (terms_within c) a) × (Contains (terms_within c) a → IsTrue q)) → p ≡ false → (l : Literal) → l ≡ compared k b c → (IsTrue q → StandsIn a l) × (StandsIn a l → IsTrue q)
stands_second k a b c p q first second off l e = (
  λ h. subst (λ ts. Contains ts a) (sym is) (Contains-append_left (terms_within b ++ terms_within c) [] a (Contains-append_right (terms_within b) (terms_within c) a (second.0 h))),
  λ h. elim (Contains-append_cases (terms_within b ++ terms_within c) [] a (subst (λ ts. Contains ts a) is h)) [
    | inl both ↦ elim (Contains-append_cases (terms_within b) (terms_within c) a both) [
      | inl here ↦ let on = first here in absurd (cc (on, off))
      | inr more ↦ second.1 more
    ]
    | inr no_ ↦ absurd (none_there a no_)
  ],
)
  where
    is : terms_in (l ∷ []) ≡ (terms_within b ++ terms_within c) ++ []
    is = ap (λ z. terms_in (z ∷ [])) e ∙ terms_compared k b c

-- ---- replaced literals
abbrev OnlyReplaced : Term → Term → Literal → Literal → Type 0
OnlyReplaced a b l r = (k : Literal) → (Replaced a b l k → k ≡ r) × (k ≡ r → Replaced a b l k)

forth_only : (a b : Term) (l : Literal) → StandsIn a l → (r : Literal) → r ≡ put_in a b l → (k : Literal) → Replaced a b l k → k ≡ r
forth_only a b l s r e _ (forth stands) = sym e
forth_only a b l s r e _ (back none) = absurd (none s)

pub replaced_forth : (a b : Term) (l : Literal) → StandsIn a l → (r : Literal) → r ≡ put_in a b l → OnlyReplaced a b l r
replaced_forth a b l s r e k = (forth_only a b l s r e k, λ q. subst (Replaced a b l) (sym (q ∙ e)) (forth s))

back_only : (a b : Term) (l : Literal) → ¬ (StandsIn a l) → (r : Literal) → r ≡ put_in b a l → (k : Literal) → Replaced a b l k → k ≡ r
back_only a b l s r e _ (forth stands) = absurd (s stands)
back_only a b l s r e _ (back none) = sym e

pub replaced_back : (a b : Term) (l : Literal) → ¬ (StandsIn a l) → (r : Literal) → r ≡ put_in b a l → OnlyReplaced a b l r
replaced_back a b l s r e k = (back_only a b l s r e k, λ q. subst (Replaced a b l) (sym (q ∙ e)) (back s))
