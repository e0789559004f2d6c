-- Derivations by equalities put into pairs.
use Rattle.std.specs.Prelude.{◌≡◌, ℕ, zero, suc, ◌+◌, ◌==◌, Bool, true, false, not, if◌then◌else◌, List, [], ◌∷◌, ◌++◌, length, All, Some, slice_get}
use Rattle.std.proofs.Common.{refl, ap, sym, subst, ◌∙◌, arith, rules}
use Rattle.std.proofs.lemmas.List.Elements.{All-nil, All-cons, All-head, All-tail, All-weaker, All-contains}
use Rattle.terms.specs.declared.Literal.{Literal}
use Rattle.terms.specs.declared.Literal.TheVariants as lit
use Rattle.terms.specs.SamenessLaws.{nat_itself}
use Rattle.proof_checker.specs.declared.Condition.{Condition}
use Rattle.proof_checker.specs.declared.Derivation.{Derivation, Derivation-F, Replace, Clash, out-Derivation, the_lemmas}
use Rattle.proof_checker.specs.Derivations.{DerivesFrom, replace, false_itself, IsFalse, apart_itself, same_numbers}
use Rattle.cond_facts.specs.declared.reference_pairs.Reference.{Reference}
use Rattle.cond_facts.specs.declared.reference_pairs.Reference.TheVariants.{Symbol, Number}
use Rattle.cond_facts.specs.declared.reference_pairs.Pair.{Pair}
use Rattle.cond_facts.specs.ReferencePairs.{has, victim, replaced, changes, after, wrapped, term_of, literal_of, numbers_differ, other_numbers, IsAssumed, AreRefuted, IsItself}
use Rattle.cond_facts.proofs.ReferenceTerms.{replaced_is, replaced_place}

out-Replace : (i j : ℕ) (d : Derivation) → out-Derivation (Replace i j d) ≡ Derivation-F.Replace i j d
out-Replace i j d = search (rules, the_lemmas)

pub out-Clash : (i j : ℕ) → out-Derivation (Clash i j) ≡ Derivation-F.Clash i j
out-Clash i j = search (rules, the_lemmas)

-- each assumption keeps its number
abbrev pub Keeps : List Literal → List Literal → Type 0
Keeps fs gs = (n : ℕ) (l : Literal) → slice_get fs n ≡ Some l → slice_get gs n ≡ Some l

kept_front : (fs : List Literal) (k : Literal) (n : ℕ) (l : Literal) → slice_get fs n ≡ Some l → slice_get (fs ++ k ∷ []) n ≡ Some l
kept_front [] k n l e = absurd (cc)
kept_front (f ∷ fs) k zero l e = e
kept_front (f ∷ fs) k (suc n) l e = kept_front fs k n l e

added_last : (fs : List Literal) (k : Literal) (n : ℕ) → n ≡ length fs → slice_get (fs ++ k ∷ []) n ≡ Some k
added_last [] k zero e = refl
added_last [] k (suc n) e = absurd (omega arith)
added_last (f ∷ fs) k zero e = absurd (omega arith)
added_last (f ∷ fs) k (suc n) e = added_last fs k n (omega arith)

longer : (fs : List Literal) (k : Literal) → length (fs ++ k ∷ []) ≡ length fs + 1
longer [] k = refl
longer (f ∷ fs) k = let e = longer fs k in omega (arith, e)

keeps_assumed : (fs gs : List Literal) (same : Bool) (ps : List Pair) → Keeps fs gs → All (IsAssumed fs same) ps → All (IsAssumed gs same) ps
keeps_assumed fs gs same ps keep all =
    All-weaker (IsAssumed fs same) (IsAssumed gs same) (λ p h. keep p.place (literal_of same p) h) ps all

module _ (c : Condition) (e : Pair) (same : Bool) (d : Derivation) where
  -- what is assumed then derives
  abbrev Ends : List Literal → ℕ → List Pair → Type 0
  Ends fs n ps =
      (gs : List Literal) → Keeps fs gs → length gs ≡ n → All (IsAssumed gs same) ps → DerivesFrom c gs d

  abbrev Derives : List Pair → Type 0
  Derives ps =
      (fs : List Literal) (next : ℕ) → IsAssumed fs true e → All (IsAssumed fs same) ps → length fs ≡ next → Ends fs (after e next ps) (changes e next ps) → DerivesFrom c fs (wrapped e ps d)

  step : (p : Pair) (ps : List Pair) → Derives ps → (b : Bool) (fs : List Literal) (next : ℕ) → IsAssumed fs true e → All (IsAssumed fs same) (p ∷ ps) → length fs ≡ next → Ends fs (if b then after e (next + 1) ps else after e next ps) (if b then replaced e next p ∷ changes e (next + 1) ps else p ∷ changes e next ps) → DerivesFrom c fs (if b then Replace e.place p.place (wrapped e ps d) else wrapped e ps d)
  step p ps more true fs next at all long end =
      let k = literal_of same (replaced e next p) in
      let gs = fs ++ k ∷ [] in
      let keep : Keeps fs gs = kept_front fs k in
      let there : slice_get gs next ≡ Some k = added_last fs k next (sym long) in
      let rest = All-tail (IsAssumed fs same) p ps all in
      replace fs (Replace e.place p.place (wrapped e ps d)) (wrapped e ps d) e.place p.place (term_of e.left) (term_of e.right) (literal_of same p) k (out-Replace e.place p.place (wrapped e ps d)) at (All-head (IsAssumed fs same) p ps all) (replaced_is same e p next) (more gs (next + 1) (keep e.place (literal_of true e) at) (keeps_assumed fs gs same ps keep rest) (longer fs k ∙ ap (λ (n : ℕ). n + 1) long) (λ hs keep2 long2 all2. end hs (λ n l h. keep2 n l (keep n l h)) long2 (All-cons (IsAssumed hs same) (replaced e next p) (changes e (next + 1) ps) (subst (λ n. slice_get hs n ≡ Some k) (sym (replaced_place e p next)) (keep2 next k there)) all2)))
  step p ps more false fs next at all long end =
      let rest = All-tail (IsAssumed fs same) p ps all in
      more fs next at rest long (λ hs keep2 long2 all2. end hs keep2 long2 (All-cons (IsAssumed hs same) p (changes e next ps) (keep2 p.place (literal_of same p) (All-head (IsAssumed fs same) p ps all)) all2))

  pub derives : (ps : List Pair) → Derives ps
  derives [] fs next at all long end = end fs (λ n l h. h) long (All-nil (IsAssumed fs same))
  derives (p ∷ ps) fs next at all long end =
      step p ps (derives ps) (has p (victim e)) fs next at all long end

-- where the changed pairs are refuted, the pairs are
pub changed_refuted : (e : Pair) (ps qs : List Pair) (next : ℕ) (d : Derivation) → AreRefuted (changes e next ps) (changes e (after e next ps) qs) (after e (after e next ps) qs) d → AreRefuted (e ∷ ps) qs next (wrapped e ps (wrapped e qs d))
changed_refuted e ps qs next d h = λ c fs long all apart.
    let at = All-head (IsAssumed fs true) e ps all in
    let rest = All-tail (IsAssumed fs true) e ps all in
    derives c e true (wrapped e qs d) ps fs next at rest long (λ gs keep long2 all2. derives c e false d qs gs (after e next ps) (keep e.place (literal_of true e) at) (keeps_assumed fs gs false qs keep apart) long2 (λ hs keep2 long3 apart3. h c hs long3 (keeps_assumed gs hs true (changes e next ps) keep2 all2) apart3))

pub more_refuted : (e : Pair) (ps qs : List Pair) (next : ℕ) (d : Derivation) → AreRefuted ps qs next d → AreRefuted (e ∷ ps) qs next d
more_refuted e ps qs next d h = λ c fs long all apart. h c fs long (All-tail (IsAssumed fs true) e ps all) apart

negated : (b : Bool) → not b ≡ true → b ≡ true → ⊥
negated true h k = absurd (cc)
negated false h k = absurd (cc)

numbers_false : (x y : Reference) → numbers_differ x y ≡ true → IsFalse (lit.Same (term_of x) (term_of y))
numbers_false (Symbol m) y h = absurd (cc)
numbers_false (Number m) (Symbol n) h = absurd (cc)
numbers_false (Number m) (Number n) h =
    same_numbers m n (λ e. negated (m == n) h (subst (λ z. (m == z) ≡ true) e (nat_itself m)))

-- two different numbers aren't equal
pub numbers_refuted : (e : Pair) (ps qs : List Pair) (next : ℕ) → other_numbers e ≡ true → AreRefuted (e ∷ ps) qs next (Clash e.place e.place)
numbers_refuted e ps qs next h = λ c fs long all apart.
    false_itself fs (Clash e.place e.place) e.place (literal_of true e) (out-Clash e.place e.place) (All-head (IsAssumed fs true) e ps all) (numbers_false e.left e.right h)

apart_false : (x y : Reference) → x ≡ y → IsFalse (lit.Apart (term_of x) (term_of y))
apart_false x y e = subst (λ z. IsFalse (lit.Apart (term_of x) (term_of z))) e (apart_itself (term_of x))

-- nothing differs from itself
pub itself_refuted : (qs : List Pair) (n next : ℕ) → IsItself qs n → AreRefuted [] qs next (Clash n n)
itself_refuted qs n next i = λ c fs long all apart.
    let at = subst (λ k. slice_get fs k ≡ Some (literal_of false i.pair)) i.place (All-contains (IsAssumed fs false) qs i.pair apart i.there) in
    false_itself fs (Clash n n) n (literal_of false i.pair) (out-Clash n n) at (apart_false i.pair.left i.pair.right i.same)
