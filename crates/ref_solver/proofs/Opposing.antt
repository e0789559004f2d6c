-- The test for a clash is exact.
use Rattle.std.specs.Prelude.{◌≡◌, ◌≢◌, ◌⊎◌, ◌↔◌, ℕ, ◌==◌, Bool, true, false, not, ◌&&◌, ◌||◌, IsTrue, List, Contains, Option, Some, None}
use Rattle.std.specs.List.{list_any}
use Rattle.std.proofs.Common.{refl, ap, sym, subst, ◌∙◌, inl, inr, arith}
use Rattle.std.proofs.lemmas.Bool.Decides.{nat_tests}
use Rattle.terms.specs.declared.Term.{Term}
use Rattle.terms.specs.declared.Literal.{Literal}
use Rattle.terms.specs.declared.Literal.TheVariants as lit
use Rattle.terms.specs.SamenessLaws.{both, and_both, nat_same, nat_itself}
use Rattle.ref_solver.specs.Following.{Follows}
use Rattle.ref_solver.specs.Classes.{AreClasses, together}
use Rattle.ref_solver.specs.Clashing.{reference_number, Clash, apart, references, flag}
use Rattle.ref_solver.specs.Opposites.{denies, differ, other_numbers, has_other, mixes, is_false, is_opposed, are_opposed}
use Rattle.ref_solver.proofs.Linking.{some_of, any_from, or_left, or_right, or_cases, are_together, together_are}

not_itself : (n : ℕ) → not (n == n) ≡ true → ⊥
not_itself n h =
    let is = nat_itself n in
    let no_ : not true ≡ true = subst (λ b. not b ≡ true) is h in
    absurd (cc)

apart_numbers : (m n : ℕ) → not (m == n) ≡ true → m ≢ n
apart_numbers m n h e = not_itself n (subst (λ (k : ℕ). not (k == n) ≡ true) e h)

not_same : (m n : ℕ) → m ≢ n → (b : Bool) → (m == n) ≡ b → not b ≡ true
not_same m n h true e = absurd (h (nat_same m n e))
not_same m n h false e = refl

-- two numbers that differ
record Differing (x y : Option ℕ) : Type 0 where
  left : ℕ
  right : ℕ
  left_is : x ≡ Some left
  right_is : y ≡ Some right
  differ : left ≢ right

differing : (x y : Option ℕ) → differ x y ≡ true → Differing x y
differing (Some m) (Some n) h = record {
  left = m;
  right = n;
  left_is = refl;
  right_is = refl;
  differ = apart_numbers m n h;
}
differing (Some m) None h = absurd (cc)
differing None y h = absurd (cc)

they_differ : (x y : Option ℕ) (m n : ℕ) → x ≡ Some m → y ≡ Some n → m ≢ n → differ x y ≡ true
they_differ x y m n e f h =
    ap (λ z. differ z y) e ∙ ap (λ z. differ (Some m) z) f ∙ not_same m n h (m == n) refl

said_false : (n : ℕ) (l : Literal) → is_false n l ≡ true → lit.Flag n false ≡ l
said_false n (lit.Flag m true) h =
    let (p, q) = both (n == m) false h in
    absurd (cc)
said_false n (lit.Flag m false) h =
    let (p, q) = both (n == m) true h in
    ap (λ (k : ℕ). lit.Flag k false) (nat_same n m p)
said_false n (lit.AtMost a b) h = absurd (cc)
said_false n (lit.Same a b) h = absurd (cc)
said_false n (lit.Apart a b) h = absurd (cc)

module _ (ls : List Literal) (cs : List (List Term)) (classes : AreClasses ls cs) where
  denied : (l : Literal) → Contains ls l → denies cs l ≡ true → Clash ls
  denied (lit.Apart a b) there h =
      apart a b there ((classes.exact a b).0 (are_together cs a b h))
  denied (lit.AtMost a b) there h = absurd (cc)
  denied (lit.Same a b) there h = absurd (cc)
  denied (lit.Flag n held) there h = absurd (cc)

  mixed : (c : List Term) → Contains cs c → mixes c ≡ true → Clash ls
  mixed c there h =
      let (s, one, some) = some_of (has_other c) c h in
      let (t, two, is) = some_of (other_numbers s) c some in
      let d = differing (reference_number s) (reference_number t) is in
      references s t d.left d.right ((classes.exact s t).0 (c, there, one, two)) d.left_is d.right_is d.differ

  opposed : (l : Literal) → Contains ls l → is_opposed ls l ≡ true → Clash ls
  opposed (lit.Flag n true) there h =
      let (k, other, is) = some_of (is_false n) ls h in
      flag n there (subst (λ j. Contains ls j) (sym (said_false n k is)) other)
  opposed (lit.Flag n false) there h = absurd (cc)
  opposed (lit.AtMost a b) there h = absurd (cc)
  opposed (lit.Same a b) there h = absurd (cc)
  opposed (lit.Apart a b) there h = absurd (cc)

  opposed_clash : are_opposed ls cs ≡ true → Clash ls
  opposed_clash h =
      elim (or_cases (list_any (denies cs) ls) (list_any mixes cs || list_any (is_opposed ls) ls) h) [
        | inl p ↦ let (l, there, is) = some_of (denies cs) ls p in denied l there is
        | inr q ↦ elim (or_cases (list_any mixes cs) (list_any (is_opposed ls) ls) q) [
          | inl u ↦ let (c, there, is) = some_of mixes cs u in mixed c there is
          | inr v ↦ let (l, there, is) = some_of (is_opposed ls) ls v in opposed l there is
        ]
      ]

  by_denial : list_any (denies cs) ls ≡ true → are_opposed ls cs ≡ true
  by_denial h =
      or_left (list_any (denies cs) ls) (list_any mixes cs || list_any (is_opposed ls) ls) h

  by_mixing : list_any mixes cs ≡ true → are_opposed ls cs ≡ true
  by_mixing h =
      or_right (list_any (denies cs) ls) (list_any mixes cs || list_any (is_opposed ls) ls) (or_left (list_any mixes cs) (list_any (is_opposed ls) ls) h)

  by_flags : list_any (is_opposed ls) ls ≡ true → are_opposed ls cs ≡ true
  by_flags h =
      or_right (list_any (denies cs) ls) (list_any mixes cs || list_any (is_opposed ls) ls) (or_right (list_any mixes cs) (list_any (is_opposed ls) ls) h)

  clash_opposed : Clash ls → are_opposed ls cs ≡ true
  clash_opposed (apart a b there h) =
      by_denial (any_from (denies cs) ls (lit.Apart a b) there (together_are cs a b ((classes.exact a b).1 h)))
  clash_opposed (references s t m n h e f apart_) =
      let (c, there, one, two) = (classes.exact s t).1 h in
      let is : other_numbers s t ≡ true = they_differ (reference_number s) (reference_number t) m n e f apart_ in
      by_mixing (any_from mixes cs c there (any_from (has_other c) c s one (any_from (other_numbers s) c t two is)))
  clash_opposed (flag n there other) =
      let is : is_false n (lit.Flag n false) ≡ true = and_both (n == n) true (nat_itself n) refl in
      by_flags (any_from (is_opposed ls) ls (lit.Flag n true) there (any_from (is_false n) ls (lit.Flag n false) other is))

  pub exact_test : (b : Bool) → b ≡ are_opposed ls cs → IsTrue b ↔ Clash ls
  exact_test b e = (λ h. opposed_clash (sym e ∙ h), λ h. e ∙ clash_opposed h)
