-- What follows from literals that hold.
use Rattle.std.specs.Prelude.{◌≡◌, ℕ, zero, suc, Bool, true, false, not, ℤ, pos, ◌*ℤ◌, ◌≤ℤ◌, List, [], ◌∷◌, ◌++◌, All, Some, slice_get}
use Rattle.std.proofs.Common.{refl, sym, subst, ◌∙◌, inl, inr, arith}
use Rattle.std.proofs.lemmas.Int.{ints}
use Rattle.std.proofs.lemmas.List.Elements.{All-nil, All-cons, All-head, All-tail, All-append, All-contains}
use Rattle.terms.specs.declared.Term.{Term}
use Rattle.terms.specs.declared.Literal.{Literal}
use Rattle.terms.specs.declared.Literal.TheVariants as lit
use Rattle.terms.specs.Meanings.{Valued, Meaning, Number, Reference, sum_of, meaning_at, IsAtMost, AreApart, AreClear, Holds}
use Rattle.proof_checker.specs.Conditions.{opposite, plain, plain_literal}
use Rattle.proof_checker.specs.Replacing.{put, put_in}
use Rattle.proof_checker.specs.Derivations.{turned, Assumed, IsOpposite, IsFalse, apart_itself, same_numbers}
use Rattle.proof_checker.proofs.Meant.{meant-one, meant-plain, meant-RefLit}
use Rattle.proof_checker.proofs.Putting.{put_means}

-- a relation carried along two equations
pub along : (R : Meaning → Meaning → Type 0) (p q r s : Meaning) → p ≡ q → r ≡ s → R p r → R q s
along R p q r s e f h = subst (λ z. R q z) f (subst (λ z. R z r) e h)

pub holds_at : {X : Type 0} (P : X → Type 0) (xs : List X) (i : ℕ) (x : X) → All P xs → slice_get xs i ≡ Some x → P x
holds_at P [] i x all e = absurd (cc)
holds_at P (y ∷ xs) zero x all e = let same : y ≡ x = cc in subst P same (All-head P y xs all)
holds_at P (y ∷ xs) (suc i) x all e = holds_at P xs i x (All-tail P y xs all) e

pub one_more : {X : Type 0} (P : X → Type 0) (xs : List X) (x : X) → All P xs → P x → All P (xs ++ x ∷ [])
one_more P xs x all h = All-append P xs (x ∷ []) all (All-cons P x [] h (All-nil P))

pub turned_apart : (unit : ℤ) (p q : Meaning) → AreApart unit p q → AreApart unit q p
turned_apart unit (Number x) (Number y) (inl h) = inr h
turned_apart unit (Number x) (Number y) (inr h) = inl h
turned_apart unit (Number x) (Reference n) h = λ e. h (sym e)
turned_apart unit (Reference n) (Number x) h = λ e. h (sym e)
turned_apart unit (Reference n) (Reference k) h = λ e. h (sym e)

pub turned_clear : (unit : ℤ) (p q : Meaning) → AreClear unit p q → AreClear unit q p
turned_clear unit p q (inl e) = inl (sym e)
turned_clear unit p q (inr h) = inr (turned_apart unit p q h)

-- nothing is apart from itself
pub not_apart : (unit : ℤ) (p q : Meaning) → pos 1 ≤ℤ unit → p ≡ q → AreApart unit p q → ⊥
not_apart unit p q one e h = itself p (subst (λ z. AreApart unit p z) (sym e) h)
  where
    itself : (p : Meaning) → AreApart unit p p → ⊥
    itself (Number x) (inl h) = absurd (omega (arith, ints))
    itself (Number x) (inr h) = absurd (omega (arith, ints))
    itself (Reference n) h = h refl

pub holds-plain : (m : Valued) (l : Literal) → Holds m l → Holds m (plain_literal l)
holds-plain m (lit.AtMost a b) h =
    along IsAtMost (meaning_at m a) (meaning_at m (plain a)) (meaning_at m b) (meaning_at m (plain b)) (sym (meant-plain m a)) (sym (meant-plain m b)) h
holds-plain m (lit.Same a b) h = meant-plain m a ∙ h ∙ sym (meant-plain m b)
holds-plain m (lit.Apart a b) h =
    along (AreApart m.unit) (meaning_at m a) (meaning_at m (plain a)) (meaning_at m b) (meaning_at m (plain b)) (sym (meant-plain m a)) (sym (meant-plain m b)) h
holds-plain m (lit.Flag n held) h = h

plain_holds : (m : Valued) (l : Literal) → Holds m (plain_literal l) → Holds m l
plain_holds m (lit.AtMost a b) h =
    along IsAtMost (meaning_at m (plain a)) (meaning_at m a) (meaning_at m (plain b)) (meaning_at m b) (meant-plain m a) (meant-plain m b) h
plain_holds m (lit.Same a b) h = sym (meant-plain m a) ∙ h ∙ meant-plain m b
plain_holds m (lit.Apart a b) h =
    along (AreApart m.unit) (meaning_at m (plain a)) (meaning_at m a) (meaning_at m (plain b)) (meaning_at m b) (meant-plain m a) (meant-plain m b) h
plain_holds m (lit.Flag n held) h = h

turned_holds : (m : Valued) (l : Literal) → Holds m (turned l) → Holds m l
turned_holds m (lit.AtMost a b) h = h
turned_holds m (lit.Same a b) h = sym h
turned_holds m (lit.Apart a b) h = turned_apart m.unit (meaning_at m b) (meaning_at m a) h
turned_holds m (lit.Flag n held) h = h

pub assumed_holds : (m : Valued) (fs : List Literal) (l : Literal) → All (Holds m) fs → Assumed fs l → Holds m l
assumed_holds m fs l all (inl there) = plain_holds m l (All-contains (Holds m) fs (plain_literal l) all there)
assumed_holds m fs l all (inr there) =
    turned_holds m l (plain_holds m (turned l) (All-contains (Holds m) fs (plain_literal (turned l)) all there))

pub holds-put : (m : Valued) (from to : Term) (l : Literal) → meaning_at m from ≡ meaning_at m to → Holds m l → Holds m (put_in from to l)
holds-put m from to (lit.AtMost a b) e h =
    along IsAtMost (meaning_at m a) (meaning_at m (put from to a)) (meaning_at m b) (meaning_at m (put from to b)) (sym (put_means m from to e a)) (sym (put_means m from to e b)) h
holds-put m from to (lit.Same a b) e h = put_means m from to e a ∙ h ∙ sym (put_means m from to e b)
holds-put m from to (lit.Apart a b) e h =
    along (AreApart m.unit) (meaning_at m a) (meaning_at m (put from to a)) (meaning_at m b) (meaning_at m (put from to b)) (sym (put_means m from to e a)) (sym (put_means m from to e b)) h
holds-put m from to (lit.Flag n held) e h = h

no_order : (unit : ℤ) (p q : Meaning) → pos 1 ≤ℤ unit → IsAtMost p q → IsAtMost (sum_of q (Number (pos 1 *ℤ unit))) p → ⊥
no_order unit (Number x) (Number y) one h k = absurd (omega (arith, ints))
no_order unit (Number x) (Reference n) one h k = absurd h
no_order unit (Reference n) (Number x) one h k = absurd h
no_order unit (Reference n) (Reference i) one h k = absurd h

no_flag : (b held : Bool) → b ≡ held → b ≡ not held → ⊥
no_flag b true e f = absurd (cc)
no_flag b false e f = absurd (cc)

-- a literal and its opposite don't both hold
opposed : (m : Valued) (l : Literal) → pos 1 ≤ℤ m.unit → Holds m l → Holds m (opposite l) → ⊥
opposed m (lit.AtMost a b) one h k =
    no_order m.unit (meaning_at m a) (meaning_at m b) one h (subst (λ p. IsAtMost p (meaning_at m a)) (meant-one m b) k)
opposed m (lit.Same a b) one h k = not_apart m.unit (meaning_at m a) (meaning_at m b) one h k
opposed m (lit.Apart a b) one h k = not_apart m.unit (meaning_at m a) (meaning_at m b) one k h
opposed m (lit.Flag n held) one h k = no_flag (m.flags n) held h k

pub opposites_clash : (m : Valued) (l k : Literal) → pos 1 ≤ℤ m.unit → IsOpposite l k → Holds m l → Holds m k → ⊥
opposites_clash m l k one (inl e) h j = opposed m l one h (subst (Holds m) e j)
opposites_clash m l k one (inr e) h j = opposed m l one h (turned_holds m (opposite l) (subst (Holds m) e j))

pub false_fails : (m : Valued) (l : Literal) → pos 1 ≤ℤ m.unit → IsFalse l → Holds m l → ⊥
false_fails m _ one (apart_itself a) h = not_apart m.unit (meaning_at m a) (meaning_at m a) one refl h
false_fails m _ one (same_numbers i j other) h =
    let e : Reference i ≡ Reference j = sym (meant-RefLit m i) ∙ h ∙ meant-RefLit m j in
    other (cc)
