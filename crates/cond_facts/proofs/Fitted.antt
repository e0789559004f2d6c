-- A point where nothing is amiss fits the condition.
use Rattle.std.specs.Prelude.{◌≡◌, ℕ, zero, suc, ◌<◌, Bool, true, false, ◌&&◌, ◌⊎◌, IsTrue, List, [], ◌∷◌, map, All, Contains, Some, slice_get}
use Rattle.std.proofs.Common.{refl, ap, sym, subst, ◌∙◌, inl, inr, arith}
use Rattle.std.proofs.lemmas.List.Elements.{All-contains, All-weaker, All-contains_itself}
use Rattle.lin_rows.specs.declared.Point.{Point}
use Rattle.terms.specs.declared.Term.{Term}
use Rattle.terms.specs.declared.Literal.{Literal}
use Rattle.terms.specs.declared.Literal.TheVariants as lit
use Rattle.terms.specs.Sorts.{of_numbers}
use Rattle.terms.specs.Fitting.{Application, AppliedIn, AreCompared, sides, operands}
use Rattle.terms.specs.Meanings.{meaning_at}
use Rattle.proof_checker.specs.declared.Condition.{Condition}
use Rattle.proof_checker.specs.Conditions.{literals_of, IsSorted}
use Rattle.proof_checker.specs.Derivations.{AreNumbers}
use Rattle.proof_checker.proofs.Facts.{turned_clear}
use Rattle.cond_plan.specs.declared.Applied.{Applied}
use Rattle.cond_plan.specs.declared.Comparison.{Comparison}
use Rattle.cond_plan.specs.declared.Plan.{Plan}
use Rattle.cond_plan.specs.Applied.{application_of}
use Rattle.cond_plan.specs.Plans.{IsListed, IsPlan}
use Rattle.cond_plan.specs.PointValues.{valued_at, HoldsAtPoint, IsMet, AreApartAt, AreClearAt, of_order}
use Rattle.cond_plan.specs.Needs.{IsSettled, AreCongruentAt}
use Rattle.cond_facts.specs.Decisions.{of_comparison, IsFactOf, IsApartListed, IsFittingPoint}

pub of_all : {X : Type 0} (P : X → Type 0) (xs : List X) → ((x : X) → Contains xs x → P x) → All P xs
of_all P xs f = All-weaker (Contains xs) P f xs (All-contains_itself xs)

later : {X : Type 0} (x : X) (xs : List X) (y : X) → (i : ℕ) × (slice_get xs i ≡ Some y) → (i : ℕ) × (slice_get (x ∷ xs) i ≡ Some y)
later x xs y (i, e) = (suc i, e)

-- a member has a place
pub placed : {X : Type 0} (xs : List X) (x : X) → Contains xs x → (i : ℕ) × (slice_get xs i ≡ Some x)
placed [] x (k, l, e) = absurd (omega (arith, l))
placed (y ∷ ys) x (zero, l, e) = (zero, ap Some e)
placed (y ∷ ys) x (suc k, l, e) = later y ys x (placed ys x (k, omega (arith, l), e))

-- what stands in a place is a member
pub member_at : {X : Type 0} (xs : List X) (i : ℕ) (x : X) → slice_get xs i ≡ Some x → Contains xs x
member_at [] i x e = absurd (cc)
member_at (y ∷ ys) zero x e = (0, omega (arith), cc)
member_at (y ∷ ys) (suc i) x e = let (k, l, f) = member_at ys i x e in (suc k, omega (arith, l), f)

both_true : (a b : Bool) → IsTrue (a && b) → IsTrue a × IsTrue b
both_true true true h = (h, h)
both_true true false h = absurd (cc)
both_true false b h = absurd (cc)

pub numbers_of : (a b : Term) → IsTrue (of_numbers a && of_numbers b) → AreNumbers a b
numbers_of a b h = record { left = (both_true (of_numbers a) (of_numbers b) h).0; right = (both_true (of_numbers a) (of_numbers b) h).1 }

-- what holds of a listed comparison holds of its terms
pub listed : (P : Term → Term → Type 0) (ks : List Comparison) (a b : Term) → All (λ k. P k.left k.right) ks → IsListed ks a b → P a b
listed P ks a b all (k, there, l, r) = subst (λ z. P z b) l (subst (λ z. P k.left z) r (All-contains (λ k. P k.left k.right) ks k all there))

turned : (p : Point) (a b : Term) → AreClearAt p a b → AreClearAt p b a
turned p a b h = λ references flags. turned_clear p.q _ _ (h references flags)

apart_holds : (p : Point) (plan : Plan) (fs : List Literal) (a b : Term) → All (IsSettled p fs) plan.comparisons → Contains fs (lit.Apart a b) → IsListed plan.comparisons a b → AreApartAt p a b
apart_holds p plan fs a b settled there is =
    listed (λ x y. Contains fs (lit.Apart x y) → AreApartAt p x y) plan.comparisons a b (All-weaker (IsSettled p fs) (λ k. Contains fs (lit.Apart k.left k.right) → AreApartAt p k.left k.right) (λ k s. s.apart) plan.comparisons settled) is there

holds : (plan : Plan) (fs : List Literal) (p : Point) → All (IsApartListed plan) fs → IsMet fs p → All (IsSettled p fs) plan.comparisons → (l : Literal) → Contains fs l → IsTrue (of_comparison l) → HoldsAtPoint p l
holds plan fs p apart met settled (lit.AtMost a b) there h =
    All-contains (λ l. IsTrue (of_order l) → HoldsAtPoint p l) fs (lit.AtMost a b) met.hold there h
holds plan fs p apart met settled (lit.Same a b) there h =
    All-contains (λ l. IsTrue (of_order l) → HoldsAtPoint p l) fs (lit.Same a b) met.hold there h
holds plan fs p apart met settled (lit.Apart a b) there h =
    apart_holds p plan fs a b settled there (All-contains (IsApartListed plan) fs (lit.Apart a b) apart there a b refl (numbers_of a b h))
holds plan fs p apart met settled (lit.Flag n held) there h = absurd (cc)

clear_listed : (p : Point) (plan : Plan) (fs : List Literal) (a b : Term) → All (IsSettled p fs) plan.comparisons → IsListed plan.comparisons a b → AreClearAt p a b
clear_listed p plan fs a b settled is =
    listed (AreClearAt p) plan.comparisons a b (All-weaker (IsSettled p fs) (λ k. AreClearAt p k.left k.right) (λ k s. s.clear) plan.comparisons settled) is

-- one of two numbers is less than the other, or they are equal
ordered : (i j : ℕ) → (i < j) ⊎ ((i ≡ j) ⊎ (j < i))
ordered zero zero = inr (inl refl)
ordered zero (suc j) = inl (omega (arith))
ordered (suc i) zero = inr (inr (omega (arith)))
ordered (suc i) (suc j) = more (ordered i j)
  where
    more : {i j : ℕ} → (i < j) ⊎ ((i ≡ j) ⊎ (j < i)) → (suc i < suc j) ⊎ ((suc i ≡ suc j) ⊎ (suc j < suc i))
    more (inl l) = inl (omega (arith, l))
    more (inr (inl e)) = inr (inl (ap suc e))
    more (inr (inr l)) = inr (inr (omega (arith, l)))

same_member : {X : Type 0} (xs : List X) (i j : ℕ) (x y : X) → slice_get xs i ≡ Some x → slice_get xs j ≡ Some y → i ≡ j → x ≡ y
same_member xs i j x y e f g = let h : Some x ≡ Some y = sym e ∙ ap (slice_get xs) g ∙ f in cc

member : {X : Type 0} (xs : List X) (k : ℕ) (a b : X) → slice_get xs k ≡ Some a → slice_get xs k ≡ Some b → a ≡ b
member xs k a b e f = same_member xs k k a b e f refl

itself : (p : Point) (a b : Term) → a ≡ b → AreClearAt p a b
itself p a b e = λ references flags. inl (ap (meaning_at (valued_at p references flags)) e)

operands_clear : (c : Condition) (plan : Plan) (fs : List Literal) (p : Point) → IsPlan c plan → All (IsSettled p fs) plan.comparisons → (f g : Applied) (i j k : ℕ) (a b : Term) → slice_get plan.applications i ≡ Some f → slice_get plan.applications j ≡ Some g → f.operator ≡ g.operator → slice_get f.operands k ≡ Some a → slice_get g.operands k ≡ Some b → (i < j) ⊎ ((i ≡ j) ⊎ (j < i)) → AreClearAt p a b
operands_clear c plan fs p is settled f g i j k a b at_i at_j op ka kb (inl l) =
    clear_listed p plan fs a b settled (is.comparisons.operands i j f g k a b l at_i at_j op ka kb)
operands_clear c plan fs p is settled f g i j k a b at_i at_j op ka kb (inr (inl e)) =
    itself p a b (member g.operands k a b (subst (λ h. slice_get h.operands k ≡ Some a) (same_member plan.applications i j f g at_i at_j e) ka) kb)
operands_clear c plan fs p is settled f g i j k a b at_i at_j op ka kb (inr (inr l)) =
    turned p b a (clear_listed p plan fs b a settled (is.comparisons.operands j i g f k b a l at_j at_i (sym op) kb ka))

clear : (c : Condition) (plan : Plan) (fs : List Literal) (p : Point) → IsPlan c plan → All (IsSettled p fs) plan.comparisons → (a b : Term) → AreNumbers a b → AreCompared (literals_of c) a b → AreClearAt p a b
clear c plan fs p is settled _ _ numbers (sides l a b there e) =
    clear_listed p plan fs a b settled (is.comparisons.sides l a b there e numbers)
clear c plan fs p is settled _ _ numbers (operands f g k a b at_f at_g op ka kb) =
    placed_clear (is.applications.all f at_f) (is.applications.all g at_g)
  where
    placed_clear : (x : Applied) × Contains plan.applications x × (application_of x ≡ f) → (y : Applied) × Contains plan.applications y × (application_of y ≡ g) → AreClearAt p a b
    placed_clear (x, in_x, ex) (y, in_y, ey) =
        let at_x = placed plan.applications x in_x in
        let at_y = placed plan.applications y in_y in
        operands_clear c plan fs p is settled x y at_x.0 at_y.0 k a b at_x.1 at_y.1 (ap (λ h. h.operator) ex ∙ op ∙ sym (ap (λ h. h.operator) ey)) (ap (λ h. slice_get h.operands k) ex ∙ ka) (ap (λ h. slice_get h.operands k) ey ∙ kb) (ordered at_x.0 at_y.0)

congruent_at : (p : Point) (fs : List Applied) → AreCongruentAt p fs → (i j : ℕ) (f g : Applied) → slice_get fs i ≡ Some f → slice_get fs j ≡ Some g → f.operator ≡ g.operator → (i < j) ⊎ ((i ≡ j) ⊎ (j < i)) → (references : ℕ → ℕ) (flags : ℕ → Bool) → map (meaning_at (valued_at p references flags)) f.operands ≡ map (meaning_at (valued_at p references flags)) g.operands → meaning_at (valued_at p references flags) f.result ≡ meaning_at (valued_at p references flags) g.result
congruent_at p fs all i j f g at_i at_j op (inl l) references flags e =
    all i j f g (record { order = l; at_first = at_i; at_second = at_j; operator = op }) references flags e
congruent_at p fs all i j f g at_i at_j op (inr (inl same)) references flags e =
    ap (λ h. meaning_at (valued_at p references flags) h.result) (same_member fs i j f g at_i at_j same)
congruent_at p fs all i j f g at_i at_j op (inr (inr l)) references flags e =
    sym (all j i g f (record { order = l; at_first = at_j; at_second = at_i; operator = sym op }) references flags (sym e))

congruent : (c : Condition) (plan : Plan) (p : Point) → IsPlan c plan → AreCongruentAt p plan.applications → (f g : Application) → AppliedIn (literals_of c) f → AppliedIn (literals_of c) g → f.operator ≡ g.operator → (references : ℕ → ℕ) (flags : ℕ → Bool) → map (meaning_at (valued_at p references flags)) f.operands ≡ map (meaning_at (valued_at p references flags)) g.operands → meaning_at (valued_at p references flags) f.result ≡ meaning_at (valued_at p references flags) g.result
congruent c plan p is all f g at_f at_g op references flags e =
    of_listed (is.applications.all f at_f) (is.applications.all g at_g)
  where
    of_listed : (x : Applied) × Contains plan.applications x × (application_of x ≡ f) → (y : Applied) × Contains plan.applications y × (application_of y ≡ g) → meaning_at (valued_at p references flags) f.result ≡ meaning_at (valued_at p references flags) g.result
    of_listed (x, in_x, ex) (y, in_y, ey) =
        let at_x = placed plan.applications x in_x in
        let at_y = placed plan.applications y in_y in
        let m = meaning_at (valued_at p references flags) in
        sym (ap (λ h. m h.result) ex) ∙ congruent_at p plan.applications all at_x.0 at_y.0 x y at_x.1 at_y.1 (ap (λ h. h.operator) ex ∙ op ∙ sym (ap (λ h. h.operator) ey)) (ordered at_x.0 at_y.0) references flags (ap (λ h. map m h.operands) ex ∙ e ∙ sym (ap (λ h. map m h.operands) ey)) ∙ ap (λ h. m h.result) ey

-- at a point where the comparisons are settled and the applications congruent, the condition is fitted
pub fitted : (c : Condition) (plan : Plan) (fs : List Literal) (p : Point) → IsSorted c → IsPlan c plan → All (IsFactOf c) fs → All (IsApartListed plan) fs → IsMet fs p → All (IsSettled p fs) plan.comparisons → AreCongruentAt p plan.applications → IsFittingPoint c fs p
fitted c plan fs p is_sorted is facts apart met settled all = record {
  unit = met.unit;
  hold = of_all (λ l. IsTrue (of_comparison l) → HoldsAtPoint p l) fs (holds plan fs p apart met settled);
  clear = clear c plan fs p is settled;
  congruent = congruent c plan p is all;
}
