-- Laws of the worst row.
use Rattle.std.specs.Prelude.{◌≡◌, ◌≢◌, ℕ, zero, suc, ◌+◌, ◌<◌, ℤ, pos, negsuc, ◌*ℤ◌, ◌≤ℤ◌, ◌<ℤ◌, List, [], ◌∷◌, ◌⊎◌, Option, Some, None, IfSome, IfNone, slice_get, length, take, get_or, Contains, refl}
use Rattle.std.proofs.Common.{sym, ap, ◌∙◌, subst, arith, inl, inr}
use Rattle.std.proofs.Math.IntN.{*ℤ_comm}
use Rattle.std.proofs.lemmas.Int.{ints}
use Rattle.std.proofs.lemmas.List.{take_more}
use Rattle.std.proofs.lemmas.List.Elements.{All-weaker, All-more, All-take, All-contains, Contains-push, Contains-append_left}
use Rattle.lin_rows.specs.declared.row.Row.{Row}
use Rattle.lin_rows.specs.declared.step.ComboStep.{ComboStep}
use Rattle.lin_rows.specs.declared.point.Point.{Point}
use Rattle.lin_rows.specs.Terms.{coef_at}
use Rattle.lin_rows.specs.Ring.{*ℤ_assoc}
use Rattle.lin_solver.specs.Numbers.{numbered, HasRow, HaveRows, Bounds}
use Rattle.lin_solver.specs.declared.worst.Violation.{Violation}
use Rattle.lin_solver.specs.WayBack.{room, size, IsAtMost, IsWorst}
use Rattle.lin_solver.proofs.NumberLemmas.{one_row, has_weaker}
use Rattle.lin_solver.proofs.BoundLemmas.{cancel, ≤ℤ-*ℤ}

size_not_negative : (c : ℤ) → pos 0 ≤ℤ size c
size_not_negative c = omega (arith, ints)

size_positive : (c : ℤ) → c ≢ pos 0 → pos 0 <ℤ size c
size_positive (pos zero) some = absurd (some refl)
size_positive (pos (suc n)) some = omega (arith, ints)
size_positive (negsuc n) some = omega (arith, ints)

-- a negative bound is at most one that isn't negative
at_most_none : (n c m d : ℤ) → n <ℤ pos 0 → pos 0 ≤ℤ m → IsAtMost n c m d
at_most_none n c m d less some =
    between (n *ℤ size d) (m *ℤ size c) (subst (λ z. (n *ℤ size d) ≤ℤ z) (none (size d)) (≤ℤ-*ℤ n (pos 0) (size d) (size_not_negative d) (weaker n less))) (subst (λ z. z ≤ℤ (m *ℤ size c)) (none (size c)) (≤ℤ-*ℤ (pos 0) m (size c) (size_not_negative c) some))
  where
    none : (z : ℤ) → pos 0 *ℤ z ≡ pos 0
    none z = omega (arith, ints)

    weaker : (n : ℤ) → n <ℤ pos 0 → n ≤ℤ pos 0
    weaker n h = omega (arith, ints)

    between : (a b : ℤ) → a ≤ℤ pos 0 → pos 0 ≤ℤ b → a ≤ℤ b
    between a b p q = omega (arith, ints)

at_most_same : (n c : ℤ) → IsAtMost n c n c
at_most_same n c = same (n *ℤ size c)
  where
    same : (z : ℤ) → z ≤ℤ z
    same z = omega (arith, ints)

swap : (a b c : ℤ) → (a *ℤ b) *ℤ c ≡ (a *ℤ c) *ℤ b
swap a b c =
    *ℤ_assoc a b c ∙ ap (λ z. a *ℤ z) (*ℤ_comm b c) ∙ sym (*ℤ_assoc a c b)

at_most_trans : (n c m d k e : ℤ) → d ≢ pos 0 → IsAtMost n c m d → IsAtMost m d k e → IsAtMost n c k e
at_most_trans n c m d k e some p q =
    cancel (n *ℤ size e) (k *ℤ size c) (size d) (size_positive d some) (trans ((n *ℤ size e) *ℤ size d) ((m *ℤ size c) *ℤ size e) ((k *ℤ size c) *ℤ size d)
    (subst (λ z. z ≤ℤ ((m *ℤ size c) *ℤ size e)) (swap n (size d) (size e)) (≤ℤ-*ℤ (n *ℤ size d) (m *ℤ size c) (size e) (size_not_negative e) p))
    (subst (λ z. z ≤ℤ ((k *ℤ size c) *ℤ size d)) (swap m (size e) (size c)) (subst (λ z. ((m *ℤ size e) *ℤ size c) ≤ℤ z) (swap k (size d) (size c)) (≤ℤ-*ℤ (m *ℤ size e) (k *ℤ size d) (size c) (size_not_negative c) q))))
  where
    trans : (a b c : ℤ) → a ≤ℤ b → b ≤ℤ c → a ≤ℤ c
    trans a b c p q = omega (arith, ints)

-- one number more is among those taken
among_more : (xs : List ℕ) (k i : ℕ) → k < length xs → Contains (take k xs) i → Contains (take (k + 1) xs) i
among_more xs k i lt h =
    subst (λ ys. Contains ys i) (sym (take_more xs k 0 lt)) (Contains-append_left (take k xs) (get_or xs k 0 ∷ []) i h)

among_last : (xs : List ℕ) (k : ℕ) → k < length xs → Contains (take (k + 1) xs) (get_or xs k 0)
among_last xs k lt =
    subst (λ ys. Contains ys (get_or xs k 0)) (sym (take_more xs k 0 lt)) (Contains-push (take k xs) (get_or xs k 0))

-- the coefficient of the worst row isn't 0
pub some_coef : (rows : List Row) (steps : List ComboStep) (p : Point) (v : ℕ) (numbers : List ℕ) (k : ℕ) (w : Violation) → HaveRows rows steps (Bounds rows v) numbers → IsWorst rows steps p v (take k numbers) w → w.coef ≢ pos 0
some_coef rows steps p v numbers k w bounds is none =
    let (r, at, (coef, left)) = is.row in
    let (derived, some) = one_row rows steps (Bounds rows v) w.number r at (All-contains (HasRow rows steps (Bounds rows v)) (take k numbers) w.number (All-take (HasRow rows steps (Bounds rows v)) k numbers bounds) is.among) in
    some (sym coef ∙ none)

-- a row that isn't violated changes nothing
pub worst_kept : (rows : List Row) (steps : List ComboStep) (p : Point) (v : ℕ) (numbers : List ℕ) (k : ℕ) (o : Option Violation) (r : Row) → k < length numbers → slice_get (numbered rows steps) (get_or numbers k 0) ≡ Some (Some r) → pos 0 ≤ℤ room p r v → IfSome o (IsWorst rows steps p v (take k numbers)) → IfSome o (IsWorst rows steps p v (take (k + 1) numbers))
worst_kept rows steps p v numbers k None r lt at met is = tt
worst_kept rows steps p v numbers k (Some w) r lt at met is = record {
  among = among_more numbers k w.number lt is.among;
  row = is.row;
  violated = is.violated;
  worst = All-more (HasRow rows steps (λ s. IsAtMost w.room w.coef (room p s v) (coef_at s.coefs v))) numbers k 0 lt is.worst (r, at, at_most_none w.room w.coef (room p r v) (coef_at r.coefs v) is.violated met);
}

pub met_more : (rows : List Row) (steps : List ComboStep) (p : Point) (v : ℕ) (numbers : List ℕ) (k : ℕ) (o : Option Violation) (r : Row) → k < length numbers → slice_get (numbered rows steps) (get_or numbers k 0) ≡ Some (Some r) → pos 0 ≤ℤ room p r v → IfNone o (HaveRows rows steps (λ s. pos 0 ≤ℤ room p s v) (take k numbers)) → IfNone o (HaveRows rows steps (λ s. pos 0 ≤ℤ room p s v) (take (k + 1) numbers))
met_more rows steps p v numbers k (Some w) r lt at met h = tt
met_more rows steps p v numbers k None r lt at met h =
    All-more (HasRow rows steps (λ s. pos 0 ≤ℤ room p s v)) numbers k 0 lt h (r, at, met)

-- the worse of the worst so far and of one more
pub worst_more : (rows : List Row) (steps : List ComboStep) (p : Point) (v : ℕ) (numbers : List ℕ) (k : ℕ) (o : Option Violation) (b w : Violation) (r : Row) → k < length numbers → slice_get (numbered rows steps) (get_or numbers k 0) ≡ Some (Some r) → HaveRows rows steps (Bounds rows v) numbers → b.number ≡ get_or numbers k 0 → b.coef ≡ coef_at r.coefs v → b.room ≡ room p r v → b.room <ℤ pos 0 →
    (w ≡ b) ⊎ (o ≡ Some w) → IsAtMost w.room w.coef b.room b.coef → IfSome o (λ a. IsAtMost w.room w.coef a.room a.coef) → IfSome o (IsWorst rows steps p v (take k numbers)) → IfNone o (HaveRows rows steps (λ s. pos 0 ≤ℤ room p s v) (take k numbers)) → IsWorst rows steps p v (take (k + 1) numbers) w
worst_more rows steps p v numbers k o b w r lt at bounds number coef left violated either new old is met = record {
  among = either_among either;
  row = either_row either;
  violated = either_violated either;
  worst = All-more (HasRow rows steps (λ s. IsAtMost w.room w.coef (room p s v) (coef_at s.coefs v))) numbers k 0 lt (before o either old is met)
      (r, at, subst (λ z. IsAtMost w.room w.coef (room p r v) z) coef (subst (λ z. IsAtMost w.room w.coef z b.coef) left new));
}
  where
    known : (o : Option Violation) → o ≡ Some w → IfSome o (IsWorst rows steps p v (take k numbers)) → IsWorst rows steps p v (take k numbers) w
    known None e is = absurd (cc)
    known (Some a) e is = let same : a ≡ w = cc in subst (IsWorst rows steps p v (take k numbers)) same is

    either_among : (w ≡ b) ⊎ (o ≡ Some w) → Contains (take (k + 1) numbers) w.number
    either_among (inl e) = subst (Contains (take (k + 1) numbers)) (sym number ∙ ap (λ (a : Violation). a.number) (sym e)) (among_last numbers k lt)
    either_among (inr e) = among_more numbers k w.number lt (known o e is).among

    either_row : (w ≡ b) ⊎ (o ≡ Some w) → HasRow rows steps (λ s. (w.coef ≡ coef_at s.coefs v) × (w.room ≡ room p s v)) w.number
    either_row (inl e) = (r, subst (λ i. slice_get (numbered rows steps) i ≡ Some (Some r)) (sym number ∙ ap (λ (a : Violation). a.number) (sym e)) at, (ap (λ (a : Violation). a.coef) e ∙ coef, ap (λ (a : Violation). a.room) e ∙ left))
    either_row (inr e) = (known o e is).row

    either_violated : (w ≡ b) ⊎ (o ≡ Some w) → w.room <ℤ pos 0
    either_violated (inl e) = subst (λ z. z <ℤ pos 0) (ap (λ (a : Violation). a.room) (sym e)) violated
    either_violated (inr e) = (known o e is).violated

    before : (o : Option Violation) → (w ≡ b) ⊎ (o ≡ Some w) → IfSome o (λ a. IsAtMost w.room w.coef a.room a.coef) → IfSome o (IsWorst rows steps p v (take k numbers)) → IfNone o (HaveRows rows steps (λ s. pos 0 ≤ℤ room p s v) (take k numbers)) → HaveRows rows steps (λ s. IsAtMost w.room w.coef (room p s v) (coef_at s.coefs v)) (take k numbers)
    before None (inr e) old is met = absurd (cc)
    before None (inl e) old is met =
        let less = subst (λ z. z <ℤ pos 0) (ap (λ (a : Violation). a.room) (sym e)) violated in
        All-weaker (HasRow rows steps (λ s. pos 0 ≤ℤ room p s v)) (HasRow rows steps (λ s. IsAtMost w.room w.coef (room p s v) (coef_at s.coefs v)))
        (λ i. has_weaker rows steps (λ s. pos 0 ≤ℤ room p s v) (λ s. IsAtMost w.room w.coef (room p s v) (coef_at s.coefs v)) i (λ s h. at_most_none w.room w.coef (room p s v) (coef_at s.coefs v) less h)) (take k numbers) met
    before (Some a) either old is met =
        let some = some_coef rows steps p v numbers k a bounds is in
        All-weaker (HasRow rows steps (λ s. IsAtMost a.room a.coef (room p s v) (coef_at s.coefs v))) (HasRow rows steps (λ s. IsAtMost w.room w.coef (room p s v) (coef_at s.coefs v)))
        (λ i. has_weaker rows steps (λ s. IsAtMost a.room a.coef (room p s v) (coef_at s.coefs v)) (λ s. IsAtMost w.room w.coef (room p s v) (coef_at s.coefs v)) i (λ s h. at_most_trans w.room w.coef a.room a.coef (room p s v) (coef_at s.coefs v) some old h)) (take k numbers) is.worst

-- what the comparison asks of the worst so far
pub worst_ready : (rows : List Row) (steps : List ComboStep) (p : Point) (v : ℕ) (numbers : List ℕ) (k : ℕ) (o : Option Violation) → HaveRows rows steps (Bounds rows v) numbers → IfSome o (IsWorst rows steps p v (take k numbers)) → IfSome o (λ w. (w.coef ≢ pos 0) × (w.room <ℤ pos 0))
worst_ready rows steps p v numbers k None bounds is = tt
worst_ready rows steps p v numbers k (Some w) bounds is = (some_coef rows steps p v numbers k w bounds is, is.violated)
