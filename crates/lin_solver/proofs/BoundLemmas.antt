-- Laws of the bound that is chosen.
use Rattle.std.specs.Prelude.{◌≡◌, ℕ, ◌+◌, ◌*◌, ◌≤◌, ◌<◌, ℤ, pos, negsuc, neg_ℤ, ◌+ℤ◌, ◌*ℤ◌, ◌≤ℤ◌, ◌<ℤ◌}
use Rattle.std.proofs.Common.{sym, ap, ◌∙◌, subst, arith}
use Rattle.std.proofs.Math.IntN.{*ℤ_comm}
use Rattle.std.proofs.lemmas.Int.{ints}
use borrow.Author.Differences.{up, down}
use Rattle.lin_rows.specs.Ring.{+ℤ-*ℤ, *ℤ-+ℤ, *ℤ_assoc, *ℤ-≤ℤ}
use Rattle.lin_solver.specs.WayBack.{size, IsAtMost}

-- a positive factor is taken away
pub cancel : (a b g : ℤ) → pos 0 <ℤ g → (a *ℤ g) ≤ℤ (b *ℤ g) → a ≤ℤ b
cancel a b (negsuc g) some h = absurd (omega (arith, ints))
cancel a b (pos g) some h =
    let k : (up a + down b) * g ≤ (up b + down a) * g = omega (arith, ints) in
    let l : up a + down b ≤ up b + down a = le_from (up a + down b) (up b + down a) g (omega (arith, ints)) k in
    omega (arith, ints)
  where
    le_from : (m n g : ℕ) → 0 < g → m * g ≤ n * g → m ≤ n
    le_from m n g p q = grind arith

-- an inequality, multiplied from the right
pub ≤ℤ-*ℤ : (a b k : ℤ) → pos 0 ≤ℤ k → a ≤ℤ b → (a *ℤ k) ≤ℤ (b *ℤ k)
≤ℤ-*ℤ a b k some le =
    subst (λ z. z ≤ℤ (b *ℤ k)) (*ℤ_comm k a) (subst (λ z. (k *ℤ a) ≤ℤ z) (*ℤ_comm k b) (*ℤ-≤ℤ k a b some le))

swap : (a b c : ℤ) → (a *ℤ b) *ℤ c ≡ (a *ℤ c) *ℤ b
swap a b c =
    *ℤ_assoc a b c ∙ ap (λ z. a *ℤ z) (*ℤ_comm b c) ∙ sym (*ℤ_assoc a c b)

around : (a b c : ℤ) → a *ℤ (b *ℤ c) ≡ b *ℤ (a *ℤ c)
around a b c =
    sym (*ℤ_assoc a b c) ∙ ap (λ z. z *ℤ c) (*ℤ_comm a b) ∙ *ℤ_assoc b a c

-- the bound `z / s`, which is `n / c`, meets `d x <= m` for positive `c` and `d`, where it is at most `m / d`
pub meets_above : (c d n m z s : ℤ) → pos 0 <ℤ c → pos 0 ≤ℤ s → c *ℤ z ≡ n *ℤ s → (n *ℤ d) ≤ℤ (m *ℤ c) → (d *ℤ z) ≤ℤ (m *ℤ s)
meets_above c d n m z s some positive is le =
    cancel (d *ℤ z) (m *ℤ s) c some (subst (λ x. x ≤ℤ ((m *ℤ s) *ℤ c)) (sym left) (subst (λ x. ((n *ℤ d) *ℤ s) ≤ℤ x) (swap m c s) (≤ℤ-*ℤ (n *ℤ d) (m *ℤ c) s positive le)))
  where
    left : (d *ℤ z) *ℤ c ≡ (n *ℤ d) *ℤ s
    left = *ℤ_assoc d z c ∙ ap (λ x. d *ℤ x) (*ℤ_comm z c ∙ is) ∙ around d n s ∙ sym (*ℤ_assoc n d s)

size_above : (c : ℤ) → pos 0 <ℤ c → size c ≡ c
size_above c h = omega (arith, ints)

size_below : (c : ℤ) → c <ℤ pos 0 → size c ≡ neg_ℤ c
size_below c h = omega (arith, ints)

neg_times : (a b : ℤ) → neg_ℤ a *ℤ neg_ℤ b ≡ a *ℤ b
neg_times a b =
    same (a *ℤ b) (a *ℤ neg_ℤ b) (neg_ℤ a *ℤ neg_ℤ b)
    (sym (*ℤ-+ℤ a b (neg_ℤ b)) ∙ ap (λ z. a *ℤ z) (gone b) ∙ times_none a)
    (sym (+ℤ-*ℤ a (neg_ℤ a) (neg_ℤ b)) ∙ ap (λ z. z *ℤ neg_ℤ b) (gone a) ∙ none_times (neg_ℤ b))
  where
    gone : (z : ℤ) → z +ℤ neg_ℤ z ≡ pos 0
    gone z = omega (arith, ints)

    times_none : (z : ℤ) → z *ℤ pos 0 ≡ pos 0
    times_none z = omega (arith, ints)

    none_times : (z : ℤ) → pos 0 *ℤ z ≡ pos 0
    none_times z = omega (arith, ints)

    same : (x y z : ℤ) → x +ℤ y ≡ pos 0 → y +ℤ z ≡ pos 0 → z ≡ x
    same x y z p q = omega (arith, ints)

-- the worst bound meets each row that bounds from the same side
pub meets_same_above : (c d n m z s : ℤ) → pos 0 <ℤ c → pos 0 <ℤ d → pos 0 ≤ℤ s → c *ℤ z ≡ n *ℤ s → IsAtMost n c m d → (d *ℤ z) ≤ℤ (m *ℤ s)
meets_same_above c d n m z s p q positive is le =
    meets_above c d n m z s p positive is (subst (λ x. (n *ℤ d) ≤ℤ (m *ℤ x)) (size_above c p) (subst (λ x. (n *ℤ x) ≤ℤ (m *ℤ size c)) (size_above d q) le))

pub meets_same_below : (c d n m z s : ℤ) → c <ℤ pos 0 → d <ℤ pos 0 → pos 0 ≤ℤ s → c *ℤ z ≡ n *ℤ s → IsAtMost n c m d → (d *ℤ z) ≤ℤ (m *ℤ s)
meets_same_below c d n m z s p q positive is le =
    subst (λ x. x ≤ℤ (m *ℤ s)) (neg_times d z) (meets_above (neg_ℤ c) (neg_ℤ d) n m (neg_ℤ z) s (turned c p) positive (neg_times c z ∙ is) (subst (λ x. (n *ℤ neg_ℤ d) ≤ℤ (m *ℤ x)) (size_below c p) (subst (λ x. (n *ℤ x) ≤ℤ (m *ℤ size c)) (size_below d q) le)))
  where
    turned : (c : ℤ) → c <ℤ pos 0 → pos 0 <ℤ neg_ℤ c
    turned c h = omega (arith, ints)

-- and each that bounds from the other side, where their sum is met
pub meets_other : (c d n m z s k l : ℤ) → pos 0 <ℤ l → pos 0 ≤ℤ s → k *ℤ c +ℤ l *ℤ d ≡ pos 0 → c *ℤ z ≡ n *ℤ s → pos 0 ≤ℤ (k *ℤ n +ℤ l *ℤ m) → (d *ℤ z) ≤ℤ (m *ℤ s)
meets_other c d n m z s k l some positive none is met =
    cancel (d *ℤ z) (m *ℤ s) l some (between ((k *ℤ c) *ℤ z) ((l *ℤ d) *ℤ z) ((k *ℤ n) *ℤ s) ((l *ℤ m) *ℤ s) ((d *ℤ z) *ℤ l) ((m *ℤ s) *ℤ l)
    (sym (+ℤ-*ℤ (k *ℤ c) (l *ℤ d) z) ∙ ap (λ x. x *ℤ z) none ∙ no_times z)
    (*ℤ_assoc k c z ∙ ap (λ x. k *ℤ x) is ∙ sym (*ℤ_assoc k n s))
    (subst (λ x. pos 0 ≤ℤ x) (+ℤ-*ℤ (k *ℤ n) (l *ℤ m) s) (subst (λ x. x ≤ℤ ((k *ℤ n +ℤ l *ℤ m) *ℤ s)) (no_times s) (≤ℤ-*ℤ (pos 0) (k *ℤ n +ℤ l *ℤ m) s positive met)))
    (*ℤ_comm (d *ℤ z) l ∙ sym (*ℤ_assoc l d z))
    (*ℤ_comm (m *ℤ s) l ∙ sym (*ℤ_assoc l m s)))
  where
    no_times : (x : ℤ) → pos 0 *ℤ x ≡ pos 0
    no_times x = omega (arith, ints)

    between : (kc ld kn lm dz ms : ℤ) → kc +ℤ ld ≡ pos 0 → kc ≡ kn → pos 0 ≤ℤ (kn +ℤ lm) → dz ≡ ld → ms ≡ lm → dz ≤ℤ ms
    between kc ld kn lm dz ms a b h e f = omega (arith, ints)
