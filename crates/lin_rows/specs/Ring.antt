-- Laws of the whole numbers that std lacks. An integer z is read as `up z - down z`.
use Rattle.std.specs.Prelude.{◌≡◌, ℕ, ◌+◌, ◌*◌, ◌<◌, ◌≤◌, pos, negsuc, ℤ, ◌+ℤ◌, ◌-ℤ◌, ◌*ℤ◌, ◌<ℤ◌, ◌≤ℤ◌}
use Rattle.std.proofs.Common.{sym, ap, ◌∙◌, arith}
use Rattle.std.proofs.lemmas.Int.{ints}
use borrow.Author.Differences.{up, down, product_is, sum_is_lem}

-- an equation of naturals, multiplied by a natural
times : (a b n : ℕ) → a ≡ b → a * n ≡ b * n
times a b n e = ap (λ (m : ℕ). m * n) e

pub +ℤ-*ℤ : (a b c : ℤ) → (a +ℤ b) *ℤ c ≡ a *ℤ c +ℤ b *ℤ c
+ℤ-*ℤ a b c =
    omega (arith, ints, times _ _ (up c) (sum_is_lem a b), times _ _ (down c) (sum_is_lem a b))

pub *ℤ_assoc : (a b c : ℤ) → (a *ℤ b) *ℤ c ≡ a *ℤ (b *ℤ c)
*ℤ_assoc a b c =
    omega (arith, ints, times _ _ (up c) (product_is a b).0, times _ _ (down c) (product_is a b).0, times _ _ (up c) (product_is a b).1, times _ _ (down c) (product_is a b).1, times _ _ (up a) (product_is b c).0, times _ _ (down a) (product_is b c).0, times _ _ (up a) (product_is b c).1, times _ _ (down a) (product_is b c).1)

pub *ℤ-+ℤ : (a b c : ℤ) → a *ℤ (b +ℤ c) ≡ a *ℤ b +ℤ a *ℤ c
*ℤ-+ℤ a b c =
    omega (arith, ints, times _ _ (up a) (sum_is_lem b c), times _ _ (down a) (sum_is_lem b c))

pub -ℤ-*ℤ : (a b c : ℤ) → (a -ℤ b) *ℤ c ≡ a *ℤ c -ℤ b *ℤ c
-ℤ-*ℤ a b c =
    less (a *ℤ c) (b *ℤ c) ((a -ℤ b) *ℤ c) (sym (+ℤ-*ℤ (a -ℤ b) b c) ∙ ap (λ z. z *ℤ c) (back a b))
  where
    less : (x y z : ℤ) → z +ℤ y ≡ x → z ≡ x -ℤ y
    less x y z e = omega (arith, ints)

    back : (a b : ℤ) → a -ℤ b +ℤ b ≡ a
    back a b = omega (arith, ints)

-- two multiplied sums, added term by term
pub regroup : (k l a b s t : ℤ) → (k *ℤ a +ℤ l *ℤ b) +ℤ (k *ℤ s +ℤ l *ℤ t) ≡ k *ℤ (a +ℤ s) +ℤ l *ℤ (b +ℤ t)
regroup k l a b s t = omega (arith, ints, *ℤ-+ℤ k a s, *ℤ-+ℤ l b t)

-- a sum of two products, multiplied
pub spread : (k l a b y : ℤ) → (k *ℤ a +ℤ l *ℤ b) *ℤ y ≡ k *ℤ (a *ℤ y) +ℤ l *ℤ (b *ℤ y)
spread k l a b y =
    +ℤ-*ℤ (k *ℤ a) (l *ℤ b) y ∙ ap (λ z. z +ℤ (l *ℤ b) *ℤ y) (*ℤ_assoc k a y) ∙ ap (λ z. k *ℤ (a *ℤ y) +ℤ z) (*ℤ_assoc l b y)

le_times : (a b n : ℕ) → a ≤ b → a * n ≤ b * n
le_times a b n h = grind arith

-- an inequality, multiplied by a number that isn't negative
pub *ℤ-≤ℤ : (k a b : ℤ) → pos 0 ≤ℤ k → a ≤ℤ b → (k *ℤ a) ≤ℤ (k *ℤ b)
*ℤ-≤ℤ (pos n) a b h e =
    let p : up a + down b ≤ up b + down a = omega (arith, ints) in
    omega (arith, ints, le_times _ _ n p)
*ℤ-≤ℤ (negsuc n) a b h e = absurd (omega (arith, ints))

pub +ℤ-≤ℤ : (a b c d : ℤ) → a ≤ℤ b → c ≤ℤ d → (a +ℤ c) ≤ℤ (b +ℤ d)
+ℤ-≤ℤ a b c d p q = omega (arith, ints)

pub +ℤ-none : (a b : ℤ) → b ≡ pos 0 → a +ℤ b ≡ a
+ℤ-none a b e = omega (arith, ints)

pub none-+ℤ : (a b : ℤ) → a ≡ pos 0 → a +ℤ b ≡ b
none-+ℤ a b e = omega (arith, ints)

-- a sum of two multiples of 0
pub mixed-zeros : (k l : ℤ) → k *ℤ pos 0 +ℤ l *ℤ pos 0 ≡ pos 0
mixed-zeros k l = omega (arith, ints)

pub mixed-none : (k l a b : ℤ) → a ≡ pos 0 → b ≡ pos 0 → k *ℤ a +ℤ l *ℤ b ≡ pos 0
mixed-none k l a b p q =
    ap (λ z. k *ℤ z +ℤ l *ℤ b) p ∙ ap (λ z. k *ℤ pos 0 +ℤ l *ℤ z) q ∙ mixed-zeros k l

pub ≤ℤ-from_<ℤ : (z : ℤ) → pos 0 <ℤ z → pos 0 ≤ℤ z
≤ℤ-from_<ℤ z h = omega (arith, ints)

-- naturals are equal where their multiples are
pub *-cancel : (a b c : ℕ) → 0 < c → a * c ≡ b * c → a ≡ b
*-cancel a b c p h = grind arith
