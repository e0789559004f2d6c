-- The room for predicates, one by one.
use Rattle.std.specs.Prelude.{◌≡◌, ◌≤◌, ◌<◌, ◌*◌, ℕ, suc, ◌+◌, ◌^◌, List, ◌∷◌, map, length, sum}
use Rattle.std.proofs.Common.{ap, sym, arith}
use Rattle.std.proofs.Math.Nat.{pow-suc, pow-le-pow_right}
use Rattle.std.proofs.lemmas.List.Sums.{sum_by-cons}
use Rattle.py_syntax.specs.declared.Pred.{Pred}

abbrev pub room_of : ℕ → Pred → ℕ
room_of objects p = suc objects ^ length p.params

abbrev pub room_for : ℕ → List Pred → ℕ
room_for objects ps = sum (map (room_of objects) ps)

pub room_for-cons : (objects : ℕ) (p : Pred) (ps : List Pred) → room_for objects (p ∷ ps) ≡ suc objects ^ length p.params + room_for objects ps
room_for-cons objects p ps = sum_by-cons (λ (x : ℕ). x) (suc objects ^ length p.params) (map (room_of objects) ps)

-- a power is past what a product of its first factors is past
pub past_power : (b e k p : ℕ) → 0 < b → k < e → p ≡ b ^ k → 2 ^ 64 ≤ p * b → 2 ^ 64 ≤ b ^ e
past_power b e k p some less is past =
    let grows : b ^ suc k ≤ b ^ e = pow-le-pow_right some less in
    let next : b ^ suc k ≡ b ^ k * b = pow-suc b k in
    let same : b ^ k * b ≡ p * b = ap (λ x. x * b) (sym is) in
    omega (arith, grows, next, same, past)
