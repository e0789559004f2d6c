-- Laws of numbers of a point that are outside 128 bits.
use Rattle.std.specs.Prelude.{◌≡◌, ℕ, zero, suc, ◌*◌, ◌≤◌, ◌<◌, ℤ, pos, negsuc, ◌*ℤ◌, ◌≤ℤ◌, FitsSigned, List, [], ◌∷◌, length, get_or, Any, refl}
use Rattle.std.specs.Int.{w128}
use Rattle.std.proofs.Common.{arith, inl, inr}
use Rattle.std.proofs.lemmas.Int.{ints}
use Rattle.std.proofs.lemmas.List.Elements.{Contains-append_left}
use Rattle.std.proofs.lemmas.List.Quantifiers.{Any-push}
use Rattle.lin_rows.specs.declared.point.Point.{Point}
use Rattle.lin_rows.specs.WidePoints.{IsWide, HasWideNumber}
use Rattle.lin_solver.specs.WayBack.{scaled, extension}

-- a value that is too wide in the finer unit
get_scaled : (ts : List (ℕ × ℤ)) (s : ℤ) (i : ℕ) (d e : ℕ × ℤ) → i < length ts → get_or (scaled s ts) i e ≡ ((get_or ts i d).0, (get_or ts i d).1 *ℤ s)
get_scaled [] s i d e lt = absurd (omega arith)
get_scaled (t ∷ ts) s zero d e lt = refl
get_scaled (t ∷ ts) s (suc i) d e lt = get_scaled ts s i d e (omega arith)

scaled_within : (ts : List (ℕ × ℤ)) (s : ℤ) (i : ℕ) → i < length ts → i < length (scaled s ts)
scaled_within [] s i lt = absurd (omega arith)
scaled_within (t ∷ ts) s zero lt = omega arith
scaled_within (t ∷ ts) s (suc i) lt = let lt' = scaled_within ts s i (omega arith) in omega arith

pub wide_scaled : (ts : List (ℕ × ℤ)) (s : ℤ) (i : ℕ) (d : ℕ × ℤ) → i < length ts → IsWide ((get_or ts i d).1 *ℤ s) → Any (λ t. IsWide t.1) (scaled s ts)
wide_scaled ts s i d lt wide =
    let t : ℕ × ℤ = ((get_or ts i d).0, (get_or ts i d).1 *ℤ s) in
    (i, t, scaled_within ts s i lt, get_scaled ts s i d t lt, wide)

-- the unit, one of the values, or the new value is too wide
pub wide_unit : (p : Point) (s z : ℤ) (v : ℕ) → IsWide (p.q *ℤ s) → HasWideNumber (extension p s v z)
wide_unit p s z v wide = inl wide

pub wide_value : (p : Point) (s z : ℤ) (v : ℕ) → IsWide z → HasWideNumber (extension p s v z)
wide_value p s z v wide = inr (Any-push (λ t. IsWide t.1) (scaled s p.values) (v, z) wide)

pub wide_values : (p : Point) (s z : ℤ) (v : ℕ) → Any (λ t. IsWide t.1) (scaled s p.values) → HasWideNumber (extension p s v z)
wide_values p s z v (k, t, lt, e, wide) =
    let (k', lt', e') = Contains-append_left (scaled s p.values) ((v, z) ∷ []) t (k, lt, e) in
    inr (k', t, lt', e', wide)

-- a unit by a scale that is too wide
pub wide_scale : (p : Point) (n : ℕ) (z : ℤ) (v : ℕ) → pos 1 ≤ℤ p.q → ¬ (FitsSigned w128 (pos n)) → HasWideNumber (extension p (pos n) v z)
wide_scale p n z v some wide = wide_unit p (pos n) z v (λ fits. wide (smaller p.q n some fits))
  where
    at_least : (m n : ℕ) → 0 < m → n ≤ m * n
    at_least m n h = grind arith

    smaller : (q : ℤ) (n : ℕ) → pos 1 ≤ℤ q → FitsSigned w128 (q *ℤ pos n) → FitsSigned w128 (pos n)
    smaller (pos m) n some fits = let le = at_least m n (omega (arith, ints)) in omega (arith, ints)
    smaller (negsuc m) n some fits = absurd (omega (arith, ints))
