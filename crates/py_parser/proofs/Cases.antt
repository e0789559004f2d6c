-- Numbers and places by cases.
use Rattle.std.proofs.Common.{ℕ, ◌≤◌, ◌<◌, ◌≡◌, ap, ap₂, ◌⊎◌, inl, inr}
use Rattle.std.proofs.lemmas.Bool.Decides.{leb_tells, eqb_tells}
use Rattle.py_base.specs.declared.Place.{Place}

pub within_or_over : (n limit : ℕ) → (n ≤ limit) ⊎ (limit < n)
within_or_over n limit = elim (leb_tells n limit) [ inl h ↦ inl h.1 | inr h ↦ inr h.1 ]

same_or_not : (a b : ℕ) → (a ≡ b) ⊎ (a ≡ b → ⊥)
same_or_not a b = elim (eqb_tells a b) [ inl h ↦ inl h.1 | inr h ↦ inr h.1 ]

pub one_place_or_two : (p q : Place) → (p ≡ q) ⊎ (p ≡ q → ⊥)
one_place_or_two p q = by (same_or_not p.line q.line) (same_or_not p.col q.col)
  where
    by : (p.line ≡ q.line) ⊎ (p.line ≡ q.line → ⊥) → (p.col ≡ q.col) ⊎ (p.col ≡ q.col → ⊥) → (p ≡ q) ⊎ (p ≡ q → ⊥)
    by (inl e) (inl f) = inl (ap₂ (λ (l c : ℕ). record { line = l; col = c }) e f)
    by (inr n) d = inr (λ e. n (ap (λ (x : Place). x.line) e))
    by (inl e) (inr n) = inr (λ f. n (ap (λ (x : Place). x.col) f))
