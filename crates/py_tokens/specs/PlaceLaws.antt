-- The order of places, and the place behind some characters.
use Rattle.std.proofs.Common.{ℕ, ◌≡◌, ◌+◌, ◌<◌, ◌==◌, ◌⊎◌, inl, inr, Bool, true, false, cond, arith, refl, List, [], ◌∷◌, ◌++◌}
use Rattle.py_base.specs.declared.Place.{Place}
use Rattle.py_tokens.specs.PlacedText.{after, after_one}

-- Places are ordered by line and then by column.
abbrev pub Precedes : Place → Place → Type 0
Precedes p q = (p.line < q.line) ⊎ ((p.line ≡ q.line) × (p.col < q.col))

pub precedes_trans : (p q r : Place) → Precedes p q → Precedes q r → Precedes p r
precedes_trans p q r (inl h) (inl i) = inl (omega (arith, h, i))
precedes_trans p q r (inl h) (inr i) = inl (omega (arith, h, i.0))
precedes_trans p q r (inr h) (inl i) = inl (omega (arith, h.0, i))
precedes_trans p q r (inr h) (inr i) = inr (omega (arith, h.0, i.0), omega (arith, h.1, i.1))

pub precedes_irrefl : (p : Place) → Precedes p p → ⊥
precedes_irrefl p (inl h) = omega (arith, h)
precedes_irrefl p (inr h) = omega (arith, h.1)

one_step : (p : Place) (b : Bool) → Precedes p (cond b (record { line = p.line + 1; col = 1 }) (record { line = p.line; col = p.col + 1 }))
one_step p true = inl (omega arith)
one_step p false = inr (refl, omega arith)

-- The place behind at least one character is later.
pub precedes_after : (cs : List ℕ) (p : Place) (c : ℕ) → Precedes p (after p (c ∷ cs))
precedes_after [] p c = one_step p (c == 10)
precedes_after (d ∷ cs) p c = precedes_trans p (after_one p c) (after (after_one p c) (d ∷ cs)) (one_step p (c == 10)) (precedes_after cs (after_one p c) d)

pub after-append : (f g : List ℕ) (p : Place) → after p (f ++ g) ≡ after (after p f) g
after-append [] g p = refl
after-append (c ∷ f) g p = after-append f g (after_one p c)
