-- A piece is in front of any characters.
use Rattle.std.proofs.Common.{ℕ, ◌≡◌, ◌⊎◌, inl, inr, arith, refl, List, ◌∷◌}
use Rattle.std.proofs.Math.Decide.{ℕ_discrete}
use Rattle.py_base.specs.declared.Place.{Place}
use Rattle.py_tokens.specs.declared.Shape.{Shape}
use Rattle.py_tokens.specs.declared.Shape.TheVariants as shapes
use Rattle.py_lexer.specs.PieceForms.{StandsAlone}
use Rattle.py_lexer.proofs.PieceInFront.{single_piece}
use Rattle.py_lexer.proofs.EachWord.{HasPiece, word_or_none, number_or_none, mark_or_none, comment_or_none}
use Rattle.py_lexer.proofs.EachString.{string_or_none}

alone_by : (c : ℕ) → Dec (c ≡ 32) → Dec (c ≡ 9) → Dec (c ≡ 10) → (shape : Shape) × StandsAlone c shape
alone_by c (yes e) t n = (shapes.Space, e)
alone_by c (no s) (yes e) n = (shapes.Tab, e)
alone_by c (no s) (no t) (yes e) = (shapes.LineEnd, e)
alone_by c (no s) (no t) (no n) = (shapes.Stray, neither)
  where
    neither : ¬ ((c ≡ 32) ⊎ ((c ≡ 9) ⊎ (c ≡ 10)))
    neither (inl e) = s e
    neither (inr (inl e)) = t e
    neither (inr (inr e)) = n e

alone : (c : ℕ) → (shape : Shape) × StandsAlone c shape
alone c = alone_by c (ℕ_discrete c 32) (ℕ_discrete c 9) (ℕ_discrete c 10)

or_else : {A B : Type 0} → A ⊎ B → (B → A) → A
or_else (inl a) f = a
or_else (inr b) f = f b

pub piece_in_front : (p : Place) (c : ℕ) (cs : List ℕ) → HasPiece p (c ∷ cs)
piece_in_front p c cs =
    or_else (word_or_none p (c ∷ cs)) (λ w.
    or_else (number_or_none p c cs) (λ n.
    or_else (mark_or_none p (c ∷ cs)) (λ m.
    or_else (comment_or_none p c cs) (λ k.
    or_else (string_or_none p c cs) (λ q.
    let (shape, h) = alone c in
    (1, shape, single_piece p (c ∷ cs) c shape (omega arith) refl w n m k q h))))))
