-- What is added behind a list, part by part.
use Rattle.std.proofs.Common.{◌≡◌, ◌++◌, List, refl, ap, sym, ◌∙◌}
use Rattle.std.proofs.lemmas.List.{append_assoc}

-- a part, and what is added behind it
pub behind : {A : Type 0} (x a b f : List A) {y z : List A} → z ≡ y ++ b → y ≡ x ++ a → f ≡ a ++ b → z ≡ x ++ f
behind x a b f h g e = h ∙ ap (λ l. l ++ b) g ∙ append_assoc x a b ∙ ap (λ l. x ++ l) (sym e)

-- two parts, and what is added behind them
pub behind_two : {A : Type 0} (x a b c f : List A) {y w z : List A} → z ≡ w ++ c → w ≡ y ++ b → y ≡ x ++ a → f ≡ (a ++ b) ++ c → z ≡ x ++ f
behind_two x a b c f i h g e = behind x (a ++ b) c f i (behind x a b (a ++ b) h g refl) e

-- the same, where they are joined from the back
pub behind_both : {A : Type 0} (x a b c f : List A) {y w z : List A} → z ≡ w ++ c → w ≡ y ++ b → y ≡ x ++ a → f ≡ a ++ (b ++ c) → z ≡ x ++ f
behind_both x a b c f i h g e = behind_two x a b c f i h g (e ∙ sym (append_assoc a b c))

-- so that what was known of the longer list is known of this one
pub joined : {A : Type 0} (x a b f : List A) {y : List A} → y ≡ x ++ a → f ≡ a ++ b → y ++ b ≡ x ++ f
joined x a b f {y} g e = behind x a b f {y = y} {z = y ++ b} refl g e

pub joined_two : {A : Type 0} (x a b c f : List A) {y w : List A} → w ≡ y ++ b → y ≡ x ++ a → f ≡ (a ++ b) ++ c → w ++ c ≡ x ++ f
joined_two x a b c f {y} {w} h g e = behind_two x a b c f {y = y} {w = w} {z = w ++ c} refl h g e

pub joined_both : {A : Type 0} (x a b c f : List A) {y w : List A} → w ≡ y ++ b → y ≡ x ++ a → f ≡ a ++ (b ++ c) → w ++ c ≡ x ++ f
joined_both x a b c f {y} {w} h g e = behind_both x a b c f {y = y} {w = w} {z = w ++ c} refl h g e
