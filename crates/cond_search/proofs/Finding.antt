-- Members of slices.
use Rattle.std.specs.Prelude.{◌≡◌, ℕ, ◌<◌, List, length, get_or, Some, slice_get}
use Rattle.std.proofs.Common.{refl, sym, subst, ◌∙◌, ap}
use Rattle.std.proofs.lemmas.Option.{slice_get_read}

-- a member that was read from an equal list
pub item_at : {X : Type 0} (xs ys : List X) (i : ℕ) (x : X) → xs ≡ ys → i < length ys → x ≡ get_or xs i x → slice_get ys i ≡ Some x
item_at xs ys i x e lt is =
    slice_get_read ys (length ys) i x refl lt (is ∙ ap (λ zs. get_or zs i x) e)

pub within : {X : Type 0} (xs ys : List X) (i : ℕ) → xs ≡ ys → i < length ys → i < length xs
within xs ys i e lt = subst (λ zs. i < length zs) (sym e) lt
