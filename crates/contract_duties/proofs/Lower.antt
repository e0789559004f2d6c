-- The cap for a lock that has one already.
use Rattle.std.specs.Prelude.{◌≡◌, ◌<◌, ℕ, zero, suc, ◌+◌, ℤ, Bool, true, List, [], ◌∷◌, ◌++◌, take, drop, length, get_or, slice_set, nat_eq, int_lt, if◌then◌else◌}
use Rattle.std.proofs.Common.{refl, ap, sym, ◌∙◌, arith}
use Rattle.std.proofs.lemmas.List.{drop_more}
use Rattle.std.proofs.lemmas.Bool.Decides.{nat_tests}
use Rattle.machine_model.specs.Duties.{with_cap}

abbrev Cap : Type 0
Cap = ℕ × ℤ

set_is : (cs : List Cap) (at : ℕ) (x : Cap) → at < length cs → slice_set cs at x ≡ take at cs ++ x ∷ drop (suc at) cs
set_is [] at x l = absurd (omega arith)
set_is (c ∷ cs) zero x l = refl
set_is (c ∷ cs) (suc at) x l = ap (λ ds. c ∷ ds) (set_is cs at x (omega arith))

abbrev lowered : ℕ → ℤ → Cap → Cap
lowered r z c = (r, (if int_lt z c.1 then z else c.1))

same_lock : (a b : ℕ) → a ≡ b → nat_eq a b ≡ true
same_lock a b e = grind (arith, nat_tests)

-- where the next cap is the lock's
capped_here : (r : ℕ) (z : ℤ) (at : ℕ) (cs : List Cap) (d : Cap) → at < length cs → (get_or cs at d).0 ≡ r → take at cs ++ with_cap r z (drop at cs) ≡ with_cap r z cs
    → slice_set cs at (r, (if int_lt z (get_or cs at d).1 then z else (get_or cs at d).1)) ≡ with_cap r z cs
capped_here r z at cs d l e inv =
    let c : Cap = get_or cs at d in
    let next : suc at ≡ at + 1 = omega arith in
    set_is cs at (lowered r z c) l
    ∙ ap (λ k. take at cs ++ lowered r z c ∷ drop k cs) next
    ∙ sym (ap (λ (b : Bool). take at cs ++ (if b then lowered r z c ∷ drop (at + 1) cs else c ∷ with_cap r z (drop (at + 1) cs))) (same_lock c.0 r e))
    ∙ sym (ap (λ ds. take at cs ++ with_cap r z ds) (drop_more cs at d l))
    ∙ inv

-- the same, of lists and numbers that are one
pub capped : (r : ℕ) (z y : ℤ) (at k : ℕ) (cs ds es new : List Cap) (d : Cap) → y ≡ z → at < k → k ≡ length cs → ds ≡ cs → cs ≡ es → (get_or ds at d).0 ≡ r → int_lt y (get_or ds at d).1 ≡ true
    → new ≡ slice_set cs at (r, y) → take at cs ++ with_cap r y (drop at cs) ≡ with_cap r y cs → new ≡ with_cap r z es
capped r z y at k cs ds es new d number l len same kept lock below is inv =
    let n : ℤ = (get_or cs at d).1 in
    let less : int_lt y n ≡ true = ap (λ xs. int_lt y (get_or xs at d).1) (sym same) ∙ below in
    is ∙ ap (λ (b : Bool). slice_set cs at (r, (if b then y else n))) (sym less)
    ∙ capped_here r y at cs d (omega (arith, l, len)) (ap (λ xs. (get_or xs at d).0) (sym same) ∙ lock) inv
    ∙ ap (with_cap r y) kept ∙ ap (λ x. with_cap r x es) number
