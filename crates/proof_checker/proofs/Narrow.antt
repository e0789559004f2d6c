-- The test of 128 bits is exact.
use Rattle.std.specs.Prelude.{◌≡◌, Bool, true, false, ℤ, FitsSigned, if◌then◌else◌}
use Rattle.std.specs.Int.{w128, int_wrap}
use Rattle.std.proofs.Common.{refl, ap, subst, ◌∙◌}
use Rattle.std.proofs.lemmas.Int.{int_wrap_fits, SFits-int_wrap}
use Rattle.terms.specs.SamenessLaws.{int_same, int_itself}
use Rattle.std.specs.Ordering.{int_eq}
use Rattle.proof_checker.specs.declared.replies.Reply.{Reply}
use Rattle.proof_checker.specs.declared.replies.Reply.TheVariants as reply
use Rattle.proof_checker.specs.Figures.{is_narrow, checked}

narrow_fits : (z : ℤ) → is_narrow z ≡ true → FitsSigned w128 z
narrow_fits z h = subst (λ y. FitsSigned w128 y) (int_same (int_wrap w128 z) z h) (SFits-int_wrap w128 z)

fits_narrow : (z : ℤ) → FitsSigned w128 z → is_narrow z ≡ true
fits_narrow z f = ap (λ y. int_eq y z) (int_wrap_fits w128 z f) ∙ int_itself z

abbrev chosen : Bool → ℤ → Reply
chosen b z = if b then reply.Number z else reply.None

-- a number that fits, and one that doesn't
pub checked_fits : (z : ℤ) → FitsSigned w128 z → checked z ≡ reply.Number z
checked_fits z f = ap (λ b. chosen b z) (fits_narrow z f)

pub checked_wide : (z : ℤ) → ¬ (FitsSigned w128 z) → checked z ≡ reply.None
checked_wide z h = by_test (is_narrow z) refl
  where
    by_test : (b : Bool) → is_narrow z ≡ b → chosen b z ≡ reply.None
    by_test true e = absurd (h (narrow_fits z e))
    by_test false e = refl

-- what holds of a number that fits, and of none where it doesn't, holds of what was tested
pub by_checked : (P : Reply → Type 0) (z : ℤ) → (FitsSigned w128 z → P (reply.Number z)) → (¬ (FitsSigned w128 z) → P reply.None) → P (checked z)
by_checked P z f g = by_test (is_narrow z) refl
  where
    wide : is_narrow z ≡ false → ¬ (FitsSigned w128 z)
    wide e h = let e' = fits_narrow z h in absurd (cc (e, e'))

    by_test : (b : Bool) → is_narrow z ≡ b → P (chosen b z)
    by_test true e = f (narrow_fits z e)
    by_test false e = g (wide e)
