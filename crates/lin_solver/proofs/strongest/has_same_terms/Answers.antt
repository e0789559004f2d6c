use Rattle.std.specs.Prelude.{◌≡◌, ℕ, ℤ, Bool, true, false, ◌&&◌, IsTrue, refl}
use Rattle.std.proofs.Common.{sym, ap, ◌∙◌}
use Rattle.std.specs.Bool.{Decides}
use Rattle.std.proofs.lemmas.Bool.Decides.{Decides-eqb, Decides-int_eq}
use Rattle.std.proofs.lemmas.Slice.Eq.{slice_eq-Decides}
use Rattle.lin_solver.proofs.strongest.has_same_terms.Goals as goal

both_true : (a b : Bool) → IsTrue (a && b) → IsTrue a × IsTrue b
both_true true b t = (refl, t)
both_true false b t = absurd (cc)

true_both : (a b : Bool) → IsTrue a → IsTrue b → IsTrue (a && b)
true_both true b s t = t
true_both false b s t = absurd (cc)

-- two terms are equal where their variables and coefficients are
terms_decide : {E : ℕ → ℕ → Bool} {F : ℤ → ℤ → Bool} → ((a b : ℕ) → Decides (E a b) (a ≡ b)) → ((a b : ℤ) → Decides (F a b) (a ≡ b)) → (s t : ℕ × ℤ) → Decides (E s.0 t.0 && F s.1 t.1) (s ≡ t)
terms_decide {E} {F} f g s t = (
  λ e. let (a, b) = both_true (E s.0 t.0) (F s.1 t.1) e in ap (λ v. (v, s.1)) ((f s.0 t.0).0 a) ∙ ap (λ c. (t.0, c)) ((g s.1 t.1).0 b),
  λ e. true_both (E s.0 t.0) (F s.1 t.1) ((f s.0 t.0).1 (ap (λ u. u.0) e)) ((g s.1 t.1).1 (ap (λ u. u.1) e)),
)

pub returns : goal.returns
returns c =
    let same = slice_eq-Decides (terms_decide Decides-eqb Decides-int_eq) _ _ _ c.eq.ensures in (
      λ t. sym c.as_slice.ensures.terms ∙ same.0 t ∙ c.as_slice-2.ensures.terms,
      λ e. same.1 (c.as_slice.ensures.terms ∙ e ∙ sym c.as_slice-2.ensures.terms),
    )
