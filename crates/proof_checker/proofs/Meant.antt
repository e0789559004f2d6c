-- What terms mean.
use Rattle.std.specs.Prelude.{◌≡◌, ℕ, true, IsTrue, ℤ, pos, ◌*ℤ◌}
use Rattle.std.proofs.Common.{refl, ap, sym, ◌∙◌, rules}
use Rattle.terms.specs.declared.Term.{Term, Term-F, Add, Lit, RefLit, map-Term, out-Term, fold_out-Term, the_lemmas}
use Rattle.terms.specs.Sorts.{of_references, reference_form}
use Rattle.terms.specs.Meanings.{Valued, Meaning, Number, Reference, sum_of, meaning_at, meaning_step}
use Rattle.proof_checker.specs.Conditions.{plain, plain_form, plus_one}

-- the meaning of a term by its form
pub meant : (m : Valued) (t : Term) (x : Term-F Term) → out-Term t ≡ x → meaning_at m t ≡ meaning_step m (map-Term Term Meaning (meaning_at m) x)
meant m t x e =
    fold_out-Term Meaning (meaning_step m) t ∙ ap (λ y. meaning_step m (map-Term Term Meaning (meaning_at m) y)) e

out-Add : (a b : Term) → out-Term (Add a b) ≡ Term-F.Add a b
out-Add a b = search (rules, the_lemmas)

out-Lit : (z : ℤ) → out-Term (Lit z) ≡ Term-F.Lit z
out-Lit z = search (rules, the_lemmas)

out-RefLit : (n : ℕ) → out-Term (RefLit n) ≡ Term-F.RefLit n
out-RefLit n = search (rules, the_lemmas)

pub meant-one : (m : Valued) (t : Term) → meaning_at m (plus_one t) ≡ sum_of (meaning_at m t) (Number (pos 1 *ℤ m.unit))
meant-one m t =
    meant m (plus_one t) (Term-F.Add t (Lit (pos 1))) (out-Add t (Lit (pos 1))) ∙ ap (sum_of (meaning_at m t)) (meant m (Lit (pos 1)) (Term-F.Lit (pos 1)) (out-Lit (pos 1)))

pub meant-RefLit : (m : Valued) (n : ℕ) → meaning_at m (RefLit n) ≡ Reference n
meant-RefLit m n = meant m (RefLit n) (Term-F.RefLit n) (out-RefLit n)

plain_meant : (m : Valued) (t : Term) (x : Term-F Term) → out-Term t ≡ x → meaning_at m (plain_form t x) ≡ meaning_at m t
plain_meant m t (Term-F.Sym n) e = refl
plain_meant m t (Term-F.Lit z) e = refl
plain_meant m t (Term-F.Add a b) e = refl
plain_meant m t (Term-F.Scale k a) e = refl
plain_meant m t (Term-F.App operator all) e = refl
plain_meant m t (Term-F.RefSym n) e = refl
plain_meant m t (Term-F.RefLit n) e = refl
plain_meant m t Term-F.Nil e = meant-RefLit m 0 ∙ sym (meant m t Term-F.Nil e)

pub meant-plain : (m : Valued) (t : Term) → meaning_at m (plain t) ≡ meaning_at m t
meant-plain m t = plain_meant m t (out-Term t) refl

reference_meant : (m : Valued) (t : Term) (x : Term-F Term) → out-Term t ≡ x → reference_form x ≡ true → (n : ℕ) × (meaning_at m t ≡ Reference n)
reference_meant m t (Term-F.RefSym n) e h = (m.references n, meant m t (Term-F.RefSym n) e)
reference_meant m t (Term-F.RefLit n) e h = (n, meant m t (Term-F.RefLit n) e)
reference_meant m t Term-F.Nil e h = (0, meant m t Term-F.Nil e)
reference_meant m t x e h = absurd (cc)

-- a term of references is a reference
pub meant_reference : (m : Valued) (t : Term) → IsTrue (of_references t) → (n : ℕ) × (meaning_at m t ≡ Reference n)
meant_reference m t h = reference_meant m t (out-Term t) refl h
