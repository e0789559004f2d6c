-- An equal term put for another changes no meaning.
use Rattle.std.specs.Prelude.{◌≡◌, Bool, true, false, if◌then◌else◌, List, [], ◌∷◌, map}
use Rattle.std.proofs.Common.{refl, ap, sym, subst, ◌∙◌}
use Rattle.terms.specs.declared.Term.{Term, Term-F, map-Term, roll-Term, fold-roll-Term, ind-Term, para-roll-Term}
use Rattle.terms.specs.Meanings.{Valued, Meaning, meaning_at, meaning_step}
use Rattle.terms.specs.Sameness.{same_term}
use Rattle.terms.specs.SamenessLaws.{same_is_equal}
use Rattle.proof_checker.specs.Replacing.{put, put_step}

module _ (from to : Term) where
  firsts : (ts : List Term) → map {A = Term × Term} (λ e. e.0) (map (λ y. (y, put from to y)) ts) ≡ ts
  firsts [] = refl
  firsts (t ∷ ts) = ap (λ us. t ∷ us) (firsts ts)

  seconds : (ts : List Term) → map {A = Term × Term} (λ e. e.1) (map (λ y. (y, put from to y)) ts) ≡ map (put from to) ts
  seconds [] = refl
  seconds (t ∷ ts) = ap (λ us. put from to t ∷ us) (seconds ts)

  abbrev put_or : Term-F Term → Term → Term
  put_or x t = if same_term (roll-Term x) from then to else t

  step_is : (x : Term-F Term) → put_step from to (map-Term Term (Term × Term) (λ y. (y, put from to y)) x) ≡ put_or x (roll-Term (map-Term Term Term (put from to) x))
  step_is (Term-F.Sym n) = refl
  step_is (Term-F.Lit z) = refl
  step_is (Term-F.Add a b) = refl
  step_is (Term-F.Scale k a) = refl
  step_is (Term-F.App operator all) =
      ap (λ ts. put_or (Term-F.App operator ts) (roll-Term (Term-F.App operator (map {A = Term × Term} (λ e. e.1) (map (λ y. (y, put from to y)) all))))) (firsts all) ∙ ap (λ ts. put_or (Term-F.App operator all) (roll-Term (Term-F.App operator ts))) (seconds all)
  step_is (Term-F.RefSym n) = refl
  step_is (Term-F.RefLit n) = refl
  step_is Term-F.Nil = refl

  pub put-roll : (x : Term-F Term) → put from to (roll-Term x) ≡ put_or x (roll-Term (map-Term Term Term (put from to) x))
  put-roll x = para-roll-Term Term (put_step from to) x ∙ step_is x

module _ (m : Valued) (from to : Term) (equal : meaning_at m from ≡ meaning_at m to) where
  abbrev IsKept : Term → Type 0
  IsKept t = meaning_at m (put from to t) ≡ meaning_at m t

  abbrev Kept : Type 0
  Kept = (t : Term) × IsKept t

  abbrev kept_form : Term-F Kept → Term-F Term
  kept_form y = map-Term Kept Term (λ e. e.0) y

  abbrev meanings : Term-F Term → Term-F Meaning
  meanings x = map-Term Term Meaning (meaning_at m) x

  lists_kept : (all : List Kept) → map (meaning_at m) (map (put from to) (map (λ e. e.0) all)) ≡ map (meaning_at m) (map (λ e. e.0) all)
  lists_kept [] = refl
  lists_kept (e ∷ all) =
      ap (λ p. p ∷ map (meaning_at m) (map (put from to) (map (λ e. e.0) all))) e.1 ∙ ap (λ ps. meaning_at m e.0 ∷ ps) (lists_kept all)

  kept_layer : (y : Term-F Kept) → meanings (map-Term Term Term (put from to) (kept_form y)) ≡ meanings (kept_form y)
  kept_layer (Term-F.Sym n) = refl
  kept_layer (Term-F.Lit z) = refl
  kept_layer (Term-F.Add a b) =
      ap (λ p. Term-F.Add p (meaning_at m (put from to b.0))) a.1 ∙ ap (λ p. Term-F.Add (meaning_at m a.0) p) b.1
  kept_layer (Term-F.Scale k a) = ap (λ p. Term-F.Scale k p) a.1
  kept_layer (Term-F.App operator all) = ap (λ ps. Term-F.App operator ps) (lists_kept all)
  kept_layer (Term-F.RefSym n) = refl
  kept_layer (Term-F.RefLit n) = refl
  kept_layer Term-F.Nil = refl

  by_test : (b : Bool) (x : Term-F Term) → same_term (roll-Term x) from ≡ b → meanings (map-Term Term Term (put from to) x) ≡ meanings x → meaning_at m (if b then to else roll-Term (map-Term Term Term (put from to) x)) ≡ meaning_at m (roll-Term x)
  by_test true x e h = sym equal ∙ ap (meaning_at m) (sym (same_is_equal (roll-Term x) from e))
  by_test false x e h =
      fold-roll-Term Meaning (meaning_step m) (map-Term Term Term (put from to) x) ∙ ap (meaning_step m) h ∙ sym (fold-roll-Term Meaning (meaning_step m) x)

  kept_rolled : (x : Term-F Term) → meanings (map-Term Term Term (put from to) x) ≡ meanings x → IsKept (roll-Term x)
  kept_rolled x h =
      ap (meaning_at m) (put-roll from to x) ∙ by_test (same_term (roll-Term x) from) x refl h

  -- what is put in means what was there
  pub put_means : (t : Term) → IsKept t
  put_means = ind-Term IsKept (λ x y is. subst (λ z. IsKept (roll-Term z)) is (kept_rolled (kept_form y) (kept_layer y)))
