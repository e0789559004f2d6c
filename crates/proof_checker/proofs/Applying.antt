-- Laws of numbered applications and of what follows from two of them.
use Rattle.std.specs.Prelude.{◌≡◌, ℕ, ◌+◌, List, [], length, Option, Some, None, slice_get, MatchOption, IfSome, IfNone}
use Rattle.std.proofs.Common.{ap, sym, subst, ◌∙◌, arith}
use Rattle.std.proofs.lemmas.Option.{slice_get_past}
use Rattle.terms.specs.declared.Term.{Term}
use Rattle.terms.specs.declared.Literal.{Literal}
use Rattle.terms.specs.declared.Literal.TheVariants as lit
use Rattle.terms.specs.Fitting.{Application, terms_in}
use Rattle.proof_checker.specs.declared.condition.Condition.{Condition}
use Rattle.proof_checker.specs.declared.view.View.{View}
use Rattle.proof_checker.specs.Conditions.{literals_of, plain_literal}
use Rattle.proof_checker.specs.Derivations.{Numbered}
use Rattle.proof_checker.specs.Chains.{view_literal}
use Rattle.proof_checker.specs.Uses.{chosen_in, is_new, IsCongruent, Congruence}
use Rattle.proof_checker.proofs.Numbering.{numbered_iff}

pub is_numbered : (ts : List Term) (n : ℕ) (f : Application) → slice_get (chosen_in is_new [] ts) n ≡ Some f → Numbered [] ts n f
is_numbered ts n f e = (numbered_iff ts n f).1 e

no_place : (fs : List Application) (n k : ℕ) (f : Application) → n ≡ length fs + k → slice_get fs n ≡ Some f → ⊥
no_place fs n k f e h = let past = slice_get_past fs n (omega (arith, e)) in absurd (cc (past, h))

pub not_numbered : (ts : List Term) (n k : ℕ) → n ≡ length (chosen_in is_new [] ts) + k → (f : Application) → ¬ (Numbered [] ts n f)
not_numbered ts n k e f h = no_place (chosen_in is_new [] ts) n k f e ((numbered_iff ts n f).0 h)

-- a number has one application
one_numbered : (ts : List Term) (n : ℕ) (f g : Application) → Numbered [] ts n f → Numbered [] ts n g → f ≡ g
one_numbered ts n f g h k = one (sym ((numbered_iff ts n f).0 h) ∙ (numbered_iff ts n g).0 k)
  where
    one : ◌≡◌ {A = Option Application} (Some f) (Some g) → f ≡ g
    one e = cc

abbrev NumberedIn : Condition → ℕ → Application → Type 0
NumberedIn c n f = Numbered [] (terms_in (literals_of c)) n f

abbrev same_results : Application → Application → Literal
same_results f g = plain_literal (lit.Same f.result g.result)

abbrev Follows : List Literal → Application → Application → Option View → Type 0
Follows fs f g r = MatchOption r (¬ (IsCongruent fs f g)) (λ v. IsCongruent fs f g × (view_literal v ≡ same_results f g))

module _ (c : Condition) (fs : List Literal) (i j : ℕ) (f g : Application) (at_i : NumberedIn c i f) (at_j : NumberedIn c j g) where
  first_is : (k : Literal) (h : Congruence c fs i j k) → h.first ≡ f
  first_is k h = one_numbered (terms_in (literals_of c)) i h.first f h.at_first at_i

  second_is : (k : Literal) (h : Congruence c fs i j k) → h.second ≡ g
  second_is k h = one_numbered (terms_in (literals_of c)) j h.second g h.at_second at_j

  are_congruent : (k : Literal) → Congruence c fs i j k → IsCongruent fs f g
  are_congruent k h =
      subst (λ x. IsCongruent fs f x) (second_is k h) (subst (λ x. IsCongruent fs x h.second) (first_is k h) h.congruent)

  literal_is : (k : Literal) → Congruence c fs i j k → k ≡ same_results f g
  literal_is k h =
      h.results ∙ ap (λ (x : Application). same_results x h.second) (first_is k h) ∙ ap (λ (x : Application). same_results f x) (second_is k h)

  congruence_of : (k : Literal) → IsCongruent fs f g → k ≡ same_results f g → Congruence c fs i j k
  congruence_of k is e = record { first = f; second = g; at_first = at_i; at_second = at_j; congruent = is; results = e }

  pub congruence_some : (r : Option View) → Follows fs f g r → IfSome r (λ v. (k : Literal) → (Congruence c fs i j k → k ≡ view_literal v) × (k ≡ view_literal v → Congruence c fs i j k))
  congruence_some None h = tt
  congruence_some (Some v) h = λ k. (λ is. literal_is k is ∙ sym h.1, λ e. congruence_of k h.0 (e ∙ h.1))

  pub congruence_none : (r : Option View) → Follows fs f g r → IfNone r ((k : Literal) → ¬ (Congruence c fs i j k))
  congruence_none None h = λ k is. h (are_congruent k is)
  congruence_none (Some v) h = tt
