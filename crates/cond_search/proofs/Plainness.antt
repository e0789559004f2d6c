-- Literals of numbers are sorted and plain.
use Rattle.std.specs.Prelude.{◌≡◌, Bool, true, false, ◌&&◌, ◌||◌, IsTrue}
use Rattle.std.proofs.Common.{refl, ap, sym, ◌∙◌}
use Rattle.terms.specs.declared.Term.{Term, Term-F, map-Term, out-Term, fold_out-Term}
use Rattle.terms.specs.declared.Literal.{Literal}
use Rattle.terms.specs.Sorts.{of_numbers, of_references, of_one_sort, number_step}
use Rattle.proof_checker.specs.Conditions.{plain, plain_form, plus_one}
use Rattle.proof_checker.specs.Derivations.{AreNumbers}
use Rattle.cond_plan.proofs.Knowing.{more_is_number}

plain_of : (t : Term) (x : Term-F Term) → IsTrue (number_step (map-Term Term Bool of_numbers x)) → plain_form t x ≡ t
plain_of t (Term-F.Sym n) h = refl
plain_of t (Term-F.Lit z) h = refl
plain_of t (Term-F.Add a b) h = refl
plain_of t (Term-F.Scale k a) h = refl
plain_of t (Term-F.App operator all) h = refl
plain_of t (Term-F.RefSym n) h = refl
plain_of t (Term-F.RefLit n) h = refl
plain_of t Term-F.Nil h = absurd (cc)

number_plain : (t : Term) → IsTrue (of_numbers t) → plain t ≡ t
number_plain t h = plain_of t (out-Term t) (sym (fold_out-Term Bool number_step t) ∙ h)

-- a literal of two numbers is plain
pub plain_pair : (f : Term → Term → Literal) (a b : Term) → AreNumbers a b → f (plain a) (plain b) ≡ f a b
plain_pair f a b n = ap (λ x. f x (plain b)) (number_plain a n.left) ∙ ap (λ x. f a x) (number_plain b n.right)

both : (a b : Bool) → IsTrue a → IsTrue b → IsTrue (a && b)
both true b h k = k
both false b h k = absurd (cc)

either : (a b : Bool) → IsTrue a → IsTrue (a || b)
either true b h = refl
either false b h = absurd (cc)

pub both_numbers : (a b : Term) → AreNumbers a b → IsTrue (of_numbers a && of_numbers b)
both_numbers a b n = both (of_numbers a) (of_numbers b) n.left n.right

pub one_sort : (a b : Term) → AreNumbers a b → IsTrue (of_one_sort a b)
one_sort a b n =
    either (of_numbers a && of_numbers b) (of_references a && of_references b) (both_numbers a b n)

pub exchanged : (a b : Term) → AreNumbers a b → AreNumbers b a
exchanged a b n = record { left = n.right; right = n.left }

pub one_more : (a b : Term) → AreNumbers a b → AreNumbers (plus_one a) b
one_more a b n = record { left = more_is_number a n.left; right = n.right }
