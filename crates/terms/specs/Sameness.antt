-- Whether two terms are one.
use Rattle.std.specs.Prelude.{Bool, true, false, ◌&&◌, ◌==◌, List, [], ◌∷◌}
use Rattle.std.specs.Ordering.{int_eq}
use Rattle.terms.specs.declared.term.Term.{Term, Term-F, fold-Term, out-Term}

abbrev pub same_all : List (Term → Bool) → List Term → Bool
same_all [] [] = true
same_all (f ∷ fs) (t ∷ ts) = f t && same_all fs ts
same_all fs ts = false

abbrev pub same_form : Term-F (Term → Bool) → Term-F Term → Bool
same_form (Term-F.Sym m) (Term-F.Sym n) = m == n
same_form (Term-F.Lit y) (Term-F.Lit z) = int_eq y z
same_form (Term-F.Add f g) (Term-F.Add a b) = f a && g b
same_form (Term-F.Scale k f) (Term-F.Scale l a) = int_eq k l && f a
same_form (Term-F.App p fs) (Term-F.App q ts) = p == q && same_all fs ts
same_form (Term-F.RefSym m) (Term-F.RefSym n) = m == n
same_form (Term-F.RefLit m) (Term-F.RefLit n) = m == n
same_form Term-F.Nil Term-F.Nil = true
same_form x y = false

-- whether two terms are one
abbrev pub same_term : Term → Term → Bool
same_term = fold-Term (Term → Bool) (λ x t. same_form x (out-Term t))
