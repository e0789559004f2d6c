-- What a term that isn't built stands for.
use Rattle.std.specs.Prelude.{ℕ, ◌+◌, ◌*◌, pos, Bool, false, ◌||◌, List, [], ◌∷◌}
use Rattle.terms.specs.declared.Term.{Term, Term-F, Lit, RefLit, fold-Term, map-Term, out-Term, roll-Term}
use Rattle.terms.specs.Sameness.{same_term}
use Rattle.terms.specs.Sorts.{of_numbers}
use Rattle.terms.specs.Within.{terms_within}
use Rattle.proof_checker.specs.declared.origin.Origin.{Origin}
use Rattle.proof_checker.specs.declared.origin.Origin.TheVariants as origin
use Rattle.proof_checker.specs.declared.origin.Top.{Top}
use Rattle.proof_checker.specs.declared.origin.Top.TheVariants as top
use Rattle.proof_checker.specs.declared.puts.Puts.{Puts, fold-Puts}
use Rattle.proof_checker.specs.declared.puts.Puts.TheOpen.{Puts-F}
use Rattle.proof_checker.specs.declared.puts.Todo.{Todo, fold-Todo}
use Rattle.proof_checker.specs.declared.puts.Todo.TheOpen.{Todo-F}
use Rattle.proof_checker.specs.Conditions.{plus_one}
use Rattle.proof_checker.specs.Replacing.{put}

-- the term that stands there before anything is put into it
abbrev pub origin_term : Origin → Term
origin_term (origin.Whole t) = t.now
origin_term (origin.PlusOne t) = plus_one t.now
origin_term origin.One = Lit (pos 1)
origin_term origin.Zero = RefLit 0

-- the form of a term, its parts not built
abbrev pub top_form : Top → Term-F Term
top_form (top.Sym n) = Term-F.Sym n
top_form (top.Lit z) = Term-F.Lit z
top_form (top.Add a b) = Term-F.Add (origin_term a) (origin_term b)
top_form (top.Scale k a) = Term-F.Scale k (origin_term a)
top_form (top.App operator all) = Term-F.App operator all.now
top_form (top.RefSym n) = Term-F.RefSym n
top_form (top.RefLit n) = Term-F.RefLit n
top_form top.Nil = Term-F.Nil

abbrev pub sizes : List ℕ → ℕ
sizes [] = 0
sizes (n ∷ ns) = 1 + n + sizes ns

abbrev pub size_step : Term-F ℕ → ℕ
size_step (Term-F.Add m n) = 1 + m + n
size_step (Term-F.Scale k n) = 1 + n
size_step (Term-F.App operator ns) = 1 + sizes ns
size_step _ = 0

-- the size of a term
abbrev pub size : Term → ℕ
size = fold-Term ℕ size_step

-- each part of the term changed
abbrev pub below : (Term → Term) → Term → Term
below f t = roll-Term (map-Term Term Term f (out-Term t))

-- what replacements do to a term, and numbers for the measure
pub record Change : Type 0 where
  pub under : Term → Term
  pub weight : ℕ
  pub count : ℕ

abbrev pub puts_step : Puts-F Change → Change
puts_step Puts-F.None = record { under = λ t. t; weight = 0; count = 0 }
puts_step (Puts-F.More before from from_puts to to_puts) = record {
  under = λ t. put (below from_puts.now.under (origin_term from)) (below to_puts.now.under (origin_term to)) (before.now.under t);
  weight = before.now.weight + (1 + (size (origin_term from) + from_puts.now.weight) + (size (origin_term to) + to_puts.now.weight));
  count = before.now.count + 1;
}

abbrev pub change : Puts → Change
change = fold-Puts Change puts_step

-- the replacements put into a term, the oldest one first
abbrev pub under : Puts → Term → Term
under p = (change p).under

-- the term with the replacements put into its parts
abbrev pub node_term : Origin → Puts → Term
node_term o p = below (under p) (origin_term o)

abbrev pub node_weight : Origin → Puts → ℕ
node_weight o p = size (origin_term o) + (change p).weight

-- the term stands in the list
abbrev pub has : List Term → Term → Bool
has [] a = false
has (t ∷ ts) a = same_term t a || has ts a

-- what is asked of a term, and numbers for the measure
pub record Question : Type 0 where
  pub answer : Term → Bool
  pub weight : ℕ
  pub stage : ℕ

abbrev pub todo_step : Todo-F Question → Question
todo_step (Todo-F.Put from from_puts to to_puts rest) = record {
  answer = λ t. rest.now.answer (put (node_term from from_puts.now) (node_term to to_puts.now) t);
  weight = rest.now.weight + (1 + node_weight from from_puts.now + node_weight to to_puts.now);
  stage = rest.now.stage + 1;
}
todo_step (Todo-F.Then o p) = record {
  answer = λ t. same_term t (under p.now (origin_term o));
  weight = node_weight o p.now;
  stage = 2 * (change p.now).count + 3;
}
todo_step (Todo-F.With o p) = record {
  answer = λ t. same_term (node_term o p.now) t;
  weight = node_weight o p.now;
  stage = 1;
}
todo_step (Todo-F.Stands a p) = record {
  answer = λ t. has (terms_within t) (node_term a p.now);
  weight = node_weight a p.now;
  stage = 2;
}
todo_step Todo-F.Numbers = record { answer = of_numbers; weight = 0; stage = 1 }

abbrev pub question : Todo → Question
question = fold-Todo Question todo_step
