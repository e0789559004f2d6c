use Rattle.std.specs.Prelude.{◌≡◌, Bool, true, List, [], ◌∷◌, map}
use Rattle.std.proofs.Common.{refl, sym, ap, ◌∙◌}
use Rattle.terms.specs.declared.term.Term.{Term, fold_out-Term, map-Term, out-Term}
use Rattle.terms.specs.Sorts.{of_numbers, number_step, every, some_and_every}
use Rattle.terms.proofs.Parts.{out-App}
use Rattle.terms.proofs.+sort.Goals as goal

some_every : (all : List Term) → ¬ (all ≡ []) → every (map of_numbers all) ≡ some_and_every (map of_numbers all)
some_every [] h = absurd (h refl)
some_every (t ∷ ts) h = refl

pub term::Term::is_of_numbers-returns-then-not-is_empty :
    goal.term::Term::is_of_numbers-returns-then-not-is_empty
term::Term::is_of_numbers-returns-then-not-is_empty t c =
    let form = ap out-Term c.in-App.is ∙ out-App c.in-App.field-0 c.in-App.all in
    let some : ¬ (c.in-App.all ≡ []) = λ e.
    let k : c.is_empty.result ≡ true = c.is_empty.ensures.1 e in
    absurd (cc (k, c.if-not-is_empty.true)) in
    c.are_of_numbers.ensures ∙ some_every c.in-App.all some ∙ sym (fold_out-Term Bool number_step c.args.self.now ∙ ap (λ y. number_step (map-Term Term Bool of_numbers y)) form)
