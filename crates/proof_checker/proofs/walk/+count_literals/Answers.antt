use Rattle.std.proofs.Common.{◌∷◌, [], ◌++◌, take, drop, length, ◌-◌, ap, sym, subst, ◌∙◌}
use Rattle.std.specs.Prelude.{slice_get}
use Rattle.terms.specs.Fitting.{sides_of, within_sides, terms_in}
use Rattle.proof_checker.specs.Uses.{application_of, seen, chosen_in, IsCounted}
use Rattle.proof_checker.proofs.Counting.{counted_before, counted_after, seen-Sides, first_literal}
use Rattle.proof_checker.proofs.walk.+count_literals.Goals as goal

pub returns-in-Is : goal.returns-in-Is
returns-in-Is g t c =
    let p = g.Q.Choice.chooses c.args.q.now in
    let before = seen c.args.before.now in
    let ls = c.args.ls.now in
    let l = c.l-item.result in
    let end = c.args.last.now ∷ [] in
    let is = first_literal ls l c.in-len1-up.len_at_least (sym c.l-item.is) in
    ap (λ zs. slice_get (chosen_in p before (terms_in (zs ++ end))) c.args.n) is ∙ counted_before p before (within_sides (sides_of l)) (terms_in (take (length ls - 1) (drop 1 ls) ++ end)) c.args.n (application_of c.in-Is.found) c.in-Is.ensures

pub returns-in-Past : goal.returns-in-Past
returns-in-Past g t c =
    let p = g.Q.Choice.chooses c.args.q.now in
    let before = seen c.args.before.now in
    let ls = c.args.ls.now in
    let l = c.l-item.result in
    let end = c.args.last.now ∷ [] in
    let rest = terms_in (take (length ls - 1) (drop 1 ls) ++ end) in
    let r = c.count_literals.result in
    let is = first_literal ls l c.in-len1-up.len_at_least (sym c.l-item.is) in
    let more = subst (λ b. IsCounted (chosen_in p b rest) c.in-Past.left r) (seen-Sides _ _) c.count_literals.ensures in
    subst (λ zs. IsCounted (chosen_in p before (terms_in (zs ++ end))) c.args.n r) (sym is) (counted_after p before (within_sides (sides_of l)) rest c.args.n c.in-Past.left r c.in-Past.ensures more)
