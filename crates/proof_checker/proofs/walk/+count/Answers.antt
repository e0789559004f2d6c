use Rattle.std.proofs.Common.{◌∷◌, [], ◌++◌, ap, sym, subst, ◌∙◌}
use Rattle.std.specs.Prelude.{slice_get}
use Rattle.terms.specs.Within.{terms_within}
use Rattle.proof_checker.specs.Uses.{application_of, applied_by, seen, terms_below, within_all, chosen_at, chosen_in, IsCounted}
use Rattle.proof_checker.proofs.Reading.{rest_of, first_and_rest}
use Rattle.proof_checker.proofs.Counting.{front, after, counted_before, counted_after, within_is, seen-More, seen-Within}
use Rattle.proof_checker.proofs.walk.+count.Goals as goal

pub count-returns-in-Is : goal.count-returns-in-Is
count-returns-in-Is g t c =
    let p = g.Q.Choice.chooses c.args.q.now in
    let before = seen c.args.before.now in
    let u = c.args.t.now in
    ap (λ ts. slice_get (chosen_in p before ts) c.args.n) (within_is u) ∙ front (chosen_at (p before u) (applied_by u)) (chosen_in p (before ++ u ∷ []) (terms_below u)) c.args.n (application_of c.in-Is.found) c.in-Is.ensures

pub count-returns-in-Past : goal.count-returns-in-Past
count-returns-in-Past g t c =
    let p = g.Q.Choice.chooses c.args.q.now in
    let before = seen c.args.before.now in
    let u = c.args.t.now in
    let r = c.count_parts.result in
    let more = subst (λ b. IsCounted (chosen_in p b (terms_below u)) c.in-Past.left r) (seen-More _ _) c.count_parts.ensures in
    subst (λ ts. IsCounted (chosen_in p before ts) c.args.n r) (sym (within_is u)) (after (chosen_at (p before u) (applied_by u)) (chosen_in p (before ++ u ∷ []) (terms_below u)) c.args.n c.in-Past.left r c.in-Past.ensures more)

pub count_two-returns-in-Is : goal.count_two-returns-in-Is
count_two-returns-in-Is g t c =
    counted_before (g.Q.Choice.chooses c.args.q.now) (seen c.args.before.now) (terms_within c.args.a.now) (terms_within c.args.b.now) c.args.n (application_of c.in-Is.found) c.in-Is.ensures

pub count_two-returns-in-Past : goal.count_two-returns-in-Past
count_two-returns-in-Past g t c =
    let p = g.Q.Choice.chooses c.args.q.now in
    let r = c.count-in-Past.result in
    let more = subst (λ b. IsCounted (chosen_in p b (terms_within c.args.b.now)) c.in-Past.left r) (seen-Within _ _) c.count-in-Past.ensures in
    counted_after p (seen c.args.before.now) (terms_within c.args.a.now) (terms_within c.args.b.now) c.args.n c.in-Past.left r c.in-Past.ensures more

pub count_list-returns-in-Is : goal.count_list-returns-in-Is
count_list-returns-in-Is g t c =
    let p = g.Q.Choice.chooses c.args.q.now in
    let before = seen c.args.before.now in
    let xs = c.args.ts.now in
    let x = c.t-item.result in
    let is = first_and_rest xs x c.in-len1-up.len_at_least (sym c.t-item.is) in
    ap (λ zs. slice_get (chosen_in p before (within_all zs)) c.args.n) is ∙ counted_before p before (terms_within x) (within_all (rest_of xs)) c.args.n (application_of c.in-Is.found) c.in-Is.ensures

pub count_list-returns-in-Past : goal.count_list-returns-in-Past
count_list-returns-in-Past g t c =
    let p = g.Q.Choice.chooses c.args.q.now in
    let before = seen c.args.before.now in
    let xs = c.args.ts.now in
    let x = c.t-item.result in
    let r = c.count_list.result in
    let is = first_and_rest xs x c.in-len1-up.len_at_least (sym c.t-item.is) in
    let more = subst (λ b. IsCounted (chosen_in p b (within_all (rest_of xs))) c.in-Past.left r) (seen-Within _ _) c.count_list.ensures in
    subst (λ zs. IsCounted (chosen_in p before (within_all zs)) c.args.n r) (sym is) (counted_after p before (terms_within x) (within_all (rest_of xs)) c.args.n c.in-Past.left r c.in-Past.ensures more)
