use Rattle.std.specs.Prelude.{◌≡◌, ℕ, true, false, nat_lt, ◌<◌, ◌≤◌, ◌+◌, ◌*◌, ◌%◌, map, Option, Some, None, slice_get, length}
use Rattle.std.specs.Option.{option_map}
use Rattle.std.proofs.Common.{ap, ◌∙◌, arith, refl}
use Rattle.std.proofs.lemmas.Bool.Decides.{nat_tests}
use Rattle.std.proofs.lemmas.Option.{slice_get-map, slice_get_read, slice_get_past}
use Rattle.lin_rows.specs.declared.Row.{Row}
use Rattle.lin_rows.specs.declared.ComboStep.{ComboStep}
use Rattle.lin_rows.specs.Steps.{all_rows}
use Rattle.proof_checker.specs.Chains.{facts, view_literal}
use Rattle.proof_checker.proofs.Adding.{row_of_assumption, row_of_step}
use Rattle.proof_checker.proofs.summands.row_at.Goals as goal

abbrev its_row : ComboStep → Option Row
its_row s = Some s.row

pub returns-in-Is : goal.returns-in-Is
returns-in-Is c rows are =
    row_of_assumption (facts c.args.chain.now) rows (map its_row c.args.earlier.now) c.args.n (view_literal c.in-Is.v.now) c.of_assumption.result are c.in-Is.ensures c.of_assumption.ensures

within : (m n : ℕ) → true ≡ nat_lt m n → m < n
within m n e = grind (arith, nat_tests)

not_within : (m n : ℕ) → false ≡ nat_lt m n → n ≤ m
not_within m n e = grind (arith, nat_tests)

pub returns-in-Some : goal.returns-in-Some
returns-in-Some c rows are =
    let earlier = c.args.earlier.now in
    let i = 2 * c.in-Past.left + c.args.n % 2 in
    let h = c.in-Some.ensures.lookup in
    let there = slice_get_read earlier (length earlier) i c.in-Some.step.now refl (within i (length earlier) h.0) h.1 in
    let e = row_of_step (facts c.args.chain.now) rows (map its_row earlier) c.args.n c.in-Past.left are c.in-Past.ensures.1 in
    (c.in-Some.step.now.row, e ∙ slice_get-map its_row earlier i ∙ ap (option_map its_row) there, refl)

no_row : (x : Option (Option Row)) (r : Row) → x ≡ None → x ≡ Some (Some r) → ⊥
no_row x r e f = absurd (cc)

pub returns-in-None : goal.returns-in-None
returns-in-None c rows are r is =
    let earlier = c.args.earlier.now in
    let i = 2 * c.in-Past.left + c.args.n % 2 in
    let none = slice_get_past earlier i (not_within i (length earlier) c.in-None.ensures.lookup.0) in
    let e = row_of_step (facts c.args.chain.now) rows (map its_row earlier) c.args.n c.in-Past.left are c.in-Past.ensures.1 in
    no_row (slice_get (all_rows rows earlier) c.args.n) r (e ∙ slice_get-map its_row earlier i ∙ ap (option_map its_row) none) is
