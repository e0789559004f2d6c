use Rattle.std.proofs.Common.{refl, sym, ◌∙◌}
use Rattle.std.proofs.lemmas.Bool.{true≢false}
use Rattle.case_tables.proofs.Keys.{twice-found, found-twice, not-twice}
use Rattle.case_tables.proofs.table.Table.new.Goals as goal

pub invariant_of-result : goal.invariant_of-result
invariant_of-result g c = not-twice c.args.rows (sym c.has_key_twice.ensures ∙ c.if-has_key_twice.false)

pub returns-then-has_key_twice-clause-none : goal.returns-then-has_key_twice-clause-none
returns-then-has_key_twice-clause-none g c = (λ none. found-twice c.args.rows (sym c.has_key_twice.ensures ∙ c.if-has_key_twice.true), λ twice. refl)

pub returns-else-has_key_twice-clause-none : goal.returns-else-has_key_twice-clause-none
returns-else-has_key_twice-clause-none g c = (λ none. absurd (true≢false none), λ twice. absurd (true≢false (sym (twice-found c.args.rows twice) ∙ sym c.has_key_twice.ensures ∙ c.if-has_key_twice.false)))
