use Rattle.std.proofs.Common.{◌≡◌, ◌∷◌, [], List, ℕ, sym, ap, ◌∙◌, arith, length, take, drop}
use Rattle.std.proofs.lemmas.Grind.{common_steps}
use Rattle.schedule_runner.specs.ScheduleText.{lines_of}
use Rattle.schedule_runner.proofs.FirstLine.{lines_first, lines_last}
use Rattle.schedule_runner.proofs.cuts.first_line.Goals as goal

pub returns-in-Some-clause-parts : goal.returns-in-Some-clause-parts
returns-in-Some-clause-parts c = lines_first c.args.text.now c.in-Some.line.now c.in-Some.rest.now c.in-Some.ensures.parts ∙ ap (λ x. x ∷ lines_of c.in-Some.rest.now) (sym c.without_cr.ensures)

pub returns-in-None-clause-parts : goal.returns-in-None-clause-parts
returns-in-None-clause-parts c = grind (arith, common_steps, lines_last c.args.text.now c.in-None.ensures.parts c.requires)
