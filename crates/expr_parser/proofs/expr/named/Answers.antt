use Rattle.std.proofs.Common.{◌∙◌, ◌∷◌, ap, sym}
use Rattle.py_grammar.specs.Symbols.{vexpr, make}
use Rattle.py_grammar.specs.Makers.{make_field}
use Rattle.py_grammar.specs.Machine.{run}
use Rattle.expr_parser.proofs.Rows.{made_field}
use Rattle.py_grammar.specs.MachineRows.{row_name}
use Rattle.expr_parser.proofs.expr.named.Goals as goal

pub returns-in_ok-field_node-in-Name-clause-leads : goal.returns-in_ok-field_node-in-Name-clause-leads
returns-in_ok-field_node-in-Name-clause-leads c = λ S V.
    let rest = c.in-Some.rest.now in
    rw c.in-Some.ensures (row_name rest c.in-Some.first.now (make make_field ∷ S) (vexpr c.args.object ∷ V) c.in-Name.name c.in-Name.is
    ∙ made_field rest S V c.in-Some.first.now.place c.in-Name.name c.args.object
    ∙ ap (λ x. run rest S (vexpr x ∷ V)) (sym c.in_ok-field_node-in-Name.ensures))
