use Rattle.py_parser.proofs.WholeRuns.{whole, left}
use Rattle.py_parser.proofs.parse.read.Goals as goal

pub returns-in-None : goal.returns-in-None
returns-in-None c = c.the_machine_reads_the_grammar.ensures.sound c.args.ts.now c.in-Ok.x.0 (whole c.args.ts.now c.in-Ok.x.1.now c.in-Ok.x.0 c.in-Ok.ensures.leads c.in-None.ensures)

pub returns-in-Some : goal.returns-in-Some
returns-in-Some c = c.the_machine_reads_the_grammar.ensures.refused c.args.ts.now c.in-Some.token.now.place (left c.args.ts.now c.in-Ok.x.1.now c.in-Ok.x.0 c.in-Some.token.now c.in-Some.field-0-1.now c.in-Ok.ensures.leads c.in-Some.ensures)
