use Rattle.py_front.proofs.Answering.{front_parsed, faulted}
use Rattle.py_front.proofs.reader.module_of_tokens.Goals as goal

pub returns-in-Err : goal.returns-in-Err
returns-in-Err c text t n = faulted text c.args.tokens.now c.in-Err.fault c.of_parse.result c.of_parse.ensures c.in-Err.ensures t n

pub returns-in-Ok : goal.returns-in-Ok
returns-in-Ok c text t n = front_parsed text c.args.tokens.now c.in-Ok.tree c.module_of_tree.result t c.in-Ok.ensures (c.module_of_tree.ensures n)
