use Rattle.py_parser.proofs.opening.begun.Goals as goal

pub returns-in-Decorator-clause-leads : goal.returns-in-Decorator-clause-leads
returns-in-Decorator-clause-leads c = rw c.in-Decorator.is c.decorated.ensures.leads
