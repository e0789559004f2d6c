-- Applications as they are listed.
use Rattle.terms.specs.Fitting.{Application}
use Rattle.cond_plan.specs.declared.plan.Applied.{Applied}

abbrev pub application_of : Applied → Application
application_of f = record { operator = f.operator; operands = f.operands; result = f.result }
