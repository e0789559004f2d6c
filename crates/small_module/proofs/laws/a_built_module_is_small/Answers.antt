use Rattle.small_module.proofs.Shapes.{module_shown}
use Rattle.small_module.proofs.laws.a_built_module_is_small.Goals as goal

pub returns : goal.returns
returns c = record { forms = λ tree m is. (module_shown tree m is).shape; numbers = λ tree m is. (module_shown tree m is).short; is_main = λ tree m is. (module_shown tree m is).main }
