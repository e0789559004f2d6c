use Rattle.std.proofs.Common.{refl, None}
use Rattle.py_types.specs.Order.{first_of}
use Rattle.py_types.proofs.Firsts.{one_first, told}
use Rattle.py_types.proofs.laws.faults_have_one_first_fault.Goals as goal

pub returns : goal.returns
returns c = record { one = one_first; some = λ fs. told fs (first_of None fs) refl }
