use Rattle.std.proofs.Common.{refl, None}
use Rattle.contract_kinds.specs.Order.{first_of}
use Rattle.contract_kinds.proofs.Firsts.{one_first, told}
use Rattle.contract_kinds.proofs.laws.breaches_have_one_first_breach.Goals as goal

pub returns : goal.returns
returns c = record { one = one_first; some = λ fs. told fs (first_of None fs) refl }
