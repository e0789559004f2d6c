-- One step along a chain of bases.
use Rattle.std.proofs.Common.{◌≡◌, ◌<◌, ◌-◌, ℕ, zero, suc, List, Option, Some, None, sym, ap, arith}
use Rattle.std.specs.Option.{option_or}
use Rattle.py_syntax.specs.declared.Class.{Class}
use Rattle.class_table.specs.Lookup.{base_in, chain_from}
use Rattle.type_base.specs.Members.{first_in}

-- where a class doesn't have it, the classes above it may
pub looked_on : {X : Type 0} (cs : List Class) (own : ℕ → Option X) (left k : ℕ) → 0 < left → own k ≡ None → first_in own (chain_from cs (left - 1) (base_in cs k)) ≡ first_in own (chain_from cs left (Some k))
looked_on cs own zero k h none = absurd (omega arith)
looked_on {X} cs own (suc n) k h none =
    let e : suc n - 1 ≡ n = omega arith in
    rw e (sym (ap (λ (found : Option X). option_or found (first_in own (chain_from cs n (base_in cs k)))) none))
