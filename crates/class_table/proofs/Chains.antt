-- One step along a chain of bases.
use Rattle.std.proofs.Common.{◌≡◌, ◌<◌, ◌-◌, ℕ, zero, suc, List, [], ◌∷◌, ◌++◌, Option, Some, None, sym, ap, arith, append_assoc}
use Rattle.std.specs.Option.{option_or}
use Rattle.py_syntax.specs.declared.Class.{Class}
use Rattle.class_table.specs.declared.outline.Heritage.{Heritage}
use Rattle.class_table.specs.Bases.{base_of, bases_from}
use Rattle.class_table.specs.Lookup.{base_in, chain_from, own_method, first_method}

-- the nearest class above, and those above it
pub one_above : (rows : List Heritage) (above : List ℕ) (left k : ℕ) → 0 < left → (above ++ k ∷ []) ++ bases_from rows (left - 1) (base_of rows k) ≡ above ++ bases_from rows left (Some k)
one_above rows above zero k h = absurd (omega arith)
one_above rows above (suc n) k h =
    let e : suc n - 1 ≡ n = omega arith in
    rw e (append_assoc above (k ∷ []) (bases_from rows n (base_of rows k)))

-- where a class doesn't declare the name, the classes above it do
pub looked_on : (cs : List Class) (names : List ℕ) (name left k : ℕ) → 0 < left → own_method cs names name k ≡ None → first_method cs names name (chain_from cs (left - 1) (base_in cs k)) ≡ first_method cs names name (chain_from cs left (Some k))
looked_on cs names name zero k h none = absurd (omega arith)
looked_on cs names name (suc n) k h none =
    let e : suc n - 1 ≡ n = omega arith in
    rw e (sym (ap (λ (own : Option ℕ). option_or own (first_method cs names name (chain_from cs n (base_in cs k)))) none))
