-- The values of arguments, behind those that were read before.
use Rattle.std.specs.Prelude.{◌≡◌, List, [], ◌∷◌, ◌++◌, Option, Some, None}
use Rattle.std.specs.Option.{option_map}
use Rattle.std.proofs.Common.{refl, ap, sym, ◌∙◌}
use Rattle.std.proofs.lemmas.List.{append_assoc, append-nil}
use Rattle.py_syntax.specs.declared.Value.{Value}
use Rattle.py_syntax.specs.declared.Expr.{Expr}
use Rattle.machine_model.specs.Results.{Res, Got, Stops, then_do}
use Rattle.machine_model.specs.Evaluation.{Scene, Reading, meaning}
use Rattle.machine_model.specs.Reading.{values_of}
use Rattle.machine_values.specs.Bits.{has_128_bits}

abbrev pub Values : Type 0
Values = Res (Option (List Value))

-- these values, and then those
abbrev pub behind : List Value → Values → Values
behind done r = then_do r (λ ws. Got (option_map (λ (vs : List Value). done ++ vs) ws))

abbrev pub values_read : Scene → List Expr → Values
values_read s es = values_of has_128_bits s es

pub none_before : (r : Values) → behind [] r ≡ r
none_before (Got None) = refl
none_before (Got (Some vs)) = refl
none_before (Stops h) = refl

pub no_more : (done : List Value) (s : Scene) → behind done (values_read s []) ≡ Got (Some done)
no_more done s = ap (λ vs. Got (Some vs)) (append-nil done)

one_more : (done : List Value) (v : Value) (r : Values) → behind done (then_do r (λ ws. Got (option_map (λ (vs : List Value). v ∷ vs) ws))) ≡ behind (done ++ v ∷ []) r
one_more done v (Got None) = refl
one_more done v (Got (Some vs)) = ap (λ xs. Got (Some xs)) (sym (append_assoc done (v ∷ []) vs))
one_more done v (Stops h) = refl

-- what the next argument is read as
pub read_value : (done : List Value) (s : Scene) (e : Expr) (es : List Expr) (v : Value) → meaning has_128_bits e s ≡ Got (Some v) → behind done (values_read s (e ∷ es)) ≡ behind (done ++ v ∷ []) (values_read s es)
read_value done s e es v is =
    ap (λ (r : Reading). behind done (then_do r (λ w. elim w as (λ _. Values) [
      | None ↦ Got None
      | Some x ↦ then_do (values_read s es) (λ ws. Got (option_map (λ (vs : List Value). x ∷ vs) ws))
    ]))) is ∙ one_more done v (values_read s es)

pub read_none : (done : List Value) (s : Scene) (e : Expr) (es : List Expr) → meaning has_128_bits e s ≡ Got None → behind done (values_read s (e ∷ es)) ≡ Got None
read_none done s e es is =
    ap (λ (r : Reading). behind done (then_do r (λ w. elim w as (λ _. Values) [
      | None ↦ Got None
      | Some x ↦ then_do (values_read s es) (λ ws. Got (option_map (λ (vs : List Value). x ∷ vs) ws))
    ]))) is
