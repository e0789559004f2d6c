-- Lists of duties, one after another.
use Rattle.std.specs.Prelude.{◌≡◌, List, ◌++◌}
use Rattle.std.proofs.Common.{refl, ap, sym}
use Rattle.std.proofs.lemmas.List.{append_assoc}
use Rattle.machine_model.specs.Results.{Res, Got, Stops, then_do}
use Rattle.machine_model.specs.Duties.{Duty}
use Rattle.contract_duties.specs.Listed.{added}

abbrev pub joined : Res (List Duty) → Res (List Duty) → Res (List Duty)
joined r q = then_do r (λ ds. then_do q (λ es. Got (ds ++ es)))

pub added_then : (xs : List Duty) (r q : Res (List Duty)) → added xs (joined r q) ≡ then_do (added xs r) (λ ys. added ys q)
added_then xs (Got ds) (Got es) = ap (λ ys. Got ys) (sym (append_assoc xs ds es))
added_then xs (Got ds) (Stops h) = refl
added_then xs (Stops h) q = refl
