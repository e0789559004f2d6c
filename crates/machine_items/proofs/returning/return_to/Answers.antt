use Rattle.std.proofs.Common.{◌≡◌, Some, ◌∷◌, ap, sym, subst, ◌∙◌}
use Rattle.py_syntax.specs.WaysOut.{Normal}
use Rattle.machine_model.specs.Results.{Got, then_do}
use Rattle.machine_deeds.specs.Deeds.{done}
use Rattle.machine_values.specs.Agreement.{Agrees}
use Rattle.machine_values.specs.Bits.{has_128_bits}
use Rattle.machine_items.specs.Deeds.{running}
use Rattle.machine_items.specs.Callers.{called_of, caller_tests}
use Rattle.machine_items.proofs.Calling.{goes_back, returns_to}
use Rattle.machine_items.proofs.returning.return_to.Goals as goal

pub returns-in_ok-tests-in-Some : goal.returns-in_ok-tests-in-Some
returns-in_ok-tests-in-Some c = λ below.
    let called : called_of c.args.caller.now.control ≡ Some (c.in-Some.field-0-0, c.in-Some.field-0-1, c.in-Some.gives) = sym c.awaited.ensures ∙ c.in-Some.is in
    let tested : caller_tests has_128_bits c.args.m.now c.args.thread c.args.at.heap.now (running c.args.at) (Normal c.args.value) c.args.caller.now.control ≡ Got tt =
    subst (λ x. Agrees (caller_tests has_128_bits c.args.m.now c.args.thread c.args.at.heap.now (running c.args.at) (Normal c.args.value) c.args.caller.now.control) x (λ _. tt)) c.in_ok-tests-in-Some.was c.requires in
    subst (λ r. Agrees r c.resumed.result (λ d. done d c.args.at.heap.now (c.args.at.frame.now ∷ c.args.caller.now ∷ below)))
    (sym (returns_to has_128_bits c.args.m.now c.args.thread c.args.at.heap.now (running c.args.at) c.args.value c.args.caller.now below c.in-Some.field-0-0 c.in-Some.field-0-1 c.in-Some.gives called
    ∙ ap (λ r. then_do r (λ _. goes_back c.args.thread c.args.at.heap.now (running c.args.at) c.args.value c.in-Some.gives c.args.caller.now below)) tested))
    (c.resumed.ensures below)
