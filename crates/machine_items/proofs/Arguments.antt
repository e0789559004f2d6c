-- The arguments of `print`, one after another.
use Rattle.std.proofs.Common.{◌≡◌, ◌+◌, ◌-◌, ◌<◌, ◌≤◌, ℕ, suc, List, [], ◌∷◌, ◌++◌, length, drop, get_or, ap, sym, ◌∙◌, arith, codes}
use Rattle.std.proofs.lemmas.List.{append-nil, append_assoc}
use Rattle.py_syntax.specs.declared.Value.{Value}
use Rattle.machine_model.specs.declared.halt.Halt.{Halt}
use Rattle.machine_model.specs.Results.{Got, Stops, then_do}
use Rattle.machine_model.specs.Frames.{pop_value, pop_onto}
use Rattle.machine_model.specs.Printing.{spaced}
use Rattle.machine_items.specs.Lines.{further}

pub pop_more : (count depth : ℕ) (args st : List Value) (v : Value) → depth < count → pop_value (drop depth st) ≡ Got (v, drop (depth + 1) st)
    → pop_onto (count - depth) args (drop depth st) ≡ pop_onto (count - (depth + 1)) (v ∷ args) (drop (depth + 1) st)
pop_more count depth args st v below popped =
    let more : count - depth ≡ suc (count - (depth + 1)) = omega arith in
    ap (λ n. pop_onto n args (drop depth st)) more
    ∙ ap (λ r. then_do r (λ w. pop_onto (count - (depth + 1)) (w.0 ∷ args) w.1)) popped

pub pop_fails : (count depth : ℕ) (args st : List Value) (h : Halt) → depth < count → pop_value (drop depth st) ≡ Stops h
    → pop_onto (count - depth) args (drop depth st) ≡ Stops h
pop_fails count depth args st h below fails =
    let more : count - depth ≡ suc (count - (depth + 1)) = omega arith in
    ap (λ n. pop_onto n args (drop depth st)) more
    ∙ ap (λ r. then_do r (λ w. pop_onto (count - (depth + 1)) (w.0 ∷ args) w.1)) fails

pub spaced_is : (text : List ℕ) (texts : List (List ℕ)) → spaced (text ∷ texts) ≡ text ++ further texts
spaced_is text [] = sym (append-nil text)
spaced_is text (more ∷ texts) = append_assoc text (codes " ") (spaced (more ∷ texts)) ∙ ap (λ line. text ++ (codes " " ++ line)) (spaced_is more texts)

pub spaced_from : (texts : List (List ℕ)) (first : List ℕ) → 1 ≤ length texts → first ≡ get_or texts 0 first → spaced texts ≡ first ++ further (drop 1 texts)
spaced_from [] first some is = absurd (omega arith)
spaced_from (text ∷ texts) first some is = spaced_is text texts ∙ ap (λ t. t ++ further texts) (sym is)
