-- The tests of calls, over equal heaps and scenes.
use Rattle.std.specs.Prelude.{◌≡◌, ℕ, ℤ, List, [], ◌∷◌, map, Option, Some, None}
use Rattle.std.proofs.Common.{ap, sym, ◌∙◌}
use Rattle.py_base.specs.declared.Place.{Place}
use Rattle.py_base.specs.declared.Kind.TheVariants.{Undeclared, PostValue, Exceptional}
use Rattle.py_syntax.specs.declared.Value.{Value}
use Rattle.py_syntax.specs.declared.Assertion.{Assertion}
use Rattle.py_syntax.specs.declared.Method.{Method}
use Rattle.py_syntax.specs.declared.Module.{Module}
use Rattle.py_syntax.specs.WaysOut.{Ending, exit_for, way_of}
use Rattle.machine_model.specs.declared.Object.{Object}
use Rattle.machine_model.specs.declared.Frame.{Frame}
use Rattle.machine_model.specs.declared.Halt.TheVariants.{Failed}
use Rattle.machine_model.specs.Results.{Res, then_do, of_option}
use Rattle.machine_model.specs.Evaluation.{Scene}
use Rattle.machine_model.specs.Duties.{Duty}
use Rattle.machine_model.specs.Moments.{scene_of, at_call, at_atom, atoms_hold}
use Rattle.machine_model.specs.Calls.{entry_duties, is_bounded, call_tests, end_kind, result_of, exit_tests}
use Rattle.machine_values.specs.Bits.{has_128_bits}
use Rattle.contract_reading.specs.declared.Placing.TheVariants.{Atom}
use Rattle.contract_reading.specs.Verdicts.{placed}
use Rattle.contract_duties.specs.declared.exits.End.{End}
use Rattle.contract_duties.specs.declared.exits.End.TheVariants as end
use Rattle.contract_duties.specs.Ends.{ending_in}
use Rattle.contract_duties.specs.Listed.{duties_where_bounded}

abbrev tests : Module → ℕ → Place → Option ℤ → Method → List Object → Scene → List (ℕ × ℤ) → Res (List Duty)
tests m t p measure method h s caps = duties_where_bounded (entry_duties has_128_bits m t h (at_call p) measure caps s method) p (λ ds. is_bounded h t measure ds method)

pub called : (m : Module) (t : ℕ) (p : Place) (caller : Frame) (args : List Value) (method : Method) (heap h : List Object) (s : Scene) (caps : List (ℕ × ℤ)) (store : List (Option Value))
    → h ≡ heap → s ≡ scene_of m heap heap store None → store ≡ map (λ v. Some v) args → caps ≡ caller.caps → tests m t p caller.measure method h s caps ≡ call_tests has_128_bits m t heap p caller args method
called m t p caller args method heap h s caps store same scene stored kept =
    ap (λ x. tests m t p caller.measure method x s caps) same
    ∙ ap (λ x. tests m t p caller.measure method heap x caps) (scene ∙ ap (λ x. scene_of m heap heap x None) stored)
    ∙ ap (tests m t p caller.measure method heap (scene_of m heap heap (map (λ v. Some v) args) None)) kept

abbrev ends : Module → ℕ → Ending Value → Place → Method → List Object → Scene → Res (Unit {0})
ends m t ending p method h s = then_do (of_option (Failed Undeclared p) (way_of m method ending)) (atoms_hold has_128_bits m t h s (end_kind ending) at_atom)

pub ended : (m : Module) (t : ℕ) (ending : Ending Value) (p : Place) (method : Method) (heap h before : List Object) (f : Frame) (s : Scene) (store : List (Option Value)) (answer : Option Value)
    → h ≡ heap → s ≡ scene_of m heap before store answer → before ≡ f.before → store ≡ f.store → answer ≡ result_of ending → ends m t ending p method h s ≡ exit_tests has_128_bits m t heap f ending p method
ended m t ending p method heap h before f s store answer same scene earlier stored answered =
    ap (λ x. ends m t ending p method x s) same
    ∙ ap (ends m t ending p method heap) (scene ∙ ap (λ x. scene_of m heap x store answer) earlier ∙ ap (λ x. scene_of m heap f.before x answer) stored ∙ ap (scene_of m heap f.before f.store) answered)

pub ended_normally : (m : Module) (t : ℕ) (e : End) (v : Value) (p : Place) (method : Method) (h : List Object) (s : Scene) (posts : List Assertion)
    → e ≡ end.Normal v → posts ≡ method.post → atoms_hold has_128_bits m t h s PostValue (placed Atom) posts ≡ ends m t (ending_in e) p method h s
ended_normally m t e v p method h s posts is all =
    ap (atoms_hold has_128_bits m t h s PostValue at_atom) all ∙ sym (ap (λ x. ends m t (ending_in x) p method h s) is)

pub ended_by : (m : Module) (t : ℕ) (e : End) (c : ℕ) (p : Place) (method : Method) (h : List Object) (s : Scene) (exits : List (ℕ × Assertion)) (a : Assertion)
    → e ≡ end.Raised c → exits ≡ method.exits → exit_for m c exits ≡ Some (a ∷ []) → atoms_hold has_128_bits m t h s Exceptional (placed Atom) (a ∷ []) ≡ ends m t (ending_in e) p method h s
ended_by m t e c p method h s exits a is all found =
    sym (ap (λ x. then_do (of_option (Failed Undeclared p) x) (atoms_hold has_128_bits m t h s Exceptional at_atom)) (ap (exit_for m c) (sym all) ∙ found))
    ∙ sym (ap (λ x. ends m t (ending_in x) p method h s) is)
