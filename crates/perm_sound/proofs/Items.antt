-- Each small item keeps the relation: where the local run has no fault, no test fails.
use Rattle.std.proofs.Common.{◌≡◌, ℕ, List, [], ◌∷◌, sym, ap, subst, ◌∙◌, inl, inr}
use Rattle.std.specs.Prelude.{ℤ, pos, ◌+ℤ◌, ◌-ℤ◌, Bool, true, false, not, length, slice_get, slice_set, nat_lt, Option, Some, None, if◌then◌else◌}
use Rattle.std.specs.Option.{option_and_then}
use Rattle.py_base.specs.declared.Place.{Place}
use Rattle.py_base.specs.declared.Kind.TheVariants as kind
use Rattle.py_syntax.specs.declared.Value.{Value}
use Rattle.py_syntax.specs.declared.Value.TheVariants.{Num, Truth, Nil, Ref}
use Rattle.py_syntax.specs.declared.PrintArg.{PrintArg}
use Rattle.py_syntax.specs.declared.Assertion.{Assertion}
use Rattle.py_syntax.specs.declared.Method.{Method}
use Rattle.py_syntax.specs.declared.Module.{Module}
use Rattle.py_syntax.specs.declared.Item.{Item}
use Rattle.py_syntax.specs.declared.Item.TheVariants as item
use Rattle.py_syntax.specs.StmtItems.{values_wanted}
use Rattle.py_syntax.specs.Control.{opened}
use Rattle.py_syntax.specs.SmallForms.{IsSmallMethod}
use Rattle.py_syntax.specs.SmallLocal.{hopes, are_same, local_from}
use Rattle.py_syntax.specs.WaysOut.{Normal}
use Rattle.machine_model.specs.declared.Frame.{Frame}
use Rattle.machine_model.specs.declared.ThreadState.{ThreadState}
use Rattle.machine_model.specs.declared.EventForm.TheVariants as event
use Rattle.machine_model.specs.declared.Halt.TheVariants as halt
use Rattle.machine_model.specs.Results.{Res, Got, Stops, then_do, tested, sized}
use Rattle.machine_model.specs.Operators.{binary, divides_by_zero}
use Rattle.machine_model.specs.Moments.{at_atom, scene_of, atoms_hold, owns_any}
use Rattle.machine_model.specs.Frames.{After, operand, pop_value, pop_truth, pop_arguments, stored, stays}
use Rattle.machine_model.specs.Calls.{method_at, exit_tests, end_thread, leave}
use Rattle.machine_model.specs.Printing.{printed}
use Rattle.machine_model.specs.Items.{pushed, with_stack, pushes, act}
use Rattle.machine_model.specs.Steps.{whole}
use Rattle.perm_sound.proofs.SmallItems.{IsSmallKey, IsSmallItem, AreSmall, opened_small}
use Rattle.perm_sound.proofs.OneUnit.{times_one, compared_is}
use Rattle.perm_sound.proofs.Pops.{Popped, are_there, are_missing, popped}
use Rattle.perm_sound.proofs.Keeps.{IsNoFault, Stands, Fine, goes, ends, Gives}

-- the frame of `main` that goes on over a stack and locals
abbrev HasNoFault : Frame → List Value → List (Option Value) → Type 0
HasNoFault f st store = IsNoFault (local_from (pos 1) f.control st store)

opened_stands : (f : Frame) → f.method ≡ 0 → AreSmall f.control → HasNoFault f f.stack f.store → Stands (record f { control = opened f.control })
opened_stands f at_main small sound = record {
  is_main = at_main;
  small = subst AreSmall (sym (opened_small f.control small)) small;
  no_fault = subst (λ control. IsNoFault (local_from (pos 1) control f.stack f.store)) (sym (opened_small f.control small)) sound;
}

-- a frame that stays goes on
stays_fine : (f : Frame) → f.method ≡ 0 → AreSmall f.control → HasNoFault f f.stack f.store → Gives (stays [] f [])
stays_fine f at_main small sound = goes _ None (opened_stands f at_main small sound)

number : (f : Frame) (n : ℤ) → f.method ≡ 0 → AreSmall f.control → IsNoFault (local_from (pos 1) (item.Num n ∷ f.control) f.stack f.store) → Gives (stays [] (pushed (Num n) f) [])
number f n at_main small sound = stays_fine (pushed (Num n) f) at_main small (subst (λ z. HasNoFault f (Num z ∷ f.stack) f.store) (times_one n) sound)

-- a value that is there is pushed
pushes_fine : (f : Frame) (v : Option Value) → f.method ≡ 0 → AreSmall f.control → IsNoFault (hopes v (λ w. local_from (pos 1) f.control (w ∷ f.stack) f.store)) → Gives (pushes [] [] f (operand v))
pushes_fine f None at_main small sound = tt
pushes_fine f (Some v) at_main small sound = stays_fine (pushed v f) at_main small sound

-- an operator over a stack
abbrev operated : Place → ℕ → Frame → List Value → Res After
operated p key f st =
    then_do (pop_value st) (λ b.
    then_do (pop_value b.1) (λ a.
    then_do (tested kind.ZeroDivisor p (not (divides_by_zero key b.0))) (λ _.
    pushes [] [] (with_stack a.1 f) (then_do (operand (binary key a.0 b.0)) (sized whole p)))))

abbrev OperatorKeeps : Place → ℕ → Frame → List Value → Type 0
OperatorKeeps p key f st = IsNoFault (local_from (pos 1) (item.Bin p key ∷ f.control) st f.store) → Gives (operated p key f st)

plus : (p : Place) (f : Frame) (st : List Value) → f.method ≡ 0 → AreSmall f.control → OperatorKeeps p 1 f st
plus p f [] at_main small sound = tt
plus p f (b ∷ []) at_main small sound = tt
plus p f (Num y ∷ Num x ∷ st) at_main small sound = stays_fine (record f { stack = Num (x +ℤ y) ∷ st }) at_main small sound
plus p f (Num y ∷ a ∷ st) at_main small sound = tt
plus p f (Truth y ∷ Truth x ∷ st) at_main small sound = tt
plus p f (Truth y ∷ a ∷ st) at_main small sound = tt
plus p f (Nil ∷ Ref x ∷ st) at_main small sound = tt
plus p f (Nil ∷ a ∷ st) at_main small sound = tt
plus p f (Ref y ∷ Ref x ∷ st) at_main small sound = tt
plus p f (Ref y ∷ a ∷ st) at_main small sound = tt

minus : (p : Place) (f : Frame) (st : List Value) → f.method ≡ 0 → AreSmall f.control → OperatorKeeps p 2 f st
minus p f [] at_main small sound = tt
minus p f (b ∷ []) at_main small sound = tt
minus p f (Num y ∷ Num x ∷ st) at_main small sound = stays_fine (record f { stack = Num (x -ℤ y) ∷ st }) at_main small sound
minus p f (Num y ∷ a ∷ st) at_main small sound = tt
minus p f (Truth y ∷ Truth x ∷ st) at_main small sound = tt
minus p f (Truth y ∷ a ∷ st) at_main small sound = tt
minus p f (Nil ∷ Ref x ∷ st) at_main small sound = tt
minus p f (Nil ∷ a ∷ st) at_main small sound = tt
minus p f (Ref y ∷ Ref x ∷ st) at_main small sound = tt
minus p f (Ref y ∷ a ∷ st) at_main small sound = tt

equals : (p : Place) (f : Frame) (st : List Value) → f.method ≡ 0 → AreSmall f.control → OperatorKeeps p 11 f st
equals p f [] at_main small sound = tt
equals p f (b ∷ []) at_main small sound = tt
equals p f (Num y ∷ Num x ∷ st) at_main small sound =
    stays_fine (record f { stack = Truth (are_same x y) ∷ st }) at_main small
    (subst (λ (v : Option Value). IsNoFault (hopes v (λ c. local_from (pos 1) f.control (c ∷ st) f.store))) (compared_is x y) sound)
equals p f (Num y ∷ a ∷ st) at_main small sound = tt
equals p f (Truth y ∷ Truth x ∷ st) at_main small sound = tt
equals p f (Truth y ∷ a ∷ st) at_main small sound = tt
equals p f (Nil ∷ Ref x ∷ st) at_main small sound = tt
equals p f (Nil ∷ a ∷ st) at_main small sound = tt
equals p f (Ref y ∷ Ref x ∷ st) at_main small sound = tt
equals p f (Ref y ∷ a ∷ st) at_main small sound = tt

operator : (p : Place) (key : ℕ) (f : Frame) → IsSmallKey key → f.method ≡ 0 → AreSmall f.control → OperatorKeeps p key f f.stack
operator p key f (inl is) at_main small = subst (λ k. OperatorKeeps p k f f.stack) (sym is) (plus p f f.stack at_main small)
operator p key f (inr (inl is)) at_main small = subst (λ k. OperatorKeeps p k f f.stack) (sym is) (minus p f f.stack at_main small)
operator p key f (inr (inr is)) at_main small = subst (λ k. OperatorKeeps p k f f.stack) (sym is) (equals p f f.stack at_main small)

-- an assignment over a stack
abbrev assigned : ℕ → Frame → List Value → Res After
assigned i f st = then_do (pop_value st) (λ v. then_do (stored i v.0 f.store) (λ store. stays [] (record f { stack = v.1; store = store }) []))

assignment : (i : ℕ) (f : Frame) (st : List Value) → f.method ≡ 0 → AreSmall f.control → IsNoFault (local_from (pos 1) (item.Store i ∷ f.control) st f.store) → Gives (assigned i f st)
assignment i f [] at_main small sound = tt
assignment i f (v ∷ st) at_main small sound = by_test (nat_lt i (length f.store))
  where
    by_test : (there : Bool) → Gives (then_do (if there then Got (slice_set f.store i (Some v)) else Stops halt.NoOperand) (λ store. stays [] (record f { stack = st; store = store }) []))
    by_test true = stays_fine (record f { stack = st; store = slice_set f.store i (Some v) }) at_main small sound
    by_test false = tt

-- an assert over a stack
abbrev checked : Place → Frame → List Value → Res After
checked p f st = then_do (pop_truth st) (λ b. then_do (tested kind.Assert p b.0) (λ _. stays [] (with_stack b.1 f) []))

assert : (p : Place) (f : Frame) (st : List Value) → f.method ≡ 0 → AreSmall f.control → IsNoFault (local_from (pos 1) (item.Check p ∷ f.control) st f.store) → Gives (checked p f st)
assert p f [] at_main small sound = tt
assert p f (Truth true ∷ st) at_main small sound = stays_fine (with_stack st f) at_main small sound
assert p f (Truth false ∷ st) at_main small sound = absurd sound
assert p f (Num n ∷ st) at_main small sound = tt
assert p f (Nil ∷ st) at_main small sound = tt
assert p f (Ref r ∷ st) at_main small sound = tt

-- what `print` does with the arguments that it popped
abbrev wrote : List PrintArg → Frame → Res (List Value × List Value) → Res After
wrote args f popped_of = then_do popped_of (λ vs. then_do (stays [] (with_stack vs.1 f) []) (λ a. Got (record a { line = Some (printed args vs.0) })))

print : (args : List PrintArg) (f : Frame) → f.method ≡ 0 → AreSmall f.control → IsNoFault (local_from (pos 1) (item.Print args ∷ f.control) f.stack f.store) → Gives (wrote args f (pop_arguments (values_wanted args) f.stack))
print args f at_main small sound = by_pops (popped (values_wanted args) [] f.stack)
  where
    by_pops : Popped (values_wanted args) [] f.stack → Gives (wrote args f (pop_arguments (values_wanted args) f.stack))
    by_pops (are_missing stops) = subst (λ r. Gives (wrote args f r)) (sym stops) tt
    by_pops (are_there vs rest got left) =
        subst (λ r. Gives (wrote args f r)) (sym got)
        (goes _ (Some (printed args vs)) (opened_stands (with_stack rest f) at_main small
        (subst (λ o. IsNoFault (hopes o (λ st. local_from (pos 1) f.control st f.store))) left sound)))

-- `main` is the one method of a module
abbrev pub IsAlone : Module → Method → Type 0
IsAlone m run = (m.methods ≡ run ∷ []) × IsSmallMethod run

pub method_is : (m : Module) (run : Method) (i : ℕ) → IsAlone m run → i ≡ 0 → method_at m i ≡ Got run
method_is m run i alone at_main = ap (λ (j : ℕ). method_at m j) at_main ∙ ap (λ (all : List Method). operand (slice_get all 0)) alone.0

-- the end of `main` has no test to fail
end_is : (m : Module) (run : Method) (t : ℕ) (f : Frame) → IsAlone m run → f.method ≡ 0 → leave whole m t [] f [] Nil ≡ Got (record { heap = []; frames = []; ended = true; started = None; event = Some event.Ended; line = None; call = Some (f.method, Normal Nil) })
end_is m run t f alone at_main =
    let at = method_is m run f.method alone at_main in
    let post = ap (λ (all : List Assertion). atoms_hold whole m t [] (scene_of m [] f.before f.store (Some Nil)) kind.PostValue at_atom all) alone.1.no_postcondition in
    let after_tests : Method → Res (Unit {0}) → Res After = λ one r. then_do r (λ _. then_do (tested kind.Leak one.place (not (owns_any [] t))) (λ _. Got (record { heap = []; frames = []; ended = true; started = None; event = Some event.Ended; line = None; call = Some (f.method, Normal Nil) }))) in
    ap (λ r. then_do r (λ (one : Method). end_thread whole m t [] f (Normal Nil) one.place)) at
    ∙ ap (λ r. then_do r (λ (one : Method). after_tests one (exit_tests whole m t [] f (Normal Nil) run.place one))) at
    ∙ ap (after_tests run) post

finish : (m : Module) (run : Method) (t : ℕ) (f : Frame) → IsAlone m run → f.method ≡ 0 → Gives (leave whole m t [] f [] Nil)
finish m run t f alone at_main =
    subst Gives (sym (end_is m run t f alone at_main))
    (subst (λ (i : ℕ). Fine (record { heap = []; frames = []; ended = true; started = None; event = Some event.Ended; line = None; call = Some (i, Normal Nil) })) (sym at_main) (ends Nil))

pub act_keeps : (m : Module) (run : Method) (t : ℕ) (threads : List ThreadState) (f : Frame) (i : Item Value) → IsAlone m run → f.method ≡ 0 → IsSmallItem i → AreSmall f.control → IsNoFault (local_from (pos 1) (i ∷ f.control) f.stack f.store) → Gives (act whole m t threads [] f [] i)
act_keeps m run t threads f (item.Num n) alone at_main is small sound = number f n at_main small sound
act_keeps m run t threads f (item.Load i) alone at_main is small sound = pushes_fine f (option_and_then (λ v. v) (slice_get f.store i)) at_main small sound
act_keeps m run t threads f (item.Bin p key) alone at_main is small sound = operator p key f is at_main small sound
act_keeps m run t threads f (item.Store i) alone at_main is small sound = assignment i f f.stack at_main small sound
act_keeps m run t threads f (item.Check p) alone at_main is small sound = assert p f f.stack at_main small sound
act_keeps m run t threads f (item.Print args) alone at_main is small sound = print args f at_main small sound
act_keeps m run t threads f item.Pass alone at_main is small sound = stays_fine f at_main small sound
act_keeps m run t threads f item.End alone at_main is small sound = finish m run t f alone at_main
act_keeps m run t threads f i alone at_main is small sound = absurd is
