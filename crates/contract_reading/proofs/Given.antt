-- What an operator gave, as it is read.
use Rattle.std.specs.Prelude.{◌≡◌, ℕ, Bool, true, false, if◌then◌else◌, ℤ, Option, Some, None, Result, Ok, Err}
use Rattle.std.proofs.Common.{refl, ap, sym, subst, ◌∙◌}
use Rattle.py_base.specs.declared.Place.{Place}
use Rattle.py_base.specs.declared.Kind.{Kind}
use Rattle.py_syntax.specs.declared.Value.{Value}
use Rattle.py_syntax.specs.declared.Value.TheVariants.{Num, Truth, Nil, Ref}
use Rattle.machine_model.specs.declared.Halt.{Halt}
use Rattle.machine_model.specs.declared.Halt.TheVariants.{Wide, NoOperand, Failed, Waits}
use Rattle.machine_model.specs.Results.{Res, Got, Stops, then_do, sized}
use Rattle.machine_model.specs.Frames.{operand}
use Rattle.machine_model.specs.Evaluation.{Reading, given, defined, and_with, of_truth}
use Rattle.machine_values.specs.declared.Stop.{Stop}
use Rattle.machine_values.specs.declared.Stop.TheVariants as stop
use Rattle.machine_values.specs.Agreement.{Agrees}
use Rattle.machine_values.specs.Bits.{has_128_bits}
use Rattle.contract_reading.specs.Scenes.{told, truth_in}

abbrev result_of : Place → Option Value → Res Value
result_of p o = then_do (operand o) (sized has_128_bits p)

pub given_value : (p : Place) (o : Option Value) (v : Value) → result_of p o ≡ Got v → given has_128_bits p o ≡ Got (Some v)
given_value p None v e = absurd (cc)
given_value p (Some w) v e = ap (λ r. then_do r defined) e

pub given_wide : (p q : Place) (o : Option Value) → result_of p o ≡ Stops (Wide q) → given has_128_bits p o ≡ Stops (Wide q)
given_wide p q None e = absurd (cc)
given_wide p q (Some w) e = ap (λ r. then_do r defined) e

sized_there : (p : Place) (w : Value) → sized has_128_bits p w ≡ Stops NoOperand → ⊥
sized_there p (Num z) e = by_width (has_128_bits z) e
  where
    by_width : (b : Bool) → (if b then Got (Num z) else Stops (Wide p)) ≡ Stops NoOperand → ⊥
    by_width true e = absurd (cc)
    by_width false e = absurd (cc)
sized_there p (Truth b) e = absurd (cc)
sized_there p Nil e = absurd (cc)
sized_there p (Ref r) e = absurd (cc)

pub given_none : (p : Place) (o : Option Value) → result_of p o ≡ Stops NoOperand → given has_128_bits p o ≡ Got None
given_none p None e = refl
given_none p (Some w) e = absurd (sized_there p w e)

-- no test is made
sized_untested : (p q : Place) (k : Kind) (w : Value) → sized has_128_bits p w ≡ Stops (Failed k q) → ⊥
sized_untested p q k (Num z) e = by_width (has_128_bits z) e
  where
    by_width : (b : Bool) → (if b then Got (Num z) else Stops (Wide p)) ≡ Stops (Failed k q) → ⊥
    by_width true e = absurd (cc)
    by_width false e = absurd (cc)
sized_untested p q k (Truth b) e = absurd (cc)
sized_untested p q k Nil e = absurd (cc)
sized_untested p q k (Ref r) e = absurd (cc)

pub never_failed : (p q : Place) (k : Kind) (o : Option Value) → result_of p o ≡ Stops (Failed k q) → ⊥
never_failed p q k None e = absurd (cc)
never_failed p q k (Some w) e = sized_untested p q k w e

sized_moves : (p : Place) (w : Value) → sized has_128_bits p w ≡ Stops Waits → ⊥
sized_moves p (Num z) e = by_width (has_128_bits z) e
  where
    by_width : (b : Bool) → (if b then Got (Num z) else Stops (Wide p)) ≡ Stops Waits → ⊥
    by_width true e = absurd (cc)
    by_width false e = absurd (cc)
sized_moves p (Truth b) e = absurd (cc)
sized_moves p Nil e = absurd (cc)
sized_moves p (Ref r) e = absurd (cc)

pub never_waits : (p : Place) (o : Option Value) → result_of p o ≡ Stops Waits → ⊥
never_waits p None e = absurd (cc)
never_waits p (Some w) e = sized_moves p w e

-- the truth value of a comparison, by what the operator gave
sized_truth : (p : Place) (b : Bool) (w : Value) → then_do (sized has_128_bits p w) defined ≡ Got (Some (Truth b)) → truth_in (Some w) ≡ Some b
sized_truth p b (Num z) e = by_width (has_128_bits z) e
  where
    by_width : (f : Bool) → then_do (if f then Got (Num z) else Stops (Wide p)) defined ≡ Got (Some (Truth b)) → truth_in (Some (Num z)) ≡ Some b
    by_width true e = absurd (cc)
    by_width false e = absurd (cc)
sized_truth p b (Truth c) e = cc
sized_truth p b Nil e = absurd (cc)
sized_truth p b (Ref r) e = absurd (cc)

pub truth_given : (p : Place) (b : Bool) (o : Option Value) → given has_128_bits p o ≡ Got (Some (Truth b)) → truth_in o ≡ Some b
truth_given p b None e = absurd (cc)
truth_given p b (Some w) e = sized_truth p b w e

-- another answer is no truth value
abbrev IsNoTruth : Res (Option Value) → Type 0
IsNoTruth (Got (Some (Truth b))) = ⊥
IsNoTruth r = Unit {0}

pub no_truth : (p : Place) (o : Option Value) → IsNoTruth (given has_128_bits p o) → truth_in o ≡ None
no_truth p None h = refl
no_truth p (Some (Num z)) h = refl
no_truth p (Some (Truth b)) h = absurd h
no_truth p (Some Nil) h = refl
no_truth p (Some (Ref r)) h = refl

abbrev carried : {P Q : Res (Option Value)} → P ≡ Q → IsNoTruth Q → IsNoTruth P
carried e h = subst IsNoTruth (sym e) h

pub no_truth_none : (p : Place) (o : Option Value) → given has_128_bits p o ≡ Got None → truth_in o ≡ None
no_truth_none p o e = no_truth p o (carried e tt)

pub no_truth_number : (p : Place) (z : ℤ) (o : Option Value) → given has_128_bits p o ≡ Got (Some (Num z)) → truth_in o ≡ None
no_truth_number p z o e = no_truth p o (carried e tt)

pub no_truth_nil : (p : Place) (o : Option Value) → given has_128_bits p o ≡ Got (Some Nil) → truth_in o ≡ None
no_truth_nil p o e = no_truth p o (carried e tt)

pub no_truth_reference : (p : Place) (r : ℕ) (o : Option Value) → given has_128_bits p o ≡ Got (Some (Ref r)) → truth_in o ≡ None
no_truth_reference p r o e = no_truth p o (carried e tt)

pub no_truth_wide : (p : Place) (h : Halt) (o : Option Value) → given has_128_bits p o ≡ Stops h → truth_in o ≡ None
no_truth_wide p h o e = no_truth p o (carried e tt)

-- what a link of a chain goes on with
pub link_true : (o : Option Value) (b : Bool) → truth_in o ≡ Some b → o ≡ Some (Truth b)
link_true None b e = absurd (cc)
link_true (Some (Num z)) b e = absurd (cc)
link_true (Some (Truth c)) b e = cc
link_true (Some Nil) b e = absurd (cc)
link_true (Some (Ref r)) b e = absurd (cc)

pub link_none : (o : Option Value) (f : Bool → Reading) → truth_in o ≡ None → and_with o (λ c. of_truth c f) ≡ Got None
link_none None f e = refl
link_none (Some (Num z)) f e = refl
link_none (Some (Truth c)) f e = absurd (cc)
link_none (Some Nil) f e = refl
link_none (Some (Ref r)) f e = refl

-- the same, of what the code's call answered
module _ (p : Place) (o : Option Value) (r : Result Value Stop) (x : Stop) (h : Halt) (agrees : Agrees (result_of p o) r (λ v. v)) (is : r ≡ Err x) (stops : x ≡ stop.Halt h) where
  answered : result_of p o ≡ Stops h
  answered = subst (λ (y : Stop). Agrees (result_of p o) (Err y) (λ v. v)) stops (subst (λ (q : Result Value Stop). Agrees (result_of p o) q (λ v. v)) is agrees)

  pub answered_no_test : (k : Kind) (q : Place) → h ≡ Failed k q → ⊥
  answered_no_test k q e = never_failed p q k o (answered ∙ ap Stops e)

  pub answered_no_wait : h ≡ Waits → ⊥
  answered_no_wait e = never_waits p o (answered ∙ ap Stops e)

pub truth_read : (p : Place) (b : Bool) (o : Option Value) (r : Result (Option Value) Place) (x : Option Value) (v : Value) → told r ≡ given has_128_bits p o → r ≡ Ok x → x ≡ Some v → v ≡ Truth b → truth_in o ≡ Some b
truth_read p b o r x v e is some truth = truth_given p b o (sym e ∙ ap told is ∙ ap (λ (y : Option Value). Got y) (some ∙ ap Some truth))
