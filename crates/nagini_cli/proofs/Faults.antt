-- The local faults of a small module are the first false assert of its `main`, if there is one.
use Rattle.std.proofs.Common.{◌≡◌, ℕ, zero, suc, List, [], ◌∷◌, ◌++◌, length, refl, sym, ap, subst, ◌∙◌, inl, inr, arith}
use Rattle.std.specs.Prelude.{pos, All, Contains, Option, Some, None, slice_get, codes}
use Rattle.std.specs.Option.{option_and_then}
use Rattle.std.proofs.lemmas.Int.{ints}
use Rattle.std.proofs.lemmas.List.{append-nil}
use Rattle.std.proofs.lemmas.List.Elements.{All-nil, All-cons, All-head, All-tail}
use Rattle.py_base.specs.declared.Place.{Place}
use Rattle.py_base.specs.declared.Kind.{Kind}
use Rattle.py_base.specs.declared.Kind.TheVariants.{Assert}
use Rattle.py_syntax.specs.declared.Method.{Method}
use Rattle.py_syntax.specs.declared.Module.{Module}
use Rattle.py_syntax.specs.Findings.{Finding, IsBefore}
use Rattle.py_syntax.specs.SmallForms.{IsSmallModule}
use Rattle.py_syntax.specs.SmallLocal.{Fault, local, IsLocalFault, HasNoLocalFault}
use Rattle.small_module.specs.Spelled.{IsMainAlone}
use Rattle.nagini_cli.specs.SmallRun.{first_false, first_false_of, false_assert_text}
use Rattle.nagini_cli.specs.Texts.{fault_line, not_proved_line, accepted_line}
use Rattle.nagini_cli.specs.Reports.{AreLocalFaults, method_text, finding_line, report_text}
use Rattle.nagini_cli.proofs.LocalRuns.{ends_at, local_is}

-- a false assert of `main`
abbrev pub finding_at : Place → Finding
finding_at p = record { place = p; kind = Assert; method = 0 }

first_is : (m : Module) (small : IsSmallModule m) → first_false m ≡ first_false_of small.method
first_is m small =
    ap (λ (i : ℕ). option_and_then first_false_of (slice_get m.methods i)) small.is_main
    ∙ ap (λ (all : List Method). option_and_then first_false_of (slice_get all 0)) small.alone

-- the one method of a list of one
the_one : (run method : Method) (i : ℕ) → slice_get (run ∷ []) i ≡ Some method → (i ≡ 0) × (run ≡ method)
the_one run method zero e = (refl, cc)
the_one run method (suc i) e = cc

fault_at : (place : Option Place) (p : Place) (kind : Kind) → ends_at place ≡ Fault p kind → (place ≡ Some p) × (kind ≡ Assert)
fault_at None p kind e = cc
fault_at (Some q) p kind e = (cc, cc)

-- what each local fault of a small module is
each_fault : (m : Module) → IsSmallModule m → (f : Finding) → IsLocalFault m f → (first_false m ≡ Some f.place) × (f.kind ≡ Assert) × (f.method ≡ 0)
each_fault m small f fault =
    let one = the_one small.method fault.method f.method (ap (λ (all : List Method). slice_get all f.method) (sym small.alone) ∙ fault.is) in
    let ends : ends_at (first_false_of small.method) ≡ Fault f.place f.kind = sym (local_is fault.unit small.method fault.at_least_one small.is_small) ∙ ap (λ (method : Method). local fault.unit method) one.1 ∙ fault.ends in
    let is = fault_at (first_false_of small.method) f.place f.kind ends in
    (first_is m small ∙ is.0, is.1, one.0)

-- a first false assert is a local fault in the unit 1
one_fault : (m : Module) → IsSmallModule m → (p : Place) → first_false m ≡ Some p → IsLocalFault m (finding_at p)
one_fault m small p is = record {
  method = small.method;
  unit = pos 1;
  is = ap (λ (all : List Method). slice_get all 0) small.alone;
  at_least_one = omega (arith, ints);
  ends = local_is (pos 1) small.method (omega (arith, ints)) small.is_small ∙ ap ends_at (sym (first_is m small) ∙ is);
}

-- another fault there isn't
the_finding : (m : Module) → IsSmallModule m → (p : Place) → first_false m ≡ Some p → (f : Finding) → IsLocalFault m f → f ≡ finding_at p
the_finding m small p is f fault =
    let each = each_fault m small f fault in
    let place : f.place ≡ p = some_is f.place p (sym each.0 ∙ is) in
    same f p place each.1 each.2
  where
    some_is : (p q : Place) → Some p ≡ Some q → p ≡ q
    some_is p q e = cc

    same : (f : Finding) (p : Place) → f.place ≡ p → f.kind ≡ Assert → f.method ≡ 0 → f ≡ finding_at p
    same f p a b c = ap (λ (x : Place). record { place = x; kind = f.kind; method = f.method }) a ∙ ap (λ (x : Kind). record { place = p; kind = x; method = f.method }) b ∙ ap (λ (x : ℕ). record { place = p; kind = Assert; method = x }) c

pub none_of : (m : Module) → IsSmallModule m → first_false m ≡ None → HasNoLocalFault m
none_of m small is f fault = absurd (both (sym is ∙ (each_fault m small f fault).0))
  where
    both : {p : Place} → None ≡ Some p → ⊥
    both e = cc

pub first_none : (m : Module) → IsSmallModule m → HasNoLocalFault m → first_false m ≡ None
first_none m small none = by_first (first_false m) refl
  where
    by_first : (place : Option Place) → first_false m ≡ place → first_false m ≡ None
    by_first None e = e
    by_first (Some p) e = absurd (none (finding_at p) (one_fault m small p e))

pub one_of : (m : Module) → IsSmallModule m → (p : Place) → first_false m ≡ Some p → AreLocalFaults m (finding_at p ∷ [])
one_of m small p is = record {
  in_order = (All-nil (IsBefore (finding_at p)), tt);
  only_faults = All-cons (IsLocalFault m) (finding_at p) [] (one_fault m small p is) (All-nil (IsLocalFault m));
  all_faults = λ f fault. subst (λ (g : Finding). Contains (finding_at p ∷ []) g) (sym (the_finding m small p is f fault)) (0, omega arith, refl);
}

-- a local fault is the whole report
pub first_fault : (m : Module) (f : Finding) → IsSmallModule m → IsLocalFault m f → AreLocalFaults m (finding_at f.place ∷ [])
first_fault m f small fault = one_of m small f.place (each_fault m small f fault).0

not_before_itself : (f : Finding) → IsBefore f f → ⊥
not_before_itself f (inl (inl h)) = omega arith
not_before_itself f (inl (inr (e, h))) = omega arith
not_before_itself f (inr (e, inl h)) = omega arith
not_before_itself f (inr (e, inr (g, h))) = omega arith

-- the list of the local faults is that of the first false assert
pub first_some : (m : Module) → IsSmallModule m → (f : Finding) (fs : List Finding) → AreLocalFaults m (f ∷ fs) → (first_false m ≡ Some f.place) × ((f ∷ fs) ≡ finding_at f.place ∷ [])
first_some m small f fs are =
    let fault : IsLocalFault m f = All-head (IsLocalFault m) f fs are.only_faults in
    let first : first_false m ≡ Some f.place = (each_fault m small f fault).0 in
    let is : f ≡ finding_at f.place = the_finding m small f.place first f fault in
    (first, by_rest fs are.in_order.0 (All-tail (IsLocalFault m) f fs are.only_faults) first is)
  where
    by_rest : (gs : List Finding) → All (IsBefore f) gs → All (IsLocalFault m) gs → first_false m ≡ Some f.place → f ≡ finding_at f.place → (f ∷ gs) ≡ finding_at f.place ∷ []
    by_rest [] before faults first is = ap (λ (x : Finding). x ∷ []) is
    by_rest (g ∷ gs) before faults first is =
        let other : g ≡ finding_at f.place = the_finding m small f.place first g (All-head (IsLocalFault m) g gs faults) in
        absurd (not_before_itself f (subst (λ (x : Finding). IsBefore f x) (other ∙ sym is) (All-head (IsBefore f) g gs before)))

-- the one function is `main`
record IsNamed (m : Module) : Type 0 where
  one : length m.methods ≡ 1
  name : method_text m 0 ≡ codes "main"

named : (m : Module) → IsMainAlone m → IsNamed m
named m alone = rw alone.is (record { one = refl; name = refl })

pub accepted_text : (m : Module) → IsMainAlone m → accepted_line (length m.methods) ≡ accepted_line 1
accepted_text m alone = ap accepted_line (named m alone).one

pub fault_text : (m : Module) (p : Place) → IsMainAlone m → report_text m (finding_at p ∷ []) ≡ false_assert_text p
fault_text m p alone =
    ap (λ line. line ++ not_proved_line 1) (append-nil (finding_line m (finding_at p)))
    ∙ ap (λ name. fault_line p Assert name ++ not_proved_line 1) (named m alone).name
