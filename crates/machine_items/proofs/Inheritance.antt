-- The chain of bases of a class, one class after another.
use Rattle.std.proofs.Common.{◌≡◌, ◌<◌, ◌-◌, ℕ, zero, suc, true, false, ◌||◌, nat_eq, [], ◌∷◌, Option, Some, None, refl, ap, ◌∙◌, arith}
use Rattle.std.specs.List.{list_any}
use Rattle.std.specs.Option.{option_or}
use Rattle.std.proofs.lemmas.Bool.Decides.{nat_tests}
use Rattle.py_syntax.specs.declared.Module.{Module}
use Rattle.py_syntax.specs.Classes.{base_of, bases_from, own_method, first_method}

same_number : (a b : ℕ) → a ≡ b → nat_eq b a ≡ true
same_number a b same = grind (arith, nat_tests, same)

other_number : (a b : ℕ) → (a ≡ b → ⊥) → nat_eq b a ≡ false
other_number a b other = grind (arith, nat_tests, other)

chain_on : (m : Module) (left here : ℕ) → 0 < left → bases_from m left (Some here) ≡ here ∷ bases_from m (left - 1) (base_of m here)
chain_on m zero here some = absurd (omega arith)
chain_on m (suc n) here some = let less : n ≡ suc n - 1 = omega arith in ap (λ k. here ∷ bases_from m k (base_of m here)) less

chain_over : (m : Module) (left : ℕ) → bases_from m left None ≡ []
chain_over m zero = refl
chain_over m (suc n) = refl

pub base_found : (m : Module) (above left here : ℕ) → 0 < left → here ≡ above → list_any (nat_eq above) (bases_from m left (Some here)) ≡ true
base_found m above left here some same =
    ap (list_any (nat_eq above)) (chain_on m left here some) ∙ ap (λ b. b || list_any (nat_eq above) (bases_from m (left - 1) (base_of m here))) (same_number here above same)

pub base_passed : (m : Module) (above left here : ℕ) → 0 < left → (here ≡ above → ⊥)
    → list_any (nat_eq above) (bases_from m left (Some here)) ≡ list_any (nat_eq above) (bases_from m (left - 1) (base_of m here))
base_passed m above left here some other =
    ap (list_any (nat_eq above)) (chain_on m left here some) ∙ ap (λ b. b || list_any (nat_eq above) (bases_from m (left - 1) (base_of m here))) (other_number here above other)

pub no_base : (m : Module) (above left : ℕ) → list_any (nat_eq above) (bases_from m left None) ≡ false
no_base m above left = ap (list_any (nat_eq above)) (chain_over m left)

pub bases_over : (m : Module) (above left : ℕ) (next : Option ℕ) → left ≡ 0 → list_any (nat_eq above) (bases_from m left next) ≡ false
bases_over m above left next none = ap (λ k. list_any (nat_eq above) (bases_from m k next)) none

pub method_found : (m : Module) (name left here i : ℕ) → 0 < left → own_method m name here ≡ Some i → first_method m name (bases_from m left (Some here)) ≡ Some i
method_found m name left here i some found =
    ap (first_method m name) (chain_on m left here some) ∙ ap (λ o. option_or o (first_method m name (bases_from m (left - 1) (base_of m here)))) found

pub method_passed : (m : Module) (name left here : ℕ) → 0 < left → own_method m name here ≡ None
    → first_method m name (bases_from m left (Some here)) ≡ first_method m name (bases_from m (left - 1) (base_of m here))
method_passed m name left here some none =
    ap (first_method m name) (chain_on m left here some) ∙ ap (λ o. option_or o (first_method m name (bases_from m (left - 1) (base_of m here)))) none

pub no_method : (m : Module) (name left : ℕ) → first_method m name (bases_from m left None) ≡ None
no_method m name left = ap (first_method m name) (chain_over m left)

pub methods_over : (m : Module) (name left : ℕ) (next : Option ℕ) → left ≡ 0 → first_method m name (bases_from m left next) ≡ None
methods_over m name left next none = ap (λ k. first_method m name (bases_from m k next)) none
