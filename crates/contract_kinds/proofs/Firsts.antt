-- The first of some faults comes before or with each of them.
use Rattle.std.proofs.Common.{◌≡◌, refl, sym, ap, ◌∙◌, ℕ, Bool, true, false, ◌||◌, ◌&&◌, nat_lt, nat_eq, List, [], ◌∷◌, Option, Some, None, MatchOption, subst, inl, inr, arith, if◌then◌else◌}
use Rattle.std.proofs.lemmas.Bool.Decides.{nat_tests}
use Rattle.contract_kinds.specs.declared.breach.Breach.{Breach}
use Rattle.contract_kinds.specs.declared.breach.Rule.{Rule}
use Rattle.contract_kinds.specs.declared.breach.Rule.TheVariants as rules
use Rattle.contract_kinds.specs.Order.{number_of, comes_before, sooner, first_of, IsAmong, NoneComesBefore, IsFirstFault}

abbrev below : ℕ → ℕ → ℕ → ℕ → ℕ → ℕ → Bool
below l c r m d s = nat_lt l m || (nat_eq l m && (nat_lt c d || (nat_eq c d && nat_lt r s)))

-- what isn't below the second, which isn't below the third, isn't below the third
chained : (l c r m d s n e t : ℕ) → below l c r m d s ≡ false → below m d s n e t ≡ false → below l c r n e t ≡ false
chained l c r m d s n e t h k = grind (arith, nat_tests, h, k)

turned : (l c r m d s : ℕ) → below l c r m d s ≡ true → below m d s l c r ≡ false
turned l c r m d s h = grind (arith, nat_tests, h)

level : (l c r : ℕ) → below l c r l c r ≡ false
level l c r = grind (arith, nat_tests)

-- the same of faults
chained_faults : (f g h : Breach) → comes_before f g ≡ false → comes_before g h ≡ false → comes_before f h ≡ false
chained_faults f g h p q = chained f.place.line f.place.col (number_of f.rule) g.place.line g.place.col (number_of g.rule) h.place.line h.place.col (number_of h.rule) p q

turned_faults : (f g : Breach) → comes_before f g ≡ true → comes_before g f ≡ false
turned_faults f g p = turned f.place.line f.place.col (number_of f.rule) g.place.line g.place.col (number_of g.rule) p

level_fault : (f : Breach) → comes_before f f ≡ false
level_fault f = level f.place.line f.place.col (number_of f.rule)

among : (best g f : Breach) (gs : List Breach) → IsAmong f (best ∷ gs) → IsAmong f (best ∷ g ∷ gs)
among best g f gs (inl e) = inl e
among best g f gs (inr m) = inr (inr m)

-- one more fault, of which the sooner one is kept
one_more : (best g f : Breach) (gs : List Breach) (b : Bool) → comes_before g best ≡ b → IsFirstFault ((if b then g else best) ∷ gs) f → IsFirstFault (best ∷ g ∷ gs) f
one_more best g f gs true e h = record { is_among = inr h.is_among; is_first = (chained_faults best g f (turned_faults g best e) h.is_first.0, h.is_first) }
one_more best g f gs false e h = record { is_among = among best g f gs h.is_among; is_first = (h.is_first.0, (chained_faults g best f e h.is_first.0, h.is_first.1)) }

kept : (best f : Breach) (fs : List Breach) → first_of (Some best) fs ≡ Some f → IsFirstFault (best ∷ fs) f
kept best f [] e =
    let same : best ≡ f = cc in
    record { is_among = inl (sym same); is_first = (subst (λ x. comes_before best x ≡ false) same (level_fault best), tt) }
kept best f (g ∷ gs) e = one_more best g f gs (comes_before g best) refl (kept (sooner (Some best) g) f gs e)

first_is_first : (fs : List Breach) (f : Breach) → first_of None fs ≡ Some f → IsFirstFault fs f
first_is_first [] f e = absurd (cc)
first_is_first (g ∷ gs) f e = kept g f gs e

still_some : (best : Breach) (fs : List Breach) → first_of (Some best) fs ≡ None → ⊥
still_some best [] e = cc
still_some best (g ∷ gs) e = still_some (sooner (Some best) g) gs e

none_is_none : (fs : List Breach) → first_of None fs ≡ None → fs ≡ []
none_is_none [] e = refl
none_is_none (g ∷ gs) e = absurd (still_some g gs e)

pub told : (fs : List Breach) (found : Option Breach) → found ≡ first_of None fs → MatchOption found (fs ≡ []) (IsFirstFault fs)
told fs None e = none_is_none fs (sym e)
told fs (Some f) e = first_is_first fs f (sym e)

-- Two of which neither comes before the other are one.
same_line : (l c r m d s : ℕ) → below l c r m d s ≡ false → below m d s l c r ≡ false → l ≡ m
same_line l c r m d s h g = grind (arith, nat_tests, h, g)

same_col : (l c r m d s : ℕ) → l ≡ m → below l c r m d s ≡ false → below m d s l c r ≡ false → c ≡ d
same_col l c r m d s e h g = grind (arith, nat_tests, e, h, g)

same_number : (l c r m d s : ℕ) → l ≡ m → c ≡ d → below l c r m d s ≡ false → below m d s l c r ≡ false → r ≡ s
same_number l c r m d s e a h g = grind (arith, nat_tests, e, a, h, g)

-- the rule of a number
abbrev rule_of : ℕ → Rule
rule_of n =
    if nat_eq n 1 then rules.ContractPlace
    else if nat_eq n 2 then rules.OldInPre
    else if nat_eq n 3 then rules.DutyPlace
    else if nat_eq n 4 then rules.BadFraction
    else if nat_eq n 5 then rules.RecursivePure
    else if nat_eq n 6 then rules.BadTarget
    else rules.UnknownPredicate

numbered : (r : Rule) → rule_of (number_of r) ≡ r
numbered rules.ContractPlace = refl
numbered rules.OldInPre = refl
numbered rules.DutyPlace = refl
numbered rules.BadFraction = refl
numbered rules.RecursivePure = refl
numbered rules.BadTarget = refl
numbered rules.UnknownPredicate = refl

same_breach : (f g : Breach) → comes_before f g ≡ false → comes_before g f ≡ false → f ≡ g
same_breach f g h k =
    let line : f.place.line ≡ g.place.line = same_line f.place.line f.place.col (number_of f.rule) g.place.line g.place.col (number_of g.rule) h k in
    let col : f.place.col ≡ g.place.col = same_col f.place.line f.place.col (number_of f.rule) g.place.line g.place.col (number_of g.rule) line h k in
    let number : number_of f.rule ≡ number_of g.rule = same_number f.place.line f.place.col (number_of f.rule) g.place.line g.place.col (number_of g.rule) line col h k in
    ap (λ (n : ℕ). record { place = record { line = n; col = f.place.col }; rule = f.rule }) line
    ∙ ap (λ (n : ℕ). record { place = record { line = g.place.line; col = n }; rule = f.rule }) col
    ∙ ap (λ (r : Rule). record { place = g.place; rule = r }) (sym (numbered f.rule) ∙ ap rule_of number ∙ numbered g.rule)

none_before : (f g : Breach) (fs : List Breach) → IsAmong f fs → NoneComesBefore g fs → comes_before f g ≡ false
none_before f g [] among none = absurd among
none_before f g (h ∷ fs) (inl e) none = subst (λ (x : Breach). comes_before x g ≡ false) (sym e) none.0
none_before f g (h ∷ fs) (inr m) none = none_before f g fs m none.1

pub one_first : (fs : List Breach) (f g : Breach) → IsFirstFault fs f → IsFirstFault fs g → f ≡ g
one_first fs f g h k = same_breach f g (none_before f g fs h.is_among k.is_first) (none_before g f fs k.is_among h.is_first)
