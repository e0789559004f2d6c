-- The first of some faults comes before or with each of them.
use Rattle.std.proofs.Common.{◌≡◌, refl, sym, ap, ◌∙◌, ℕ, Bool, true, false, ◌||◌, ◌&&◌, nat_lt, nat_eq, List, [], ◌∷◌, ◌++◌, Option, Some, None, MatchOption, subst, inl, inr, arith, if◌then◌else◌}
use Rattle.std.proofs.lemmas.Bool.Decides.{nat_tests}
use Rattle.type_base.specs.declared.Fault.{Fault}
use Rattle.type_base.specs.declared.Rank.{Rank}
use Rattle.type_base.specs.declared.Rank.TheVariants as ranks
use Rattle.py_types.specs.Order.{sort_of, rule_of, comes_before, sooner, first_of, IsAmong, NoneComesBefore, IsFirstFault}

-- Places and ranks by four numbers.
abbrev below : ℕ → ℕ → ℕ → ℕ → ℕ → ℕ → ℕ → ℕ → Bool
below l c i k m d j n = nat_lt l m || (nat_eq l m && (nat_lt c d || (nat_eq c d && (nat_lt i j || (nat_eq i j && nat_lt k n)))))

-- what isn't below the second, which isn't below the third, isn't below the third
chained : (l c i k m d j n x y u v : ℕ) → below l c i k m d j n ≡ false → below m d j n x y u v ≡ false → below l c i k x y u v ≡ false
chained l c i k m d j n x y u v h g = grind (arith, nat_tests, h, g)

turned : (l c i k m d j n : ℕ) → below l c i k m d j n ≡ true → below m d j n l c i k ≡ false
turned l c i k m d j n h = grind (arith, nat_tests, h)

level : (l c i k : ℕ) → below l c i k l c i k ≡ false
level l c i k = grind (arith, nat_tests)

-- the same of faults
chained_faults : (f g h : Fault) → comes_before f g ≡ false → comes_before g h ≡ false → comes_before f h ≡ false
chained_faults f g h p q = chained f.place.line f.place.col (sort_of f.rank) (rule_of f.rank) g.place.line g.place.col (sort_of g.rank) (rule_of g.rank) h.place.line h.place.col (sort_of h.rank) (rule_of h.rank) p q

turned_faults : (f g : Fault) → comes_before f g ≡ true → comes_before g f ≡ false
turned_faults f g p = turned f.place.line f.place.col (sort_of f.rank) (rule_of f.rank) g.place.line g.place.col (sort_of g.rank) (rule_of g.rank) p

level_fault : (f : Fault) → comes_before f f ≡ false
level_fault f = level f.place.line f.place.col (sort_of f.rank) (rule_of f.rank)

-- Two of which neither comes before the other are one.
same_line : (l c i k m d j n : ℕ) → below l c i k m d j n ≡ false → below m d j n l c i k ≡ false → l ≡ m
same_line l c i k m d j n h g = grind (arith, nat_tests, h, g)

same_col : (l c i k m d j n : ℕ) → l ≡ m → below l c i k m d j n ≡ false → below m d j n l c i k ≡ false → c ≡ d
same_col l c i k m d j n e h g = grind (arith, nat_tests, e, h, g)

same_sort : (l c i k m d j n : ℕ) → l ≡ m → c ≡ d → below l c i k m d j n ≡ false → below m d j n l c i k ≡ false → i ≡ j
same_sort l c i k m d j n e a h g = grind (arith, nat_tests, e, a, h, g)

same_rule : (l c i k m d j n : ℕ) → l ≡ m → c ≡ d → i ≡ j → below l c i k m d j n ≡ false → below m d j n l c i k ≡ false → k ≡ n
same_rule l c i k m d j n e a b h g = grind (arith, nat_tests, e, a, b, h, g)

same_rank : (r s : Rank) → sort_of r ≡ sort_of s → rule_of r ≡ rule_of s → r ≡ s
same_rank (ranks.Mistyped rule) (ranks.Mistyped other) e h = ap ranks.Mistyped h
same_rank (ranks.Mistyped rule) ranks.BoolAsInt e h = absurd (cc)
same_rank (ranks.Mistyped rule) ranks.Unassigned e h = absurd (cc)
same_rank ranks.BoolAsInt (ranks.Mistyped other) e h = absurd (cc)
same_rank ranks.BoolAsInt ranks.BoolAsInt e h = refl
same_rank ranks.BoolAsInt ranks.Unassigned e h = absurd (cc)
same_rank ranks.Unassigned (ranks.Mistyped other) e h = absurd (cc)
same_rank ranks.Unassigned ranks.BoolAsInt e h = absurd (cc)
same_rank ranks.Unassigned ranks.Unassigned e h = refl

same_fault : (f g : Fault) → comes_before f g ≡ false → comes_before g f ≡ false → f ≡ g
same_fault f g h k =
    let line : f.place.line ≡ g.place.line = same_line f.place.line f.place.col (sort_of f.rank) (rule_of f.rank) g.place.line g.place.col (sort_of g.rank) (rule_of g.rank) h k in
    let col : f.place.col ≡ g.place.col = same_col f.place.line f.place.col (sort_of f.rank) (rule_of f.rank) g.place.line g.place.col (sort_of g.rank) (rule_of g.rank) line h k in
    let sort : sort_of f.rank ≡ sort_of g.rank = same_sort f.place.line f.place.col (sort_of f.rank) (rule_of f.rank) g.place.line g.place.col (sort_of g.rank) (rule_of g.rank) line col h k in
    let rule : rule_of f.rank ≡ rule_of g.rank = same_rule f.place.line f.place.col (sort_of f.rank) (rule_of f.rank) g.place.line g.place.col (sort_of g.rank) (rule_of g.rank) line col sort h k in
    ap (λ (n : ℕ). record { place = record { line = n; col = f.place.col }; rank = f.rank }) line
    ∙ ap (λ (n : ℕ). record { place = record { line = g.place.line; col = n }; rank = f.rank }) col
    ∙ ap (λ (r : Rank). record { place = g.place; rank = r }) (same_rank f.rank g.rank sort rule)

none_before : (f g : Fault) (fs : List Fault) → IsAmong f fs → NoneComesBefore g fs → comes_before f g ≡ false
none_before f g [] among none = absurd among
none_before f g (h ∷ fs) (inl e) none = subst (λ (x : Fault). comes_before x g ≡ false) (sym e) none.0
none_before f g (h ∷ fs) (inr m) none = none_before f g fs m none.1

pub one_first : (fs : List Fault) (f g : Fault) → IsFirstFault fs f → IsFirstFault fs g → f ≡ g
one_first fs f g h k = same_fault f g (none_before f g fs h.is_among k.is_first) (none_before g f fs k.is_among h.is_first)

among : (best g f : Fault) (gs : List Fault) → IsAmong f (best ∷ gs) → IsAmong f (best ∷ g ∷ gs)
among best g f gs (inl e) = inl e
among best g f gs (inr m) = inr (inr m)

-- one more fault, of which the sooner one is kept
one_more : (best g f : Fault) (gs : List Fault) (b : Bool) → comes_before g best ≡ b → IsFirstFault ((if b then g else best) ∷ gs) f → IsFirstFault (best ∷ g ∷ gs) f
one_more best g f gs true e h = record { is_among = inr h.is_among; is_first = (chained_faults best g f (turned_faults g best e) h.is_first.0, h.is_first) }
one_more best g f gs false e h = record { is_among = among best g f gs h.is_among; is_first = (h.is_first.0, (chained_faults g best f e h.is_first.0, h.is_first.1)) }

kept : (best f : Fault) (fs : List Fault) → first_of (Some best) fs ≡ Some f → IsFirstFault (best ∷ fs) f
kept best f [] e =
    let same : best ≡ f = cc in
    record { is_among = inl (sym same); is_first = (subst (λ x. comes_before best x ≡ false) same (level_fault best), tt) }
kept best f (g ∷ gs) e = one_more best g f gs (comes_before g best) refl (kept (sooner (Some best) g) f gs e)

pub first_is_first : (fs : List Fault) (f : Fault) → first_of None fs ≡ Some f → IsFirstFault fs f
first_is_first [] f e = absurd (cc)
first_is_first (g ∷ gs) f e = kept g f gs e

still_some : (best : Fault) (fs : List Fault) → first_of (Some best) fs ≡ None → ⊥
still_some best [] e = cc
still_some best (g ∷ gs) e = still_some (sooner (Some best) g) gs e

pub none_is_none : (fs : List Fault) → first_of None fs ≡ None → fs ≡ []
none_is_none [] e = refl
none_is_none (g ∷ gs) e = absurd (still_some g gs e)

joined : (best : Option Fault) (fs gs : List Fault) → first_of best (fs ++ gs) ≡ first_of (first_of best fs) gs
joined best [] gs = refl
joined best (f ∷ fs) gs = joined (Some (sooner best f)) fs gs

pub told : (fs : List Fault) (found : Option Fault) → first_of None fs ≡ found → MatchOption found (fs ≡ []) (IsFirstFault fs)
told fs None e = none_is_none fs e
told fs (Some f) e = first_is_first fs f e

-- the same of two lists, of which the second is looked through behind the first
pub none_of_both : (fs gs : List Fault) (first : Option Fault) → first ≡ first_of None fs → first_of first gs ≡ None → fs ++ gs ≡ []
none_of_both fs gs first e h = none_is_none (fs ++ gs) (joined None fs gs ∙ (sym (ap (λ b. first_of b gs) e) ∙ h))

pub first_by_both : (fs gs : List Fault) (first : Option Fault) (f : Fault) → first ≡ first_of None fs → first_of first gs ≡ Some f → IsFirstFault (fs ++ gs) f
first_by_both fs gs first f e h = first_is_first (fs ++ gs) f (joined None fs gs ∙ (sym (ap (λ b. first_of b gs) e) ∙ h))
