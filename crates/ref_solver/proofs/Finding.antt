-- Where literals first clash.
use Rattle.std.specs.Prelude.{◌≡◌, ◌⊎◌, ◌↔◌, ℕ, ◌+◌, ◌<◌, ◌≤◌, Bool, true, false, IsTrue, List, [], ◌∷◌, ◌++◌, length, take}
use Rattle.std.proofs.Common.{refl, ap, sym, subst, ◌∙◌, arith, zero, suc}
use Rattle.std.proofs.Math.Seq.{take-length}
use Rattle.terms.specs.declared.Literal.{Literal}
use Rattle.ref_solver.specs.Clashing.{Clash, apart, references, flag, IsFirstClash, IsBetween}
use Rattle.ref_solver.proofs.Standing.{none_in, both_stand, contains_more, follows_more}

nothing_clashes : Clash [] → ⊥
nothing_clashes (apart a b there h) = none_in _ there
nothing_clashes (references s t m n h e f differ) = none_in s (both_stand [] s t h).0
nothing_clashes (flag n there other) = none_in _ there

some_clash : (ls : List Literal) → Clash ls → 0 < length ls
some_clash [] h = absurd (nothing_clashes h)
some_clash (l ∷ ls) h = omega arith

pub between_all : (ls : List Literal) → Clash ls → IsBetween ls 0 (length ls)
between_all ls h = record {
  order = some_clash ls h;
  within = omega arith;
  none_before = nothing_clashes;
  clash = subst Clash (sym (take-length ls)) h;
}

pub between_lower : (ls : List Literal) (low middle high : ℕ) → low < middle → middle < high → IsBetween ls low high → Clash (take middle ls) → IsBetween ls low middle
between_lower ls low middle high p q h k = let within_ = h.within in record {
  order = p;
  within = omega arith;
  none_before = h.none_before;
  clash = k;
}

pub between_upper : (ls : List Literal) (low middle high : ℕ) → low < middle → middle < high → IsBetween ls low high → ¬ (Clash (take middle ls)) → IsBetween ls middle high
between_upper ls low middle high p q h k = record {
  order = q;
  within = h.within;
  none_before = k;
  clash = h.clash;
}

pub first_at : (ls : List Literal) (low high : ℕ) → high ≡ low + 1 → IsBetween ls low high → IsFirstClash ls low
first_at ls low high e h = let order_ = h.order in let within_ = h.within in record {
  there = omega arith;
  clash = subst (λ n. Clash (take n ls)) e h.clash;
  none_before = h.none_before;
}

-- what clashes still does with more
pub clash_more : (ls more : List Literal) → Clash ls → Clash (ls ++ more)
clash_more ls more (apart a b there h) =
    apart a b (contains_more ls more _ there) (follows_more ls more a b h)
clash_more ls more (references s t m n h e f differ) =
    references s t m n (follows_more ls more s t h) e f differ
clash_more ls more (flag n there other) =
    flag n (contains_more ls more _ there) (contains_more ls more _ other)
