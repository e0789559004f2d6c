use Rattle.std.specs.Prelude.{◌≡◌, ℕ, suc, ◌+◌, ◌<◌, ◌≤◌, List, [], ◌∷◌, ◌++◌, length, take, get_or, All, IsTrue}
use Rattle.std.proofs.Common.{rules, ap, sym, subst, ◌∙◌, arith}
use Rattle.std.proofs.Math.Seq.{take-suc}
use Rattle.std.proofs.lemmas.List.{take_all}
use Rattle.std.proofs.lemmas.List.Elements.{All-contains, Contains-push}
use Rattle.terms.specs.declared.Literal.{Literal}
use Rattle.terms.specs.Sorts.{sorted}
use Rattle.proof_checker.proofs.Facts.{one_more}
use Rattle.proof_checker.proofs.condition.Condition.is_sorted.Goals as goal

abbrev Sorted : Literal → Type 0
Sorted k = IsTrue (sorted k)

one_step : (xs : List Literal) (i : ℕ) (x : Literal) → i < length xs → get_or xs i x ≡ x → Sorted x → All Sorted (take i xs) → All Sorted (take (i + 1) xs)
one_step xs i x lt is h all =
    let next : i + 1 ≡ suc i = omega arith in
    let e : take (i + 1) xs ≡ take i xs ++ x ∷ [] = ap (λ (n : ℕ). take n xs) next ∙ take-suc xs i x lt ∙ ap (λ y. take i xs ++ y ∷ []) is in
    subst (All Sorted) (sym e) (one_more Sorted (take i xs) x all h)

all_seen : (xs ys : List Literal) (i : ℕ) → length xs ≤ i → xs ≡ ys → All Sorted (take i xs) → All Sorted ys
all_seen xs ys i le e all = subst (All Sorted) (take_all i xs le ∙ e) all

pub loop-l-preserved : goal.loop-l-preserved
loop-l-preserved c =
    let xs = c.as_slice-l-items.result.now in
    let is : get_or xs c.loop-l.l-index c.l-item.result ≡ c.l-item.result = search rules in
    one_step xs c.loop-l.l-index c.l-item.result c.loop-l-test.true is (sym c.is_sorted.ensures ∙ c.if-not-is_sorted.false) c.loop-l.invariant

pub returns : goal.returns
returns c =
    let hyps = c.args.self.now.hyps in
    let last = c.args.self.now.goal in
    let all = all_seen c.as_slice-l-items.result.now hyps c.loop-l.l-index c.loop-l-test.false c.as_slice-l-items.ensures c.loop-l.invariant in
    (λ h. one_more Sorted hyps last all (sym c.is_sorted-2.ensures ∙ h), λ h. c.is_sorted-2.ensures ∙ All-contains Sorted (hyps ++ last ∷ []) last h (Contains-push hyps last))
