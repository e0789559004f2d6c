use Rattle.std.proofs.Common.{◌≡◌, ℕ, suc, ◌<◌, List, ◌∷◌, length, sym, ap, arith}
use Rattle.terms.specs.declared.Term.{Term}
use Rattle.proof_checker.specs.Chains.{facts}
use Rattle.proof_checker.proofs.Reading.{rest_of, first_and_rest}
use Rattle.proof_checker.proofs.Ruled.{equal_rest}
use Rattle.proof_checker.proofs.rules.+are_equal.Goals as goal

shorter : (xs : List Term) (x : Term) (t : ℕ) → xs ≡ x ∷ rest_of xs → length xs ≡ t → length (rest_of xs) < t
shorter xs x t e is = let long : length xs ≡ suc (length (rest_of xs)) = ap length e in omega (arith, long, is)

pub are_equal-requires : goal.are_equal-requires
are_equal-requires t c =
    let xs = c.args.xs.now in
    (shorter xs c.x-item.result t (first_and_rest xs c.x-item.result c.in-len1-up.len_at_least (sym c.x-item.is)) c.decreases, tt)

pub returns-then-is_equal : goal.returns-then-is_equal
returns-then-is_equal t c =
    let xs = c.args.xs.now in
    let ys = c.args.ys.now in
    let x = c.x-item.result in
    let y = c.y-item.result in
    let e = first_and_rest xs x c.in-len1-up.len_at_least (sym c.x-item.is) in
    let f = first_and_rest ys y c.in-len1-up-ys.len_at_least (sym c.y-item.is) in
    equal_rest (facts c.args.chain.now) xs ys x y (rest_of xs) (rest_of ys) c.are_equal.result e f (c.is_equal.ensures.0 c.if-is_equal.true) c.are_equal.ensures
