use Rattle.std.specs.Prelude.{◌≡◌, ◌↔◌, IsTrue, Bool, true, false}
use Rattle.std.proofs.Common.{refl, sym}
use Rattle.terms.specs.declared.Term.{Term}
use Rattle.terms.specs.Sameness.{same_term}
use Rattle.terms.specs.SamenessLaws.{same_is_equal, equal_is_same}
use Rattle.ref_solver.proofs.same.same_term.Goals as goal

is_computed : (s t : Term) (b c : Bool) → same_term s t ≡ c → (IsTrue b ↔ (s ≡ t)) → b ≡ c
is_computed s t true true e h = refl
is_computed s t false false e h = refl
is_computed s t true false e h =
    let yes = equal_is_same s t (h.0 refl) in
    absurd (cc)
is_computed s t false true e h =
    let yes : false ≡ true = h.1 (same_is_equal s t e) in
    absurd (cc)

pub returns : goal.returns
returns c =
    is_computed c.args.s.now c.args.t.now c.is_same.result (same_term c.args.s.now c.args.t.now) refl c.is_same.ensures
