use Rattle.std.proofs.Common.{◌≡◌, ap, ◌∙◌}
use Rattle.ref_solver.specs.Classes.{together}
use Rattle.ref_solver.proofs.Linking.{told_together}
use Rattle.ref_solver.proofs.closure.Closure.are_equal.Goals as goal

pub returns : goal.returns
returns c =
    let classes : c.as_slice.result.now ≡ c.args.self.now.classes = c.as_slice.ensures ∙ ap (λ v. v.classes) c.self.view_is in
    told_together c.args.self.now.classes c.args.s.now c.args.t.now c.together.result (c.together.ensures ∙ ap (λ cs. together cs c.args.s.now c.args.t.now) classes)
