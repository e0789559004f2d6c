use Rattle.std.proofs.Common.{◌≡◌, sym, ap, ◌∙◌, pos}
use Rattle.terms.specs.declared.Term.{Term-F, Lit, Add}
use Rattle.proof_checker.specs.Chains.{side_term}
use Rattle.proof_checker.specs.Views.{origin_term, under}
use Rattle.proof_checker.proofs.Sides.{sum_parts, sum_below, not_sum}
use Rattle.proof_checker.proofs.side.is_one_more.Goals as goal

pub returns-in-Sym : goal.returns-in-Sym
returns-in-Sym c = (λ h. absurd (cc), λ e. absurd (not_sum (under c.args.a.now.puts) (origin_term c.args.a.now.origin) (Term-F.Sym c.in-Sym.field-0) (side_term c.args.b.now) tt c.in-Sym.ensures e))

pub returns-in-Lit : goal.returns-in-Lit
returns-in-Lit c = (λ h. absurd (cc), λ e. absurd (not_sum (under c.args.a.now.puts) (origin_term c.args.a.now.origin) (Term-F.Lit c.in-Lit.field-0) (side_term c.args.b.now) tt c.in-Lit.ensures e))

pub returns-in-Scale : goal.returns-in-Scale
returns-in-Scale c = (λ h. absurd (cc), λ e. absurd (not_sum (under c.args.a.now.puts) (origin_term c.args.a.now.origin) (Term-F.Scale c.in-Scale.field-0 (origin_term c.in-Scale.field-1)) (side_term c.args.b.now) tt c.in-Scale.ensures e))

pub returns-in-App : goal.returns-in-App
returns-in-App c = (λ h. absurd (cc), λ e. absurd (not_sum (under c.args.a.now.puts) (origin_term c.args.a.now.origin) (Term-F.App c.in-App.field-0 c.in-App.field-1.now) (side_term c.args.b.now) tt c.in-App.ensures e))

pub returns-in-RefSym : goal.returns-in-RefSym
returns-in-RefSym c = (λ h. absurd (cc), λ e. absurd (not_sum (under c.args.a.now.puts) (origin_term c.args.a.now.origin) (Term-F.RefSym c.in-RefSym.field-0) (side_term c.args.b.now) tt c.in-RefSym.ensures e))

pub returns-in-RefLit : goal.returns-in-RefLit
returns-in-RefLit c = (λ h. absurd (cc), λ e. absurd (not_sum (under c.args.a.now.puts) (origin_term c.args.a.now.origin) (Term-F.RefLit c.in-RefLit.field-0) (side_term c.args.b.now) tt c.in-RefLit.ensures e))

pub returns-in-Nil : goal.returns-in-Nil
returns-in-Nil c = (λ h. absurd (cc), λ e. absurd (not_sum (under c.args.a.now.puts) (origin_term c.args.a.now.origin) (Term-F.Nil) (side_term c.args.b.now) tt c.in-Nil.ensures e))

pub returns-then-is_side : goal.returns-then-is_side
returns-then-is_side c =
    let u = under c.args.a.now.puts in
    let b = side_term c.args.b.now in
    let first = u (origin_term c.in-Add.c) in
    let second = u (origin_term c.in-Add.d) in
    let sum : side_term c.args.a.now ≡ Add first second = sum_below u (origin_term c.args.a.now.origin) (origin_term c.in-Add.c) (origin_term c.in-Add.d) c.in-Add.ensures in
    let left : first ≡ b = c.is_side.ensures.0 c.if-is_side.true in
    (λ h. sum ∙ ap (λ z. Add z second) left ∙ ap (λ z. Add b z) (c.is_one.ensures.0 h), λ e. c.is_one.ensures.1 (sum_parts first second b (Lit (pos 1)) (sym sum ∙ e)).1)

pub returns-else-is_side : goal.returns-else-is_side
returns-else-is_side c =
    let u = under c.args.a.now.puts in
    let b = side_term c.args.b.now in
    let first = u (origin_term c.in-Add.c) in
    let second = u (origin_term c.in-Add.d) in
    let sum : side_term c.args.a.now ≡ Add first second = sum_below u (origin_term c.args.a.now.origin) (origin_term c.in-Add.c) (origin_term c.in-Add.d) c.in-Add.ensures in
    (λ h. absurd (cc (h, c.if-is_side.false)), λ e. c.is_side.ensures.1 (sum_parts first second b (Lit (pos 1)) (sym sum ∙ e)).0)
