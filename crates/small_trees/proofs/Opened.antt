-- A fold at an expression or a statement whose outermost form is known.
use Rattle.std.proofs.Common.{◌≡◌, ap, ◌∙◌}
use Rattle.raw_syntax.specs.declared.RawExpr.{RawExpr, RawExpr-F, fold-RawExpr, fold_out-RawExpr}
use Rattle.raw_syntax.specs.declared.RawExprForm.{RawExprForm, RawExprForm-F, out-RawExprForm, fold-RawExprForm, fold_out-RawExprForm, map-RawExprForm}
use Rattle.raw_syntax.specs.declared.RawComparison.{RawComparison, RawComparison-F, fold-RawComparison, fold_out-RawComparison}
use Rattle.raw_syntax.specs.declared.RawArgument.{RawArgument, RawArgument-F, out-RawArgument, fold-RawArgument, fold_out-RawArgument, map-RawArgument}
use Rattle.raw_syntax.specs.declared.RawStmt.{RawStmt, RawStmt-F, fold-RawStmt, fold_out-RawStmt}
use Rattle.raw_syntax.specs.declared.RawStmtForm.{RawStmtForm, RawStmtForm-F, out-RawStmtForm, fold-RawStmtForm, fold_out-RawStmtForm, map-RawStmtForm}
use Rattle.raw_syntax.specs.declared.RawElif.{RawElif, RawElif-F, fold-RawElif}
use Rattle.raw_syntax.specs.declared.RawHandler.{RawHandler, RawHandler-F, fold-RawHandler}

abbrev pub ExprLayer : Type 0
ExprLayer = RawExprForm-F RawArgument RawExprForm RawComparison RawExpr

abbrev pub StmtLayer : Type 0
StmtLayer = RawStmtForm-F RawStmtForm RawElif RawHandler RawStmt

pub opened : (A F L E : Type 0) (ka : RawArgument-F A F L E → A) (kf : RawExprForm-F A F L E → F) (kl : RawComparison-F A F L E → L) (ke : RawExpr-F A F L E → E) (e : RawExpr) (f : ExprLayer) → out-RawExprForm e.form ≡ f
    → fold-RawExpr A F L E ka kf kl ke e
    ≡ ke (record { place = e.place; form = kf (map-RawExprForm RawArgument RawExprForm RawComparison RawExpr A F L E (fold-RawArgument A F L E ka kf kl ke) (fold-RawExprForm A F L E ka kf kl ke) (fold-RawComparison A F L E ka kf kl ke) (fold-RawExpr A F L E ka kf kl ke) f) })
opened A F L E ka kf kl ke e f is =
    fold_out-RawExpr A F L E ka kf kl ke e
    ∙ ap (λ (x : F). ke (record { place = e.place; form = x })) (fold_out-RawExprForm A F L E ka kf kl ke e.form)
    ∙ ap (λ (x : ExprLayer). ke (record { place = e.place; form = kf (map-RawExprForm RawArgument RawExprForm RawComparison RawExpr A F L E (fold-RawArgument A F L E ka kf kl ke) (fold-RawExprForm A F L E ka kf kl ke) (fold-RawComparison A F L E ka kf kl ke) (fold-RawExpr A F L E ka kf kl ke) x) })) is

pub opened_stmt : (A B C D : Type 0) (ka : RawStmtForm-F A B C D → A) (kb : RawElif-F A B C D → B) (kc : RawHandler-F A B C D → C) (kd : RawStmt-F A B C D → D) (s : RawStmt) (f : StmtLayer) → out-RawStmtForm s.form ≡ f
    → fold-RawStmt A B C D ka kb kc kd s
    ≡ kd (record { place = s.place; form = ka (map-RawStmtForm RawStmtForm RawElif RawHandler RawStmt A B C D (fold-RawStmtForm A B C D ka kb kc kd) (fold-RawElif A B C D ka kb kc kd) (fold-RawHandler A B C D ka kb kc kd) (fold-RawStmt A B C D ka kb kc kd) f) })
opened_stmt A B C D ka kb kc kd s f is =
    fold_out-RawStmt A B C D ka kb kc kd s
    ∙ ap (λ (x : A). kd (record { place = s.place; form = x })) (fold_out-RawStmtForm A B C D ka kb kc kd s.form)
    ∙ ap (λ (x : StmtLayer). kd (record { place = s.place; form = ka (map-RawStmtForm RawStmtForm RawElif RawHandler RawStmt A B C D (fold-RawStmtForm A B C D ka kb kc kd) (fold-RawElif A B C D ka kb kc kd) (fold-RawHandler A B C D ka kb kc kd) (fold-RawStmt A B C D ka kb kc kd) x) })) is

pub opened_link : (A F L E : Type 0) (ka : RawArgument-F A F L E → A) (kf : RawExprForm-F A F L E → F) (kl : RawComparison-F A F L E → L) (ke : RawExpr-F A F L E → E) (l : RawComparison)
    → fold-RawComparison A F L E ka kf kl ke l ≡ kl (record { place = l.place; operator = l.operator; operand = fold-RawExpr A F L E ka kf kl ke l.operand })
opened_link A F L E ka kf kl ke l = fold_out-RawComparison A F L E ka kf kl ke l

pub opened_argument : (A F L E : Type 0) (ka : RawArgument-F A F L E → A) (kf : RawExprForm-F A F L E → F) (kl : RawComparison-F A F L E → L) (ke : RawExpr-F A F L E → E) (x : RawArgument) (v : RawExpr) → out-RawArgument x ≡ RawArgument-F.Value v
    → fold-RawArgument A F L E ka kf kl ke x ≡ ka (RawArgument-F.Value (fold-RawExpr A F L E ka kf kl ke v))
opened_argument A F L E ka kf kl ke x v is =
    fold_out-RawArgument A F L E ka kf kl ke x
    ∙ ap (λ (y : RawArgument-F RawArgument RawExprForm RawComparison RawExpr). ka (map-RawArgument RawArgument RawExprForm RawComparison RawExpr A F L E (fold-RawArgument A F L E ka kf kl ke) (fold-RawExprForm A F L E ka kf kl ke) (fold-RawComparison A F L E ka kf kl ke) (fold-RawExpr A F L E ka kf kl ke) y)) is
