-- Unassigned: some way through the text reaches the read of a local with no assignment. Ways through the text are looked at
-- and not conditions. A loop's body counts as assigning nothing after it, and a `try` body as assigning nothing for its
-- handlers and `finally`; nothing that the handlers or `else` assign counts within `finally`. A read that no way reaches is
-- no fault.
use Rattle.std.specs.Prelude.{ℕ, Bool, true, false, ◌&&◌, ◌||◌, List, [], ◌∷◌, ◌++◌, flat_map, map, Option, Some, None, bytes_eq}
use Rattle.py_base.specs.declared.Place.{Place}
use Rattle.raw_syntax.specs.declared.RawExpr.{RawExpr, fold-RawExpr}
use Rattle.raw_syntax.specs.declared.RawExprForm.{RawExprForm-F}
use Rattle.raw_syntax.specs.declared.RawComparison.{RawComparison, fold-RawComparison}
use Rattle.raw_syntax.specs.declared.RawArgument.{RawArgument, RawArgument-F, fold-RawArgument}
use Rattle.raw_syntax.specs.declared.RawStmt.{RawStmt, fold-RawStmt}
use Rattle.raw_syntax.specs.declared.RawStmtForm.{RawStmtForm-F}
use Rattle.raw_syntax.specs.declared.RawElif.{RawElif, fold-RawElif}
use Rattle.raw_syntax.specs.declared.RawHandler.{RawHandler, fold-RawHandler}
use Rattle.raw_syntax.specs.declared.RawFunc.{RawFunc}
use Rattle.class_table.specs.Shapes.{Shape, name, shape, is_name}
use Rattle.type_base.specs.declared.Fault.{Fault}
use Rattle.type_base.specs.declared.Rank.TheVariants as ranks
use Rattle.type_base.specs.Faults.{fault_if, joined}
use Rattle.type_base.specs.Locals.{locals}

-- the reads of a name in an expression; the left side of `=` in an argument is none
abbrev pub argument_reads : RawArgument-F (List Fault) (Place → List Fault) (List Fault) (List Fault) → List Fault
argument_reads (RawArgument-F.Value e) = e
argument_reads (RawArgument-F.Named e f) = f

abbrev pub read_form : List ℕ → RawExprForm-F (List Fault) (Place → List Fault) (List Fault) (List Fault) → Place → List Fault
read_form n (RawExprForm-F.Name m) p = fault_if (bytes_eq m n) p ranks.Unassigned
read_form n (RawExprForm-F.Bracket e) p = e
read_form n (RawExprForm-F.Tuple es) p = joined es
read_form n (RawExprForm-F.Field e f) p = e
read_form n (RawExprForm-F.Call e xs) p = e ++ joined xs
read_form n (RawExprForm-F.Negate e) p = e
read_form n (RawExprForm-F.Binary o a b) p = a ++ b
read_form n (RawExprForm-F.Chain e ls) p = e ++ joined ls
read_form n (RawExprForm-F.Not e) p = e
read_form n (RawExprForm-F.And a b) p = a ++ b
read_form n (RawExprForm-F.Or a b) p = a ++ b
read_form n form p = []

abbrev pub reads : List ℕ → RawExpr → List Fault
reads n = fold-RawExpr (List Fault) (Place → List Fault) (List Fault) (List Fault) argument_reads (read_form n) (λ l. l.operand) (λ e. e.form e.place)

abbrev pub reads_in : List ℕ → RawArgument → List Fault
reads_in n = fold-RawArgument (List Fault) (Place → List Fault) (List Fault) (List Fault) argument_reads (read_form n) (λ l. l.operand) (λ e. e.form e.place)

abbrev pub link_reads : List ℕ → RawComparison → List Fault
link_reads n = fold-RawComparison (List Fault) (Place → List Fault) (List Fault) (List Fault) argument_reads (read_form n) (λ l. l.operand) (λ e. e.form e.place)

-- What a statement does with a name. `settled` says that no way comes there on which the name isn't assigned: `after` is that
-- behind the statement, and `faults` are those of its reads.
pub record Way : Type 0 where
  pub after : Bool → Bool
  pub faults : Bool → List Fault

-- faults, where the name isn't settled
abbrev pub unless : Bool → List Fault → List Fault
unless true fs = []
unless false fs = fs

abbrev pub goes_on : List Fault → Way
goes_on fs = record { after = λ settled. settled; faults = λ settled. unless settled fs }

-- no way goes on behind it
abbrev pub leaves : List Fault → Way
leaves fs = record { after = λ settled. true; faults = λ settled. unless settled fs }

abbrev pub sets : Bool → List Fault → Way
sets b fs = record { after = λ settled. settled || b; faults = λ settled. unless settled fs }

abbrev pub block_after : List Way → Bool → Bool
block_after [] settled = settled
block_after (w ∷ ws) settled = block_after ws (w.after settled)

abbrev pub block_faults : List Way → Bool → List Fault
block_faults [] settled = []
block_faults (w ∷ ws) settled = w.faults settled ++ block_faults ws (w.after settled)

-- ways of which one is taken
abbrev pub each_after : List Way → Bool → Bool
each_after [] settled = true
each_after (w ∷ ws) settled = w.after settled && each_after ws settled

abbrev pub each_faults : List Way → Bool → List Fault
each_faults ws settled = flat_map (λ (w : Way). w.faults settled) ws

abbrev pub is_some_name : Shape → Bool
is_some_name (name p n) = true
is_some_name s = false

-- the reads of a target: a name alone is none
abbrev pub target_reads : List ℕ → RawExpr → List Fault
target_reads n e = unless (is_some_name (shape e)) (reads n e)

abbrev pub returned_reads : List ℕ → Option RawExpr → List Fault
returned_reads n None = []
returned_reads n (Some e) = reads n e

abbrev pub if_way : List Fault → List Way → List Way → List Way → Way
if_way fs ss elifs other = record {
  after = λ settled. block_after ss settled && (each_after elifs settled && block_after other settled);
  faults = λ settled. unless settled fs ++ block_faults ss settled ++ each_faults elifs settled ++ block_faults other settled;
}

abbrev pub while_way : List Fault → List Way → Way
while_way fs ss = record { after = λ settled. settled; faults = λ settled. unless settled fs ++ block_faults ss settled }

abbrev pub try_way : List Way → List Way → List Way → List Way → Way
try_way ss handlers other last = record {
  after = λ settled. block_after last settled || (each_after handlers settled && block_after other (block_after ss settled));
  faults = λ settled. block_faults ss settled ++ each_faults handlers settled ++ block_faults other (block_after ss settled) ++ block_faults last settled;
}

abbrev pub then_way : List Fault → List Way → Way
then_way fs ss = record { after = block_after ss; faults = λ settled. unless settled fs ++ block_faults ss settled }

abbrev pub way_form : List ℕ → RawStmtForm-F Way Way Way Way → Way
way_form n RawStmtForm-F.Pass = goes_on []
way_form n RawStmtForm-F.Break = leaves []
way_form n RawStmtForm-F.Continue = leaves []
way_form n (RawStmtForm-F.Return e) = leaves (returned_reads n e)
way_form n (RawStmtForm-F.Raise p m) = leaves []
way_form n (RawStmtForm-F.Assert e) = goes_on (reads n e)
way_form n (RawStmtForm-F.Eval e) = goes_on (reads n e)
way_form n (RawStmtForm-F.Declare target ty e) = sets (is_name n (shape target)) (target_reads n target ++ reads n e)
way_form n (RawStmtForm-F.Assign target e) = sets (is_name n (shape target)) (target_reads n target ++ reads n e)
way_form n (RawStmtForm-F.Augment target p o e) = sets (is_name n (shape target)) (reads n target ++ reads n e)
way_form n (RawStmtForm-F.If e ss elifs other) = if_way (reads n e) ss elifs other
way_form n (RawStmtForm-F.While e ss) = while_way (reads n e) ss
way_form n (RawStmtForm-F.Try ss handlers other last) = try_way ss handlers other last
way_form n (RawStmtForm-F.With e ss) = then_way (reads n e) ss

abbrev pub way : List ℕ → RawStmt → Way
way n = fold-RawStmt Way Way Way Way (way_form n) (λ e. then_way (reads n e.condition) e.body) (λ h. then_way [] h.body) (λ s. s.form)

abbrev pub part_way : List ℕ → RawElif → Way
part_way n = fold-RawElif Way Way Way Way (way_form n) (λ e. then_way (reads n e.condition) e.body) (λ h. then_way [] h.body) (λ s. s.form)

abbrev pub handler_way : List ℕ → RawHandler → Way
handler_way n = fold-RawHandler Way Way Way Way (way_form n) (λ e. then_way (reads n e.condition) e.body) (λ h. then_way [] h.body) (λ s. s.form)

abbrev pub name_faults : List RawStmt → List ℕ → List Fault
name_faults body n = block_faults (map (way n) body) false

abbrev pub unassigned_faults : RawFunc → List Fault
unassigned_faults f = flat_map (name_faults f.body) (locals f)
