use Rattle.std.proofs.Common.{ℕ, List, Option, refl, sym, subst, inr}
use Rattle.io_edge.specs.Outside.{Held}
use Rattle.py_syntax.specs.declared.Module.{Module}
use Rattle.schedule_runner.specs.declared.schedule.ScheduleLine.{ScheduleLine}
use Rattle.nagini_cli.specs.declared.prepare.Prepared.{Prepared}
use Rattle.nagini_cli.specs.declared.reply.Reply.{Reply}
use Rattle.nagini_cli.specs.Allowed.{RunsFiles}
use Rattle.nagini_cli.specs.Preparing.{ByFiles, GiveFiles}
use Rattle.nagini_cli.specs.Replies.{text_of}
use Rattle.nagini_cli.specs.RunAnswers.{run_status, run_text}
use Rattle.nagini_cli.proofs.BuiltForms.{has_small_forms}
use Rattle.nagini_cli.proofs.Prepares.{runs_files, promised_with_fault}
use Rattle.nagini_cli.proofs.ToldRun.{no_fault_ends}
use Rattle.nagini_cli.proofs.run.run_files.Goals as goal

pub play-requires : goal.play-requires
play-requires g c =
    let held : Option Held = g.F.Files.held c.args.files.now in
    let m : Module = c.in-Ok-Ready.module in
    let from : GiveFiles held c.args.file.now c.args.schedule.now m c.in-Ok-Ready.schedule.lines = subst (λ (p : Prepared). ByFiles held c.args.file.now c.args.schedule.now p) c.in-Ok-Ready.field-0-is c.in-Ok-Ready.ensures.whole in
    has_small_forms m (c.a_spelled_module_is_small.ensures.forms from.bytes m from.give.small)

pub returns-in-Ok-Ready-clause-whole : goal.returns-in-Ok-Ready-clause-whole
returns-in-Ok-Ready-clause-whole g c = λ quiet.
    let held : Option Held = g.F.Files.held c.args.files.now in
    let m : Module = c.in-Ok-Ready.module in
    let all : List ScheduleLine = c.in-Ok-Ready.schedule.lines in
    let from : GiveFiles held c.args.file.now c.args.schedule.now m all = subst (λ (p : Prepared). ByFiles held c.args.file.now c.args.schedule.now p) c.in-Ok-Ready.field-0-is c.in-Ok-Ready.ensures.whole in
    let played = c.play.ensures.whole quiet in
    (run_text m all, runs_files held c.args.file.now c.args.schedule.now m all c.play.result from played.0, played.1)

pub returns-in-Ok-Ready-clause-part : goal.returns-in-Ok-Ready-clause-part
returns-in-Ok-Ready-clause-part g c = λ cut.
    let held : Option Held = g.F.Files.held c.args.files.now in
    let m : Module = c.in-Ok-Ready.module in
    let all : List ScheduleLine = c.in-Ok-Ready.schedule.lines in
    let from : GiveFiles held c.args.file.now c.args.schedule.now m all = subst (λ (p : Prepared). ByFiles held c.args.file.now c.args.schedule.now p) c.in-Ok-Ready.field-0-is c.in-Ok-Ready.ensures.whole in
    inr (run_status m all, run_text m all, runs_files held c.args.file.now c.args.schedule.now m all (run_status m all) from refl, c.play.ensures.part cut, λ e. absurd (no_fault_ends m all e))

pub returns-in-Ok-Answered-clause-whole : goal.returns-in-Ok-Answered-clause-whole
returns-in-Ok-Answered-clause-whole g c = λ quiet.
    let held : Option Held = g.F.Files.held c.args.files.now in
    let r : Reply = c.in-Ok-Answered.reply in
    let runs : RunsFiles held c.args.file.now c.args.schedule.now r.status (text_of r) = subst (λ (p : Prepared). ByFiles held c.args.file.now c.args.schedule.now p) c.in-Ok-Answered.field-0-is c.in-Ok-Answered.ensures.whole in
    let said = c.finish.ensures.whole quiet in
    (text_of r, subst (λ (s : ℕ). RunsFiles held c.args.file.now c.args.schedule.now s (text_of r)) (sym said.0) runs, said.1)

pub returns-in-Ok-Answered-clause-part : goal.returns-in-Ok-Answered-clause-part
returns-in-Ok-Answered-clause-part g c = λ cut.
    let held : Option Held = g.F.Files.held c.args.files.now in
    let r : Reply = c.in-Ok-Answered.reply in
    let runs : RunsFiles held c.args.file.now c.args.schedule.now r.status (text_of r) = subst (λ (p : Prepared). ByFiles held c.args.file.now c.args.schedule.now p) c.in-Ok-Answered.field-0-is c.in-Ok-Answered.ensures.whole in
    inr (r.status, text_of r, runs, c.finish.ensures.part cut, promised_with_fault _ _ _ c.in-Ok-Answered.field-0 r c.in-Ok-Answered.field-0-is c.in-Ok-Answered.ensures.read_fault)
