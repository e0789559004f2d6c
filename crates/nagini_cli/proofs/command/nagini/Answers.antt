use Rattle.std.proofs.Common.{Some, map, string_bytes, sym, refl, ap, ◌∙◌, arith}
use Rattle.std.proofs.lemmas.Result.{IfOk-weaker}
use Rattle.nagini_cli.specs.declared.words.Command.{Command as Told}
use Rattle.nagini_cli.specs.Allowed.{run}
use Rattle.nagini_cli.specs.Answers.{refused, accepted, not_proved}
use Rattle.nagini_cli.specs.Commands.{Check, Run, command_in}
use Rattle.nagini_cli.proofs.Faults.{first_fault}
use Rattle.nagini_cli.proofs.Verdicts.{accepted_of, not_proved_of, refused_of, limit_of}
use Rattle.nagini_cli.proofs.Replied.{whole_of, part_of, told_of, usage_part_of, read_fault_of, row_of, not_run, no_run, not_check, run_part_of, not_usage}
use Rattle.nagini_cli.proofs.ToldRun.{reads_in_order, run_is_told, reads_nothing, no_run_is_told}
use Rattle.nagini_cli.proofs.command.nagini.Goals as goal

pub returns-in-Some-Check-clause-whole : goal.returns-in-Some-Check-clause-whole
returns-in-Some-Check-clause-whole g c = λ quiet.
    whole_of c.check.result _ _ c.in-Some-Check.file.now _ _ _ (sym c.in-Some-Check.ensures ∙ ap (λ (t : Told). Some (command_in t)) c.in-Some-Check.field-0-is) c.check.ensures.whole (c.finish.ensures.whole quiet)

pub returns-in-Some-Check-clause-part : goal.returns-in-Some-Check-clause-part
returns-in-Some-Check-clause-part g c = λ cut.
    part_of _ c.check.result _ _ c.in-Some-Check.file.now _ _ (sym c.in-Some-Check.ensures ∙ ap (λ (t : Told). Some (command_in t)) c.in-Some-Check.field-0-is) c.check.ensures.whole (IfOk-weaker c.check.result _ _ (λ r promised is. (promised is).0) c.check.ensures.read_fault) (c.finish.ensures.part cut) c.finish.ensures.nothing

pub returns-in-Some-Check-clause-read_fault : goal.returns-in-Some-Check-clause-read_fault
returns-in-Some-Check-clause-read_fault g c = λ is.
    let fault = read_fault_of _ _ c.check.result c.in-Some-Check.file.now c.finish.result _ _ c.check.ensures.read_fault (c.finish.ensures.whole (λ e. omega (arith, is, e), λ e. omega (arith, is, e))) is in
    (Check c.in-Some-Check.file.now, c.in-Some-Check.file.now, sym c.in-Some-Check.ensures ∙ ap (λ (t : Told). Some (command_in t)) c.in-Some-Check.field-0-is, refl, fault.0, fault.1, fault.2)

pub returns-in-Some-Check-clause-told : goal.returns-in-Some-Check-clause-told
returns-in-Some-Check-clause-told g c = λ bytes asks is_answered.
    told_of c.check.result _ _ c.in-Some-Check.file.now bytes _ _ _ (sym c.in-Some-Check.ensures ∙ ap (λ (t : Told). Some (command_in t)) c.in-Some-Check.field-0-is) c.check.ensures.told (c.finish.ensures.whole is_answered.0) asks is_answered.1

pub returns-in-Some-Check-clause-limit : goal.returns-in-Some-Check-clause-limit
returns-in-Some-Check-clause-limit g c = λ bytes asks is_answered.
    let answer = told_of c.check.result _ _ c.in-Some-Check.file.now bytes _ _ _ (sym c.in-Some-Check.ensures ∙ ap (λ (t : Told). Some (command_in t)) c.in-Some-Check.field-0-is) c.check.ensures.told (c.finish.ensures.whole is_answered.0) asks is_answered.1 in
    limit_of bytes _ _ answer.1

pub returns-in-Some-Check-clause-only_refused : goal.returns-in-Some-Check-clause-only_refused
returns-in-Some-Check-clause-only_refused g c = λ bytes asks is.
    let answer = told_of c.check.result _ _ c.in-Some-Check.file.now bytes _ _ _ (sym c.in-Some-Check.ensures ∙ ap (λ (t : Told). Some (command_in t)) c.in-Some-Check.field-0-is) c.check.ensures.told (c.finish.ensures.whole (λ e. omega (arith, is, e), λ e. omega (arith, is, e))) asks (λ e. omega (arith, is, e)) in
    refused_of bytes _ _ is answer.1.answers

pub returns-in-Some-Check-clause-refused : goal.returns-in-Some-Check-clause-refused
returns-in-Some-Check-clause-refused g c = λ bytes f asks is_answered within front.
    row_of c.check.result _ _ c.in-Some-Check.file.now _ _ _ (sym c.in-Some-Check.ensures ∙ ap (λ (t : Told). Some (command_in t)) c.in-Some-Check.field-0-is) c.check.ensures.told c.finish.ensures.whole bytes _ _ asks is_answered (refused within f front refl refl)

pub returns-in-Some-Check-clause-accepts : goal.returns-in-Some-Check-clause-accepts
returns-in-Some-Check-clause-accepts g c = λ bytes m asks is_answered within spelled none.
    row_of c.check.result _ _ c.in-Some-Check.file.now _ _ _ (sym c.in-Some-Check.ensures ∙ ap (λ (t : Told). Some (command_in t)) c.in-Some-Check.field-0-is) c.check.ensures.told c.finish.ensures.whole bytes _ _ asks is_answered (accepted within m spelled none refl refl)

pub returns-in-Some-Check-clause-accepted : goal.returns-in-Some-Check-clause-accepted
returns-in-Some-Check-clause-accepted g c = λ bytes asks is.
    let answer = told_of c.check.result _ _ c.in-Some-Check.file.now bytes _ _ _ (sym c.in-Some-Check.ensures ∙ ap (λ (t : Told). Some (command_in t)) c.in-Some-Check.field-0-is) c.check.ensures.told (c.finish.ensures.whole (λ e. omega (arith, is, e), λ e. omega (arith, is, e))) asks (λ e. omega (arith, is, e)) in
    accepted_of c.a_spelled_module_is_small.ensures.forms c.no_local_fault_is_safe.ensures bytes _ _ is answer.1.answers

pub returns-in-Some-Check-clause-not_proved : goal.returns-in-Some-Check-clause-not_proved
returns-in-Some-Check-clause-not_proved g c = λ bytes asks is.
    let answer = told_of c.check.result _ _ c.in-Some-Check.file.now bytes _ _ _ (sym c.in-Some-Check.ensures ∙ ap (λ (t : Told). Some (command_in t)) c.in-Some-Check.field-0-is) c.check.ensures.told (c.finish.ensures.whole (λ e. omega (arith, is, e), λ e. omega (arith, is, e))) asks (λ e. omega (arith, is, e)) in
    not_proved_of _ _ bytes _ _ is answer.1.answers answer.2

pub returns-in-Some-Check-clause-reports : goal.returns-in-Some-Check-clause-reports
returns-in-Some-Check-clause-reports g c = λ bytes m f asks is_answered within spelled fault.
    let place = first_fault m f (c.a_spelled_module_is_small.ensures.forms bytes m spelled) fault in
    let row = row_of c.check.result _ _ c.in-Some-Check.file.now _ _ _ (sym c.in-Some-Check.ensures ∙ ap (λ (t : Told). Some (command_in t)) c.in-Some-Check.field-0-is) c.check.ensures.told c.finish.ensures.whole bytes _ _ asks is_answered (not_proved within m _ _ spelled place refl refl) in
    (row.0, (_, place, row.1))

pub returns-in-None-clause-part : goal.returns-in-None-clause-part
returns-in-None-clause-part g c = λ cut.
    usage_part_of _ c.usage.result _ _ _ _ (sym c.in-None.ensures) c.usage.ensures (c.finish-in-None.ensures.part cut) c.finish-in-None.ensures.nothing

pub returns-in-Some-Check-clause-reads_in_order : goal.returns-in-Some-Check-clause-reads_in_order
returns-in-Some-Check-clause-reads_in_order g c = reads_nothing _ _ _ _ _ (not_run (map string_bytes c.args.words.now) c.in-Some-Check.file.now (sym c.in-Some-Check.ensures ∙ ap (λ (t : Told). Some (command_in t)) c.in-Some-Check.field-0-is))

pub returns-in-Some-Check-clause-run_told : goal.returns-in-Some-Check-clause-run_told
returns-in-Some-Check-clause-run_told g c = no_run_is_told _ _ _ _ _ (not_run (map string_bytes c.args.words.now) c.in-Some-Check.file.now (sym c.in-Some-Check.ensures ∙ ap (λ (t : Told). Some (command_in t)) c.in-Some-Check.field-0-is))

pub returns-in-None-clause-reads_in_order : goal.returns-in-None-clause-reads_in_order
returns-in-None-clause-reads_in_order g c = reads_nothing _ _ _ _ _ (no_run (map string_bytes c.args.words.now) (sym c.in-None.ensures))

pub returns-in-None-clause-run_told : goal.returns-in-None-clause-run_told
returns-in-None-clause-run_told g c = no_run_is_told _ _ _ _ _ (no_run (map string_bytes c.args.words.now) (sym c.in-None.ensures))

pub returns-in-Some-Run-clause-whole : goal.returns-in-Some-Run-clause-whole
returns-in-Some-Run-clause-whole g c = λ quiet.
    let said = c.run_files.ensures.whole quiet in
    (said.0, run c.in-Some-Run.file.now c.in-Some-Run.schedule.now (sym c.in-Some-Run.ensures ∙ ap (λ (t : Told). Some (command_in t)) c.in-Some-Run.field-0-is) said.1, said.2)

pub returns-in-Some-Run-clause-part : goal.returns-in-Some-Run-clause-part
returns-in-Some-Run-clause-part g c = λ cut.
    run_part_of _ _ _ c.in-Some-Run.file.now c.in-Some-Run.schedule.now _ _ (sym c.in-Some-Run.ensures ∙ ap (λ (t : Told). Some (command_in t)) c.in-Some-Run.field-0-is) (c.run_files.ensures.part cut)

pub returns-in-Some-Run-clause-usage : goal.returns-in-Some-Run-clause-usage
returns-in-Some-Run-clause-usage g c = λ is. absurd (not_usage _ c.in-Some-Run.file.now c.in-Some-Run.schedule.now _ _ _ c.run_files.ensures.whole is)

pub returns-in-Some-Run-clause-read_fault : goal.returns-in-Some-Run-clause-read_fault
returns-in-Some-Run-clause-read_fault g c = λ is.
    let fault = c.run_files.ensures.read_fault is in
    (Run c.in-Some-Run.file.now c.in-Some-Run.schedule.now, fault.0, sym c.in-Some-Run.ensures ∙ ap (λ (t : Told). Some (command_in t)) c.in-Some-Run.field-0-is, fault.1, fault.2, fault.3, fault.4)

pub returns-in-Some-Run-clause-reads_in_order : goal.returns-in-Some-Run-clause-reads_in_order
returns-in-Some-Run-clause-reads_in_order g c = reads_in_order _ _ c.in-Some-Run.file.now c.in-Some-Run.schedule.now _ _ _ (sym c.in-Some-Run.ensures ∙ ap (λ (t : Told). Some (command_in t)) c.in-Some-Run.field-0-is) c.run_files.ensures.whole

pub returns-in-Some-Run-clause-run_told : goal.returns-in-Some-Run-clause-run_told
returns-in-Some-Run-clause-run_told g c = run_is_told c.a_run_has_one_answer.ensures.one _ _ c.in-Some-Run.file.now c.in-Some-Run.schedule.now _ _ _ (sym c.in-Some-Run.ensures ∙ ap (λ (t : Told). Some (command_in t)) c.in-Some-Run.field-0-is) c.run_files.ensures.whole

pub returns-in-Some-Run-clause-told : goal.returns-in-Some-Run-clause-told
returns-in-Some-Run-clause-told g c = λ bytes asks _. absurd (not_check (map string_bytes c.args.words.now) c.in-Some-Run.file.now c.in-Some-Run.schedule.now (sym c.in-Some-Run.ensures ∙ ap (λ (t : Told). Some (command_in t)) c.in-Some-Run.field-0-is) asks.file asks.command)

pub returns-in-Some-Run-clause-limit : goal.returns-in-Some-Run-clause-limit
returns-in-Some-Run-clause-limit g c = λ bytes asks _. absurd (not_check (map string_bytes c.args.words.now) c.in-Some-Run.file.now c.in-Some-Run.schedule.now (sym c.in-Some-Run.ensures ∙ ap (λ (t : Told). Some (command_in t)) c.in-Some-Run.field-0-is) asks.file asks.command)

pub returns-in-Some-Run-clause-only_refused : goal.returns-in-Some-Run-clause-only_refused
returns-in-Some-Run-clause-only_refused g c = λ bytes asks _. absurd (not_check (map string_bytes c.args.words.now) c.in-Some-Run.file.now c.in-Some-Run.schedule.now (sym c.in-Some-Run.ensures ∙ ap (λ (t : Told). Some (command_in t)) c.in-Some-Run.field-0-is) asks.file asks.command)

pub returns-in-Some-Run-clause-refused : goal.returns-in-Some-Run-clause-refused
returns-in-Some-Run-clause-refused g c = λ bytes f asks _ _ _. absurd (not_check (map string_bytes c.args.words.now) c.in-Some-Run.file.now c.in-Some-Run.schedule.now (sym c.in-Some-Run.ensures ∙ ap (λ (t : Told). Some (command_in t)) c.in-Some-Run.field-0-is) asks.file asks.command)

pub returns-in-Some-Run-clause-accepted : goal.returns-in-Some-Run-clause-accepted
returns-in-Some-Run-clause-accepted g c = λ bytes asks _. absurd (not_check (map string_bytes c.args.words.now) c.in-Some-Run.file.now c.in-Some-Run.schedule.now (sym c.in-Some-Run.ensures ∙ ap (λ (t : Told). Some (command_in t)) c.in-Some-Run.field-0-is) asks.file asks.command)

pub returns-in-Some-Run-clause-accepts : goal.returns-in-Some-Run-clause-accepts
returns-in-Some-Run-clause-accepts g c = λ bytes m asks _ _ _ _. absurd (not_check (map string_bytes c.args.words.now) c.in-Some-Run.file.now c.in-Some-Run.schedule.now (sym c.in-Some-Run.ensures ∙ ap (λ (t : Told). Some (command_in t)) c.in-Some-Run.field-0-is) asks.file asks.command)

pub returns-in-Some-Run-clause-not_proved : goal.returns-in-Some-Run-clause-not_proved
returns-in-Some-Run-clause-not_proved g c = λ bytes asks _. absurd (not_check (map string_bytes c.args.words.now) c.in-Some-Run.file.now c.in-Some-Run.schedule.now (sym c.in-Some-Run.ensures ∙ ap (λ (t : Told). Some (command_in t)) c.in-Some-Run.field-0-is) asks.file asks.command)

pub returns-in-Some-Run-clause-reports : goal.returns-in-Some-Run-clause-reports
returns-in-Some-Run-clause-reports g c = λ bytes m f asks _ _ _ _. absurd (not_check (map string_bytes c.args.words.now) c.in-Some-Run.file.now c.in-Some-Run.schedule.now (sym c.in-Some-Run.ensures ∙ ap (λ (t : Told). Some (command_in t)) c.in-Some-Run.field-0-is) asks.file asks.command)

pub returns-in-Some-Run-clause-not_held : goal.returns-in-Some-Run-clause-not_held
returns-in-Some-Run-clause-not_held g c = λ file files command _ _ _. absurd (not_check (map string_bytes c.args.words.now) c.in-Some-Run.file.now c.in-Some-Run.schedule.now (sym c.in-Some-Run.ensures ∙ ap (λ (t : Told). Some (command_in t)) c.in-Some-Run.field-0-is) file command)
