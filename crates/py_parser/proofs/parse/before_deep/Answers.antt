use Rattle.std.proofs.Common.{rules, ◌≡◌, subst, Err}
use Rattle.py_parser.specs.Reading.{IsReading}
use Rattle.py_parser.proofs.Faults.{deep_fault, deep_fault_here, syntax_in_front, spelled_begins}
use Rattle.py_parser.proofs.parse.before_deep.Goals as goal

pub returns-in-Ok : goal.returns-in-Ok
returns-in-Ok c = (c.requires.lines, deep_fault c.args.ts.now c.args.before.now c.requires.deep.0 c.args.token.now c.requires.deep.1 (spelled_begins c.args.before.now c.in-Ok.field-0 c.in-Ok.ensures))

pub returns-in-Err-Unfinished : goal.returns-in-Err-Unfinished
returns-in-Err-Unfinished c =
    let unfinished = subst (λ f. IsReading c.args.before.now (Err f)) c.in-Err-Unfinished.field-0-is c.in-Err-Unfinished.ensures in
    (c.requires.lines, deep_fault c.args.ts.now c.args.before.now c.requires.deep.0 c.args.token.now c.requires.deep.1 unfinished.0)

pub returns-then-eq : goal.returns-then-eq
returns-then-eq c =
    let same : c.in-Err-Syntax.place ≡ c.args.token.now.place = search rules in
    (c.requires.lines, deep_fault_here c.args.ts.now c.args.before.now c.requires.deep.0 c.args.token.now c.in-Err-Syntax.place c.requires.deep.1 (subst (λ f. IsReading c.args.before.now (Err f)) c.in-Err-Syntax.field-0-is c.in-Err-Syntax.ensures) same)

pub returns : goal.returns
returns c =
    let apart : c.in-Err-Syntax.place ≡ c.args.token.now.place → ⊥ = search rules in
    (c.requires.lines, syntax_in_front c.args.ts.now c.args.before.now c.requires.deep.0 c.args.token.now c.in-Err-Syntax.place c.requires.deep.1 (subst (λ f. IsReading c.args.before.now (Err f)) c.in-Err-Syntax.field-0-is c.in-Err-Syntax.ensures) apart)
