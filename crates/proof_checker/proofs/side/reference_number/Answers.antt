use Rattle.std.proofs.Common.{ap, ◌∙◌}
use Rattle.terms.specs.declared.Term.{Term, Term-F, map-Term, roll-Term}
use Rattle.proof_checker.specs.Views.{origin_term, under}
use Rattle.proof_checker.proofs.Sides.{not_number, roll-RefLit}
use Rattle.proof_checker.proofs.side.reference_number.Goals as goal

pub returns-in-RefLit : goal.returns-in-RefLit
returns-in-RefLit c = record { some = ap (λ (x : Term-F Term). roll-Term (map-Term Term Term (under c.args.a.now.puts) x)) c.in-RefLit.ensures ∙ roll-RefLit c.in-RefLit.n; none = tt }

pub returns-in-Sym : goal.returns-in-Sym
returns-in-Sym c = record { some = tt; none = λ n e. not_number (under c.args.a.now.puts) (origin_term c.args.a.now.origin) (Term-F.Sym c.in-Sym.field-0) n tt c.in-Sym.ensures e }

pub returns-in-Lit : goal.returns-in-Lit
returns-in-Lit c = record { some = tt; none = λ n e. not_number (under c.args.a.now.puts) (origin_term c.args.a.now.origin) (Term-F.Lit c.in-Lit.field-0) n tt c.in-Lit.ensures e }

pub returns-in-Scale : goal.returns-in-Scale
returns-in-Scale c = record { some = tt; none = λ n e. not_number (under c.args.a.now.puts) (origin_term c.args.a.now.origin) (Term-F.Scale c.in-Scale.field-0 (origin_term c.in-Scale.field-1)) n tt c.in-Scale.ensures e }

pub returns-in-App : goal.returns-in-App
returns-in-App c = record { some = tt; none = λ n e. not_number (under c.args.a.now.puts) (origin_term c.args.a.now.origin) (Term-F.App c.in-App.field-0 c.in-App.field-1.now) n tt c.in-App.ensures e }

pub returns-in-RefSym : goal.returns-in-RefSym
returns-in-RefSym c = record { some = tt; none = λ n e. not_number (under c.args.a.now.puts) (origin_term c.args.a.now.origin) (Term-F.RefSym c.in-RefSym.field-0) n tt c.in-RefSym.ensures e }

pub returns-in-Nil : goal.returns-in-Nil
returns-in-Nil c = record { some = tt; none = λ n e. not_number (under c.args.a.now.puts) (origin_term c.args.a.now.origin) (Term-F.Nil) n tt c.in-Nil.ensures e }

pub returns-in-Add : goal.returns-in-Add
returns-in-Add c = record { some = tt; none = λ n e. not_number (under c.args.a.now.puts) (origin_term c.args.a.now.origin) (Term-F.Add (origin_term c.in-Add.field-0) (origin_term c.in-Add.field-1)) n tt c.in-Add.ensures e }
