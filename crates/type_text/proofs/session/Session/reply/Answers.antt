use Rattle.std.proofs.Common.{string_bytes}
use Rattle.type_text.proofs.Lines.{begun}
use Rattle.type_text.proofs.session.Session.reply.Goals as goal

pub returns-in-Some : goal.returns-in-Some
returns-in-Some c = begun string_bytes c.args.line.now c.in-Some.name.now c.args.self.now.module c.begin.new.self.module c.begin.result c.in-Some.ensures.cases c.begin.ensures
