use Rattle.std.proofs.Common.{◌≡◌, ◌++◌, drop}
use Rattle.type_rules.specs.Statements.{members_faults}
use Rattle.type_rules.specs.Types.{members_types, members_locals}
use Rattle.type_rules.proofs.functions.note_members.Given as goal

abbrev pub invariant-members : goal.invariant-members
invariant-members l = record {
  faults : l.found ++ members_faults l.classes l.functions l.class (drop l.member-index l.members) ≡ l.fn.found ++ members_faults l.classes l.functions l.class l.members;
  types : l.types ++ members_types l.classes l.functions l.class (drop l.member-index l.members) ≡ l.fn.types ++ members_types l.classes l.functions l.class l.members;
  locals : l.locals ++ members_locals l.classes l.functions l.class (drop l.member-index l.members) ≡ l.fn.locals ++ members_locals l.classes l.functions l.class l.members;
}
