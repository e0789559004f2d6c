use Rattle.std.specs.Prelude.{All, take, false}
use Rattle.cond_facts.specs.FormsTold.{IsLiteralTold}
use Rattle.cond_facts.proofs.forms.wide_place.Given as goal

abbrev pub invariant-loop-place : goal.invariant-loop-place
invariant-loop-place l = All (IsLiteralTold false) (take l.place l.fn.literals)
