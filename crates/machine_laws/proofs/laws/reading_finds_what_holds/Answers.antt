use Rattle.std.specs.Prelude.{[]}
use Rattle.std.proofs.lemmas.List.Elements.{All-nil}
use Rattle.machine_laws.specs.DepthLaws.{IsNotHeld, opens_holds, holds_opens}
use Rattle.machine_laws.specs.DepthBound.{holds_in_room, room_holds}
use Rattle.machine_laws.proofs.laws.reading_finds_what_holds.Goals as goal

pub returns-clause-sound : goal.returns-clause-sound
returns-clause-sound c = opens_holds

pub returns-clause-deep_enough : goal.returns-clause-deep_enough
returns-clause-deep_enough c fits m s k n q vs le h = holds_opens fits m s k n [] q vs le (All-nil (IsNotHeld fits m s k)) h

pub returns-clause-within_room : goal.returns-clause-within_room
returns-clause-within_room c fits m s objects q vs among takes = (room_holds fits m s objects q vs, holds_in_room fits m s objects q vs among takes)
