use Rattle.std.proofs.Common.{◌≡◌, ◌++◌, ◌∷◌, [], ap, bytes_eq, rules}
use Rattle.std.specs.Map.{lookup}
use Rattle.name_table.proofs.Places.{pushed}
use Rattle.name_table.proofs.names.Names.push.Goals as goal

pub invariant_of-self-2 : goal.invariant_of-self-2
invariant_of-self-2 c n =
    let key : c.in_ok-key.key.items ≡ c.args.name.now = search rules in
    let now : c.push.new.self ≡ c.self.inside.list ++ c.args.name.now ∷ [] = search rules in
    pushed c.args.name.now n c.in_ok-key.key.items c.self.inside.list c.push.new.self _ _ _ _
    (c.self.invariant n) (ap (lookup (λ k. bytes_eq n k.items)) c.reserve.ensures.entries) key c.len-place.ensures now (c.note_place.ensures n)
