use Rattle.type_names.proofs.Told.{settled_in}
use Rattle.type_names.proofs.asking.settle_type.Goals as goal

pub returns-then-before-len : goal.returns-then-before-len
returns-then-before-len c front rest n is =
    let v = settled_in c.args.types.now front rest c.args.before c.args.at c.args.place c.args.ty (cc (c.is_valued.ensures, c.if-is_valued.true)) n is in cc (c.set.ensures, c.or_void.ensures, v)
