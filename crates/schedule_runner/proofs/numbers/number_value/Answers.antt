use Rattle.std.proofs.Common.{arith}
use Rattle.schedule_runner.proofs.Digits.{number_digits, room, value_more}
use Rattle.std.proofs.lemmas.Grind.{pow_more}
use Rattle.schedule_runner.proofs.numbers.number_value.Goals as goal

pub overflow_mul-n : goal.overflow_mul-n
overflow_mul-n c = omega (arith, room _ c.loop-b.n _ c.requires c.loop-b-test.true c.loop-b.invariant.small)

pub overflow_add-n : goal.overflow_add-n
overflow_add-n c = omega (arith, room _ c.loop-b.n _ c.requires c.loop-b-test.true c.loop-b.invariant.small, c.from.ensures, number_digits _ _ c.requires c.loop-b-test.true)

pub overflow_sub-b : goal.overflow_sub-b
overflow_sub-b c = (number_digits _ _ c.requires c.loop-b-test.true).0

pub loop-b-preserved : goal.loop-b-preserved
loop-b-preserved c =
    let digit = number_digits _ _ c.requires c.loop-b-test.true in
    record {
      value = grind (arith, value_more c.args.bytes.now c.loop-b.b-index c.loop-b-test.true, c.from.ensures, c.loop-b.invariant.value);
      small = rw (pow_more 10 c.loop-b.b-index) (omega (arith, c.loop-b.invariant.small, c.from.ensures, digit));
    }
