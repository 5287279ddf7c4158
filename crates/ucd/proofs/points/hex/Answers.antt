use Rattle.std.proofs.Common.{◌+◌, ◌*◌, arith}
use Rattle.std.proofs.lemmas.List.{take_rest}
use Rattle.ucd.proofs.Digits.{remains_more, remains_small}
use Rattle.ucd.proofs.points.hex.Goals as goal

pub loop-rest-preserved : goal.loop-rest-preserved
loop-rest-preserved c =
    remains_more c.args.text.now c.loop-rest.number c.in-Some.value c.loop-rest.rest.now _ (take_rest c.loop-rest.rest.now 1) c.in-Some.ensures c.loop-rest.invariant

pub overflow_mul-number : goal.overflow_mul-number
overflow_mul-number c = omega (arith, remains_small c.args.text.now c.loop-rest.number c.loop-rest.rest.now c.loop-rest.invariant)

pub overflow_add-number : goal.overflow_add-number
overflow_add-number c =
    omega (arith, remains_small c.args.text.now (c.loop-rest.number * 16 + c.in-Some.value) _ (loop-rest-preserved c))
