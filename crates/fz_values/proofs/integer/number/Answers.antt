use Rattle.std.proofs.Common.{◌≤◌, subst, sym}
use Rattle.fz_values.specs.Integers.{limit}
use Rattle.fz_values.proofs.Digits.{too_large}
use Rattle.fz_values.proofs.integer.number.Goals as goal

pub returns-in-None : goal.returns-in-None
returns-in-None c = λ le. too_large c.args.base c.loop-byte.value c.args.digits.now c.loop-byte.byte-index c.loop-byte-test.true c.requires c.in-None.ensures (subst (λ n. n ≤ limit) (sym c.loop-byte.invariant.so_far) le)
