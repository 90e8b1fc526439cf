use Rattle.std.proofs.Common.{◌≡◌, [], drop, arith}
use Rattle.std.proofs.lemmas.Grind.{common_steps}
use Rattle.fz_values.specs.Kinds.{args_in}
use Rattle.fz_values.proofs.ArgLemmas.{ended}
use Rattle.fz_values.proofs.arguments.args_in.Goals as goal

pub returns : goal.returns
returns c =
    let e : args_in c.args.names.now (drop c.loop-at.at c.args.kinds.now) (drop c.loop-at.at c.args.exprs.now) ≡ [] =
    ended c.args.names.now c.args.kinds.now c.args.exprs.now c.loop-at.at (omega (arith, c.loop-at-test.false, c.min-at-end.ensures)) in
    grind (arith, common_steps, e, c.loop-at.invariant)
