use Rattle.std.proofs.Common.{refl}
use Rattle.xs_model.specs.Bounds.{points}
use Rattle.xs_expr.proofs.Sound.{bounds-Fits, points-within}
use Rattle.xs_expr.proofs.worth.value.Goals as goal

pub value_of-requires : goal.value_of-requires
value_of-requires c = bounds-Fits (points c.args.a.now) c.args.a.now (points-within c.args.a.now) c.args.e.now _ refl c.requires.bounded c.requires.shaped c.requires.variables
