use Rattle.std.proofs.Common.{arith}
use Rattle.xs_model.specs.declared.instance.Constraint.TheVariants.{Intension}
use Rattle.lo_terms.proofs.Accepted.{few_items}
use Rattle.lo_terms.proofs.constraint.lower.Goals as goal

pub lower_intension-requires-clause-few : goal.lower_intension-requires-clause-few
lower_intension-requires-clause-few g c =
    let few = few_items c.args.inst.now (Intension c.args.e.now) c.requires.accepted c.requires.member in
    omega (arith, few)
