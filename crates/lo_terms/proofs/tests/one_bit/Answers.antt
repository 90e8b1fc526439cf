use Rattle.std.proofs.Common.{◌≡◌, sym, subst, rules}
use Rattle.std.specs.Prelude.{None}
use Rattle.xs_model.specs.Accepted.{IsAccepted}
use Rattle.lo_terms.proofs.Examples.{one_bit, one_bit_accepted}
use Rattle.lo_terms.proofs.tests.one_bit.Goals as goal

pub returns-clause-accepted : goal.returns-clause-accepted
returns-clause-accepted c =
    let same : record { decls = c.push.new.self; constraints = c.push-2.new.self; objective = None } ≡ one_bit = search rules in
    subst IsAccepted (sym same) one_bit_accepted
