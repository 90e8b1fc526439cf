use Rattle.std.proofs.Common.{ap, arith, get_or}
use Rattle.lo_names.proofs.Reading.{injective}
use Rattle.lo_names.proofs.names.distinct_names.Goals as goal

pub returns : goal.returns
returns c = record {
  injective = injective;
  apart = λ word rest. (λ e. omega (arith, ap (λ bs. get_or bs 0 0) e), λ e. omega (arith, ap (λ bs. get_or bs 0 0) e));
}
