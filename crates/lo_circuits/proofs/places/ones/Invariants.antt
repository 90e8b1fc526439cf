use Rattle.std.proofs.Common.{◌≡◌, pos, ◌++◌, drop, map}
use Rattle.lo_circuits.proofs.places.ones.Given as goal

abbrev pub invariant-loop : goal.invariant-loop
invariant-loop l = l.all ++ map (λ t. pos 1) (drop l.index l.terms) ≡ map (λ t. pos 1) l.terms
