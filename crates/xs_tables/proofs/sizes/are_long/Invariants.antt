use Rattle.std.proofs.Common.{◌≡◌, nat_eq, drop, length}
use Rattle.std.specs.List.{list_all}
use Rattle.xs_tables.proofs.sizes.are_long.Given as goal

abbrev pub invariant-loop-tuple : goal.invariant-loop-tuple
invariant-loop-tuple l = list_all (λ t. nat_eq (length t) l.len) (drop l.tuple-index l.tuples) ≡ list_all (λ t. nat_eq (length t) l.len) l.tuples
