use Rattle.std.proofs.Common.{◌≡◌, ◌++◌, codes, drop, map}
use Rattle.std.specs.List.{flat_map}
use Rattle.xs_language.specs.Written.{tuple_text, tuples_text}
use Rattle.xs_language.proofs.write.write_tuples.Given as goal

abbrev pub invariant-loop-tuple : goal.invariant-loop-tuple
invariant-loop-tuple l = l.out.items ++ flat_map (λ w. w ++ codes " ") (map tuple_text (drop l.tuple-index l.tuples)) ≡ l.fn.out.items ++ tuples_text l.tuples
