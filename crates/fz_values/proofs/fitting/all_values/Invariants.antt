use Rattle.std.proofs.Common.{◌≡◌, drop}
use Rattle.std.specs.List.{list_all}
use Rattle.fz_values.specs.Kinds.{suits, sort_of}
use Rattle.fz_values.proofs.fitting.all_values.Given as goal

abbrev pub invariant-loop-value : goal.invariant-loop-value
invariant-loop-value l = list_all (λ x. suits l.asked (sort_of x)) (drop l.value-index l.values) ≡ list_all (λ x. suits l.asked (sort_of x)) l.values
