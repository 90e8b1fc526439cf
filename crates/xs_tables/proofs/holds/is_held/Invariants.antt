use Rattle.std.proofs.Common.{◌≡◌, drop}
use Rattle.std.specs.List.{list_any}
use Rattle.xs_laws.specs.Meeting.{is_within}
use Rattle.xs_model.specs.Value.{at}
use Rattle.xs_tables.proofs.holds.is_held.Given as goal

abbrev pub invariant-loop-span : goal.invariant-loop-span
invariant-loop-span l = list_any (λ b. is_within b (at l.a l.variable)) (drop l.span-index l.spans) ≡ list_any (λ b. is_within b (at l.a l.variable)) l.spans
