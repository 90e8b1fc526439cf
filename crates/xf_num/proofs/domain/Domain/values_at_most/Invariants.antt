use Rattle.std.proofs.Common.{◌≡◌, ◌+◌, ◌≤◌, drop}
use Rattle.xf_num.specs.Domain.{size_of}
use Rattle.xf_num.proofs.domain.Domain.values_at_most.Given as goal

abbrev pub invariant-loop-span : goal.invariant-loop-span
invariant-loop-span l = record { so_far : l.count + size_of (drop l.span-index l.span-items) ≡ size_of l.span-items; within : l.count ≤ l.limit }
