use Rattle.std.proofs.Common.{◌≡◌, ◌≤◌, ◌++◌, drop, length, map}
use Rattle.std.specs.List.{AllByRecursion}
use Rattle.xs_array.specs.Owners.{picked}
use Rattle.xs_array.proofs.owners.picked_cells.Given as goal

abbrev pub invariant-loop-owner : goal.invariant-loop-owner
invariant-loop-owner l = record {
  within : AllByRecursion (λ k. k ≤ length l.domains) (drop l.owner-index l.owners);
  rest : l.cells ++ map (picked l.domains) (drop l.owner-index l.owners) ≡ map (picked l.domains) l.owners;
}
