use Rattle.fz_model.specs.Sound.{places}
use Rattle.std.proofs.Common.{◌≡◌, ◌≤◌, ◌*◌, drop}
use Rattle.fz_items.proofs.notes.has_places.Given as goal

abbrev pub invariant-loop-span : goal.invariant-loop-span
invariant-loop-span l = record {
  some : 1 ≤ l.product;
  so_far : l.product * places (drop l.span-index l.dims) ≡ places l.dims;
}
