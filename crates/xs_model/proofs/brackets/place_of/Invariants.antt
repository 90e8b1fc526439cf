use Rattle.std.proofs.Common.{◌+◌, ◌*◌, ◌≤◌, ℕ, drop}
use Rattle.std.specs.List.{AllByRecursion}
use Rattle.xs_model.specs.Places.{SpellsFrom, SpellsPlace}
use Rattle.xs_model.specs.Sound.{IsSize, cell_count}
use Rattle.xs_model.proofs.brackets.place_of.Given as goal

abbrev pub invariant-loop-size : goal.invariant-loop-size
invariant-loop-size l = record {
  sizes : AllByRecursion IsSize (drop l.size-index l.sizes);
  room : (l.place + 1) * cell_count (drop l.size-index l.sizes) ≤ cell_count l.sizes;
  so_far : (p : ℕ) → SpellsFrom l.place (drop l.size-index l.sizes) l.rest p → SpellsPlace l.sizes l.text p;
  all : (p : ℕ) → SpellsPlace l.sizes l.text p → SpellsFrom l.place (drop l.size-index l.sizes) l.rest p;
}
