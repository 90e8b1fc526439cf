use Rattle.std.proofs.Common.{◌≡◌, ◌++◌, drop}
use Rattle.std.specs.List.{flat_map}
use Rattle.xs_model.specs.Names.{bracket}
use Rattle.xs_model.specs.Sound.{cell_count}
use Rattle.lo_names.specs.Indices.{indices_at}
use Rattle.lo_names.proofs.vars.push_indices.Given as goal

abbrev pub invariant-loop-size : goal.invariant-loop-size
invariant-loop-size l = record {
  stride : l.stride ≡ cell_count (drop l.size-index l.sizes);
  due : l.word ++ flat_map bracket (indices_at (drop l.size-index l.sizes) l.rest) ≡ l.fn.word ++ flat_map bracket (indices_at l.sizes l.place);
}
