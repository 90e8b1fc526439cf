use Rattle.std.proofs.Common.{◌≡◌, ◌++◌, ◌<◌, drop, []}
use Rattle.std.specs.List.{AllByRecursion, flat_map}
use Rattle.std.specs.Prelude.{slice_index_or}
use Rattle.xs_model.specs.Names.{bracket, row_major}
use Rattle.xs_model.specs.Sound.{IsSize, cell_count}
use Rattle.xs_model.proofs.words.push_brackets.Given as goal

abbrev pub invariant-loop-size : goal.invariant-loop-size
invariant-loop-size l = record {
  sizes : AllByRecursion IsSize (drop l.size-index l.sizes);
  span : l.span ≡ cell_count (drop l.size-index l.sizes);
  left : l.left < l.span;
  word : l.word.items ++ flat_map bracket (slice_index_or (row_major (drop l.size-index l.sizes)) l.left []) ≡ l.initial.word.items ++ flat_map bracket (slice_index_or (row_major l.sizes) l.place []);
}
