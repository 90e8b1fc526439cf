use Rattle.std.proofs.Common.{◌≡◌, ◌++◌, drop, take, length}
use Rattle.xs_model.specs.Names.{cell_words, row_major, defined}
use Rattle.lo_names.specs.Shown.{shown_each}
use Rattle.lo_names.proofs.vars.push_cells.Given as goal

abbrev pub invariant-loop-place : goal.invariant-loop-place
invariant-loop-place l = record {
  front : take (length l.name) l.word ≡ l.name;
  due : l.vars ++ shown_each (cell_words l.name (drop l.place (row_major l.sizes)) (drop l.place l.cells)) (defined (drop l.place l.cells)) ≡ l.fn.vars ++ shown_each (cell_words l.name (row_major l.sizes) l.cells) (defined l.cells);
}
