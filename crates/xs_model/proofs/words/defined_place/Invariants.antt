use Rattle.std.proofs.Common.{◌≡◌, ◌+◌, ◌<◌, take, drop, length}
use Rattle.xs_model.specs.Names.{defined}
use Rattle.xs_model.proofs.words.defined_place.Given as goal

abbrev pub invariant-loop-place : goal.invariant-loop-place
invariant-loop-place l = record {
  before : length (defined (take l.place l.cells)) + l.left ≡ l.nth;
  within : l.left < length (defined (drop l.place l.cells));
}
