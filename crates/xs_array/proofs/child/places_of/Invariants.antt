use Rattle.std.proofs.Common.{◌≡◌, ◌++◌, length}
use Rattle.std.specs.List.{AllByRecursion, flat_map}
use Rattle.xs_fields.specs.Words.{words_of}
use Rattle.xs_array.specs.DomainChild.{word_places}
use Rattle.xs_array.specs.Owners.{IsCellWord}
use Rattle.xs_array.proofs.child.places_of.Given as goal

abbrev pub invariant-loop-word : goal.invariant-loop-word
invariant-loop-word l = record {
  cells : AllByRecursion (IsCellWord l.sizes) (words_of l.rest);
  rest : l.places ++ flat_map (word_places l.sizes) (words_of l.rest) ≡ flat_map (word_places l.sizes) (words_of l.text);
}

abbrev pub decreases-loop-word : goal.decreases-loop-word
decreases-loop-word l = length l.rest
