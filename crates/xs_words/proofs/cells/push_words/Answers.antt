use Rattle.std.proofs.Common.{◌≡◌, ◌<◌, ℤ, List, true, get_or, subst, sym, rules}
use Rattle.xs_model.specs.Sound.{cell_count}
use Rattle.xs_words.specs.Compact.{is_defined}
use Rattle.xs_words.proofs.CellLemmas.{defined_within}
use Rattle.xs_words.proofs.cells.push_words.Goals as goal

pub word_at-requires-clause-place : goal.word_at-requires-clause-place
word_at-requires-clause-place c =
    let place = get_or c.args.places.now c.loop-place.place-index 0 in
    let is : is_defined c.args.names.now c.args.at place ≡ true = search rules in
    subst (λ (ns : List ℤ). place < cell_count ns) (sym c.sizes.ensures.value) (defined_within c.args.names.now c.args.at place c.requires.within c.requires.sound is)
