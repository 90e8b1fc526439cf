use Rattle.std.proofs.Common.{◌≡◌, ◌++◌, drop}
use Rattle.std.specs.List.{flat_map}
use Rattle.xs_template.specs.Template.{with_space}
use Rattle.xs_template.proofs.filling.push_behind.Given as goal

abbrev pub invariant-loop-word : goal.invariant-loop-word
invariant-loop-word l = l.text ++ flat_map with_space (drop l.word-index l.words) ≡ l.initial.text ++ flat_map with_space l.words
