use Rattle.std.proofs.Common.{◌≡◌, length}
use Rattle.xs_fields.specs.Words.{words_of}
use Rattle.xs_var.specs.Elements.{is_one_of}
use Rattle.xs_units.proofs.forms.is_word.Given as goal

abbrev pub invariant-loop-word : goal.invariant-loop-word
invariant-loop-word l = is_one_of (words_of l.rest) l.value ≡ is_one_of (words_of l.words) l.value

abbrev pub decreases-loop-word : goal.decreases-loop-word
decreases-loop-word l = length l.rest
