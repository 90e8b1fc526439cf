use Rattle.std.proofs.Common.{◌≡◌, ◌≤◌, min, drop}
use Rattle.xs_template.specs.Template.{most_words, number_after, place_number, within_words}
use Rattle.xs_template.proofs.cutting.place_number.Given as goal

abbrev pub invariant-loop-digit : goal.invariant-loop-digit
invariant-loop-digit l = record {
  most : l.number ≤ 4194304;
  rest : min (number_after l.number (drop l.digit-index l.digits)) most_words ≡ place_number within_words l.digits;
}
