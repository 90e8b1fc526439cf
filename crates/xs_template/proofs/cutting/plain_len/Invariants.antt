use Rattle.std.proofs.Common.{◌≡◌, ◌+◌, drop}
use Rattle.xs_template.specs.Template.{plain_len, within_words}
use Rattle.xs_template.proofs.cutting.plain_len.Given as goal

abbrev pub invariant-loop-i : goal.invariant-loop-i
invariant-loop-i l = l.i + plain_len within_words (drop l.i l.bytes) ≡ plain_len within_words l.bytes
