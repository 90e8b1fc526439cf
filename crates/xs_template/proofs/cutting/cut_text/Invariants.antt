use Rattle.std.proofs.Common.{◌≡◌, ◌++◌, length}
use Rattle.xs_template.specs.Template.{spots_of, within_words}
use Rattle.xs_template.proofs.cutting.cut_text.Given as goal

abbrev pub invariant-loop-rest : goal.invariant-loop-rest
invariant-loop-rest l = l.spots ++ spots_of within_words l.rest ≡ spots_of within_words l.text

abbrev pub decreases-loop-rest : goal.decreases-loop-rest
decreases-loop-rest l = length l.rest
