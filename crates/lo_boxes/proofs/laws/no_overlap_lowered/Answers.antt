use Rattle.lo_boxes.proofs.BoxLaws.{no_overlap_lowered}
use Rattle.lo_boxes.proofs.laws.no_overlap_lowered.Goals as goal

pub returns : goal.returns
returns c = no_overlap_lowered
