use Rattle.lo_boxes.proofs.BoxLaws.{sound_no_overlap_lowered}
use Rattle.lo_boxes.proofs.laws.sound_no_overlap_lowered.Goals as goal

pub returns : goal.returns
returns c = sound_no_overlap_lowered
