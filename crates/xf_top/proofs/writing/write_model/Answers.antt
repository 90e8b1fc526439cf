use Rattle.xf_top.proofs.WrittenLemmas.{written_so}
use Rattle.xf_top.proofs.writing.write_model.Goals as goal

pub returns : goal.returns
returns g c = written_so _ _ _ _ _ _ c.write_lowered.ensures.ok c.write_lowered.ensures.front c.write_lowered.ensures.cause
