use Rattle.lo_goals.proofs.BodyLemmas.{body_lowered}
use Rattle.lo_goals.proofs.laws.body_lowered.Goals as goal

pub returns : goal.returns
returns c = body_lowered
