use Rattle.xs_vars.proofs.OutcomeLemmas.{sound_outcomes}
use Rattle.xs_vars.proofs.law.sound_outcomes.Goals as goal

pub returns : goal.returns
returns c = sound_outcomes
