use Rattle.xs_vars.proofs.DeclaredLemmas.{are_sound}
use Rattle.xs_vars.proofs.declarations.read_variables.Goals as goal

pub returns-in_ok-read-in-None-clause-sound : goal.returns-in_ok-read-in-None-clause-sound
returns-in_ok-read-in-None-clause-sound c = are_sound c.in_ok-read-in-None.read c.in_ok-read-in-None.ensures.kept
