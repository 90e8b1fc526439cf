use Rattle.lo_names.proofs.ShownLemmas.{shows_all}
use Rattle.lo_names.proofs.vars.all_shown.Goals as goal

pub returns : goal.returns
returns c = shows_all
