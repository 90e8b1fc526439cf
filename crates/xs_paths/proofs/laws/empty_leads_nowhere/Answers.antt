use Rattle.xs_paths.proofs.Flags.{empty_leads_nowhere}
use Rattle.xs_paths.proofs.laws.empty_leads_nowhere.Goals as goal

pub returns : goal.returns
returns c = empty_leads_nowhere
