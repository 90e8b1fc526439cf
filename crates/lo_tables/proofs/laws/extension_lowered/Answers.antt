use Rattle.lo_tables.proofs.TableLemmas.{extension_lowered}
use Rattle.lo_tables.proofs.laws.extension_lowered.Goals as goal

pub returns : goal.returns
returns c = extension_lowered
