use Rattle.xs_laws.proofs.Boxes.{no_overlap_is_clauses}
use Rattle.xs_laws.proofs.laws.no_overlap_is_clauses.Goals as goal

pub returns : goal.returns
returns c = no_overlap_is_clauses
