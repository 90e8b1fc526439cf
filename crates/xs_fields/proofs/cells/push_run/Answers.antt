use Rattle.std.proofs.Common.{◌∙◌, arith}
use Rattle.xs_fields.proofs.CellLemmas.{run_more}
use Rattle.xs_fields.proofs.cells.push_run.Goals as goal

pub loop-place-preserved : goal.loop-place-preserved
loop-place-preserved c = c.in_ok-push.ensures.ok ∙ run_more c.args.places.now c.loop-place.places c.args.start c.loop-place.place (omega arith) c.loop-place.invariant
