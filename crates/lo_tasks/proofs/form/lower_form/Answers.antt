use Rattle.std.proofs.Common.{rules}
use Rattle.lo_tasks.proofs.SoundLemmas.{bounded_at}
use Rattle.lo_tasks.proofs.form.lower_form.Goals as goal

pub lower_cumulative-requires-clause-origins : goal.lower_cumulative-requires-clause-origins
lower_cumulative-requires-clause-origins g c =
    let p = c.in-Cumulative in
    (bounded_at c.args.spans.now c.args.c.now p.origins p.lengths p.heights p.ends p.cond c.as_slice.result.now c.as_slice-in-Cumulative.result.now c.as_slice-in-Cumulative-2.result.now p.is (search rules) (search rules) (search rules) c.requires.formed c.requires.measured).starts

pub lower_cumulative-requires-clause-lengths : goal.lower_cumulative-requires-clause-lengths
lower_cumulative-requires-clause-lengths g c =
    let p = c.in-Cumulative in
    (bounded_at c.args.spans.now c.args.c.now p.origins p.lengths p.heights p.ends p.cond c.as_slice.result.now c.as_slice-in-Cumulative.result.now c.as_slice-in-Cumulative-2.result.now p.is (search rules) (search rules) (search rules) c.requires.formed c.requires.measured).long

pub lower_cumulative-requires-clause-heights : goal.lower_cumulative-requires-clause-heights
lower_cumulative-requires-clause-heights g c =
    let p = c.in-Cumulative in
    (bounded_at c.args.spans.now c.args.c.now p.origins p.lengths p.heights p.ends p.cond c.as_slice.result.now c.as_slice-in-Cumulative.result.now c.as_slice-in-Cumulative-2.result.now p.is (search rules) (search rules) (search rules) c.requires.formed c.requires.measured).high
