use Rattle.std.proofs.Common.{◌∙◌}
use Rattle.xs_model.specs.Instance.{term_values, values}
use Rattle.xs_model.specs.Schedule.{load}
use Rattle.xs_model.specs.Value.{at}
use Rattle.xs_tasks.proofs.LoadLemmas.{height_more, later_heights, later_spans, later_starts, room}
use Rattle.xs_tasks.proofs.load.load_at.Goals as goal

pub loop-start-preserved : goal.loop-start-preserved
loop-start-preserved c =
    let a = c.args.a.now in
    let t = at a c.args.origin in
    let l = c.loop-start in
    let one = c.in-Some in
    let two = c.in-Some-split_first in
    let three = c.in-Some-split_first-2 in
    let whole = load t (values a c.args.origins.now) (term_values a c.args.lengths.now) (term_values a c.args.heights.now) in
    let starts = c.in-Some.ensures.cases.0 in
    let spans = c.in-Some-split_first.ensures.cases.0 in
    let rest = c.in-Some-split_first-2.ensures.cases.0 in
    record {
      time = c.with_task-sum.ensures.time ∙ l.invariant.time;
      so_far =
          height_more a t l.starts.now one.starts_left.now l.spans.now two.spans_left.now l.rest.now three.rest_left.now one.start.now two.span.now three.height.now starts spans rest l.sum.height c.with_task-sum.result.height
          whole l.sum.time c.run_of.result.start c.run_of.result.length l.invariant.so_far c.with_task-sum.ensures.value l.invariant.time c.run_of.ensures.start c.run_of.ensures.span;
      small =
          (room a t l.starts.now one.starts_left.now l.spans.now two.spans_left.now l.rest.now three.rest_left.now one.start.now two.span.now three.height.now starts spans rest l.sum.height l.invariant.small).later
          c.with_task-sum.result.height c.with_task-sum.ensures.small;
      origins = later_starts a t l.starts.now one.starts_left.now l.spans.now two.spans_left.now l.rest.now three.rest_left.now one.start.now two.span.now three.height.now starts spans rest l.invariant.origins;
      lengths = later_spans a t l.starts.now one.starts_left.now l.spans.now two.spans_left.now l.rest.now three.rest_left.now one.start.now two.span.now three.height.now starts spans rest l.invariant.lengths;
      heights = later_heights a t l.starts.now one.starts_left.now l.spans.now two.spans_left.now l.rest.now three.rest_left.now one.start.now two.span.now three.height.now starts spans rest l.invariant.heights;
    }
