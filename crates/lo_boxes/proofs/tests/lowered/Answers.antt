use Rattle.lo_boxes.proofs.Shapes.{boxes_fitting, boxes_counted}
use Rattle.lo_boxes.proofs.tests.lowered.Goals as goal

pub lower_no_overlap-requires-clause-fitting : goal.lower_no_overlap-requires-clause-fitting
lower_no_overlap-requires-clause-fitting c = boxes_fitting c.args.wide c.args.origins.now c.args.lengths.now c.requires.narrow.0 c.requires.as_many c.requires.even c.requires.as_wide

pub lower_no_overlap-requires-clause-few : goal.lower_no_overlap-requires-clause-few
lower_no_overlap-requires-clause-few c =
    boxes_counted c.args.wide c.args.origins.now c.args.lengths.now c.args.zero_ignored (boxes_fitting c.args.wide c.args.origins.now c.args.lengths.now c.requires.narrow.0 c.requires.as_many c.requires.even c.requires.as_wide)
    c.requires.even c.requires.few c.requires.narrow.1
