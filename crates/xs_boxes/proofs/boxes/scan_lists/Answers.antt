use Rattle.xs_fields.specs.Cells.{vars_meet}
use Rattle.xs_fields.specs.Terms.{terms_meet}
use Rattle.xs_boxes.proofs.boxes.scan_lists.Goals as goal

pub returns-clause-missed : goal.returns-clause-missed
returns-clause-missed c =
    let os = c.args.names.now in
    let left = c.args.left in
    c.earlier.ensures.joins (vars_meet os c.args.origins.now left) (terms_meet os c.args.lengths.now left) c.in_ok-list.ensures.missed c.in_ok-terms.ensures.missed
