use Rattle.std.proofs.Common.{◌≤◌}
use Rattle.xs_boxes.specs.NoOverlap.{no_overlap_meets, no_overlap_of}
use Rattle.xs_boxes.proofs.GoodLemmas.{no_overlap_good}
use Rattle.xs_model.specs.Accepted.{IsFormed, items_of}
use Rattle.xs_model.specs.Outline.{variables_in}
use Rattle.xs_tables.proofs.AnswerLemmas.{answer_ok}
use Rattle.xs_boxes.proofs.no_overlap.read_no_overlap.Goals as goal

pub returns-clause-formed : goal.returns-clause-formed
returns-clause-formed c =
    let os = c.args.names.now in
    let left = c.args.left in
    let x = c.args.c.now in
    answer_ok (λ y. IsFormed (variables_in os) y) (no_overlap_meets os left x) (no_overlap_of os x) c.read_form.result (λ none. (no_overlap_good os left x none).0) c.read_form.ensures

pub returns-clause-few : goal.returns-clause-few
returns-clause-few c =
    let os = c.args.names.now in
    let left = c.args.left in
    let x = c.args.c.now in
    answer_ok (λ y. items_of y ≤ left) (no_overlap_meets os left x) (no_overlap_of os x) c.read_form.result (λ none. (no_overlap_good os left x none).1) c.read_form.ensures
