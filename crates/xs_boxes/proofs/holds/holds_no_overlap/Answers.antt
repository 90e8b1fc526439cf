use Rattle.std.proofs.Common.{◌∙◌, sym}
use Rattle.xs_model.specs.Instance.{rows_of, term_rows}
use Rattle.xs_boxes.proofs.ClearLemmas.{clear_is}
use Rattle.xs_boxes.proofs.holds.holds_no_overlap.Goals as goal

pub returns : goal.returns
returns c =
    let law = clear_is c.args.zero_ignored (rows_of c.args.a.now c.args.origins.now) (term_rows c.args.a.now c.args.lengths.now) in
    (λ h. law.0 (sym c.are_clear.ensures ∙ h), λ h. c.are_clear.ensures ∙ law.1 h)
