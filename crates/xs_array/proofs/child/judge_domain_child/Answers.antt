use Rattle.std.proofs.Common.{◌≡◌, ◌∙◌, ap, codes}
use Rattle.xs_fields.specs.Conditions.{first_missed}
use Rattle.xs_fields.specs.Lists.{pieces_meet}
use Rattle.xs_var.specs.Elements.{text_in, value_in}
use Rattle.xs_array.specs.DomainChild.{for_meets}
use Rattle.xs_array.proofs.child.judge_domain_child.Goals as goal

pub returns : goal.returns
returns c =
    let node = c.args.node.now in
    let name = c.args.name.now in
    let sizes = c.args.sizes.now in
    let cells_is = c.attribute-cells.ensures ∙ ap (λ x. value_in (codes "for") x) c.as_slice.ensures in
    let named : c.in_ok-named.named ≡ first_missed (for_meets name sizes (value_in (codes "for") node.attrs)) = c.in_ok-named.ensures ∙ ap (λ o. first_missed (for_meets name sizes o)) cells_is in
    let text : c.in_ok-text.text ≡ first_missed (pieces_meet (text_in node.pieces)) = c.in_ok-text.ensures in
    c.earlier.ensures.joins (for_meets name sizes (value_in (codes "for") node.attrs)) (pieces_meet (text_in node.pieces)) named text
