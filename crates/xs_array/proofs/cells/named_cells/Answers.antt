use Rattle.std.proofs.Common.{◌≡◌, ◌∙◌, ◌&&◌, ℕ, Bool, List, Option, map, replicate, is_some, IfOk, ap, sym, subst}
use Rattle.std.specs.List.{list_all, range_with_len}
use Rattle.xf_markup.specs.declared.tree.Piece.{Piece}
use Rattle.xf_num.specs.Span.{Bounds}
use Rattle.xs_var.specs.Elements.{children_of, text_in}
use Rattle.xs_var.specs.VarDomain.{text_domain}
use Rattle.xs_var.specs.Variable.{has_no_child}
use Rattle.xs_model.specs.Sound.{cell_count}
use Rattle.xs_array.specs.DomainChild.{are_apart, cell_at, named_by}
use Rattle.xs_array.proofs.FieldLemmas.{no_children, some_children}
use Rattle.xs_array.proofs.NamedLemmas.{child_cells_are, child_full_is, text_cells, text_full}
use Rattle.xs_array.proofs.cells.named_cells.Goals as goal

pub returns-in_ok-cells-clause-cells : goal.returns-in_ok-cells-clause-cells
returns-in_ok-cells-clause-cells c =
    let ps = c.args.node.now.pieces in
    let none = no_children ps (ap has_no_child (sym c.as_slice-pieces.ensures) ∙ sym c.has_no_child.ensures ∙ c.if-has_no_child.true) in
    let domain_is : c.in_ok-domain.domain ≡ text_domain (text_in ps) = c.in_ok-domain.ensures.value ∙ ap text_domain (c.as_slice.ensures ∙ c.in_ok-text.ensures) in
    c.in_ok-cells.ensures
    ∙ ap (λ (d : Option (List Bounds)). replicate c.args.count d) domain_is
    ∙ ap (λ (k : ℕ). replicate k (text_domain (text_in ps))) (sym c.requires.count)
    ∙ text_cells c.args.sizes.now (children_of ps) (text_in ps) none

pub returns-in_ok-cells-clause-full : goal.returns-in_ok-cells-clause-full
returns-in_ok-cells-clause-full c =
    let ps = c.args.node.now.pieces in
    let none = no_children ps (ap has_no_child (sym c.as_slice-pieces.ensures) ∙ sym c.has_no_child.ensures ∙ c.if-has_no_child.true) in
    let domain_is : c.in_ok-domain.domain ≡ text_domain (text_in ps) = c.in_ok-domain.ensures.value ∙ ap text_domain (c.as_slice.ensures ∙ c.in_ok-text.ensures) in
    c.is_some.ensures ∙ ap (λ (d : Option (List Bounds)). is_some d) domain_is ∙ text_full c.args.sizes.now (children_of ps) (text_in ps) none

pub returns-else-has_no_child-clause-cells : goal.returns-else-has_no_child-clause-cells
returns-else-has_no_child-clause-cells c =
    let ps = c.args.node.now.pieces in
    let pieces_is = c.as_slice-pieces.ensures in
    let some = some_children ps (ap has_no_child (sym pieces_is) ∙ sym c.has_no_child.ensures ∙ c.if-has_no_child.false) in
    subst (λ (told : List (Option (List Bounds))). IfOk c.child_cells.result (λ r. r.0 ≡ told))
    (ap (λ (qs : List Piece). map (cell_at (map (named_by c.args.sizes.now) (children_of qs))) (range_with_len 0 (cell_count c.args.sizes.now))) pieces_is ∙ child_cells_are c.args.sizes.now (children_of ps) (text_in ps) some)
    c.child_cells.ensures.cells

pub returns-else-has_no_child-clause-full : goal.returns-else-has_no_child-clause-full
returns-else-has_no_child-clause-full c =
    let ps = c.args.node.now.pieces in
    let pieces_is = c.as_slice-pieces.ensures in
    let some = some_children ps (ap has_no_child (sym pieces_is) ∙ sym c.has_no_child.ensures ∙ c.if-has_no_child.false) in
    subst (λ (told : Bool). IfOk c.child_cells.result (λ r. r.1 ≡ told))
    (ap (λ (qs : List Piece). list_all (λ d. is_some d.domain) (map (named_by c.args.sizes.now) (children_of qs)) && are_apart (map (named_by c.args.sizes.now) (children_of qs))) pieces_is ∙ child_full_is c.args.sizes.now (children_of ps) (text_in ps) some)
    c.child_cells.ensures.full
