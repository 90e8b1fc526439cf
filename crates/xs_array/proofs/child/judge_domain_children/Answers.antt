use Rattle.std.proofs.Common.{◌∙◌, ◌++◌, List, ap, sym, drop, ◌+◌}
use Rattle.std.specs.List.{list_all}
use Rattle.xf_markup.specs.declared.tree.Node.{Node}
use Rattle.xs_fields.specs.Conditions.{earlier_of, first_missed}
use Rattle.xs_var.specs.Elements.{children_of, piece_nodes}
use Rattle.xs_array.specs.DomainChild.{domain_child_meets}
use Rattle.xs_array.proofs.FieldLemmas.{children_next, missed_child}
use Rattle.xs_array.proofs.PieceLemmas.{inner_nodes, words_nodes}
use Rattle.xs_array.proofs.child.judge_domain_children.Goals as goal
use Rattle.xs_array.proofs.child.judge_domain_children.Goals.{in-Inner+in_ok-judged-in-Inner, in-Words}

pub loop-piece-preserved : goal.loop-piece-preserved
loop-piece-preserved c =
    let ps = c.args.pieces.now in
    let i = c.loop-piece.piece-index in
    let test = domain_child_meets c.args.name.now c.args.sizes.now in
    let more = children_of (drop (i + 1) ps) in
    let all = first_missed (λ k. list_all (λ d. test d k) (children_of ps)) in
    let next = children_next ps i c.piece-item.result c.loop-piece-test.true c.piece-item.is in
    elim c.match-piece.branch [
      | in-Inner+in_ok-judged-in-Inner w ↦
          ap (λ m. earlier_of m (first_missed (λ k. list_all (λ d. test d k) more))) (w.missed-is ∙ w.earlier-missed.ensures.value)
          ∙ missed_child test c.loop-piece.missed w.in_ok-judged-in-Inner.judged all w.in-Inner.node (children_of (drop i ps)) more (next ∙ ap (λ p. piece_nodes p ++ more) w.in-Inner.is ∙ ap (λ (ds : List Node). ds ++ more) (inner_nodes w.in-Inner.node)) w.in_ok-judged-in-Inner.ensures c.loop-piece.invariant
      | in-Words w ↦
          ap (λ m. earlier_of m (first_missed (λ k. list_all (λ d. test d k) more))) w.missed-is
          ∙ ap (λ (ds : List Node). earlier_of c.loop-piece.missed (first_missed (λ k. list_all (λ d. test d k) ds))) (sym (next ∙ ap (λ p. piece_nodes p ++ more) w.in-Words.is ∙ ap (λ (ds : List Node). ds ++ more) (words_nodes w.in-Words.field-0)))
          ∙ c.loop-piece.invariant
    ]
