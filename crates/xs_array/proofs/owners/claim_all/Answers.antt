use Rattle.std.proofs.Common.{◌∙◌, ◌+◌, ◌&&◌, ◌++◌, [], ◌∷◌, List, Option, ap, drop, refl, true}
use Rattle.std.proofs.lemmas.List.{drop_all}
use Rattle.xf_markup.specs.declared.tree.Node.{Node}
use Rattle.xf_num.specs.Span.{Bounds}
use Rattle.xs_var.specs.Elements.{children_of, piece_nodes}
use Rattle.xs_array.proofs.FieldLemmas.{children_next}
use Rattle.xs_array.proofs.OwnerLemmas.{claiming_as, claiming_cons, claiming_done, claiming_first, claiming_next}
use Rattle.xs_array.proofs.PieceLemmas.{inner_nodes, words_nodes}
use Rattle.xs_array.proofs.owners.claim_all.Goals as goal
use Rattle.xs_array.proofs.owners.claim_all.Goals.{in-Inner+in_ok-domain-in-Inner+in_ok-push-in-Inner+in_ok-free-in-Inner, in-Words}

pub loop-piece-init : goal.loop-piece-init
loop-piece-init c =
    let all = children_of c.args.pieces.now in
    claiming_as c.args.sizes.now c.new-domains.result [] true true c.args.owners.now c.args.owners.now all all c.new-domains.ensures refl refl
    (claiming_first c.args.sizes.now c.args.owners.now all c.requires.count c.requires.free c.requires.cells)

pub claim_child-requires-clause-cells : goal.claim_child-requires-clause-cells
claim_child-requires-clause-cells c =
    let ps = c.args.pieces.now in
    let i = c.loop-piece.piece-index in
    let l = c.loop-piece in
    let more = children_of (drop (i + 1) ps) in
    let cut = children_next ps i c.piece-item.result c.loop-piece-test.true c.piece-item.is ∙ ap (λ p. piece_nodes p ++ more) c.in-Inner.is ∙ ap (λ (ds : List Node). ds ++ more) (inner_nodes c.in-Inner.node) in
    (claiming_cons c.args.sizes.now l.domains l.apart l.owners (children_of (drop i ps)) (c.in-Inner.node ∷ more) (children_of ps) cut l.invariant).cells.0

pub loop-piece-preserved : goal.loop-piece-preserved
loop-piece-preserved c =
    let ps = c.args.pieces.now in
    let sizes = c.args.sizes.now in
    let all = children_of ps in
    let i = c.loop-piece.piece-index in
    let l = c.loop-piece in
    let m = c.match-piece in
    let more = children_of (drop (i + 1) ps) in
    let next = children_next ps i c.piece-item.result c.loop-piece-test.true c.piece-item.is in
    elim c.match-piece.branch [
      | in-Inner+in_ok-domain-in-Inner+in_ok-push-in-Inner+in_ok-free-in-Inner w ↦
          let cut = next ∙ ap (λ p. piece_nodes p ++ more) w.in-Inner.is ∙ ap (λ (ds : List Node). ds ++ more) (inner_nodes w.in-Inner.node) in
          claiming_as sizes m.domains w.push.new.self m.apart (l.apart && w.in_ok-free-in-Inner.free) m.owners w.claim_child.new.owners more all w.domains-is (w.apart-is ∙ w.both-apart.ensures) w.owners-is
          (claiming_next sizes l.domains w.push.new.self l.apart w.in_ok-free-in-Inner.free l.owners w.claim_child.new.owners w.in-Inner.node more all w.len.result c.requires.sizes
          (w.in_ok-push-in-Inner.ensures.ok ∙ ap (λ (d : Option (List Bounds)). l.domains ++ d ∷ []) w.in_ok-domain-in-Inner.ensures)
          w.len.ensures w.in_ok-free-in-Inner.ensures.free w.in_ok-free-in-Inner.ensures.claimed
          (claiming_cons sizes l.domains l.apart l.owners (children_of (drop i ps)) (w.in-Inner.node ∷ more) all cut l.invariant))
      | in-Words w ↦
          let cut = next ∙ ap (λ p. piece_nodes p ++ more) w.in-Words.is ∙ ap (λ (ds : List Node). ds ++ more) (words_nodes w.in-Words.field-0) in
          claiming_as sizes m.domains l.domains m.apart l.apart m.owners l.owners more all w.domains-is w.apart-is w.owners-is
          (claiming_cons sizes l.domains l.apart l.owners (children_of (drop i ps)) more all cut l.invariant)
    ]

pub returns-clause-owners : goal.returns-clause-owners
returns-clause-owners c =
    (claiming_done c.args.sizes.now c.loop-piece.domains c.loop-piece.apart c.loop-piece.owners (children_of (drop c.loop-piece.piece-index c.args.pieces.now)) (children_of c.args.pieces.now)
    (ap children_of (drop_all c.loop-piece.piece-index c.args.pieces.now c.loop-piece-test.false)) c.loop-piece.invariant).owners_are
