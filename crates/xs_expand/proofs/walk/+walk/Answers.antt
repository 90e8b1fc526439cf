use Rattle.std.proofs.Common.{◌≡◌, ◌+◌, drop, ap, sym, ◌∙◌, true, false, codes, rules, ◌∷◌, []}
use Rattle.std.specs.Str.{bytes_eq}
use Rattle.std.specs.List.{flat_map}
use Rattle.xs_var.specs.Elements.{children_of}
use Rattle.xs_units.specs.Units.{then_on, run, constraint_unit, group_units, section_units, slide_unit, units}
use Rattle.xs_units.proofs.UnitLemmas.{pieces_on, run_same, units_block, units_constraint, units_group, units_slide}
use Rattle.xs_template.specs.Template.{within_words}
use Rattle.xs_expand.proofs.walk.+walk.Goals as goal

pub walk_node-returns-then-eq-clause-run : goal.walk_node-returns-then-eq-clause-run
walk_node-returns-then-eq-clause-run g t c =
    let n = c.args.node.now in
    let block : bytes_eq n.name (codes "block") ≡ true = search rules in
    run_same g.T.Take.taken c.args.known.now c.walk_block.new.known c.walk_block.result (units within_words c.args.names.now n) (section_units within_words c.args.names.now n) (units_block within_words c.args.names.now n block) c.walk_block.ensures.run

pub walk_node-returns-then-eq-2-clause-run : goal.walk_node-returns-then-eq-2-clause-run
walk_node-returns-then-eq-2-clause-run g t c =
    let n = c.args.node.now in
    let block : bytes_eq n.name (codes "block") ≡ false = search rules in
    let group : bytes_eq n.name (codes "group") ≡ true = search rules in
    run_same g.T.Take.taken c.args.known.now c.walk_group.new.known c.walk_group.result (units within_words c.args.names.now n) (group_units within_words c.args.names.now n) (units_group within_words c.args.names.now n block group) c.walk_group.ensures.run

pub walk_node-returns-then-eq-3-clause-run : goal.walk_node-returns-then-eq-3-clause-run
walk_node-returns-then-eq-3-clause-run g t c =
    let n = c.args.node.now in
    let block : bytes_eq n.name (codes "block") ≡ false = search rules in
    let group : bytes_eq n.name (codes "group") ≡ false = search rules in
    let slide : bytes_eq n.name (codes "slide") ≡ true = search rules in
    run_same g.T.Take.taken c.args.known.now c.walk_slide.new.known c.walk_slide.result (units within_words c.args.names.now n) (slide_unit within_words c.args.names.now n ∷ []) (units_slide within_words c.args.names.now n block group slide) c.walk_slide.ensures.run

pub walk_node-returns-else-eq-3-clause-run : goal.walk_node-returns-else-eq-3-clause-run
walk_node-returns-else-eq-3-clause-run g t c =
    let n = c.args.node.now in
    let block : bytes_eq n.name (codes "block") ≡ false = search rules in
    let group : bytes_eq n.name (codes "group") ≡ false = search rules in
    let slide : bytes_eq n.name (codes "slide") ≡ false = search rules in
    run_same g.T.Take.taken c.args.known.now c.walk_constraint.new.known c.walk_constraint.result (units within_words c.args.names.now n) (constraint_unit n ∷ []) (units_constraint within_words c.args.names.now n block group slide) c.walk_constraint.ensures.run

pub walk_pieces-returns-in-Some-clause-run : goal.walk_pieces-returns-in-Some-clause-run
walk_pieces-returns-in-Some-clause-run g t c =
    let told = run g.T.Take.taken (flat_map (units within_words c.args.names.now) (children_of c.args.pieces.now)) c.args.known.now in
    let on = pieces_on within_words c.args.names.now g.T.Take.taken c.loop-piece.known c.walk_piece.new.known c.in_ok-fault.fault c.args.pieces.now c.loop-piece.piece-index c.piece-item.result told c.loop-piece-test.true c.piece-item.is c.in_ok-fault.ensures.run c.loop-piece.invariant.so_far in
    sym on ∙ ap (λ f. then_on f c.walk_piece.new.known (run g.T.Take.taken (flat_map (units within_words c.args.names.now) (children_of (drop (c.loop-piece.piece-index + 1) c.args.pieces.now))))) c.in-Some.is

pub walk_pieces-loop-piece-preserved : goal.walk_pieces-loop-piece-preserved
walk_pieces-loop-piece-preserved g t c =
    let told = run g.T.Take.taken (flat_map (units within_words c.args.names.now) (children_of c.args.pieces.now)) c.args.known.now in
    let on = pieces_on within_words c.args.names.now g.T.Take.taken c.loop-piece.known c.walk_piece.new.known c.in_ok-fault.fault c.args.pieces.now c.loop-piece.piece-index c.piece-item.result told c.loop-piece-test.true c.piece-item.is c.in_ok-fault.ensures.run c.loop-piece.invariant.so_far in
    record {
      few = search rules;
      so_far = ap (λ f. then_on f c.walk_piece.new.known (run g.T.Take.taken (flat_map (units within_words c.args.names.now) (children_of (drop (c.loop-piece.piece-index + 1) c.args.pieces.now))))) (sym c.in-None.is) ∙ on;
    }
