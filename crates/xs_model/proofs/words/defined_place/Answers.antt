use Rattle.std.proofs.Common.{arith, rules, ◌<◌, length, ◌∙◌, sym}
use Rattle.xs_model.proofs.Places.{defined-take_more, defined-drop_more, length-here_some, length-here_none}
use Rattle.xs_model.proofs.words.defined_place.Goals as goal
use Rattle.xs_model.proofs.words.defined_place.Goals.{then-is_some+else-left-eq0, else-is_some}

pub loop-place-preserved : goal.loop-place-preserved
loop-place-preserved c =
    let place : c.loop-place.place < length c.args.cells.now = search rules in
    let before = defined-take_more c.args.cells.now c.loop-place.place c.index-cells-place.result place c.index-cells-place.is in
    let after = defined-drop_more c.args.cells.now c.loop-place.place c.index-cells-place.result place c.index-cells-place.is in
    elim c.if-is_some.branch [
      | then-is_some+else-left-eq0 w ↦
          let one = length-here_some c.index-cells-place.result (sym c.is_some.ensures ∙ w.if-is_some.true) in
          record { before = omega (arith, w.left-is); within = omega (arith, w.left-is) }
      | else-is_some w ↦
          let none = length-here_none c.index-cells-place.result (sym c.is_some.ensures ∙ w.if-is_some.false) in
          record { before = omega (arith, w.left-is); within = omega (arith, w.left-is) }
    ]
