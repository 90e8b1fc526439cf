use Rattle.std.proofs.Common.{◌≡◌, ◌+◌, ◌∙◌, ap, sym, arith, suc, true, false, ℕ, Bool}
use Rattle.xs_laws.specs.Ascending.{is_new}
use Rattle.xs_laws.specs.Indices.{count_below}
use Rattle.xs_laws.proofs.Finite.{count_yes, count_no}
use Rattle.xs_counted.proofs.distinct.new_places.Goals.{then-is_new, else-is_new}
use Rattle.xs_counted.proofs.distinct.new_places.Goals as goal

pub loop-place-preserved : goal.loop-place-preserved
loop-place-preserved c =
    let test : ℕ → Bool = is_new c.args.except.now c.args.sorted.now in
    let place = c.loop-place.place in
    let next : place + 1 ≡ suc place = omega arith in
    let moved = ap (count_below test) next in
    let so_far = c.loop-place.invariant.so_far in
    let few = c.loop-place.invariant.few in
    elim c.if-is_new.branch [
      | then-is_new w ↦
          let step = count_yes test place (sym c.is_new.ensures ∙ w.if-is_new.true) in
          let more = w.count-is in
          record { so_far = omega (arith, more, so_far, step, moved); few = omega (arith, more, few) }
      | else-is_new w ↦
          let step = count_no test place (sym c.is_new.ensures ∙ w.if-is_new.false) in
          let more = w.count-is in
          record { so_far = omega (arith, more, so_far, step, moved); few = omega (arith, more, few) }
    ]
