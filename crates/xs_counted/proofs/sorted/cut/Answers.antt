use Rattle.std.proofs.Common.{◌≡◌, ◌+◌, ◌-◌, ◌/◌, ◌<◌, ◌≤◌, true, false, length, arith, rules}
use Rattle.xs_model.specs.Value.{at}
use Rattle.xs_counted.specs.Tests.{precedes}
use Rattle.xs_counted.proofs.CountLemmas.{before_all, behind_all}
use Rattle.xs_counted.proofs.sorted.cut.Goals as goal

pub loop-low-preserved-then-precedes : goal.loop-low-preserved-then-precedes
loop-low-preserved-then-precedes c =
    let low = c.loop-low.low in
    let high = c.loop-low.high in
    let ys = c.args.sorted.now in
    let m = low + (high - low) / 2 in
    let lt = c.loop-low-test.true in
    let inside : m < high = omega (arith, lt) in
    let within = c.loop-low.invariant.within in
    let here : precedes c.args.past c.args.value.now (at ys m) ≡ true = search rules in
    record {
      order = omega (arith, inside);
      within = within;
      before = λ j le. before_all c.args.past c.args.value.now ys m j c.requires (omega (arith, inside, within)) here le;
      behind = c.loop-low.invariant.behind;
    }

pub loop-low-preserved : goal.loop-low-preserved
loop-low-preserved c =
    let low = c.loop-low.low in
    let high = c.loop-low.high in
    let ys = c.args.sorted.now in
    let m = low + (high - low) / 2 in
    let lt = c.loop-low-test.true in
    let inside : m < high = omega (arith, lt) in
    let within = c.loop-low.invariant.within in
    let here : precedes c.args.past c.args.value.now (at ys m) ≡ false = search rules in
    record {
      order = omega arith;
      within = omega (arith, inside, within);
      before = c.loop-low.invariant.before;
      behind = λ j le few. behind_all c.args.past c.args.value.now ys m j c.requires here le few;
    }
