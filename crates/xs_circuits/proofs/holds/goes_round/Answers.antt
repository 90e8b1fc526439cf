use Rattle.std.proofs.Common.{◌≡◌, ◌∙◌, ◌+◌, ◌-◌, suc, pos, ◌+ℤ◌, ap, sym, arith}
use Rattle.xs_model.specs.Instance.{values}
use Rattle.xs_paths.specs.Round.{returns_after}
use Rattle.xs_circuits.proofs.WalkLemmas.{goes_on}
use Rattle.xs_circuits.proofs.holds.goes_round.Goals as goal

pub loop-preserved : goal.loop-preserved
loop-preserved c =
    let s = c.args.start.now in
    let xs = values c.args.a.now c.args.list.now in
    let home = c.args.home in
    let p = c.loop.place in
    let q = c.next-place-in-loop.result in
    let n = c.args.nodes - (c.loop.counter + 1) in
    let more : suc n ≡ c.args.nodes - c.loop.counter = omega (arith, c.loop-test.true) in
    record {
      inside = c.next-place-in-loop.ensures.within;
      so_far = sym (goes_on s xs home p q n c.if-place-home.false c.next-place-in-loop.ensures.value) ∙ ap (returns_after s xs (s +ℤ pos home) (s +ℤ pos p)) more ∙ c.loop.invariant.so_far;
    }
