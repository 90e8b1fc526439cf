use Rattle.std.proofs.Common.{◌∙◌, length, sym, arith}
use Rattle.std.proofs.lemmas.List.{length-map}
use Rattle.xs_model.specs.Instance.{values}
use Rattle.xs_model.specs.Value.{at}
use Rattle.xs_paths.specs.Walk.{is_moved}
use Rattle.xs_circuits.proofs.WalkLemmas.{first_at}
use Rattle.xs_circuits.proofs.holds.first_moved.Goals as goal

pub returns-then-is_moved : goal.returns-then-is_moved
returns-then-is_moved c =
    let xs = values c.args.a.now c.args.list.now in
    let long = length-map c.args.list.now (at c.args.a.now) in
    let first = first_at (is_moved c.args.start.now xs) (length xs) c.loop-place.place (omega (arith, long, c.loop-place-test.true)) c.loop-place.invariant (λ lt. sym c.is_moved.ensures ∙ c.if-is_moved.true) in
    (first, c.loop-place-test.true)

pub returns : goal.returns
returns c =
    let xs = values c.args.a.now c.args.list.now in
    let n = length c.args.list.now in
    let long = length-map c.args.list.now (at c.args.a.now) in
    sym (first_at (is_moved c.args.start.now xs) (length xs) n (omega (arith, long)) (λ k lt. c.loop-place.invariant k (omega (arith, lt, c.loop-place-test.false))) (λ lt. absurd (omega (arith, long, lt))))
