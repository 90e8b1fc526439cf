use Rattle.std.proofs.Common.{◌≡◌, ◌/◌, ℤ, pos, arith, rules, ap, ◌∙◌, get_or, to_z, of_z}
use Rattle.std.specs.Int.{w128}
use Rattle.xs_model.specs.Names.{places_of}
use Rattle.lo_names.proofs.VarsLemmas.{stride_at, indices_more}
use Rattle.lo_names.proofs.vars.push_indices.Goals as goal

pub places-stride-requires-clause-fits : goal.places-stride-requires-clause-fits
places-stride-requires-clause-fits c =
    let z : ℤ = get_or c.args.sizes.now c.loop-size.size-index (pos 0) in
    let same : to_z w128 (of_z w128 z) ≡ z = search rules in
    let h = stride_at c.args.sizes.now c.loop-size.size-index c.loop-size.stride c.loop-size-test.true c.requires.sizes c.loop-size.invariant.stride in
    omega (arith, ap places_of same, h.0, c.loop-size.auto.stride-fits)

pub nonzero_div-rest : goal.nonzero_div-rest
nonzero_div-rest c =
    let z : ℤ = get_or c.args.sizes.now c.loop-size.size-index (pos 0) in
    let same : to_z w128 (of_z w128 z) ≡ z = search rules in
    let h = stride_at c.args.sizes.now c.loop-size.size-index c.loop-size.stride c.loop-size-test.true c.requires.sizes c.loop-size.invariant.stride in
    omega (arith, ap (λ p. c.loop-size.stride / p) (c.places-stride.ensures ∙ ap places_of same), h.1, h.2)

pub nonzero_rem-rest : goal.nonzero_rem-rest
nonzero_rem-rest c =
    let z : ℤ = get_or c.args.sizes.now c.loop-size.size-index (pos 0) in
    let same : to_z w128 (of_z w128 z) ≡ z = search rules in
    let h = stride_at c.args.sizes.now c.loop-size.size-index c.loop-size.stride c.loop-size-test.true c.requires.sizes c.loop-size.invariant.stride in
    omega (arith, ap (λ p. c.loop-size.stride / p) (c.places-stride.ensures ∙ ap places_of same), h.1, h.2)

pub loop-size-preserved : goal.loop-size-preserved
loop-size-preserved c =
    let z : ℤ = get_or c.args.sizes.now c.loop-size.size-index (pos 0) in
    let same : to_z w128 (of_z w128 z) ≡ z = search rules in
    let h = stride_at c.args.sizes.now c.loop-size.size-index c.loop-size.stride c.loop-size-test.true c.requires.sizes c.loop-size.invariant.stride in
    let stride = ap (λ p. c.loop-size.stride / p) (c.places-stride.ensures ∙ ap places_of same) ∙ h.1 in
    record {
      stride = stride;
      due = indices_more c.args.sizes.now c.loop-size.size-index c.loop-size.rest (c.loop-size.stride / c.places-stride.result) c.loop-size.word c.push_index.new.word _ c.loop-size-test.true stride c.in_ok-push_index.ensures c.loop-size.invariant.due;
    }
