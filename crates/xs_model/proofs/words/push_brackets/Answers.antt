use Rattle.std.proofs.Common.{rules, ◌<◌, ◌+◌, ◌/◌, ◌%◌, [], drop, ◌++◌, append_assoc, get_or, ℤ, pos, ◌∙◌, sym, ap, subst, FitsSigned, to_z, of_z, nat_abs}
use Rattle.std.proofs.lemmas.Int.{to_z-of_z}
use Rattle.std.proofs.lemmas.List.{drop_more}
use Rattle.std.proofs.lemmas.Nat.{mod_below}
use Rattle.std.specs.Int.{w128}
use Rattle.std.specs.List.{flat_map}
use Rattle.xs_model.specs.Names.{bracket, row_major}
use Rattle.xs_model.proofs.Places.{step_at, rest_sizes, magnitude_is}
use Rattle.xs_model.proofs.words.push_brackets.Goals as goal

pub nonzero_div-left : goal.nonzero_div-left
nonzero_div-left c =
    let size : ℤ = get_or c.args.sizes.now c.loop-size.size-index (pos 0) in
    let fits : FitsSigned w128 size = search rules in
    let rest = rest_sizes c.args.sizes.now c.loop-size.size-index c.loop-size-test.true c.loop-size.invariant.sizes in
    let is = ap nat_abs (to_z-of_z w128 size fits) ∙ magnitude_is size rest.0 in
    let s = step_at c.args.sizes.now c.loop-size.size-index c.loop-size.span c.loop-size.left (nat_abs (to_z w128 (of_z w128 size))) c.loop-size-test.true c.loop-size.invariant.sizes c.loop-size.invariant.span c.loop-size.invariant.left is in
    subst (λ n. 0 < n) (sym s.rest) s.some

pub nonzero_rem-left : goal.nonzero_rem-left
nonzero_rem-left c =
    let size : ℤ = get_or c.args.sizes.now c.loop-size.size-index (pos 0) in
    let fits : FitsSigned w128 size = search rules in
    let rest = rest_sizes c.args.sizes.now c.loop-size.size-index c.loop-size-test.true c.loop-size.invariant.sizes in
    let is = ap nat_abs (to_z-of_z w128 size fits) ∙ magnitude_is size rest.0 in
    let s = step_at c.args.sizes.now c.loop-size.size-index c.loop-size.span c.loop-size.left (nat_abs (to_z w128 (of_z w128 size))) c.loop-size-test.true c.loop-size.invariant.sizes c.loop-size.invariant.span c.loop-size.invariant.left is in
    subst (λ n. 0 < n) (sym s.rest) s.some

pub loop-size-preserved : goal.loop-size-preserved
loop-size-preserved c =
    let size : ℤ = get_or c.args.sizes.now c.loop-size.size-index (pos 0) in
    let fits : FitsSigned w128 size = search rules in
    let rest = rest_sizes c.args.sizes.now c.loop-size.size-index c.loop-size-test.true c.loop-size.invariant.sizes in
    let is = ap nat_abs (to_z-of_z w128 size fits) ∙ magnitude_is size rest.0 in
    let s = step_at c.args.sizes.now c.loop-size.size-index c.loop-size.span c.loop-size.left (nat_abs (to_z w128 (of_z w128 size))) c.loop-size-test.true c.loop-size.invariant.sizes c.loop-size.invariant.span c.loop-size.invariant.left is in
    record {
      sizes = rest.1;
      span = s.rest;
      left = mod_below _ _ (subst (λ n. 0 < n) (sym s.rest) s.some);
      word =
          ap (λ xs. xs ++ flat_map bracket (get_or (row_major (drop (c.loop-size.size-index + 1) c.args.sizes.now)) (c.loop-size.left % (c.loop-size.span / nat_abs (to_z w128 (of_z w128 size)))) [])) c.in_ok-push_bracket.ensures
          ∙ (append_assoc _ (bracket _) _
          ∙ (ap (λ indices. c.loop-size.word.items ++ flat_map bracket indices) (sym s.indices)
          ∙ (ap (λ sizes. c.loop-size.word.items ++ flat_map bracket (get_or (row_major sizes) c.loop-size.left [])) (sym (drop_more c.args.sizes.now c.loop-size.size-index (pos 0) c.loop-size-test.true))
          ∙ c.loop-size.invariant.word)));
    }
