use Rattle.std.proofs.Common.{◌≡◌, ◌+◌, ◌≤◌, ◌<◌, ◌*◌, ◌^◌, ◌≤ℤ◌, ℤ, ℕ, pos, ap, sym, ◌∙◌, arith, rules, drop, get_or, slice_index_or, FitsSigned, to_z-of_z, subst}
use Rattle.std.specs.Int.{w128}
use Rattle.xs_model.specs.Names.{places_of}
use Rattle.xs_model.specs.Sound.{cell_count}
use Rattle.xs_words.proofs.CellLemmas.{next_size, product_next, product_some, size_within, within}
use Rattle.xs_words.proofs.cells.cell_total.Goals as goal

pub times-count-requires-clause-size : goal.times-count-requires-clause-size
times-count-requires-clause-size c =
    let sizes = c.args.sizes.now in
    let l = c.loop-size in
    let i = l.size-index in
    let fits : FitsSigned w128 (slice_index_or sizes i (pos 0)) = search rules in
    let s = next_size sizes i c.loop-size-test.true l.invariant.sizes in
    subst (λ (z : ℤ). pos 1 ≤ℤ z) (sym (to_z-of_z fits)) s.one

pub times-count-requires-clause-small : goal.times-count-requires-clause-small
times-count-requires-clause-small c =
    let sizes = c.args.sizes.now in
    let l = c.loop-size in
    let i = l.size-index in
    let fits : FitsSigned w128 (slice_index_or sizes i (pos 0)) = search rules in
    let s = next_size sizes i c.loop-size-test.true l.invariant.sizes in
    let few = within l.count (places_of (get_or sizes i (pos 0))) (cell_count (drop (i + 1) sizes)) (cell_count (drop i sizes)) (cell_count sizes) s.some s.count l.invariant.rest in
    let small : places_of (get_or sizes i (pos 0)) < 2 ^ 64 = omega (arith, size_within l.count (places_of (get_or sizes i (pos 0))) (cell_count sizes) l.invariant.some few, c.requires.few) in
    subst (λ (z : ℤ). places_of z < 2 ^ 64) (sym (to_z-of_z fits)) small

pub times-count-requires-clause-few : goal.times-count-requires-clause-few
times-count-requires-clause-few c =
    let sizes = c.args.sizes.now in
    let l = c.loop-size in
    let i = l.size-index in
    let fits : FitsSigned w128 (slice_index_or sizes i (pos 0)) = search rules in
    let s = next_size sizes i c.loop-size-test.true l.invariant.sizes in
    let few = within l.count (places_of (get_or sizes i (pos 0))) (cell_count (drop (i + 1) sizes)) (cell_count (drop i sizes)) (cell_count sizes) s.some s.count l.invariant.rest in
    let small : l.count * places_of (get_or sizes i (pos 0)) < 2 ^ 64 = omega (arith, few, c.requires.few) in
    subst (λ (z : ℤ). l.count * places_of z < 2 ^ 64) (sym (to_z-of_z fits)) small

pub loop-size-preserved : goal.loop-size-preserved
loop-size-preserved c =
    let sizes = c.args.sizes.now in
    let l = c.loop-size in
    let i = l.size-index in
    let n = get_or sizes i (pos 0) in
    let fits : FitsSigned w128 (slice_index_or sizes i (pos 0)) = search rules in
    let s = next_size sizes i c.loop-size-test.true l.invariant.sizes in
    let is : c.times-count.result ≡ l.count * places_of n = c.times-count.ensures ∙ ap (λ (z : ℤ). l.count * places_of z) (to_z-of_z fits) in
    record {
      some = subst (λ (m : ℕ). 1 ≤ m) (sym is) (product_some l.count (places_of n) l.invariant.some s.places);
      sizes = s.more;
      rest = ap (λ (m : ℕ). m * cell_count (drop (i + 1) sizes)) is ∙ product_next l.count (places_of n) (cell_count (drop (i + 1) sizes)) (cell_count (drop i sizes)) (cell_count sizes) s.count l.invariant.rest;
    }
