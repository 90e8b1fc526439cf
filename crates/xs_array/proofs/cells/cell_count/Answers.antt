use Rattle.std.proofs.Common.{◌≡◌, ◌+◌, ◌≤◌, ◌*◌, ℤ, ℕ, pos, ap, sym, ◌∙◌, rules, drop, get_or, slice_index_or, FitsSigned, to_z-of_z, subst}
use Rattle.std.specs.Int.{w128}
use Rattle.xs_model.specs.Names.{places_of}
use Rattle.xs_model.specs.Sound.{cell_count, most_cells}
use Rattle.xs_array.proofs.CountLemmas.{next_size, product_next, product_some, too_many}
use Rattle.xs_array.proofs.cells.cell_count.Goals as goal

pub returns-in-None : goal.returns-in-None
returns-in-None c = λ few.
    let sizes = c.args.sizes.now in
    let l = c.loop-size in
    let i = l.size-index in
    let n = get_or sizes i (pos 0) in
    let fits : FitsSigned w128 (slice_index_or sizes i (pos 0)) = search rules in
    let s = next_size sizes i c.loop-size-test.true l.invariant.positive in
    let within : l.count * places_of n ≤ most_cells = too_many l.count (places_of n) (cell_count (drop (i + 1) sizes)) (cell_count (drop i sizes)) (cell_count sizes) most_cells s.some s.count l.invariant.rest few in
    c.in-None.ensures (subst (λ (z : ℤ). l.count * places_of z ≤ most_cells) (sym (to_z-of_z fits)) within)

pub loop-size-preserved : goal.loop-size-preserved
loop-size-preserved c =
    let sizes = c.args.sizes.now in
    let l = c.loop-size in
    let i = l.size-index in
    let n = get_or sizes i (pos 0) in
    let fits : FitsSigned w128 (slice_index_or sizes i (pos 0)) = search rules in
    let s = next_size sizes i c.loop-size-test.true l.invariant.positive in
    let is : c.in-Some.next ≡ l.count * places_of n = c.in-Some.ensures.1 ∙ ap (λ (z : ℤ). l.count * places_of z) (to_z-of_z fits) in
    record {
      some = subst (λ (m : ℕ). 1 ≤ m) (sym is) (product_some l.count (places_of n) l.invariant.some s.places);
      few = subst (λ (m : ℕ). m ≤ most_cells) (sym c.in-Some.ensures.1) c.in-Some.ensures.0;
      positive = s.more;
      rest = ap (λ (m : ℕ). m * cell_count (drop (i + 1) sizes)) is ∙ product_next l.count (places_of n) (cell_count (drop (i + 1) sizes)) (cell_count (drop i sizes)) (cell_count sizes) s.count l.invariant.rest;
    }
