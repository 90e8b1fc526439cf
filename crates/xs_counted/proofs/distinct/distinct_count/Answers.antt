use Rattle.std.proofs.Common.{◌≡◌, ◌∙◌, ap, sym, subst, List, ℤ}
use Rattle.std.specs.List.Sorted.{IsPermutation}
use Rattle.xs_forms.specs.Room.{Room}
use Rattle.xs_laws.specs.Ascending.{new_places}
use Rattle.xs_laws.proofs.Ascending.{sorted_distinct}
use Rattle.xs_model.specs.Instance.{values}
use Rattle.xs_counted.proofs.distinct.distinct_count.Goals as goal

pub returns-clause-value : goal.returns-clause-value
returns-clause-value c =
    let xs = values c.args.a.now c.args.list.now in
    let ys = c.sort.new.self.values in
    let put : c.put_values.new.scratch.values ≡ xs = ap (λ (r : Room). r.values) c.put_values.ensures in
    let permuted : IsPermutation xs ys = subst (λ (zs : List ℤ). IsPermutation zs ys) put c.sort.ensures.permutation in
    c.new_places-count.ensures ∙ ap (λ (zs : List ℤ). new_places c.args.except.now zs) c.values.ensures
    ∙ sym (sorted_distinct c.args.except.now xs ys (record { permutation = permuted; sorted = c.sort.ensures.sorted }))
