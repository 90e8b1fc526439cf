use Rattle.std.proofs.Common.{◌≡◌, ◌∙◌, ap, List, ℤ}
use Rattle.xs_forms.specs.Room.{Room}
use Rattle.xs_model.specs.Counting.{places_among}
use Rattle.xs_model.specs.Instance.{term_values, values}
use Rattle.xs_counted.proofs.CountLemmas.{among_permuted}
use Rattle.xs_counted.proofs.count.count.Goals as goal

pub returns-clause-value : goal.returns-clause-value
returns-clause-value c =
    let xs = values c.args.a.now c.args.list.now in
    let put : c.put_terms.new.scratch.values ≡ term_values c.args.a.now c.args.terms.now = ap (λ (r : Room). r.values) c.put_terms.ensures in
    c.count_among-count.ensures ∙ ap (λ (ys : List ℤ). places_among ys xs) c.values.ensures
    ∙ among_permuted c.put_terms.new.scratch.values c.sort.new.self.values xs c.sort.ensures.permutation
    ∙ ap (λ (ys : List ℤ). places_among ys xs) put
