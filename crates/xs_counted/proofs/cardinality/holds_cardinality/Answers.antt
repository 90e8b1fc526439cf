use Rattle.std.proofs.Common.{◌≡◌, ◌∙◌, ap, sym, subst, not, ◌&&◌, ◌||◌, Bool, List, ℤ}
use Rattle.std.specs.List.Sorted.{IsPermutation}
use Rattle.xs_forms.specs.Room.{Room}
use Rattle.xs_model.specs.Instance.{values}
use Rattle.xs_counted.specs.Tests.{are_said, is_full}
use Rattle.xs_counted.proofs.CountLemmas.{cardinality_of_sorted}
use Rattle.xs_counted.proofs.cardinality.holds_cardinality.Goals as goal

pub returns-clause-value : goal.returns-clause-value
returns-clause-value c =
    let a = c.args.a.now in
    let xs = values a c.args.list.now in
    let ys = c.sort.new.self.values in
    let put : c.put_values.new.scratch.values ≡ xs = ap (λ (r : Room). r.values) c.put_values.ensures in
    let permuted : IsPermutation xs ys = subst (λ (zs : List ℤ). IsPermutation zs ys) put c.sort.ensures.permutation in
    let test : List ℤ → Bool = λ zs. are_said a c.args.due.now c.args.occurs.now zs && (not c.args.closed || is_full c.args.due.now zs) in
    let is : c.is_kept-kept.result ≡ test ys = c.is_kept-kept.ensures ∙ ap test c.values.ensures in
    let law = cardinality_of_sorted a c.args.closed c.args.due.now c.args.occurs.now xs ys c.requires.different permuted in
    (λ h. law.0 (sym is ∙ h), λ h. is ∙ law.1 h)
