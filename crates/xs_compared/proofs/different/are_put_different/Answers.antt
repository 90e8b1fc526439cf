use Rattle.std.proofs.Common.{◌≡◌, ◌∙◌, ap, List, ℤ}
use Rattle.xs_laws.specs.Ascending.{IsSortedCopy}
use Rattle.xs_compared.specs.Tests.{all_next, is_apart}
use Rattle.xs_compared.proofs.TestLemmas.{sorted_test}
use Rattle.xs_compared.proofs.different.are_put_different.Goals as goal

pub returns-clause-value : goal.returns-clause-value
returns-clause-value c =
    let except = c.args.except.now in
    let copy : IsSortedCopy c.args.scratch.now.values c.sort.new.self.values = record { permutation = c.sort.ensures.permutation; sorted = c.sort.ensures.sorted } in
    c.are_apart-apart.ensures ∙ ap (λ (ys : List ℤ). all_next (is_apart except) ys) c.values.ensures ∙ sorted_test except c.args.scratch.now.values c.sort.new.self.values copy
