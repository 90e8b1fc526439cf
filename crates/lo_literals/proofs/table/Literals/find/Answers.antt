use Rattle.std.proofs.Common.{rules, ◌≡◌, ◌∙◌, ap}
use Rattle.std.specs.Map.{lookup}
use Rattle.lo_emit.specs.Literals.{find}
use Rattle.lo_literals.specs.contracts.table.KeyPartialEq.TheImpl.{ghosts}
use Rattle.lo_literals.specs.declared.table.Key.{Key}
use Rattle.lo_literals.proofs.TableLemmas.{found, assoc, same}
use Rattle.lo_literals.proofs.table.Literals.find.Goals as goal

says : (x y : Key) → ghosts.eq x y ≡ same x y
says x y = search (assoc, rules)

pub returns : goal.returns
returns c =
    c.copied.ensures ∙ (c.get.ensures.value
    ∙ (ap (λ (k : Key). lookup (ghosts.eq k) c.self.inside.truths.entries) c.key_of.ensures
    ∙ (found ghosts.eq says c.self.inside.truths.entries c.args.cell ∙ ap (λ es. find es c.args.cell) c.self.view_is)))
