use Rattle.std.proofs.Common.{rules, ◌≡◌, ◌∙◌, [], ◌∷◌, ◌++◌, None, ap, sym, map, subst}
use Rattle.indexmap.specs.IndexMap.{insert_entry}
use Rattle.lo_emit.specs.Literals.{find}
use Rattle.lo_literals.specs.contracts.table.KeyPartialEq.TheImpl.{ghosts}
use Rattle.lo_literals.specs.declared.table.Key.{Key}
use Rattle.lo_literals.proofs.TableLemmas.{inserted, literal, assoc, same}
use Rattle.lo_literals.proofs.table.Literals.push.Goals as goal

says : (x y : Key) → ghosts.eq x y ≡ same x y
says x y = search (assoc, rules)

pub returns-clause-ok : goal.returns-clause-ok
returns-clause-ok c =
    ap (map literal) c.in_ok-insert.ensures.entries
    ∙ (ap (λ (k : Key). map literal (insert_entry ghosts.eq c.self.inside.truths.entries k c.args.truth)) c.key_of.ensures
    ∙ (inserted ghosts.eq says c.self.inside.truths.entries c.args.cell c.args.truth (subst (λ es. find es c.args.cell ≡ None) (sym c.self.view_is) c.requires)
    ∙ ap (λ es. es ++ record { cell = c.args.cell; truth = c.args.truth } ∷ []) c.self.view_is))
