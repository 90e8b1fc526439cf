use Rattle.std.proofs.Common.{◌≡◌, ◌∙◌, [], ◌∷◌, ◌++◌, None, ap, sym, map, subst}
use Rattle.fz_values.specs.Names.{look_up}
use Rattle.fz_values.proofs.NameLemmas.{inserted, row}
use Rattle.fz_values.proofs.names.Names.declare.Goals as goal

pub returns-clause-ok : goal.returns-clause-ok
returns-clause-ok c =
    ap (map (row (λ k. k.items))) c.in_ok-insert.ensures.entries
    ∙ (inserted (λ k. k.items) c.self.inside.entries.entries c.args.name c.args.meaning (subst (λ es. look_up es c.args.name.items ≡ None) (sym c.self.view_is) c.requires)
    ∙ ap (λ es. es ++ (c.args.name.items, c.args.meaning) ∷ []) c.self.view_is)
