use Rattle.std.proofs.Common.{None, sym, ap, ◌∙◌}
use Rattle.fz_items.specs.Items.{access_meets, objective}
use Rattle.fz_items.proofs.goal.solve_meets.Goals as goal

pub returns-in-Satisfy : goal.returns-in-Satisfy
returns-in-Satisfy c =
    c.no_access_meets.ensures c.args.progress.now.names
    ∙ (ap (λ ns. access_meets c.args.progress.now.names ns None) c.as_slice-notes.ensures ∙ ap (λ g. access_meets c.args.progress.now.names c.args.solve.now.notes (objective g)) (sym c.in-Satisfy.is))
