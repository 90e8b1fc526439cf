use Rattle.std.proofs.Common.{◌≡◌, None, sym, subst}
use Rattle.std.specs.Prelude.{IfOk}
use Rattle.fz_items.specs.Conditions.{first_missed, in_order}
use Rattle.fz_items.specs.Items.{item_meets, item_behind}
use Rattle.fz_items.proofs.ItemLemmas.{same_missed, same_behind}
use Rattle.fz_items.proofs.items.read_item.Goals as goal

pub returns-in-Constraint-clause-missed : goal.returns-in-Constraint-clause-missed
returns-in-Constraint-clause-missed c =
    subst (λ x. IfOk c.read_call.result (λ m. m ≡ first_missed in_order (item_meets c.args.bound c.args.progress.now x))) (sym c.in-Constraint.is)
    (same_missed c.args.progress.now c.read_call.result _ _ _ _ _ _ c.as_slice-in-Constraint.ensures c.as_slice-exprs.ensures c.as_slice-in-Constraint-2.ensures c.read_call.ensures.missed)

pub returns-in-Constraint-clause-behind : goal.returns-in-Constraint-clause-behind
returns-in-Constraint-clause-behind c =
    subst (λ x. IfOk c.read_call.result (λ m. m ≡ None → c.read_call.new.progress ≡ item_behind c.args.bound c.args.progress.now x c.args.place)) (sym c.in-Constraint.is)
    (same_behind c.args.progress.now c.read_call.new.progress c.read_call.result _ _ _ _ c.args.place c.as_slice-in-Constraint.ensures c.as_slice-exprs.ensures c.read_call.ensures.behind)
