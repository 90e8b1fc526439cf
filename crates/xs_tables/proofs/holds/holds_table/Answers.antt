use Rattle.std.proofs.Common.{◌≡◌, ◌↔◌, Bool, true, sym, subst}
use Rattle.xs_model.specs.Instance.{values}
use Rattle.xs_model.specs.Language.{IsInTable}
use Rattle.xs_tables.proofs.HoldLemmas.{table_holds}
use Rattle.xs_tables.proofs.holds.holds_table.Goals as goal

pub returns : goal.returns
returns c =
    subst (λ (v : Bool). (v ≡ true) ↔ IsInTable c.args.positive c.args.tuples.now (values c.args.a.now c.args.list.now)) (sym c.is_asked.ensures)
    (table_holds c.args.list.now c.args.tuples.now c.args.positive c.args.a.now c.some_matched-some.result c.requires.long c.some_matched-some.ensures)
