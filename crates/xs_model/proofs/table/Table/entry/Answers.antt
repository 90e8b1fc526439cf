use Rattle.std.proofs.Common.{sym, subst, slice_get, Some, map, ◌≡◌}
use Rattle.xs_model.proofs.TableLemmas.{value_at}
use Rattle.xs_model.proofs.table.Table.entry.Goals as goal

pub returns : goal.returns
returns c = subst (λ rows. slice_get (map (λ row. row.1) rows) c.args.at ≡ Some c.in-Some.entry.now) c.self.view_is (value_at (λ k. k.items) c.self.inside.entries.entries c.args.at (c.in-Some.field-0-0.now, c.in-Some.entry.now) (sym c.in-Some.ensures.entry))
