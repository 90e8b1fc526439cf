use Rattle.std.proofs.Common.{◌∙◌, sym, ap, subst, slice_get, Some, map, ◌≡◌}
use Rattle.std.specs.Prelude.{IfSome}
use Rattle.xs_model.proofs.TableLemmas.{found_at, only_at, names_are}
use Rattle.xs_model.proofs.table.Table.position.Goals as goal

pub returns-clause-found : goal.returns-clause-found
returns-clause-found c =
    let es = c.self.inside.entries.entries in
    let names = sym (names_are (λ k. k.items) es) ∙ ap (map (λ row. row.0)) c.self.view_is in
    subst (λ ns. IfSome c.get_index_of.result (λ at. slice_get ns at ≡ Some c.args.name.now)) names (found_at (λ k. k.items) (map (λ e. e.0) es) c.args.name.now c.get_index_of.result c.get_index_of.ensures.index)

pub returns-clause-only : goal.returns-clause-only
returns-clause-only c = λ at h.
    let es = c.self.inside.entries.entries in
    let names = sym (names_are (λ k. k.items) es) ∙ ap (map (λ row. row.0)) c.self.view_is in
    only_at (λ k. k.items) (map (λ e. e.0) es) c.args.name.now c.get_index_of.result c.get_index_of.ensures.index c.get_index_of.ensures.unique at (subst (λ ns. slice_get ns at ≡ Some c.args.name.now) (sym names) h)
