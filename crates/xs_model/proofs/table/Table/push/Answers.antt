use Rattle.std.proofs.Common.{◌∙◌, ap, subst, slice_get, Some, map, ◌≡◌, ◌++◌, ◌∷◌, [], ℕ}
use Rattle.xs_model.proofs.TableLemmas.{inserted, row}
use Rattle.xs_model.proofs.table.Table.push.Goals as goal

pub returns-clause-ok : goal.returns-clause-ok
returns-clause-ok c =
    let es = c.self.inside.entries.entries in
    let new = λ (at : ℕ) (h : slice_get (map (λ r. r.0) (map (row (λ k. k.items)) es)) at ≡ Some c.args.name.items). c.requires at (subst (λ rows. slice_get (map (λ r. r.0) rows) at ≡ Some c.args.name.items) c.self.view_is h) in
    ap (map (row (λ k. k.items))) c.in_ok-insert.ensures.entries ∙ (inserted (λ k. k.items) es c.args.name c.args.entry new ∙ ap (λ rows. rows ++ (c.args.name.items, c.args.entry) ∷ []) c.self.view_is)
